use Rattle.std.proofs.Common.{Some, None, sym, ap, ◌∙◌}
use Rattle.std.specs.Option.{option_copied}
use Rattle.kat_syntax.specs.Around.{is_member_of}
use Rattle.kat_tables.specs.Forms.{members_of}
use Rattle.kat_tables.proofs.TypedForms.{names_are, members_by_form}
use Rattle.kat_tables.proofs.around.Around.members_at.Goals as goal

pub returns-in-Some : goal.returns-in-Some
returns-in-Some c =
    let all = c.args.self.now.decls in
    c.members_of.ensures
    ∙ names_are all is_member_of members_of (members_by_form all) c.args.of
    (Some c.in-Some.form.now) (sym (ap option_copied c.in-Some.is) ∙ c.type_form.ensures)

pub returns-in-None : goal.returns-in-None
returns-in-None c =
    let all = c.args.self.now.decls in
    names_are all is_member_of members_of (members_by_form all) c.args.of
    None (sym (ap option_copied c.in-None.is) ∙ c.type_form.ensures)
