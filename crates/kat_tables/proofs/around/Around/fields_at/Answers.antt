use Rattle.std.proofs.Common.{Some, None, slice_get, sym, ap, ◌∙◌}
use Rattle.std.specs.Prelude.{unwrap_or}
use Rattle.std.specs.Option.{option_copied}
use Rattle.kat_syntax.specs.Declares.{type_heads, typed_params}
use Rattle.kat_syntax.specs.DeclaredTypes.{head_numbers}
use Rattle.kat_tables.specs.Forms.{fields_of}
use Rattle.kat_tables.proofs.TypedForms.{fields_by_form}
use Rattle.kat_tables.proofs.around.Around.fields_at.Goals as goal

pub returns-in-Some : goal.returns-in-Some
returns-in-Some c =
    let all = c.args.self.now.decls in
    let same = ap (λ a. a.decls) c.self.view_is in
    let k = c.unwrap_or-decl.result in
    c.one.ensures
    ∙ ap (typed_params c.self.inside.tables.now k) c.fields_of.ensures
    ∙ ap (λ ds. typed_params ds k (fields_of c.in-Some.form.now)) same
    ∙ fields_by_form all c.args.of k (Some c.in-Some.form.now)
    (c.unwrap_or-decl.ensures
    ∙ ap (λ o. unwrap_or o 0) (c.number_at.ensures
    ∙ ap (λ ns. slice_get ns c.args.of) (c.tables.invariant.heads_are.counted
    ∙ ap (λ ds. head_numbers (type_heads ds)) (c.tables.view_is ∙ same))))
    (sym (ap option_copied c.in-Some.is) ∙ c.type_form.ensures)

pub returns-in-None : goal.returns-in-None
returns-in-None c =
    let all = c.args.self.now.decls in
    let same = ap (λ a. a.decls) c.self.view_is in
    let k = c.unwrap_or-decl.result in
    c.one-in-None.ensures
    ∙ fields_by_form all c.args.of k None
    (c.unwrap_or-decl.ensures
    ∙ ap (λ o. unwrap_or o 0) (c.number_at.ensures
    ∙ ap (λ ns. slice_get ns c.args.of) (c.tables.invariant.heads_are.counted
    ∙ ap (λ ds. head_numbers (type_heads ds)) (c.tables.view_is ∙ same))))
    (sym (ap option_copied c.in-None.is) ∙ c.type_form.ensures)
