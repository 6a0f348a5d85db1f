use Rattle.std.proofs.Common.{sym, ap, ◌∙◌}
use Rattle.std.specs.Prelude.{option_and_then}
use Rattle.std.specs.Option.{option_copied}
use Rattle.kat_names.specs.Names.{position_of}
use Rattle.kat_ast.specs.Spec.{Spec}
use Rattle.kat_syntax.specs.NamedItems.{found}
use Rattle.kat_syntax.specs.NamedValues.{names_at}
use Rattle.kat_syntax.specs.RunTables.{parts_declared}
use Rattle.kat_syntax.specs.TypeTable.{types_of_decls}
use Rattle.kat_syntax.proofs.TableSteps.{part_found}
use Rattle.kat_syntax.proofs.checked.Checked.part.Goals as goal

pub returns-in-Some : goal.returns-in-Some
returns-in-Some c =
    let x = c.args.name.now in
    c.find.ensures
    ∙ ap (option_and_then (λ table. found table x))
    (sym (ap option_copied c.in-Some.is) ∙ c.get.ensures.value)
    ∙ part_found (types_of_decls c.self.inside.spec.decls) c.self.inside.tables.types.parts
    c.args.of x c.self.invariant.found.types.parts
    ∙ ap (λ (s : Spec). position_of (names_at parts_declared (types_of_decls s.decls) c.args.of) x)
    c.self.view_is

pub returns-in-None : goal.returns-in-None
returns-in-None c =
    let x = c.args.name.now in
    ap (option_and_then (λ table. found table x))
    (sym (ap option_copied c.in-None.is) ∙ c.get.ensures.value)
    ∙ part_found (types_of_decls c.self.inside.spec.decls) c.self.inside.tables.types.parts
    c.args.of x c.self.invariant.found.types.parts
    ∙ ap (λ (s : Spec). position_of (names_at parts_declared (types_of_decls s.decls) c.args.of) x)
    c.self.view_is
