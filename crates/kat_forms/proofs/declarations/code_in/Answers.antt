use Rattle.std.proofs.Common.{◌-◌, length, sym, subst}
use Rattle.std.specs.List.{AllByRecursion}
use Rattle.kat_shapes.specs.declared.sort.Sort.TheVariants as sort
use Rattle.kat_grammar.specs.Parts.{FitsSort}
use Rattle.kat_forms.proofs.declarations.code_in.Goals as goal

pub numbers_in-requires : goal.numbers_in-requires
numbers_in-requires c =
    let parts = c.args.parts.now in
    subst (AllByRecursion (FitsSort sort.Number)) (sym (c.form_laws.ensures.rest_is parts 1)) (c.form_laws.ensures.behind_first sort.Number (length parts - 2) parts c.requires)
