use Rattle.std.proofs.Common.{◌-◌, [], ◌∷◌, length, sym, subst}
use Rattle.std.specs.List.{AllByRecursion}
use Rattle.kat_shapes.specs.declared.sort.Sort.TheVariants as sort
use Rattle.kat_grammar.specs.Parts.{FitsSort}
use Rattle.kat_exprs.proofs.expressions.name_and_exprs.Goals as goal

pub exprs_in-requires : goal.exprs_in-requires
exprs_in-requires c =
    let parts = c.args.parts.now in
    subst (AllByRecursion (FitsSort sort.Expression)) (sym (c.form_laws.ensures.rest_is parts 1)) (c.form_laws.ensures.rest_fits (sort.Name ∷ []) sort.Expression (length parts - 1) parts c.requires)
