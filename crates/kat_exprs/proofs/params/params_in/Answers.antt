use Rattle.std.proofs.Common.{◌-◌, [], length, refl, ap, sym, subst, ◌∙◌}
use Rattle.kat_tree.specs.declared.tree.Tree.TheVariants as variant
use Rattle.kat_shapes.specs.declared.sort.Sort.TheVariants as sort
use Rattle.kat_grammar.specs.Parts.{FitsSort}
use Rattle.kat_exprs.proofs.params.params_in.Goals as goal

pub params_of-requires : goal.params_of-requires
params_of-requires c =
    let parts = c.as_slice.result.now in
    let fit = subst (FitsSort sort.Params) (c.in-List.is ∙ ap variant.List (sym c.as_slice.ensures)) c.requires in
    let has = c.form_laws.ensures.many_place sort.Params ([]) sort.Param parts (λ found. refl) fit in
    c.form_laws.ensures.rest_fits [] sort.Param (length parts - 0) parts has
