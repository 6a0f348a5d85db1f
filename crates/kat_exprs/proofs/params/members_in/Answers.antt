use Rattle.std.proofs.Common.{◌-◌, [], ◌∷◌, length, refl, ap, sym, subst, ◌∙◌}
use Rattle.kat_tree.specs.declared.tree.Tree.TheVariants as variant
use Rattle.kat_shapes.specs.declared.sort.Sort.TheVariants as sort
use Rattle.kat_grammar.specs.Parts.{FitsSort}
use Rattle.kat_exprs.proofs.params.members_in.Goals as goal

pub names_of-requires : goal.names_of-requires
names_of-requires c =
    let parts = c.as_slice.result.now in
    let fit = subst (FitsSort sort.Members) (c.in-List.is ∙ ap variant.List (sym c.as_slice.ensures)) c.requires in
    let has = c.form_laws.ensures.many_place sort.Members (sort.Name ∷ []) sort.Name parts (λ found. refl) fit in
    c.form_laws.ensures.some_fit sort.Name (length parts - 1) parts has
