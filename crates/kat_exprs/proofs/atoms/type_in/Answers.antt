use Rattle.std.proofs.Common.{[], ◌∷◌, refl, ap, ◌∙◌}
use Rattle.std.specs.Prelude.{codes}
use Rattle.kat_tree.specs.declared.tree.Tree.TheVariants as variant
use Rattle.kat_shapes.specs.declared.sort.Sort.TheVariants as sort
use Rattle.kat_ast.specs.Parts.{word}
use Rattle.kat_exprs.proofs.atoms.type_in.Goals as goal

pub part_of-requires : goal.part_of-requires
part_of-requires c = c.form_laws.ensures.list_holder sort.TypeName (codes "bits") sort.Number c.args.tree.now _ c.small_lists.ensures.one_bits c.in-List.is c.requires

pub number_in-requires : goal.number_in-requires
number_in-requires c = (c.form_laws.ensures.held_part sort.TypeName (codes "bits") sort.Number c.small_lists.ensures.one_bits c.part_of.ensures.0 c.args.tree.now c.part_of.result.now c.part_of.ensures.1 c.requires).1

pub returns-in-List : goal.returns-in-List
returns-in-List c =
    let held = c.form_laws.ensures.held_part sort.TypeName (codes "bits") sort.Number c.small_lists.ensures.one_bits c.part_of.ensures.0 c.args.tree.now c.part_of.result.now c.part_of.ensures.1 c.requires in
    (ap (λ t. variant.List (word (codes "bits") ∷ t ∷ [])) c.number_in.ensures ∙ held.0, refl)
