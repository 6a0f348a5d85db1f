use Rattle.std.proofs.Common.{[], ◌∷◌, ap, ◌∙◌}
use Rattle.std.specs.Prelude.{codes}
use Rattle.kat_tree.specs.declared.tree.Tree.TheVariants as variant
use Rattle.kat_shapes.specs.declared.sort.Sort.TheVariants as sort
use Rattle.kat_ast.specs.Parts.{word}
use Rattle.kat_forms.proofs.declarations.phase_in.Goals as goal

pub part_of-requires : goal.part_of-requires
part_of-requires c = c.form_laws.ensures.list_holder sort.Phase (codes "block") sort.Name c.args.tree.now _ c.small_lists.ensures.one_block c.in-List.is c.requires

pub name_in-requires : goal.name_in-requires
name_in-requires c = (c.form_laws.ensures.held_part sort.Phase (codes "block") sort.Name c.small_lists.ensures.one_block c.part_of.ensures.0 c.args.tree.now c.part_of.result.now c.part_of.ensures.1 c.requires).1

pub returns-in_ok-name_in-in-List : goal.returns-in_ok-name_in-in-List
returns-in_ok-name_in-in-List c =
    let held = c.form_laws.ensures.held_part sort.Phase (codes "block") sort.Name c.small_lists.ensures.one_block c.part_of.ensures.0 c.args.tree.now c.part_of.result.now c.part_of.ensures.1 c.requires in
    let name = c.in_ok-name_in-in-List in
    (ap (λ t. variant.List (word (codes "block") ∷ t ∷ [])) name.ensures.0 ∙ held.0, name.ensures.1)
