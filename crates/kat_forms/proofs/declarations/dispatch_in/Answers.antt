use Rattle.std.proofs.Common.{◌-◌, ◌++◌, [], ◌∷◌, length, ap, ◌∙◌, arith}
use Rattle.std.specs.Prelude.{codes, take}
use Rattle.kat_tree.specs.declared.tree.Tree.TheVariants as variant
use Rattle.kat_ast.specs.Parts.{word, form}
use Rattle.kat_ast.specs.Declarations.{tree_of_phase}
use Rattle.kat_shapes.specs.declared.sort.Sort.TheVariants as sort
use Rattle.kat_forms.proofs.Forms.{Dispatch-is}
use Rattle.kat_forms.proofs.declarations.dispatch_in.Goals as goal

pub whens_in-requires : goal.whens_in-requires
whens_in-requires c = c.form_laws.ensures.before_fits sort.When sort.Else (length c.args.parts.now - 1) c.args.parts.now c.requires

pub part_of-requires : goal.part_of-requires
part_of-requires c = c.form_laws.ensures.holder sort.Else (codes "else") sort.Phase c.otherwise-item.result c.small_lists.ensures.one_else c.small_lists.ensures.no_else (c.form_laws.ensures.last_fits sort.When sort.Else (length c.args.parts.now - 1) c.args.parts.now c.otherwise-item.result c.requires c.otherwise-item.is)

pub phase_in-requires : goal.phase_in-requires
phase_in-requires c = (c.form_laws.ensures.held_part sort.Else (codes "else") sort.Phase c.small_lists.ensures.one_else c.part_of.ensures.0 c.otherwise-item.result c.part_of.result.now c.part_of.ensures.1 (c.form_laws.ensures.last_fits sort.When sort.Else (length c.args.parts.now - 1) c.args.parts.now c.otherwise-item.result c.requires c.otherwise-item.is)).1

pub returns : goal.returns
returns c =
    let parts = c.args.parts.now in
    let otherwise = c.form_laws.ensures.held_part sort.Else (codes "else") sort.Phase c.small_lists.ensures.one_else c.part_of.ensures.0 c.otherwise-item.result c.part_of.result.now c.part_of.ensures.1 (c.form_laws.ensures.last_fits sort.When sort.Else (length c.args.parts.now - 1) c.args.parts.now c.otherwise-item.result c.requires c.otherwise-item.is) in
    Dispatch-is parts c.in_ok-whens_in.field-0 c.in_ok-phase_in.field-0
    (ap (λ ts. ts ++ form (codes "else") (tree_of_phase c.in_ok-phase_in.field-0 ∷ []) ∷ []) c.in_ok-whens_in.ensures.0
    ∙ ap (λ t. take (length parts - 1) parts ++ t ∷ []) (ap (λ t. variant.List (word (codes "else") ∷ t ∷ [])) c.in_ok-phase_in.ensures.0 ∙ otherwise.0)
    ∙ c.form_laws.ensures.with_last parts (length parts - 1) c.otherwise-item.result (omega (arith, c.in-len1-up.len_at_least)) c.otherwise-item.is)
    c.in_ok-whens_in.ensures.1 c.in_ok-phase_in.ensures.1
