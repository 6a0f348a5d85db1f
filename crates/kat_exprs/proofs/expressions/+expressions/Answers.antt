-- The parts of each form fit, and each part has fewer trees than the whole.
use Rattle.std.proofs.Common.{◌-◌, [], ◌∷◌, length, refl, ap, sym, subst, ◌∙◌, arith}
use Rattle.std.specs.Prelude.{codes}
use Rattle.std.specs.List.{AllByRecursion}
use Rattle.kat_tree.specs.Preorder.{count_of}
use Rattle.kat_tree.specs.declared.tree.Tree.TheVariants as variant
use Rattle.kat_value.specs.Words.{arity_of}
use Rattle.kat_ast.specs.Expressions.{is_formed_expr, tree_of_expr}
use Rattle.kat_shapes.specs.declared.sort.Sort.TheVariants as sort
use Rattle.kat_grammar.specs.Parts.{FitsSort}
use Rattle.kat_exprs.proofs.Forms.{one_more, same_first, Rec-is}
use Rattle.kat_exprs.proofs.expressions.+expressions.Goals as goal

pub expr_in-list_in-requires : goal.expr_in-list_in-requires
expr_in-list_in-requires t c =
    let is = c.in-List.is ∙ ap variant.List (sym c.as_slice.ensures) in
    (omega (arith, c.decreases, ap count_of is, c.form_laws.ensures.count_list c.as_slice.result.now), subst (FitsSort sort.Expression) is c.requires)

pub exprs_in-expr_in-requires : goal.exprs_in-expr_in-requires
exprs_in-expr_in-requires t c =
    let trees = c.args.trees.now in (
      omega (arith, c.decreases, c.form_laws.ensures.part_among trees c.loop-tree.tree-index c.tree-item.result (omega arith) c.tree-item.is),
      c.form_laws.ensures.each_fits sort.Expression trees c.loop-tree.tree-index c.tree-item.result c.requires (omega arith) c.tree-item.is,
    )

pub exprs_in-loop-tree-preserved : goal.exprs_in-loop-tree-preserved
exprs_in-loop-tree-preserved t c =
    one_more c.form_laws.ensures tree_of_expr is_formed_expr c.args.trees.now c.loop-tree.exprs _ c.loop-tree.tree-index c.in_ok-expr_in.field-0 c.tree-item.result
    c.in_ok-push.ensures.ok c.loop-tree.invariant (omega arith) c.tree-item.is c.in_ok-expr_in.ensures.0 c.in_ok-expr_in.ensures.1

pub list_in-split-requires : goal.list_in-split-requires
list_in-split-requires t c = c.form_laws.ensures.headed sort.Expression c.args.parts.now refl c.requires

pub list_in-bits_in-requires : goal.list_in-bits_in-requires
list_in-bits_in-requires t c = c.form_laws.ensures.exact_parts sort.Expression (codes "bits") (sort.Number ∷ sort.Number ∷ []) _ refl (c.form_laws.ensures.arm_fits sort.Expression (codes "bits") _ _ _ c.split.ensures c.in-bits.is c.requires)

pub list_in-of_in-requires : goal.list_in-of_in-requires
list_in-of_in-requires t c = c.form_laws.ensures.exact_parts sort.Expression (codes "of") (sort.Name ∷ sort.Name ∷ []) _ refl (c.form_laws.ensures.arm_fits sort.Expression (codes "of") _ _ _ c.split.ensures c.in-of.is c.requires)

pub list_in-register_in-requires : goal.list_in-register_in-requires
list_in-register_in-requires t c = c.form_laws.ensures.exact_parts sort.Expression (codes "reg") (sort.Name ∷ []) _ refl (c.form_laws.ensures.arm_fits sort.Expression (codes "reg") _ _ _ c.split.ensures c.in-reg.is c.requires)

pub list_in-kept_in-requires : goal.list_in-kept_in-requires
list_in-kept_in-requires t c = c.form_laws.ensures.exact_parts sort.Expression (codes "kept") (sort.Name ∷ []) _ refl (c.form_laws.ensures.arm_fits sort.Expression (codes "kept") _ _ _ c.split.ensures c.in-kept.is c.requires)

pub list_in-kept_cell_in-requires : goal.list_in-kept_cell_in-requires
list_in-kept_cell_in-requires t c = c.form_laws.ensures.exact_parts sort.Expression (codes "kept_cell") (sort.Number ∷ []) _ refl (c.form_laws.ensures.arm_fits sort.Expression (codes "kept_cell") _ _ _ c.split.ensures c.in-kept_cell.is c.requires)

pub list_in-before_in-requires : goal.list_in-before_in-requires
list_in-before_in-requires t c = c.form_laws.ensures.exact_parts sort.Expression (codes "before") (sort.Name ∷ []) _ refl (c.form_laws.ensures.arm_fits sort.Expression (codes "before") _ _ _ c.split.ensures c.in-before.is c.requires)

pub list_in-after_in-requires : goal.list_in-after_in-requires
list_in-after_in-requires t c = c.form_laws.ensures.exact_parts sort.Expression (codes "after") (sort.Name ∷ []) _ refl (c.form_laws.ensures.arm_fits sort.Expression (codes "after") _ _ _ c.split.ensures c.in-after.is c.requires)

pub list_in-before_cell_in-requires : goal.list_in-before_cell_in-requires
list_in-before_cell_in-requires t c = c.form_laws.ensures.exact_parts sort.Expression (codes "before_cell") (sort.Number ∷ []) _ refl (c.form_laws.ensures.arm_fits sort.Expression (codes "before_cell") _ _ _ c.split.ensures c.in-before_cell.is c.requires)

pub list_in-after_cell_in-requires : goal.list_in-after_cell_in-requires
list_in-after_cell_in-requires t c = c.form_laws.ensures.exact_parts sort.Expression (codes "after_cell") (sort.Number ∷ []) _ refl (c.form_laws.ensures.arm_fits sort.Expression (codes "after_cell") _ _ _ c.split.ensures c.in-after_cell.is c.requires)

pub list_in-rec_in-requires : goal.list_in-rec_in-requires
list_in-rec_in-requires t c = (
  omega (arith, c.decreases, c.form_laws.ensures.behind_fewer _ _ _ c.split.ensures),
  c.form_laws.ensures.many_parts sort.Expression (codes "rec") (sort.Name ∷ []) sort.Expression _ refl (c.form_laws.ensures.arm_fits sort.Expression (codes "rec") _ _ _ c.split.ensures c.in-rec.is c.requires),
)

pub list_in-operation_in-requires : goal.list_in-operation_in-requires
list_in-operation_in-requires t c = (omega (arith, c.decreases, c.form_laws.ensures.behind_fewer _ _ _ c.split.ensures), c.plain_op.ensures.plain)

pub operation_in-exprs_in-requires : goal.operation_in-exprs_in-requires
operation_in-exprs_in-requires t c = (
  omega (arith, c.decreases),
  c.form_laws.ensures.all_same sort.Expression (arity_of c.args.op) c.args.parts.now c.requires.args.fit,
)

pub operation_in-returns : goal.operation_in-returns
operation_in-returns t c = c.form_laws.ensures.plain_is c.args.op c.args.parts.now c.in_ok-args.args c.requires c.in_ok-args.ensures

pub rec_in-exprs_in-requires : goal.rec_in-exprs_in-requires
rec_in-exprs_in-requires t c =
    let parts = c.args.parts.now in (
      omega (arith, c.decreases, c.form_laws.ensures.rest_among parts 1),
      subst (AllByRecursion (FitsSort sort.Expression)) (sym (c.form_laws.ensures.rest_is parts 1)) (c.form_laws.ensures.rest_fits (sort.Name ∷ []) sort.Expression (length parts - 1) parts c.requires),
    )

pub rec_in-returns : goal.rec_in-returns
rec_in-returns t c =
    let parts = c.args.parts.now in
    Rec-is parts c.in_ok-of.of c.in_ok-fields.fields (same_first c.in_ok-of.ensures.0 c.in_ok-fields.ensures.0 ∙ sym (c.form_laws.ensures.one_and parts c.of-item.result (omega arith) c.of-item.is))
    c.in_ok-of.ensures.1 c.in_ok-fields.ensures.1
