-- The parts of each form fit, and each part has fewer trees than the whole.
use Rattle.std.proofs.Common.{◌≡◌, ◌-◌, [], ◌∷◌, length, refl, ap, sym, subst, ◌∙◌, arith}
use Rattle.std.specs.Prelude.{codes, replicate}
use Rattle.kat_tree.specs.Preorder.{count_of}
use Rattle.kat_tree.specs.declared.tree.Tree.TheVariants as variant
use Rattle.kat_ast.specs.Assertions.{is_formed_assertion, tree_of_assertion}
use Rattle.kat_shapes.specs.declared.sort.Sort.TheVariants as sort
use Rattle.kat_ast.specs.Parts.{form}
use Rattle.kat_ast.specs.declared.assertion.Assertion.TheVariants as made
use Rattle.kat_grammar.specs.Forms.{IsAssertion}
use Rattle.kat_grammar.specs.Parts.{FitsSort, HasParts}
use Rattle.kat_stms.proofs.Forms.{arm_is, one_more, Exists-is}
use Rattle.kat_stms.proofs.assertions.+assertions.Goals as goal

pub assertion_in-split-requires : goal.assertion_in-split-requires
assertion_in-split-requires t c = c.form_laws.ensures.headed sort.Assertion c.as_slice.result.now refl (subst (FitsSort sort.Assertion) (c.in-List.is ∙ ap variant.List (sym c.as_slice.ensures)) c.requires)

pub assertion_in-pure_in-requires : goal.assertion_in-pure_in-requires
assertion_in-pure_in-requires t c = c.form_laws.ensures.exact_parts sort.Assertion (codes "pure") (sort.Expression ∷ []) _ refl (c.form_laws.ensures.arm_fits sort.Assertion (codes "pure") _ _ _ c.split.ensures c.in-pure.is (subst (FitsSort sort.Assertion) (c.in-List.is ∙ ap variant.List (sym c.as_slice.ensures)) c.requires))

pub assertion_in-register_in-requires : goal.assertion_in-register_in-requires
assertion_in-register_in-requires t c = c.form_laws.ensures.exact_parts sort.Assertion (codes "reg") (sort.Name ∷ sort.Expression ∷ []) _ refl (c.form_laws.ensures.arm_fits sort.Assertion (codes "reg") _ _ _ c.split.ensures c.in-reg.is (subst (FitsSort sort.Assertion) (c.in-List.is ∙ ap variant.List (sym c.as_slice.ensures)) c.requires))

pub assertion_in-cell_in-requires : goal.assertion_in-cell_in-requires
assertion_in-cell_in-requires t c = c.form_laws.ensures.exact_parts sort.Assertion (codes "cell") (sort.Expression ∷ sort.Expression ∷ []) _ refl (c.form_laws.ensures.arm_fits sort.Assertion (codes "cell") _ _ _ c.split.ensures c.in-cell.is (subst (FitsSort sort.Assertion) (c.in-List.is ∙ ap variant.List (sym c.as_slice.ensures)) c.requires))

pub assertion_in-predicate_in-requires : goal.assertion_in-predicate_in-requires
assertion_in-predicate_in-requires t c = c.form_laws.ensures.many_parts sort.Assertion (codes "pred") (sort.Name ∷ []) sort.Expression _ refl (c.form_laws.ensures.arm_fits sort.Assertion (codes "pred") _ _ _ c.split.ensures c.in-pred.is (subst (FitsSort sort.Assertion) (c.in-List.is ∙ ap variant.List (sym c.as_slice.ensures)) c.requires))

pub assertion_in-region_in-requires : goal.assertion_in-region_in-requires
assertion_in-region_in-requires t c = c.form_laws.ensures.many_parts sort.Assertion (codes "region") (sort.Name ∷ []) sort.Expression _ refl (c.form_laws.ensures.arm_fits sort.Assertion (codes "region") _ _ _ c.split.ensures c.in-region.is (subst (FitsSort sort.Assertion) (c.in-List.is ∙ ap variant.List (sym c.as_slice.ensures)) c.requires))

pub assertions_in-assertion_in-requires : goal.assertions_in-assertion_in-requires
assertions_in-assertion_in-requires t c =
    let trees = c.args.trees.now in (
      omega (arith, c.decreases, c.form_laws.ensures.part_among trees c.loop-tree.tree-index c.tree-item.result (omega arith) c.tree-item.is),
      c.form_laws.ensures.each_fits sort.Assertion trees c.loop-tree.tree-index c.tree-item.result c.requires (omega arith) c.tree-item.is,
    )

pub assertions_in-loop-tree-preserved : goal.assertions_in-loop-tree-preserved
assertions_in-loop-tree-preserved t c =
    one_more c.form_laws.ensures tree_of_assertion is_formed_assertion c.args.trees.now c.loop-tree.all _ c.loop-tree.tree-index c.in_ok-assertion_in.field-0 c.tree-item.result
    c.in_ok-push.ensures.ok c.loop-tree.invariant (omega arith) c.tree-item.is c.in_ok-assertion_in.ensures.0 c.in_ok-assertion_in.ensures.1

pub star_in-assertions_in-requires : goal.star_in-assertions_in-requires
star_in-assertions_in-requires t c =
    let parts = c.args.parts.now in
    (omega (arith, c.decreases), c.form_laws.ensures.all_same sort.Assertion (length parts) parts c.requires.fit)

pub assertion_in-star_in-requires : goal.assertion_in-star_in-requires
assertion_in-star_in-requires t c =
    let is = c.in-List.is ∙ ap variant.List (sym c.as_slice.ensures) in
    let parts = c.split.result.1.now in
    let all : length parts - 0 ≡ length parts = omega arith in (
      omega (arith, c.decreases, ap count_of is, c.form_laws.ensures.count_list c.as_slice.result.now, c.form_laws.ensures.behind_fewer _ _ _ c.split.ensures),
      subst (λ n. HasParts (replicate n sort.Assertion) parts) all
          (c.form_laws.ensures.many_parts sort.Assertion (codes "star") [] sort.Assertion parts refl (c.form_laws.ensures.arm_fits sort.Assertion (codes "star") _ _ _ c.split.ensures c.in-star.is (subst (FitsSort sort.Assertion) is c.requires))),
    )

pub assertion_in-if_in-requires : goal.assertion_in-if_in-requires
assertion_in-if_in-requires t c =
    let is = c.in-List.is ∙ ap variant.List (sym c.as_slice.ensures) in (
      omega (arith, c.decreases, ap count_of is, c.form_laws.ensures.count_list c.as_slice.result.now, c.form_laws.ensures.behind_fewer _ _ _ c.split.ensures),
      c.form_laws.ensures.exact_parts sort.Assertion (codes "if") (sort.Expression ∷ sort.Assertion ∷ sort.Assertion ∷ []) _ refl (c.form_laws.ensures.arm_fits sort.Assertion (codes "if") _ _ _ c.split.ensures c.in-if.is (subst (FitsSort sort.Assertion) is c.requires)),
    )

pub assertion_in-exists_in-requires : goal.assertion_in-exists_in-requires
assertion_in-exists_in-requires t c =
    let is = c.in-List.is ∙ ap variant.List (sym c.as_slice.ensures) in (
      omega (arith, c.decreases, ap count_of is, c.form_laws.ensures.count_list c.as_slice.result.now, c.form_laws.ensures.behind_fewer _ _ _ c.split.ensures),
      c.form_laws.ensures.exact_parts sort.Assertion (codes "exists") (sort.Param ∷ sort.Assertion ∷ []) _ refl (c.form_laws.ensures.arm_fits sort.Assertion (codes "exists") _ _ _ c.split.ensures c.in-exists.is (subst (FitsSort sort.Assertion) is c.requires)),
    )

pub exists_in-returns : goal.exists_in-returns
exists_in-returns t c =
    let parts = c.args.parts.now in
    let bound = c.in_ok-name.field-0 in
    subst (λ b. IsAssertion (form (codes "exists") parts) (made.Exists bound.name bound.ty b)) (sym c.in_ok-body.ensures)
    (Exists-is parts bound.name bound.ty c.in_ok-assertion_in.field-0
    (c.form_laws.ensures.two_are parts c.bound-item.result c.body-item.result _ _ c.requires.count c.bound-item.is c.body-item.is c.in_ok-name.ensures.0 c.in_ok-assertion_in.ensures.0)
    c.in_ok-name.ensures.1 c.in_ok-assertion_in.ensures.1)

pub assertion_in-returns-in-pure : goal.assertion_in-returns-in-pure
assertion_in-returns-in-pure t c = arm_is IsAssertion _ _ _ _ _ (codes "pure") _ c.in-List.is c.as_slice.ensures c.split.ensures c.in-pure.is c.pure_in.ensures

pub assertion_in-returns-in-reg : goal.assertion_in-returns-in-reg
assertion_in-returns-in-reg t c = arm_is IsAssertion _ _ _ _ _ (codes "reg") _ c.in-List.is c.as_slice.ensures c.split.ensures c.in-reg.is c.register_in.ensures

pub assertion_in-returns-in-cell : goal.assertion_in-returns-in-cell
assertion_in-returns-in-cell t c = arm_is IsAssertion _ _ _ _ _ (codes "cell") _ c.in-List.is c.as_slice.ensures c.split.ensures c.in-cell.is c.cell_in.ensures

pub assertion_in-returns-in-star : goal.assertion_in-returns-in-star
assertion_in-returns-in-star t c = arm_is IsAssertion _ _ _ _ _ (codes "star") _ c.in-List.is c.as_slice.ensures c.split.ensures c.in-star.is c.star_in.ensures

pub assertion_in-returns-in-if : goal.assertion_in-returns-in-if
assertion_in-returns-in-if t c = arm_is IsAssertion _ _ _ _ _ (codes "if") _ c.in-List.is c.as_slice.ensures c.split.ensures c.in-if.is c.if_in.ensures

pub assertion_in-returns-in-exists : goal.assertion_in-returns-in-exists
assertion_in-returns-in-exists t c = arm_is IsAssertion _ _ _ _ _ (codes "exists") _ c.in-List.is c.as_slice.ensures c.split.ensures c.in-exists.is c.exists_in.ensures

pub assertion_in-returns-in-pred : goal.assertion_in-returns-in-pred
assertion_in-returns-in-pred t c = arm_is IsAssertion _ _ _ _ _ (codes "pred") _ c.in-List.is c.as_slice.ensures c.split.ensures c.in-pred.is c.predicate_in.ensures

pub assertion_in-returns-in-region : goal.assertion_in-returns-in-region
assertion_in-returns-in-region t c = arm_is IsAssertion _ _ _ _ _ (codes "region") _ c.in-List.is c.as_slice.ensures c.split.ensures c.in-region.is c.region_in.ensures
