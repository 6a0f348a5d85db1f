-- The parts of each form fit, and each part has fewer trees than the whole.
use Rattle.std.proofs.Common.{◌-◌, ◌&&◌, [], ◌∷◌, length, take, drop, refl, ap, sym, subst, ◌∙◌, arith}
use Rattle.std.specs.Prelude.{codes}
use Rattle.std.specs.List.{AllByRecursion}
use Rattle.std.proofs.lemmas.List.{length-replicate}
use Rattle.kat_tree.specs.Preorder.{count_of}
use Rattle.kat_tree.specs.declared.tree.Tree.TheVariants as variant
use Rattle.kat_ast.specs.Parts.{form, is_name}
use Rattle.kat_ast.specs.declared.stm.Stm.TheVariants as made
use Rattle.kat_ast.specs.Statements.{is_formed_stm, tree_of_stm}
use Rattle.kat_shapes.specs.declared.sort.Sort.TheVariants as sort
use Rattle.kat_grammar.specs.Parts.{FitsSort}
use Rattle.kat_grammar.specs.Forms.{IsStm, case_tree, case_formed, match_tree, match_formed}
use Rattle.kat_stms.proofs.Forms.{arm_is, one_more, both, Seq-is, Case-is, Match-is, Fail-is}
use Rattle.kat_stms.proofs.statements.+stm.Goals as goal

pub stm_in-split-requires : goal.stm_in-split-requires
stm_in-split-requires t c = c.form_laws.ensures.headed sort.Statement c.as_slice.result.now refl (subst (FitsSort sort.Statement) (c.in-List.is ∙ ap variant.List (sym c.as_slice.ensures)) c.requires)

pub stm_in-ret_in-requires : goal.stm_in-ret_in-requires
stm_in-ret_in-requires t c = c.form_laws.ensures.exact_parts sort.Statement (codes "ret") (sort.Expression ∷ []) _ refl (c.form_laws.ensures.arm_fits sort.Statement (codes "ret") _ _ _ c.split.ensures c.in-ret.is (subst (FitsSort sort.Statement) (c.in-List.is ∙ ap variant.List (sym c.as_slice.ensures)) c.requires))

pub stm_in-read_in-requires : goal.stm_in-read_in-requires
stm_in-read_in-requires t c = c.form_laws.ensures.exact_parts sort.Statement (codes "read") (sort.Name ∷ []) _ refl (c.form_laws.ensures.arm_fits sort.Statement (codes "read") _ _ _ c.split.ensures c.in-read.is (subst (FitsSort sort.Statement) (c.in-List.is ∙ ap variant.List (sym c.as_slice.ensures)) c.requires))

pub stm_in-write_in-requires : goal.stm_in-write_in-requires
stm_in-write_in-requires t c = c.form_laws.ensures.exact_parts sort.Statement (codes "write") (sort.Name ∷ sort.Expression ∷ []) _ refl (c.form_laws.ensures.arm_fits sort.Statement (codes "write") _ _ _ c.split.ensures c.in-write.is (subst (FitsSort sort.Statement) (c.in-List.is ∙ ap variant.List (sym c.as_slice.ensures)) c.requires))

pub stm_in-load_in-requires : goal.stm_in-load_in-requires
stm_in-load_in-requires t c = c.form_laws.ensures.exact_parts sort.Statement (codes "load") (sort.Expression ∷ []) _ refl (c.form_laws.ensures.arm_fits sort.Statement (codes "load") _ _ _ c.split.ensures c.in-load.is (subst (FitsSort sort.Statement) (c.in-List.is ∙ ap variant.List (sym c.as_slice.ensures)) c.requires))

pub stm_in-store_in-requires : goal.stm_in-store_in-requires
stm_in-store_in-requires t c = c.form_laws.ensures.exact_parts sort.Statement (codes "store") (sort.Expression ∷ sort.Expression ∷ []) _ refl (c.form_laws.ensures.arm_fits sort.Statement (codes "store") _ _ _ c.split.ensures c.in-store.is (subst (FitsSort sort.Statement) (c.in-List.is ∙ ap variant.List (sym c.as_slice.ensures)) c.requires))

pub stm_in-call_in-requires : goal.stm_in-call_in-requires
stm_in-call_in-requires t c = c.form_laws.ensures.many_parts sort.Statement (codes "call") (sort.Name ∷ []) sort.Expression _ refl (c.form_laws.ensures.arm_fits sort.Statement (codes "call") _ _ _ c.split.ensures c.in-call.is (subst (FitsSort sort.Statement) (c.in-List.is ∙ ap variant.List (sym c.as_slice.ensures)) c.requires))

pub stm_in-check_in-requires : goal.stm_in-check_in-requires
stm_in-check_in-requires t c = c.form_laws.ensures.exact_parts sort.Statement (codes "check") (sort.Expression ∷ []) _ refl (c.form_laws.ensures.arm_fits sort.Statement (codes "check") _ _ _ c.split.ensures c.in-check.is (subst (FitsSort sort.Statement) (c.in-List.is ∙ ap variant.List (sym c.as_slice.ensures)) c.requires))

pub stm_in-open_in-requires : goal.stm_in-open_in-requires
stm_in-open_in-requires t c = c.form_laws.ensures.many_parts sort.Statement (codes "open") (sort.Name ∷ []) sort.Expression _ refl (c.form_laws.ensures.arm_fits sort.Statement (codes "open") _ _ _ c.split.ensures c.in-open.is (subst (FitsSort sort.Statement) (c.in-List.is ∙ ap variant.List (sym c.as_slice.ensures)) c.requires))

pub stm_in-close_in-requires : goal.stm_in-close_in-requires
stm_in-close_in-requires t c = c.form_laws.ensures.many_parts sort.Statement (codes "close") (sort.Name ∷ []) sort.Expression _ refl (c.form_laws.ensures.arm_fits sort.Statement (codes "close") _ _ _ c.split.ensures c.in-close.is (subst (FitsSort sort.Statement) (c.in-List.is ∙ ap variant.List (sym c.as_slice.ensures)) c.requires))

pub stm_in-lemma_in-requires : goal.stm_in-lemma_in-requires
stm_in-lemma_in-requires t c = c.form_laws.ensures.many_parts sort.Statement (codes "lemma") (sort.Name ∷ []) sort.Expression _ refl (c.form_laws.ensures.arm_fits sort.Statement (codes "lemma") _ _ _ c.split.ensures c.in-lemma.is (subst (FitsSort sort.Statement) (c.in-List.is ∙ ap variant.List (sym c.as_slice.ensures)) c.requires))

pub stms_in-stm_in-requires : goal.stms_in-stm_in-requires
stms_in-stm_in-requires t c =
    let trees = c.args.trees.now in (
      omega (arith, c.decreases, c.form_laws.ensures.part_among trees c.loop-tree.tree-index c.tree-item.result (omega arith) c.tree-item.is),
      c.form_laws.ensures.each_fits sort.Statement trees c.loop-tree.tree-index c.tree-item.result c.requires (omega arith) c.tree-item.is,
    )

pub stms_in-loop-tree-preserved : goal.stms_in-loop-tree-preserved
stms_in-loop-tree-preserved t c =
    one_more c.form_laws.ensures tree_of_stm is_formed_stm c.args.trees.now c.loop-tree.stms _ c.loop-tree.tree-index c.in_ok-stm_in.field-0 c.tree-item.result
    c.in_ok-push.ensures.ok c.loop-tree.invariant (omega arith) c.tree-item.is c.in_ok-stm_in.ensures.0 c.in_ok-stm_in.ensures.1

pub seq_in-stms_in-requires : goal.seq_in-stms_in-requires
seq_in-stms_in-requires t c =
    let parts = c.args.parts.now in
    (omega (arith, c.decreases), c.form_laws.ensures.some_fit sort.Statement (length parts - 1) parts c.requires)

pub seq_in-returns : goal.seq_in-returns
seq_in-returns t c =
    let parts = c.args.parts.now in
    Seq-is parts c.in_ok-stms_in.field-0 c.in_ok-stms_in.ensures (length parts - 1) (omega (arith, c.requires.count, length-replicate (length parts - 1) sort.Statement))

pub case_in-case_arms_in-requires : goal.case_in-case_arms_in-requires
case_in-case_arms_in-requires t c =
    let parts = c.args.parts.now in (
      omega (arith, c.decreases, c.form_laws.ensures.rest_among parts 1),
      subst (AllByRecursion (FitsSort sort.CaseArm)) (sym (c.form_laws.ensures.rest_is parts 1)) (c.form_laws.ensures.rest_fits (sort.Expression ∷ []) sort.CaseArm (length parts - 1) parts c.requires),
    )

pub case_in-returns : goal.case_in-returns
case_in-returns t c =
    let parts = c.args.parts.now in
    let rest = take (length parts - 1) (drop 1 parts) in
    Case-is parts rest c.in_ok-expr_in.field-0 c.in_ok-case_arms_in.field-0
    (ap (λ u. u ∷ rest) c.in_ok-expr_in.ensures.0 ∙ sym (c.form_laws.ensures.one_and parts c.value-item.result (omega arith) c.value-item.is)) c.in_ok-expr_in.ensures.1 c.in_ok-case_arms_in.ensures

pub match_in-match_arms_in-requires : goal.match_in-match_arms_in-requires
match_in-match_arms_in-requires t c =
    let parts = c.args.parts.now in (
      omega (arith, c.decreases, c.form_laws.ensures.rest_among parts 1),
      subst (AllByRecursion (FitsSort sort.MatchArm)) (sym (c.form_laws.ensures.rest_is parts 1)) (c.form_laws.ensures.rest_fits (sort.Expression ∷ []) sort.MatchArm (length parts - 1) parts c.requires),
    )

pub match_in-returns : goal.match_in-returns
match_in-returns t c =
    let parts = c.args.parts.now in
    let rest = take (length parts - 1) (drop 1 parts) in
    Match-is parts rest c.in_ok-expr_in.field-0 c.in_ok-match_arms_in.field-0
    (ap (λ u. u ∷ rest) c.in_ok-expr_in.ensures.0 ∙ sym (c.form_laws.ensures.one_and parts c.value-item.result (omega arith) c.value-item.is)) c.in_ok-expr_in.ensures.1 c.in_ok-match_arms_in.ensures

pub case_arms_in-case_arm_in-requires : goal.case_arms_in-case_arm_in-requires
case_arms_in-case_arm_in-requires t c =
    let trees = c.args.trees.now in (
      omega (arith, c.decreases, c.form_laws.ensures.part_among trees c.loop-tree.tree-index c.tree-item.result (omega arith) c.tree-item.is),
      c.form_laws.ensures.each_fits sort.CaseArm trees c.loop-tree.tree-index c.tree-item.result c.requires (omega arith) c.tree-item.is,
    )

pub case_arms_in-loop-tree-preserved : goal.case_arms_in-loop-tree-preserved
case_arms_in-loop-tree-preserved t c =
    one_more c.form_laws.ensures case_tree case_formed c.args.trees.now c.loop-tree.arms _ c.loop-tree.tree-index c.in_ok-case_arm_in.field-0 c.tree-item.result
    c.in_ok-push.ensures.ok c.loop-tree.invariant (omega arith) c.tree-item.is c.in_ok-case_arm_in.ensures.0 c.in_ok-case_arm_in.ensures.1

pub match_arms_in-match_arm_in-requires : goal.match_arms_in-match_arm_in-requires
match_arms_in-match_arm_in-requires t c =
    let trees = c.args.trees.now in (
      omega (arith, c.decreases, c.form_laws.ensures.part_among trees c.loop-tree.tree-index c.tree-item.result (omega arith) c.tree-item.is),
      c.form_laws.ensures.each_fits sort.MatchArm trees c.loop-tree.tree-index c.tree-item.result c.requires (omega arith) c.tree-item.is,
    )

pub match_arms_in-loop-tree-preserved : goal.match_arms_in-loop-tree-preserved
match_arms_in-loop-tree-preserved t c =
    one_more c.form_laws.ensures match_tree match_formed c.args.trees.now c.loop-tree.arms _ c.loop-tree.tree-index c.in_ok-match_arm_in.field-0 c.tree-item.result
    c.in_ok-push.ensures.ok c.loop-tree.invariant (omega arith) c.tree-item.is c.in_ok-match_arm_in.ensures.0 c.in_ok-match_arm_in.ensures.1

pub case_arm_in-stm_in-requires : goal.case_arm_in-stm_in-requires
case_arm_in-stm_in-requires t c =
    let parts = c.as_slice.result.now in
    let is = c.in-List.is ∙ ap variant.List (sym c.as_slice.ensures) in
    let has = c.form_laws.ensures.exact_place sort.CaseArm (sort.Name ∷ sort.Statement ∷ []) parts (λ found. refl) (subst (FitsSort sort.CaseArm) is c.requires) in (
      omega (arith, c.decreases, ap count_of is, c.form_laws.ensures.count_list parts, c.form_laws.ensures.part_among parts 1 c.body-item.result (omega arith) c.body-item.is),
      c.form_laws.ensures.part_fits (sort.Name ∷ sort.Statement ∷ []) parts 1 c.body-item.result has (omega arith) c.body-item.is,
    )

pub case_arm_in-returns : goal.case_arm_in-returns
case_arm_in-returns t c =
    let parts = c.as_slice.result.now in
    let is = c.in-List.is ∙ ap variant.List (sym c.as_slice.ensures) in (
      ap variant.List (c.form_laws.ensures.two_are parts c.member-item.result c.body-item.result _ _ (omega arith) c.member-item.is c.body-item.is c.in_ok-name_in.ensures.0 c.in_ok-stm_in.ensures.0) ∙ sym is,
      both (is_name c.in_ok-name_in.field-0) (is_formed_stm c.in_ok-stm_in.field-0) c.in_ok-name_in.ensures.1 c.in_ok-stm_in.ensures.1,
    )

pub match_arm_in-stm_in-requires : goal.match_arm_in-stm_in-requires
match_arm_in-stm_in-requires t c =
    let parts = c.as_slice.result.now in
    let is = c.in-List.is ∙ ap variant.List (sym c.as_slice.ensures) in
    let has = c.form_laws.ensures.exact_place sort.MatchArm (sort.Name ∷ sort.Name ∷ sort.Statement ∷ []) parts (λ found. refl) (subst (FitsSort sort.MatchArm) is c.requires) in (
      omega (arith, c.decreases, ap count_of is, c.form_laws.ensures.count_list parts, c.form_laws.ensures.part_among parts 2 c.body-item.result (omega arith) c.body-item.is),
      c.form_laws.ensures.part_fits (sort.Name ∷ sort.Name ∷ sort.Statement ∷ []) parts 2 c.body-item.result has (omega arith) c.body-item.is,
    )

pub match_arm_in-returns : goal.match_arm_in-returns
match_arm_in-returns t c =
    let parts = c.as_slice.result.now in
    let is = c.in-List.is ∙ ap variant.List (sym c.as_slice.ensures) in (
      ap variant.List (c.form_laws.ensures.three_are parts c.ctor-item.result c.payload-item.result c.body-item.result _ _ _ (omega arith) c.ctor-item.is c.payload-item.is c.body-item.is
          c.in_ok-name_in.ensures.0 c.in_ok-name_in-2.ensures.0 c.in_ok-stm_in.ensures.0) ∙ sym is,
      both (is_name c.in_ok-name_in.field-0) (is_name c.in_ok-name_in-2.field-0 && is_formed_stm c.in_ok-stm_in.field-0) c.in_ok-name_in.ensures.1
          (both (is_name c.in_ok-name_in-2.field-0) (is_formed_stm c.in_ok-stm_in.field-0) c.in_ok-name_in-2.ensures.1 c.in_ok-stm_in.ensures.1),
    )

pub stm_in-let_in-requires : goal.stm_in-let_in-requires
stm_in-let_in-requires t c =
    let is = c.in-List.is ∙ ap variant.List (sym c.as_slice.ensures) in (
      omega (arith, c.decreases, ap count_of is, c.form_laws.ensures.count_list c.as_slice.result.now, c.form_laws.ensures.behind_fewer _ _ _ c.split.ensures),
      c.form_laws.ensures.exact_parts sort.Statement (codes "let") (sort.Name ∷ sort.Statement ∷ sort.Statement ∷ []) _ refl (c.form_laws.ensures.arm_fits sort.Statement (codes "let") _ _ _ c.split.ensures c.in-let.is (subst (FitsSort sort.Statement) is c.requires)),
    )

pub stm_in-seq_in-requires : goal.stm_in-seq_in-requires
stm_in-seq_in-requires t c =
    let is = c.in-List.is ∙ ap variant.List (sym c.as_slice.ensures) in (
      omega (arith, c.decreases, ap count_of is, c.form_laws.ensures.count_list c.as_slice.result.now, c.form_laws.ensures.behind_fewer _ _ _ c.split.ensures),
      c.form_laws.ensures.many_parts sort.Statement (codes "seq") (sort.Statement ∷ []) sort.Statement _ refl (c.form_laws.ensures.arm_fits sort.Statement (codes "seq") _ _ _ c.split.ensures c.in-seq.is (subst (FitsSort sort.Statement) is c.requires)),
    )

pub stm_in-if_in-requires : goal.stm_in-if_in-requires
stm_in-if_in-requires t c =
    let is = c.in-List.is ∙ ap variant.List (sym c.as_slice.ensures) in (
      omega (arith, c.decreases, ap count_of is, c.form_laws.ensures.count_list c.as_slice.result.now, c.form_laws.ensures.behind_fewer _ _ _ c.split.ensures),
      c.form_laws.ensures.exact_parts sort.Statement (codes "if") (sort.Expression ∷ sort.Statement ∷ sort.Statement ∷ []) _ refl (c.form_laws.ensures.arm_fits sort.Statement (codes "if") _ _ _ c.split.ensures c.in-if.is (subst (FitsSort sort.Statement) is c.requires)),
    )

pub stm_in-case_in-requires : goal.stm_in-case_in-requires
stm_in-case_in-requires t c =
    let is = c.in-List.is ∙ ap variant.List (sym c.as_slice.ensures) in (
      omega (arith, c.decreases, ap count_of is, c.form_laws.ensures.count_list c.as_slice.result.now, c.form_laws.ensures.behind_fewer _ _ _ c.split.ensures),
      c.form_laws.ensures.many_parts sort.Statement (codes "case") (sort.Expression ∷ []) sort.CaseArm _ refl (c.form_laws.ensures.arm_fits sort.Statement (codes "case") _ _ _ c.split.ensures c.in-case.is (subst (FitsSort sort.Statement) is c.requires)),
    )

pub stm_in-match_in-requires : goal.stm_in-match_in-requires
stm_in-match_in-requires t c =
    let is = c.in-List.is ∙ ap variant.List (sym c.as_slice.ensures) in (
      omega (arith, c.decreases, ap count_of is, c.form_laws.ensures.count_list c.as_slice.result.now, c.form_laws.ensures.behind_fewer _ _ _ c.split.ensures),
      c.form_laws.ensures.many_parts sort.Statement (codes "match") (sort.Expression ∷ []) sort.MatchArm _ refl (c.form_laws.ensures.arm_fits sort.Statement (codes "match") _ _ _ c.split.ensures c.in-match.is (subst (FitsSort sort.Statement) is c.requires)),
    )

pub stm_in-returns-in-fail : goal.stm_in-returns-in-fail
stm_in-returns-in-fail t c =
    let is = c.in-List.is ∙ ap variant.List (sym c.as_slice.ensures) in
    let behind = c.split.result.1.now in
    let has = c.form_laws.ensures.exact_parts sort.Statement (codes "fail") [] behind refl (c.form_laws.ensures.arm_fits sort.Statement (codes "fail") _ _ _ c.split.ensures c.in-fail.is (subst (FitsSort sort.Statement) is c.requires)) in
    subst (λ v. IsStm v made.Fail) (ap (λ w. form w behind) (sym c.in-fail.is) ∙ ap variant.List c.split.ensures ∙ sym is)
    (Fail-is behind (c.form_laws.ensures.no_parts behind has.count))

pub stm_in-returns-in-ret : goal.stm_in-returns-in-ret
stm_in-returns-in-ret t c = arm_is IsStm _ _ _ _ _ (codes "ret") _ c.in-List.is c.as_slice.ensures c.split.ensures c.in-ret.is c.ret_in.ensures

pub stm_in-returns-in-let : goal.stm_in-returns-in-let
stm_in-returns-in-let t c = arm_is IsStm _ _ _ _ _ (codes "let") _ c.in-List.is c.as_slice.ensures c.split.ensures c.in-let.is c.let_in.ensures

pub stm_in-returns-in-seq : goal.stm_in-returns-in-seq
stm_in-returns-in-seq t c = arm_is IsStm _ _ _ _ _ (codes "seq") _ c.in-List.is c.as_slice.ensures c.split.ensures c.in-seq.is c.seq_in.ensures

pub stm_in-returns-in-if : goal.stm_in-returns-in-if
stm_in-returns-in-if t c = arm_is IsStm _ _ _ _ _ (codes "if") _ c.in-List.is c.as_slice.ensures c.split.ensures c.in-if.is c.if_in.ensures

pub stm_in-returns-in-case : goal.stm_in-returns-in-case
stm_in-returns-in-case t c = arm_is IsStm _ _ _ _ _ (codes "case") _ c.in-List.is c.as_slice.ensures c.split.ensures c.in-case.is c.case_in.ensures

pub stm_in-returns-in-match : goal.stm_in-returns-in-match
stm_in-returns-in-match t c = arm_is IsStm _ _ _ _ _ (codes "match") _ c.in-List.is c.as_slice.ensures c.split.ensures c.in-match.is c.match_in.ensures

pub stm_in-returns-in-read : goal.stm_in-returns-in-read
stm_in-returns-in-read t c = arm_is IsStm _ _ _ _ _ (codes "read") _ c.in-List.is c.as_slice.ensures c.split.ensures c.in-read.is c.read_in.ensures

pub stm_in-returns-in-write : goal.stm_in-returns-in-write
stm_in-returns-in-write t c = arm_is IsStm _ _ _ _ _ (codes "write") _ c.in-List.is c.as_slice.ensures c.split.ensures c.in-write.is c.write_in.ensures

pub stm_in-returns-in-load : goal.stm_in-returns-in-load
stm_in-returns-in-load t c = arm_is IsStm _ _ _ _ _ (codes "load") _ c.in-List.is c.as_slice.ensures c.split.ensures c.in-load.is c.load_in.ensures

pub stm_in-returns-in-store : goal.stm_in-returns-in-store
stm_in-returns-in-store t c = arm_is IsStm _ _ _ _ _ (codes "store") _ c.in-List.is c.as_slice.ensures c.split.ensures c.in-store.is c.store_in.ensures

pub stm_in-returns-in-call : goal.stm_in-returns-in-call
stm_in-returns-in-call t c = arm_is IsStm _ _ _ _ _ (codes "call") _ c.in-List.is c.as_slice.ensures c.split.ensures c.in-call.is c.call_in.ensures

pub stm_in-returns-in-check : goal.stm_in-returns-in-check
stm_in-returns-in-check t c = arm_is IsStm _ _ _ _ _ (codes "check") _ c.in-List.is c.as_slice.ensures c.split.ensures c.in-check.is c.check_in.ensures

pub stm_in-returns-in-open : goal.stm_in-returns-in-open
stm_in-returns-in-open t c = arm_is IsStm _ _ _ _ _ (codes "open") _ c.in-List.is c.as_slice.ensures c.split.ensures c.in-open.is c.open_in.ensures

pub stm_in-returns-in-close : goal.stm_in-returns-in-close
stm_in-returns-in-close t c = arm_is IsStm _ _ _ _ _ (codes "close") _ c.in-List.is c.as_slice.ensures c.split.ensures c.in-close.is c.close_in.ensures

pub stm_in-returns-in-lemma : goal.stm_in-returns-in-lemma
stm_in-returns-in-lemma t c = arm_is IsStm _ _ _ _ _ (codes "lemma") _ c.in-List.is c.as_slice.ensures c.split.ensures c.in-lemma.is c.lemma_in.ensures
