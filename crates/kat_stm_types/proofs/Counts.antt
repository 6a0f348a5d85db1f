-- How many trees statements with parts have, and how many are left in a loop over parts.
use Rattle.std.proofs.Common.{◌≡◌, ℕ, ◌+◌, List, [], ◌∷◌, ◌++◌, map, ap, ◌∙◌, arith, Option, length, drop, get_or, ◌<◌}
use Rattle.std.proofs.lemmas.List.Sums.{sum_by-cons}
use Rattle.kat_value.specs.declared.types.Ty.{Ty}
use Rattle.kat_ast.specs.declared.expr.Expr.{Expr}
use Rattle.kat_ast.specs.declared.stm.Stm.{Stm}
use Rattle.kat_ast.specs.declared.stm.CaseArm.{CaseArm}
use Rattle.kat_ast.specs.declared.stm.MatchArm.{MatchArm}
use Rattle.kat_ast.specs.declared.stm.Stm.TheShapes.{former-Stm-Case-1-at-2 as case_arm, former-Stm-Match-1-at-3 as match_arm}
use Rattle.kat_ast.specs.declared.stm.Stm.TheVariants as stm
use Rattle.kat_ast.specs.declared.stm.Stm.TheOpen.{Stm-F, Let, Seq, If, Case, Match}
use Rattle.kat_ast.specs.declared.stm.Stm.TheViews.{out-Stm, outs-Let, outs-Seq, outs-If, outs-Case, outs-Match}
use Rattle.kat_ast.specs.declared.stm.Stm.TheFolds.{map-Stm, fold_out-Stm}
use Rattle.kat_ast.specs.Expressions.{trees_of_expr}
use Rattle.kat_ast.specs.Statements.{trees_of_case_arm, trees_of_match_arm, stm_trees, trees_of_stm, trees_of_stms, trees_of_case_arms, trees_of_match_arms}
use Rattle.kat_syntax.specs.Tables.{Name}
use Rattle.kat_expr_types.specs.declared.setting.Known.{Known as KnownHere}
use Rattle.kat_stm_types.specs.declared.branches.Branches.{Branches}
use Rattle.kat_stm_types.specs.Branches.{IsBranches}
use Rattle.kat_stm_types.proofs.Noting.{sum-cons}
use Rattle.kat_stm_types.proofs.Bodies.{own_trees}
use Rattle.kat_stm_types.proofs.ArmsSeen.{drop_next}

trees_at : (s : Stm) (y : Stm-F Stm) → out-Stm s ≡ y →
    trees_of_stm s ≡ stm_trees (map-Stm Stm ℕ trees_of_stm y)
trees_at s y is = fold_out-Stm ℕ stm_trees s ∙ ap (λ z. stm_trees (map-Stm Stm ℕ trees_of_stm z)) is

pub trees-Let : (s : Stm) (x : Name) (a b : Stm) → s ≡ stm.Let x a b →
    trees_of_stm s ≡ 3 + trees_of_stm a + trees_of_stm b
trees-Let s x a b is = trees_at s (Let x a b) (ap out-Stm is ∙ outs-Let x a b)

pub trees-If : (s : Stm) (e : Expr) (a b : Stm) → s ≡ stm.If e a b →
    trees_of_stm s ≡ 2 + trees_of_expr e + trees_of_stm a + trees_of_stm b
trees-If s e a b is = trees_at s (If e a b) (ap out-Stm is ∙ outs-If e a b)

pub trees-Seq : (s : Stm) (parts : List Stm) → s ≡ stm.Seq parts →
    trees_of_stm s ≡ 2 + trees_of_stms parts
trees-Seq s parts is = trees_at s (Seq parts) (ap out-Stm is ∙ outs-Seq parts)

pub trees-Case : (s : Stm) (e : Expr) (arms : List (CaseArm Stm)) → s ≡ stm.Case e arms →
    trees_of_stm s ≡ 2 + trees_of_expr e + trees_of_case_arms arms
trees-Case s e arms is = trees_at s (Case e arms) (ap out-Stm is ∙ outs-Case e arms)

pub trees-Match : (s : Stm) (e : Expr) (arms : List (MatchArm Stm)) → s ≡ stm.Match e arms →
    trees_of_stm s ≡ 2 + trees_of_expr e + trees_of_match_arms arms
trees-Match s e arms is = trees_at s (Match e arms) (ap out-Stm is ∙ outs-Match e arms)

-- the trees that are left, with the item that a loop stands at
pub seq_left : (items : List Stm) (i : ℕ) (part : Stm) → i < length items →
    part ≡ get_or items i part →
    trees_of_stms (drop i items) ≡ trees_of_stm part + trees_of_stms (drop (i + 1) items)
seq_left items i part within is =
    ap trees_of_stms (drop_next items i part within is)
    ∙ sum-cons (trees_of_stm part) (map trees_of_stm (drop (i + 1) items))

pub case_left : (items : List (CaseArm Stm)) (i : ℕ) (arm : CaseArm Stm) → i < length items →
    arm ≡ get_or items i arm →
    trees_of_case_arms (drop i items) ≡ 2 + trees_of_stm arm.body + trees_of_case_arms
    (drop (i + 1) items)
case_left items i arm within is =
    ap trees_of_case_arms (drop_next items i arm within is)
    ∙ sum_by-cons trees_of_case_arm (case_arm.map Stm ℕ trees_of_stm arm)
    (map (case_arm.map Stm ℕ trees_of_stm) (drop (i + 1) items))

pub match_left : (items : List (MatchArm Stm)) (i : ℕ) (arm : MatchArm Stm) → i < length items →
    arm ≡ get_or items i arm →
    trees_of_match_arms (drop i items) ≡ 3 + trees_of_stm arm.body + trees_of_match_arms
    (drop (i + 1) items)
match_left items i arm within is =
    ap trees_of_match_arms (drop_next items i arm within is)
    ∙ sum_by-cons trees_of_match_arm (match_arm.map Stm ℕ trees_of_stm arm)
    (map (match_arm.map Stm ℕ trees_of_stm) (drop (i + 1) items))

module _ (none one : Branches) (first : KnownHere) (none_is : IsBranches [] 0 none)
    (first_with : (ts : List (Option Ty)) → IsBranches ts none.trees none →
    IsBranches (ts ++ first.ty ∷ []) (none.trees + 0 + first.trees) one) where
  -- one branch
  pub one_branch : IsBranches (first.ty ∷ []) one.trees one
  one_branch = own_trees (first.ty ∷ []) (none.trees + 0 + first.trees) one
      (first_with [] (own_trees [] 0 none none_is))

  pub one_counted : one.trees ≡ first.trees
  one_counted =
      let is : IsBranches (first.ty ∷ []) (none.trees + 0 + first.trees) one = first_with []
      (own_trees [] 0 none none_is) in
      omega (arith, is.counted, none_is.counted)

  -- two branches
  pub two_branches : (two : Branches) (second : KnownHere) →
      ((ts : List (Option Ty)) → IsBranches ts one.trees one →
      IsBranches (ts ++ second.ty ∷ []) (one.trees + 0 + second.trees) two) →
      IsBranches (first.ty ∷ second.ty ∷ []) (first.trees + second.trees) two
  two_branches two second second_with =
      let is : IsBranches (first.ty ∷ second.ty ∷ []) (one.trees + 0 + second.trees)
      two = second_with (first.ty ∷ []) one_branch in
      record {
        first = is.first;
        agrees = is.agrees;
        counted = omega
            (arith, is.counted, one_counted);
      }
