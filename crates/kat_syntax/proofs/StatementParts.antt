-- A statement does what its layer does of its parts, and has as many trees for its meaning as it
-- has.
use Rattle.std.specs.Prelude.{◌≡◌, ℕ, ◌+◌, [], ◌∷◌, List, map, sum, sum_by, refl}
use Rattle.std.proofs.Common.{ap, ◌∙◌, sym, subst, arith}
use Rattle.kat_ast.specs.declared.decl.DeclForm.{DeclForm}
use Rattle.kat_ast.specs.declared.stm.Stm.{Stm}
use Rattle.kat_ast.specs.declared.stm.CaseArm.{CaseArm}
use Rattle.kat_ast.specs.declared.stm.MatchArm.{MatchArm}
use Rattle.kat_ast.specs.declared.stm.Stm.TheShapes.{former-Stm-Case-1-at-2 as case_arm, former-Stm-Match-1-at-3 as match_arm}
use Rattle.kat_ast.specs.declared.stm.Stm.TheOpen.{Stm-F, Ret, Let, Seq, If, Case, Match}
use Rattle.kat_ast.specs.declared.stm.Stm.TheFolds.{map-Stm, fold-roll-Stm, fold_out-Stm, ind-Stm}
use Rattle.kat_ast.specs.Expressions.{trees_of_expr}
use Rattle.kat_ast.specs.Statements.{trees_of_case_arm, trees_of_match_arm, stm_trees, trees_of_stm}
use Rattle.kat_syntax.specs.Meaning.{Calls, Part, part_of, part_of_stm}
use Rattle.kat_syntax.specs.MeaningLaws.{StatementsByParts}

module _ (decls : List DeclForm) (calls : Calls) where
  abbrev HasCount : Stm → Type 0
  HasCount s = (part_of_stm decls calls s).trees ≡ trees_of_stm s

  parts_have_counts : (parts : List ((s : Stm) × HasCount s)) →
      map (λ (p : Part). p.trees) (map (part_of_stm decls calls) (map (λ e. e.0) parts))
      ≡ map trees_of_stm (map (λ e. e.0) parts)
  parts_have_counts [] = refl
  parts_have_counts (p ∷ ps) =
      ap (λ n. n ∷ map (λ (p : Part). p.trees) (map (part_of_stm decls calls) (map (λ e. e.0) ps)))
      p.1
      ∙ ap (λ ns. trees_of_stm p.0 ∷ ns) (parts_have_counts ps)

  case_arms_have_counts : (arms : List (CaseArm ((s : Stm) × HasCount s))) →
      map (case_arm.map Part ℕ (λ p. p.trees))
      (map (case_arm.map Stm Part (part_of_stm decls calls))
      (map (case_arm.map ((s : Stm) × HasCount s) Stm (λ e. e.0)) arms))
      ≡ map (case_arm.map Stm ℕ trees_of_stm)
      (map (case_arm.map ((s : Stm) × HasCount s) Stm (λ e. e.0)) arms)
  case_arms_have_counts [] = refl
  case_arms_have_counts (arm ∷ arms) =
      ap (λ n. record { member = arm.member; body = n }
      ∷ map (case_arm.map Part ℕ (λ p. p.trees))
      (map (case_arm.map Stm Part (part_of_stm decls calls))
      (map (case_arm.map ((s : Stm) × HasCount s) Stm (λ e. e.0)) arms))) arm.body.1
      ∙ ap (λ ns. record { member = arm.member; body = trees_of_stm arm.body.0 } ∷ ns)
      (case_arms_have_counts arms)

  match_arms_have_counts : (arms : List (MatchArm ((s : Stm) × HasCount s))) →
      map (match_arm.map Part ℕ (λ p. p.trees))
      (map (match_arm.map Stm Part (part_of_stm decls calls))
      (map (match_arm.map ((s : Stm) × HasCount s) Stm (λ e. e.0)) arms))
      ≡ map (match_arm.map Stm ℕ trees_of_stm)
      (map (match_arm.map ((s : Stm) × HasCount s) Stm (λ e. e.0)) arms)
  match_arms_have_counts [] = refl
  match_arms_have_counts (arm ∷ arms) =
      ap (λ n. record { ctor = arm.ctor; payload = arm.payload; body = n }
      ∷ map (match_arm.map Part ℕ (λ p. p.trees))
      (map (match_arm.map Stm Part (part_of_stm decls calls))
      (map (match_arm.map ((s : Stm) × HasCount s) Stm (λ e. e.0)) arms))) arm.body.1
      ∙ ap (λ ns. record {
        ctor = arm.ctor;
        payload = arm.payload;
        body = trees_of_stm arm.body.0;
      } ∷ ns) (match_arms_have_counts arms)

  layer_has_count : (y : Stm-F ((s : Stm) × HasCount s)) →
      (part_of decls calls
      (map-Stm Stm Part (part_of_stm decls calls)
      (map-Stm ((s : Stm) × HasCount s) Stm (λ e. e.0) y))).trees
      ≡ stm_trees (map-Stm Stm ℕ trees_of_stm (map-Stm ((s : Stm) × HasCount s) Stm (λ e. e.0) y))
  layer_has_count (Ret e) = refl
  layer_has_count (Let x a b) = omega (arith, a.1, b.1)
  layer_has_count (Seq parts) = ap (λ ns. 2 + sum ns) (parts_have_counts parts)
  layer_has_count (If e a b) = omega (arith, a.1, b.1)
  layer_has_count (Case e arms) = ap (λ ns. 2 + trees_of_expr e + sum_by trees_of_case_arm ns)
      (case_arms_have_counts arms)
  layer_has_count (Match e arms) = ap (λ ns. 2 + trees_of_expr e + sum_by trees_of_match_arm ns)
      (match_arms_have_counts arms)
  layer_has_count _ = refl

  -- the count of a part, by its layers
  trees_of_part : (s : Stm) → (part_of_stm decls calls s).trees ≡ trees_of_stm s
  trees_of_part = ind-Stm HasCount (λ x y is.
      ap (λ (p : Part). p.trees) (fold-roll-Stm Part (part_of decls calls) x)
      ∙ subst (λ z. (part_of decls calls (map-Stm Stm Part (part_of_stm decls calls) z)).trees
      ≡ stm_trees (map-Stm Stm ℕ trees_of_stm z)) is (layer_has_count y)
      ∙ sym (fold-roll-Stm ℕ stm_trees x))

pub statements_by_parts : StatementsByParts
statements_by_parts = record {
  layer = λ decls calls stm. fold_out-Stm Part (part_of decls calls) stm;
  count = trees_of_part;
}
