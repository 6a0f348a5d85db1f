-- What is known of a statement has the trees of the statement, in any scope.
use Rattle.std.proofs.Common.{◌≡◌, ℕ, ◌+◌, List, [], ◌∷◌, map, sum, sum_by, sym, ap, ◌∙◌, refl, subst, arith}
use Rattle.std.proofs.lemmas.List.Sums.{sum_by-cons}
use Rattle.kat_ast.specs.declared.stm.Stm.{Stm}
use Rattle.kat_ast.specs.declared.stm.CaseArm.{CaseArm}
use Rattle.kat_ast.specs.declared.stm.MatchArm.{MatchArm}
use Rattle.kat_ast.specs.declared.stm.Stm.TheOpen.{Stm-F, Ret, Let, Seq, If, Case, Match, Read, Write, Load, Store, Call, Check, Fail, Open, Close, Lemma}
use Rattle.kat_ast.specs.declared.stm.Stm.TheShapes.{former-Stm-Case-1-at-2 as case_arm, former-Stm-Match-1-at-3 as match_arm}
use Rattle.kat_ast.specs.declared.stm.Stm.TheFolds.{map-Stm, fold-roll-Stm, ind-Stm}
use Rattle.kat_ast.specs.Expressions.{trees_of_expr}
use Rattle.kat_ast.specs.Statements.{stm_trees, trees_of_stm, trees_of_case_arm, trees_of_match_arm}
use Rattle.kat_syntax.specs.Around.{Around}
use Rattle.kat_syntax.specs.TypesWritten.{Scope}
use Rattle.kat_syntax.specs.TypingStatements.{InScope, stm_known, known_of_stm}

module _ (around : Around) (scope : Scope) where
  abbrev HasTrees : Stm → Type 0
  HasTrees s = (scope : Scope) → (known_of_stm around s scope).trees ≡ trees_of_stm s

  abbrev Counted : Type 0
  Counted = (s : Stm) × HasTrees s

  abbrev here : InScope → ℕ
  here part = (part scope).trees

  parts_counted : (parts : List Counted) →
      map here (map (known_of_stm around) (map (λ s. s.0) parts)) ≡ map trees_of_stm
      (map (λ s. s.0) parts)
  parts_counted [] = refl
  parts_counted (part ∷ parts) = let one = part.1 scope in let more = parts_counted parts in cc

  abbrev case_arms : List (CaseArm Counted) → List (CaseArm Stm)
  case_arms arms = map (case_arm.map Counted Stm (λ s. s.0)) arms

  case_arms_counted : (arms : List (CaseArm Counted)) →
      sum_by trees_of_case_arm
      (map (case_arm.map InScope ℕ here)
      (map (case_arm.map Stm InScope (known_of_stm around)) (case_arms arms)))
      ≡ sum_by trees_of_case_arm (map (case_arm.map Stm ℕ trees_of_stm) (case_arms arms))
  case_arms_counted [] = refl
  case_arms_counted (arm ∷ arms) =
      omega (
        arith,
        sum_by-cons trees_of_case_arm
            (case_arm.map InScope ℕ here
            (case_arm.map Stm InScope (known_of_stm around)
            (case_arm.map Counted Stm (λ s. s.0) arm)))
            (map (case_arm.map InScope ℕ here)
            (map (case_arm.map Stm InScope (known_of_stm around)) (case_arms arms))),
        sum_by-cons trees_of_case_arm
            (case_arm.map Stm ℕ trees_of_stm (case_arm.map Counted Stm (λ s. s.0) arm))
            (map (case_arm.map Stm ℕ trees_of_stm) (case_arms arms)),
        arm.body.1 scope,
        case_arms_counted arms,
      )

  abbrev match_arms : List (MatchArm Counted) → List (MatchArm Stm)
  match_arms arms = map (match_arm.map Counted Stm (λ s. s.0)) arms

  match_arms_counted : (arms : List (MatchArm Counted)) →
      sum_by trees_of_match_arm
      (map (match_arm.map InScope ℕ here)
      (map (match_arm.map Stm InScope (known_of_stm around)) (match_arms arms)))
      ≡ sum_by trees_of_match_arm (map (match_arm.map Stm ℕ trees_of_stm) (match_arms arms))
  match_arms_counted [] = refl
  match_arms_counted (arm ∷ arms) =
      omega (
        arith,
        sum_by-cons trees_of_match_arm
            (match_arm.map InScope ℕ here
            (match_arm.map Stm InScope (known_of_stm around)
            (match_arm.map Counted Stm (λ s. s.0) arm)))
            (map (match_arm.map InScope ℕ here)
            (map (match_arm.map Stm InScope (known_of_stm around)) (match_arms arms))),
        sum_by-cons trees_of_match_arm
            (match_arm.map Stm ℕ trees_of_stm (match_arm.map Counted Stm (λ s. s.0) arm))
            (map (match_arm.map Stm ℕ trees_of_stm) (match_arms arms)),
        arm.body.1 scope,
        match_arms_counted arms,
      )

  layer_counted : (y : Stm-F Counted) →
      stm_trees
      (map-Stm InScope ℕ here
      (map-Stm Stm InScope (known_of_stm around) (map-Stm Counted Stm (λ s. s.0) y)))
      ≡ stm_trees (map-Stm Stm ℕ trees_of_stm (map-Stm Counted Stm (λ s. s.0) y))
  layer_counted (Ret e) = refl
  layer_counted (Let x first then_) =
      ap (λ n. 3 + n + (known_of_stm around then_.0 scope).trees) (first.1 scope)
      ∙ ap (λ n. 3 + trees_of_stm first.0 + n) (then_.1 scope)
  layer_counted (Seq parts) = ap (λ ns. 2 + sum ns) (parts_counted parts)
  layer_counted (If test then_ otherwise) =
      ap (λ n. 2 + trees_of_expr test + n + (known_of_stm around otherwise.0 scope).trees)
      (then_.1 scope)
      ∙ ap (λ n. 2 + trees_of_expr test + trees_of_stm then_.0 + n) (otherwise.1 scope)
  layer_counted (Case e arms) = ap (λ n. 2 + trees_of_expr e + n) (case_arms_counted arms)
  layer_counted (Match e arms) = ap (λ n. 2 + trees_of_expr e + n) (match_arms_counted arms)
  layer_counted (Read r) = refl
  layer_counted (Write r e) = refl
  layer_counted (Load index) = refl
  layer_counted (Store index e) = refl
  layer_counted (Call f args) = refl
  layer_counted (Check e) = refl
  layer_counted Fail = refl
  layer_counted (Open p inputs) = refl
  layer_counted (Close p inputs) = refl
  layer_counted (Lemma l args) = refl

pub stm_trees_known : (around : Around) (s : Stm) (scope : Scope) →
    (known_of_stm around s scope).trees ≡ trees_of_stm s
stm_trees_known around =
    ind-Stm (λ s. (scope : Scope) → (known_of_stm around s scope).trees ≡ trees_of_stm s)
    (λ x y is scope.
    ap (λ (k : InScope). (k scope).trees) (fold-roll-Stm InScope (stm_known around) x)
    ∙ subst (λ z. stm_trees
    (map-Stm InScope ℕ (λ part. (part scope).trees) (map-Stm Stm InScope (known_of_stm around) z))
    ≡ stm_trees (map-Stm Stm ℕ trees_of_stm z)) is (layer_counted around scope y)
    ∙ sym (fold-roll-Stm ℕ stm_trees x))
