-- The cases of the dispatch, one by one.
use Rattle.std.proofs.Common.{◌≡◌, ℕ, ◌+◌, ◌<◌, List, [], ◌∷◌, length, drop, get_or, sum_by, sym, ap, ◌∙◌, arith, Option}
use Rattle.std.proofs.lemmas.List.{drop_more}
use Rattle.std.proofs.lemmas.List.Sums.{sum_by-cons}
use Rattle.kat_ast.specs.declared.decl.Phase.{Phase}
use Rattle.kat_ast.specs.declared.decl.When.{When}
use Rattle.kat_ast.specs.Expressions.{trees_of_expr}
use Rattle.kat_ast.specs.Declarations.{trees_of_when, trees_of_phase}
use Rattle.kat_syntax.specs.TypeRules.{Fault, least_with}
use Rattle.kat_syntax.specs.Around.{Around}
use Rattle.kat_syntax.specs.TypingExpressions.{InDispatch}
use Rattle.kat_syntax.specs.TypingDeclarations.{truth_at, phase_faults, when_faults}
use Rattle.kat_typing.proofs.Judging.{noted_both}

-- what is counted and noted of cases while the rest of them is to come
pub record WhensSoFar (around : Around) (at : ℕ) (all rest : List When) (otherwise : Phase)
    (old now : Option Fault) : Type 0 where
  pub counted : at + sum_by trees_of_when rest ≡ 2 + sum_by trees_of_when all
  pub noted : least_with now (when_faults around at rest otherwise)
      ≡ least_with old (when_faults around 2 all otherwise)

-- what is left of a list, by its first
pub rest_is : {A : Type 0} (xs : List A) (i : ℕ) (x : A) → i < length xs → x ≡ get_or xs i x →
    drop i xs ≡ x ∷ drop (i + 1) xs
rest_is xs i x within is = drop_more xs i x within ∙ ap (λ y. y ∷ drop (i + 1) xs) (sym is)

pub one_case : (around : Around) (at : ℕ) (all : List When) (case : When) (rest : List When)
    (otherwise : Phase)
    (old now one two : Option Fault) (t p : ℕ) → WhensSoFar around at all
    (case ∷ rest) otherwise old now →
    t ≡ trees_of_expr case.test → p ≡ trees_of_phase case.phase →
    one ≡ least_with now (truth_at around InDispatch [] (at + 2) case.test) →
    two ≡ least_with one (phase_faults around (at + (2 + t)) case.phase) →
    WhensSoFar around (at + (2 + t) + p) all rest otherwise old two
one_case around at all case rest otherwise old now one two t p so tested passed first second =
    record {
      counted = omega (arith, so.counted, sum_by-cons trees_of_when case rest, tested, passed);
      noted =
          noted_both now one _ (truth_at around InDispatch [] (at + 2) case.test) _ first
          (noted_both one two _ (phase_faults around (at + 2 + trees_of_expr case.test) case.phase)
          (when_faults around (at + trees_of_when case) rest otherwise)
          (second ∙ ap (λ n. least_with one (phase_faults around n case.phase))
          (let e : at + (2 + t) ≡ at + 2 + trees_of_expr case.test = omega (arith, tested) in e))
          (ap (λ n. least_with two (when_faults around n rest otherwise))
          (let e : at + (2 + t) + p ≡ at + trees_of_when case = omega (arith, tested, passed) in
          e)))
          ∙ so.noted;
    }
