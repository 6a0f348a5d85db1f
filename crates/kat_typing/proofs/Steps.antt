-- The steps of a lemma, one by one.
use Rattle.std.proofs.Common.{◌≡◌, ℕ, ◌+◌, List, ◌∷◌, Bool, sum_by, ap, ◌∙◌, arith, Option}
use Rattle.std.proofs.lemmas.List.Sums.{sum_by-cons}
use Rattle.kat_ast.specs.declared.stm.Stm.{Stm}
use Rattle.kat_ast.specs.Statements.{trees_of_stm}
use Rattle.kat_syntax.specs.declared.type_rule.TypeRule.TheVariants.{NotProof}
use Rattle.kat_syntax.specs.TypeRules.{Fault, least_with, unless}
use Rattle.kat_syntax.specs.Around.{Around}
use Rattle.kat_syntax.specs.TypesWritten.{Scope}
use Rattle.kat_syntax.specs.TypingStatements.{known_of_stm}
use Rattle.kat_syntax.specs.TypingDeclarations.{is_proof, proof_step_faults}
use Rattle.kat_expr_types.specs.declared.setting.Known.{Known as KnownHere}
use Rattle.kat_expr_types.specs.Judging.{Tells}
use Rattle.kat_typing.proofs.Judging.{noted_both}
use Rattle.kat_typing.proofs.StatementTrees.{stm_trees_known}

-- what is counted and noted of steps while the rest of them is to come
pub record StepsSoFar (around : Around) (scope : Scope) (at next : ℕ) (all rest : List Stm)
    (old now : Option Fault) : Type 0 where
  pub counted : next + sum_by trees_of_stm rest ≡ at + sum_by trees_of_stm all
  pub noted : least_with now (proof_step_faults around scope next rest)
      ≡ least_with old (proof_step_faults around scope at all)

pub one_step : (around : Around) (scope : Scope) (at next : ℕ) (all : List Stm) (step : Stm)
    (rest : List Stm)
    (old now one new : Option Fault) (proof : Bool) (told : KnownHere) →
    StepsSoFar around scope at next all (step ∷ rest) old now → proof ≡ is_proof step →
    one ≡ least_with now (unless proof next NotProof) →
    Tells (known_of_stm around step scope) next told one new →
    StepsSoFar around scope at (next + told.trees) all rest old new
one_step around scope at next all step rest old now one new proof told so proof_is first tells =
    let trees : told.trees ≡ trees_of_stm step = tells.trees ∙ stm_trees_known around step scope in
    record {
      counted = omega (arith, so.counted, sum_by-cons trees_of_stm step rest, trees);
      noted =
          noted_both now one _ (unless (is_proof step) next NotProof) _
          (first ∙ ap (λ b. least_with now (unless b next NotProof)) proof_is)
          (noted_both one new _ ((known_of_stm around step scope).faults next)
          (proof_step_faults around scope (next + trees_of_stm step) rest) tells.faults
          (ap (λ n. least_with new (proof_step_faults around scope (next + n) rest)) trees))
          ∙ so.noted;
    }
