-- A normal form has no rule left, and is its own normal form.
use Rattle.std.proofs.Common.{◌≡◌, ◌∙◌, ℕ, zero, suc, Option, None, refl, ap, subst}
use Rattle.kat_term.specs.declared.term.Term.{Term}
use Rattle.kat_rules.specs.Rules.{rule_of}
use Rattle.kat_norm.specs.Limits.{limit_of, max_rules}
use Rattle.kat_norm.specs.Norm.{Step, Still, To, Over, step_of, Done, last_step, next_step, norm_from, unless_past, result_within, norm_by, normal_in, IsNormal}
use Rattle.kat_norm.specs.Rests.{RestsByRules, NormalFormsRest}
use Rattle.kat_norm.specs.Substitution.{substituted}
use Rattle.kat_norm.proofs.Runs.{norm_by_parts}

module _ (rule : Term → Option Term) where
  pub rests : (left rest : ℕ) (t n : Term) → norm_from rule left t ≡ Done n rest → IsNormal rule n
  rests zero rest t n e = by (step_of rule t) refl e where
    by : (s : Step Term) → step_of rule t ≡ s → last_step t s ≡ Done n rest → IsNormal rule n
    by Still is h = let same : t ≡ n = cc in subst (IsNormal rule) same is
    by (To new) is h = cc
    by (Over limit) is h = cc
  rests (suc left) rest t n e = by (λ new h. rests left rest new n h) (step_of rule t) refl e where
    by : ((new : Term) → norm_from rule left new ≡ Done n rest → IsNormal rule n) → (s : Step Term) → step_of rule t ≡ s →
        next_step t (suc left) s (norm_from rule left) ≡ Done n rest → IsNormal rule n
    by go Still is h = let same : t ≡ n = cc in subst (IsNormal rule) same is
    by go (To new) is h = go new h
    by go (Over limit) is h = cc

  pub stays : (left : ℕ) (n : Term) → IsNormal rule n → norm_from rule left n ≡ Done n left
  stays zero n normal = ap (last_step n) normal
  stays (suc left) n normal = ap (λ s. next_step n (suc left) s (norm_from rule left)) normal

  -- a term within the limits that is normal is its own normal form
  pub stays_whole : (n : Term) → IsNormal rule n → limit_of n ≡ None → norm_by rule n ≡ Done n max_rules
  stays_whole n normal within =
      ap (λ l. unless_past l (result_within (norm_from rule max_rules n))) within
      ∙ ap result_within (stays max_rules n normal)
      ∙ ap (λ l. unless_past l (Done n max_rules)) within

pub rests_by_rules : RestsByRules
rests_by_rules rule left rest more t n e = let normal = rests rule left rest t n e in (normal, stays rule more n normal)

pub normal_forms_rest : NormalFormsRest
normal_forms_rest vars pairs t n e =
    let p = norm_by_parts (rule_of vars) (substituted pairs t) n e in
    let normal = rests (rule_of vars) max_rules p.rest (substituted pairs t) n p.comes in
    (normal, ap normal_in (stays_whole (rule_of vars) n normal p.within))
