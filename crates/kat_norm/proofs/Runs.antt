-- How far a norm has come, and what is known of one that is done.
use Rattle.std.proofs.Common.{◌≡◌, ◌∙◌, ℕ, ◌≤◌, ◌++◌, List, Option, Some, None, Ok, refl, ap, sym}
use Rattle.kat_term.specs.declared.kind.Kind.{Kind}
use Rattle.kat_term.specs.declared.term.Term.{Term}
use Rattle.kat_rules.specs.RightSides.{HoldsBelow}
use Rattle.kat_norm.specs.Levels.{is_normal}
use Rattle.kat_norm.specs.Limits.{limit_of, max_rules}
use Rattle.kat_norm.specs.Norm.{Normed, Done, Past, unless_past, result_within, norm_from, norm_by, normal_in, norm_all, norm_head, and_go}

-- what is to come of the whole comes of a term whose parts are normed, and normal
pub record HeadSoFar (rule : Term → Option Term) (all : ℕ) (whole current : Term) (left : ℕ) : Type 0 where
  pub comes : norm_from rule all whole ≡ norm_head rule current left
  pub normal : HoldsBelow (is_normal rule) 1 current
  pub spent : left ≤ all

-- what is to come of the whole list is what is done and what is to come of the rest
pub record AllSoFar (rule : Term → Option Term) (all : ℕ) (whole done : List Term) (left : ℕ) (rest : List Term) : Type 0 where
  pub comes : norm_all rule all whole ≡ and_go (norm_all rule left rest) (λ ns more. Done (done ++ ns) more)
  pub spent : left ≤ all

-- a norm that is done: the term and its normal form are within the limits, and the rules lead to it
pub record IsWithin (rule : Term → Option Term) (t normal : Term) : Type 0 where
  pub begins : limit_of t ≡ None
  pub rest : ℕ
  pub comes : norm_from rule max_rules t ≡ Done normal rest
  pub within : limit_of normal ≡ None

-- each norm that is done is one
module _ (rule : Term → Option Term) (t normal : Term) where
  by_result : (begins : limit_of t ≡ None) (r : Normed Term) → norm_from rule max_rules t ≡ r → normal_in (result_within r) ≡ Ok normal → IsWithin rule t normal
  by_result begins (Past limit) is e = cc
  by_result begins (Done u rest) is e = by (limit_of u) refl e where
    by : (l : Option Kind) → limit_of u ≡ l → normal_in (unless_past l (Done u rest)) ≡ Ok normal → IsWithin rule t normal
    by (Some limit) within e = cc
    by None within e =
        let same : u ≡ normal = cc in
        record { begins = begins; rest = rest; comes = is ∙ ap (λ x. Done x rest) same; within = ap limit_of (sym same) ∙ within }

  pub norm_by_parts : normal_in (norm_by rule t) ≡ Ok normal → IsWithin rule t normal
  norm_by_parts e = by (limit_of t) refl e where
    by : (l : Option Kind) → limit_of t ≡ l → normal_in (unless_past l (result_within (norm_from rule max_rules t))) ≡ Ok normal → IsWithin rule t normal
    by (Some limit) begins e = cc
    by None begins e = by_result begins (norm_from rule max_rules t) refl e
