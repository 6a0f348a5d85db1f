-- How the parts of a norm make the whole.
use Rattle.std.proofs.Common.{◌≡◌, ◌∙◌, ℕ, zero, suc, ◌+◌, ◌<◌, ◌≤◌, List, [], ◌∷◌, map, length, get_or, Option, Some, None, Ok, Err, refl, ap, sym, arith, nat_lt, if◌then◌else◌, Bool, true, false}
use Rattle.std.specs.Prelude.{sum}
use Rattle.std.proofs.lemmas.Bool.{ltb-false}
use Rattle.std.proofs.lemmas.List.Sums.{sum_by-cons}
use Rattle.kat_term.specs.declared.kind.Kind.{Kind}
use Rattle.kat_term.specs.declared.kind.Kind.TheVariants.{Nodes, Depth}
use Rattle.kat_term.specs.declared.prover.NormError.{NormError}
use Rattle.kat_term.specs.declared.prover.NormError.TheVariants as error
use Rattle.kat_term.specs.declared.term.Term.{Term}
use Rattle.kat_term.specs.declared.term.Term.TheViews.{out-Term}
use Rattle.kat_term.specs.Limits.{max_nodes, max_depth}
use Rattle.kat_term.specs.Provers.{AnswersNorm}
use Rattle.kat_term.specs.Sizes.{nodes, depth}
use Rattle.kat_norm.specs.Answers.{FailsBy, IsOfSize}
use Rattle.kat_norm.specs.Limits.{limit_of, max_rules}
use Rattle.kat_norm.specs.Norm.{Normed, Done, norm_from, norm_by, normal_in, unless_past, result_within, and_go, use_rule, norm_head, norm_parts, right_parts}
use Rattle.kat_norm.proofs.NormalLevels.{right_normal}
use Rattle.kat_norm.proofs.NormalParts.{goes_by_arguments}
use Rattle.kat_norm.proofs.Runs.{HeadSoFar}

-- what fails at a part fails as a whole
pub fails_on : {A B : Type 0} (e : NormError) (part : Normed A) (whole : Normed B) (go : A → ℕ → Normed B) → whole ≡ and_go part go → FailsBy e part → FailsBy e whole
fails_on error.Nodes part whole go is fails = is ∙ ap (λ r. and_go r go) fails
fails_on error.Depth part whole go is fails = is ∙ ap (λ r. and_go r go) fails
fails_on error.Rules part whole go is fails = is ∙ ap (λ r. and_go r go) fails
fails_on error.Memory part whole go is fails = tt

-- a limit that a term passes on its size is passed by what asks it
pub fails_by_size : {A : Type 0} (e : NormError) (limit : Option Kind) (go whole : Normed A) → whole ≡ unless_past limit go → IsOfSize e limit → FailsBy e whole
fails_by_size error.Nodes limit go whole is of = is ∙ ap (λ l. unless_past l go) of
fails_by_size error.Depth limit go whole is of = is ∙ ap (λ l. unless_past l go) of
fails_by_size error.Rules limit go whole is of = absurd of
fails_by_size error.Memory limit go whole is of = tt

-- what fails has no normal form
pub fails_whole : (e : NormError) (normed : Normed Term) → FailsBy e normed → AnswersNorm (Err e) (normal_in normed)
fails_whole error.Nodes normed fails = ap normal_in fails
fails_whole error.Depth normed fails = ap normal_in fails
fails_whole error.Rules normed fails = ap normal_in fails
fails_whole error.Memory normed fails = tt

-- a term within the limits has at most so many nodes
pub within_nodes : (t : Term) → limit_of t ≡ None → nodes t ≤ 65536
unfolding max_nodes
within_nodes t none = by (nat_lt max_nodes (nodes t)) refl none where
  by : (b : Bool) → nat_lt max_nodes (nodes t) ≡ b → (if b then Some Nodes else if nat_lt max_depth (depth t) then Some Depth else None) ≡ None → nodes t ≤ 65536
  by true is h = cc
  by false is h = ltb-false 65536 (nodes t) is

sum-cons : (n : ℕ) (ns : List ℕ) → sum (n ∷ ns) ≡ n + sum ns
sum-cons n ns = sum_by-cons (λ k. k) n ns

-- an item is no larger than all
pub item_nodes : (ts : List Term) (i : ℕ) (d : Term) → i < length ts → nodes (get_or ts i d) ≤ sum (map nodes ts)
item_nodes [] i d less = absurd (omega arith)
item_nodes (t ∷ ts) zero d less = omega (arith, sum-cons (nodes t) (map nodes ts))
item_nodes (t ∷ ts) (suc i) d less = omega (arith, sum-cons (nodes t) (map nodes ts), item_nodes ts i d (omega arith))

module _ (rule : Term → Option Term) where
  -- where the parts are normed
  pub begins : (left : ℕ) (t current : Term) (rest : ℕ) → norm_parts rule left (out-Term t) ≡ Done current rest → norm_from rule left t ≡ norm_head rule current rest
  begins left t current rest e = goes_by_arguments rule left t ∙ ap (λ r. and_go r (norm_head rule)) e

  pub begins_failing : (left : ℕ) (t : Term) (e : NormError) → FailsBy e (norm_parts rule left (out-Term t)) → FailsBy e (norm_from rule left t)
  begins_failing left t e = fails_on e (norm_parts rule left (out-Term t)) (norm_from rule left t) (norm_head rule) (goes_by_arguments rule left t)

  -- where a rule is used, its right side comes next
  right_next : (left : ℕ) (current right : Term) → use_rule rule current left (Some right) ≡ and_go (right_parts rule left right) (norm_head rule)
  right_next zero current right = refl
  right_next (suc left) current right = by (limit_of right) where
    by : (l : Option Kind) → unless_past l (norm_from rule left right) ≡ and_go (unless_past l (norm_parts rule left (out-Term right))) (norm_head rule)
    by None = goes_by_arguments rule left right
    by (Some limit) = refl

  goes_on : (all : ℕ) (whole current right : Term) (left : ℕ) → HeadSoFar rule all whole current left → rule current ≡ Some right →
      norm_from rule all whole ≡ and_go (right_parts rule left right) (norm_head rule)
  goes_on all whole current right left so_far is = so_far.comes ∙ ap (use_rule rule current left) is ∙ right_next left current right

  pub next_so_far : (all : ℕ) (whole current right next : Term) (left rest : ℕ) → HeadSoFar rule all whole current left → rule current ≡ Some right →
      right_parts rule left right ≡ Done next rest → rest ≤ left → HeadSoFar rule all whole next rest
  next_so_far all whole current right next left rest so_far is parts less = record {
    comes = goes_on all whole current right left so_far is ∙ ap (λ r. and_go r (norm_head rule)) parts;
    normal = right_normal rule left right next rest parts;
    spent = let s = so_far.spent in omega arith;
  }

  pub next_failing : (all : ℕ) (whole current right : Term) (left : ℕ) (e : NormError) → HeadSoFar rule all whole current left → rule current ≡ Some right →
      FailsBy e (right_parts rule left right) → FailsBy e (norm_from rule all whole)
  next_failing all whole current right left e so_far is =
      fails_on e (right_parts rule left right) (norm_from rule all whole) (norm_head rule) (goes_on all whole current right left so_far is)

  -- a whole norm, with all the rules that it may use
  pub whole_begins : (all : ℕ) (t : Term) → all ≡ max_rules → limit_of t ≡ None → norm_by rule t ≡ result_within (norm_from rule all t)
  whole_begins all t rules none =
      ap (λ l. unless_past l (result_within (norm_from rule max_rules t))) none ∙ ap (λ k. result_within (norm_from rule k t)) (sym rules)

  pub whole_done : (all : ℕ) (t normal : Term) (left : ℕ) → all ≡ max_rules → limit_of t ≡ None → norm_from rule all t ≡ Done normal left → limit_of normal ≡ None →
      normal_in (norm_by rule t) ≡ Ok normal
  whole_done all t normal left rules none done within =
      ap normal_in (whole_begins all t rules none ∙ ap result_within done ∙ ap (λ l. unless_past l (Done normal left)) within)

  pub whole_too_large : (t : Term) (e : NormError) → IsOfSize e (limit_of t) → AnswersNorm (Err e) (normal_in (norm_by rule t))
  whole_too_large t e size =
      fails_whole e (norm_by rule t) (fails_by_size e (limit_of t) (result_within (norm_from rule max_rules t)) (norm_by rule t) refl size)

  fails_result : (e : NormError) (r : Normed Term) → FailsBy e r → FailsBy e (result_within r)
  fails_result error.Nodes r fails = ap result_within fails
  fails_result error.Depth r fails = ap result_within fails
  fails_result error.Rules r fails = ap result_within fails
  fails_result error.Memory r fails = tt

  fails_as : {A : Type 0} (e : NormError) (a b : Normed A) → a ≡ b → FailsBy e b → FailsBy e a
  fails_as error.Nodes a b is fails = is ∙ fails
  fails_as error.Depth a b is fails = is ∙ fails
  fails_as error.Rules a b is fails = is ∙ fails
  fails_as error.Memory a b is fails = tt

  pub whole_failing : (all : ℕ) (t : Term) (e : NormError) → all ≡ max_rules → limit_of t ≡ None → FailsBy e (norm_from rule all t) →
      AnswersNorm (Err e) (normal_in (norm_by rule t))
  whole_failing all t e rules none fails =
      fails_whole e (norm_by rule t)
      (fails_as e (norm_by rule t) (result_within (norm_from rule all t)) (whole_begins all t rules none) (fails_result e (norm_from rule all t) fails))

  pub result_too_large : (all : ℕ) (t normal : Term) (left : ℕ) (e : NormError) → all ≡ max_rules → limit_of t ≡ None → norm_from rule all t ≡ Done normal left →
      IsOfSize e (limit_of normal) → AnswersNorm (Err e) (normal_in (norm_by rule t))
  result_too_large all t normal left e rules none done size =
      fails_whole e (norm_by rule t)
      (fails_by_size e (limit_of normal) (Done normal left) (norm_by rule t) (whole_begins all t rules none ∙ ap result_within done) size)

pub all_rules : 1000000 ≡ max_rules
unfolding max_rules
all_rules = refl
