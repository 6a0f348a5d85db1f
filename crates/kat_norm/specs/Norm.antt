-- The normal form of a term: one rule after another, each at the first place where one is there, as
-- far as the limits allow it.
use Rattle.std.specs.Prelude.{◌≡◌, ℕ, zero, suc, List, [], ◌∷◌, map, Option, Some, None, Result, Ok, Err}
use Rattle.kat_value.specs.declared.types.Ty.{Ty}
use Rattle.kat_term.specs.declared.kind.Kind.{Kind}
use Rattle.kat_term.specs.declared.kind.Kind.TheVariants.{Rules}
use Rattle.kat_term.specs.declared.term.Term.{Term}
use Rattle.kat_term.specs.declared.term.Term.TheOpen.{Term-F, Var, Lit, Apply, Make, Rec}
use Rattle.kat_term.specs.declared.term.Term.TheFolds.{fold-Term, map-Term}
use Rattle.kat_term.specs.declared.term.Term.TheViews.{out-Term, roll-Term}
use Rattle.kat_term.specs.declared.term.Term.TheVariants.{Apply as ApplyTerm, Make as MakeTerm, Rec as RecTerm}
use Rattle.kat_rules.specs.Rules.{rule_of}
use Rattle.kat_norm.specs.Limits.{limit_of, max_rules}
use Rattle.kat_norm.specs.Substitution.{Substitution, substituted}

-- what one use of a rule makes of a thing: no left side is there, or it is now another, or the right
-- side passes a limit
pub data Step (A : Type 0) : Type 0 where
  Still : Step A
  To : (new : A) → Step A
  Over : (limit : Kind) → Step A

-- a use of a rule in a part, seen from the whole
abbrev pub inside : {A B : Type 0} → (A → B) → Step A → Step B
inside f Still = Still
inside f (To new) = To (f new)
inside f (Over limit) = Over limit

-- a use of a rule in the one, else in the other
abbrev pub else_step : {A : Type 0} → Step A → Step A → Step A
else_step Still next = next
else_step (To new) next = To new
else_step (Over limit) next = Over limit

-- the right side stands where the left side stood, unless it passes this limit
abbrev pub replaced_within : Option Kind → Term → Step Term
replaced_within None right = To right
replaced_within (Some limit) right = Over limit

-- what is made of a place where this right side is there
abbrev pub replaced : Option Term → Step Term
replaced None = Still
replaced (Some right) = replaced_within (limit_of right) right

-- a part of a term, and what one use of a rule makes of it
pub record Part : Type 0 where
  pub whole : Term
  pub step : Step Term

-- the parts as they stand
abbrev pub wholes : List Part → List Term
wholes parts = map (λ (part : Part). part.whole) parts

-- one use of a rule in a list of terms: in the first of them in which one is there
abbrev pub step_in_all : List Part → Step (List Term)
step_in_all [] = Still
step_in_all (part ∷ parts) =
    else_step (inside (λ new. new ∷ wholes parts) part.step)
    (inside (λ news. part.whole ∷ news) (step_in_all parts))

-- one use of a rule in a term: in its parts, and at the term itself where none is there
abbrev pub step_layer : (Term → Option Term) → Term-F Part → Step Term
step_layer rule (Var i) = replaced (rule (roll-Term (Var i)))
step_layer rule (Lit x) = replaced (rule (roll-Term (Lit x)))
step_layer rule (Apply op parts) =
    else_step (inside (ApplyTerm op) (step_in_all parts))
    (replaced (rule (ApplyTerm op (wholes parts))))
step_layer rule (Make of ctor part) =
    else_step (inside (MakeTerm of ctor) part.step)
    (replaced (rule (MakeTerm of ctor part.whole)))
step_layer rule (Rec of parts) =
    else_step (inside (RecTerm of) (step_in_all parts))
    (replaced (rule (RecTerm of (wholes parts))))

-- one layer of a term as a part
abbrev pub part_of : (Term → Option Term) → Term-F Part → Part
part_of rule layer =
    record {
      whole = roll-Term (map-Term Part Term (λ (part : Part). part.whole) layer);
      step = step_layer rule layer;
    }

-- what one use of a rule makes of a term
abbrev pub step_of : (Term → Option Term) → Term → Step Term
step_of rule t = (fold-Term Part (part_of rule) t).step

-- a normal form with the rules that are left, or the limit that was passed on the way
pub data Normed (A : Type 0) : Type 0 where
  Done : (normal : A) (left : ℕ) → Normed A
  Past : (limit : Kind) → Normed A

-- where no rule is left: the term is normal, or one rule too many would be used
abbrev pub last_step : {A : Type 0} → A → Step A → Normed A
last_step t Still = Done t 0
last_step t (To new) = Past Rules
last_step t (Over limit) = Past Rules

-- where rules are left: the term is normal, or one of them is used
abbrev pub next_step : {A : Type 0} → A → ℕ → Step A → (A → Normed A) → Normed A
next_step t left Still go = Done t left
next_step t left (To new) go = go new
next_step t left (Over limit) go = Past limit

-- uses rules as long as one is there, at most as many as are left
abbrev pub steps_from : {A : Type 0} → (A → Step A) → ℕ → A → Normed A
steps_from step zero t = last_step t (step t)
steps_from step (suc left) t = next_step t (suc left) (step t) (steps_from step left)

-- the normal form of a term, with so many rules left
abbrev pub norm_from : (Term → Option Term) → ℕ → Term → Normed Term
norm_from rule = steps_from (step_of rule)

-- goes on unless this limit is passed
abbrev pub unless_past : {A : Type 0} → Option Kind → Normed A → Normed A
unless_past None go = go
unless_past (Some limit) go = Past limit

-- asks the limits of a result
abbrev pub result_within : Normed Term → Normed Term
result_within (Done t left) = unless_past (limit_of t) (Done t left)
result_within (Past limit) = Past limit

-- the normal form of a term by this rule, with the limits on the term, on each right side and on the
-- result
abbrev pub norm_by : (Term → Option Term) → Term → Normed Term
norm_by rule t = unless_past (limit_of t) (result_within (norm_from rule max_rules t))

-- the normal form alone, or the limit that was passed
abbrev pub normal_in : Normed Term → Result Term Kind
normal_in (Done normal left) = Ok normal
normal_in (Past limit) = Err limit

-- the normal form of a term over variables of these types, under a substitution; or the limit that
-- is passed on the way
abbrev pub norm_of : List Ty → Substitution → Term → Result Term Kind
norm_of vars pairs t = normal_in (norm_by (rule_of vars) (substituted pairs t))

-- goes on with what is done
abbrev pub and_go : {A B : Type 0} → Normed A → (A → ℕ → Normed B) → Normed B
and_go (Done t left) go = go t left
and_go (Past limit) go = Past limit

-- the normal forms of terms, from left to right, each with the rules that those before it left
abbrev pub norm_all : (Term → Option Term) → ℕ → List Term → Normed (List Term)
norm_all rule left [] = Done [] left
norm_all rule left (t ∷ ts) =
    and_go (norm_from rule left t)
    (λ n more. and_go (norm_all rule more ts) (λ ns rest. Done (n ∷ ns) rest))

-- a term whose parts are normed: the right side of the rule that is there is normed in its turn
abbrev pub use_rule : (Term → Option Term) → Term → ℕ → Option Term → Normed Term
use_rule rule t left None = Done t left
use_rule rule t zero (Some right) = Past Rules
use_rule rule t (suc left) (Some right) = unless_past (limit_of right) (norm_from rule left right)

-- a term whose parts are normed
abbrev pub norm_head : (Term → Option Term) → Term → ℕ → Normed Term
norm_head rule t left = use_rule rule t left (rule t)

-- one layer with its parts normed
abbrev pub norm_parts : (Term → Option Term) → ℕ → Term-F Term → Normed Term
norm_parts rule left (Var i) = Done (roll-Term (Var i)) left
norm_parts rule left (Lit x) = Done (roll-Term (Lit x)) left
norm_parts rule left (Apply op args) =
    and_go (norm_all rule left args) (λ ns more. Done (ApplyTerm op ns) more)
norm_parts rule left (Make of ctor inner) =
    and_go (norm_from rule left inner) (λ n more. Done (MakeTerm of ctor n) more)
norm_parts rule left (Rec of fields) =
    and_go (norm_all rule left fields) (λ ns more. Done (RecTerm of ns) more)

-- a right side with its parts normed: one rule is spent, and its limits are asked
abbrev pub right_parts : (Term → Option Term) → ℕ → Term → Normed Term
right_parts rule zero right = Past Rules
right_parts rule (suc left) right =
    unless_past (limit_of right) (norm_parts rule left (out-Term right))

-- no rule is there, in the term or in any part of it
abbrev pub IsNormal : (Term → Option Term) → Term → Type 0
IsNormal rule t = step_of rule t ≡ Still
