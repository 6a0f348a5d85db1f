-- The first rule at a term by its operation.
use Rattle.std.proofs.Common.{◌≡◌, ◌∙◌, List, [], ◌∷◌, ◌++◌, map, Option, Some, None, refl, ap, sym}
use Rattle.kat_value.specs.declared.op.Op.TheVariants.{Not, And, Or, Eq, Ult, Ule, Slt, Sle, Add, Sub, Mul, Band, Bor, Bxor, Bnot, Shl, Shr, Sar, Slice, Cat, Zext, Sext, Ite, Get}
use Rattle.kat_value.specs.declared.types.Ty.{Ty}
use Rattle.kat_term.specs.declared.term.Term.{Term}
use Rattle.kat_term.specs.declared.term.Term.TheOpen.{Term-F, Var, Lit, Apply, Make, Rec}
use Rattle.kat_term.specs.declared.term.Term.TheViews.{out-Term}
use Rattle.kat_rules.specs.BitOperations.{bit_rules}
use Rattle.kat_rules.specs.ByOperation.{first_at, GoesByOperation}
use Rattle.kat_rules.specs.Equations.{equation_rules}
use Rattle.kat_rules.specs.Joins.{join_rules}
use Rattle.kat_rules.specs.Orders.{order_rules}
use Rattle.kat_rules.specs.Patterns.{Rule, or_else}
use Rattle.kat_rules.specs.Rules.{first_of, rule_of}
use Rattle.kat_rules.specs.Shifts.{shift_rules}
use Rattle.kat_rules.specs.Sums.{sum_rules}
use Rattle.kat_rules.specs.Truths.{truth_rules}

-- the rules of all groups in one list
abbrev joined : List (List Rule) → List Rule
joined [] = []
joined (group ∷ groups) = group ++ joined groups

-- a first of three
or_else-or_else : (a b c : Option Term) → or_else a (or_else b c) ≡ or_else (or_else a b) c
or_else-or_else None b c = refl
or_else-or_else (Some x) b c = refl

-- the first of two lists
first_of-both : (xs ys : List Rule) (vars : List Ty) (t : Term) →
    first_of (xs ++ ys) vars t ≡ or_else (first_of xs vars t) (first_of ys vars t)
first_of-both [] ys vars t = refl
first_of-both (x ∷ xs) ys vars t =
    ap (or_else (x vars t)) (first_of-both xs ys vars t)
    ∙ or_else-or_else (x vars t) (first_of xs vars t) (first_of ys vars t)

-- the first of groups is that of their rules in one list
first_of-joined : (groups : List (List Rule)) (vars : List Ty) (t : Term) →
    first_of (map first_of groups) vars t ≡ first_of (joined groups) vars t
first_of-joined [] vars t = refl
first_of-joined (group ∷ groups) vars t =
    ap (or_else (first_of group vars t)) (first_of-joined groups vars t)
    ∙ sym (first_of-both group (joined groups) vars t)

-- the groups in order
abbrev groups : List (List Rule)
groups =
    truth_rules ∷ equation_rules ∷ order_rules ∷ sum_rules ∷ bit_rules ∷ shift_rules ∷ join_rules
    ∷ []

module _ (vars : List Ty) (t : Term) where
  -- at a layer all but the rules of its operation compute to none
  by_layer : (x : Term-F Term) → out-Term t ≡ x →
      first_of (joined groups) vars t ≡ first_at x vars t
  by_layer (Var i) e = rw e refl
  by_layer (Lit v) e = rw e refl
  by_layer (Make of ctor inner) e = rw e refl
  by_layer (Rec of fields) e = rw e refl
  by_layer (Apply Not args) e = rw e refl
  by_layer (Apply And args) e = rw e refl
  by_layer (Apply Or args) e = rw e refl
  by_layer (Apply Eq args) e = rw e refl
  by_layer (Apply Ult args) e = rw e refl
  by_layer (Apply Ule args) e = rw e refl
  by_layer (Apply Slt args) e = rw e refl
  by_layer (Apply Sle args) e = rw e refl
  by_layer (Apply Add args) e = rw e refl
  by_layer (Apply Sub args) e = rw e refl
  by_layer (Apply Mul args) e = rw e refl
  by_layer (Apply Band args) e = rw e refl
  by_layer (Apply Bor args) e = rw e refl
  by_layer (Apply Bxor args) e = rw e refl
  by_layer (Apply Bnot args) e = rw e refl
  by_layer (Apply Shl args) e = rw e refl
  by_layer (Apply Shr args) e = rw e refl
  by_layer (Apply Sar args) e = rw e refl
  by_layer (Apply (Slice hi lo) args) e = rw e refl
  by_layer (Apply Cat args) e = rw e refl
  by_layer (Apply (Zext width) args) e = rw e refl
  by_layer (Apply (Sext width) args) e = rw e refl
  by_layer (Apply Ite args) e = rw e refl
  by_layer (Apply (Get of field) args) e = rw e refl

pub goes_by_operation : GoesByOperation
unfolding rule_of
goes_by_operation vars t = first_of-joined groups vars t ∙ by_layer vars t (out-Term t) refl
