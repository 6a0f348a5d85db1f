-- How much of a right side is new: its outermost levels alone, over parts of the term.
use Rattle.std.specs.Prelude.{◌≡◌, ℕ, zero, suc, Bool, true, false, is_some, if◌then◌else◌, List, [], ◌∷◌, Some, option_and_then}
use Rattle.std.specs.List.{AllByRecursion}
use Rattle.kat_value.specs.declared.op.Op.{Op}
use Rattle.kat_value.specs.declared.op.Op.TheVariants.{Eq, Ult, Ule, Ite}
use Rattle.kat_value.specs.declared.types.Ty.{Ty}
use Rattle.kat_term.specs.declared.term.Term.{Term}
use Rattle.kat_term.specs.declared.term.Term.TheOpen.{Term-F, Var, Lit, Apply, Make, Rec}
use Rattle.kat_term.specs.declared.term.Term.TheViews.{out-Term}
use Rattle.kat_term.specs.Views.{rec_of, two_args_of}
use Rattle.kat_rules.specs.Patterns.{Rule}

-- the parts of one layer
abbrev pub parts_in : Term-F Term → List Term
parts_in (Var i) = []
parts_in (Lit x) = []
parts_in (Apply op args) = args
parts_in (Make of ctor inner) = inner ∷ []
parts_in (Rec of fields) = fields

-- the parts of a term
abbrev pub parts_of : Term → List Term
parts_of t = parts_in (out-Term t)

-- all that stands so many levels below a term has this property
abbrev pub HoldsBelow : (Term → Bool) → ℕ → Term → Type 0
HoldsBelow p zero t = p t ≡ true
HoldsBelow p (suc levels) t = AllByRecursion (HoldsBelow p levels) (parts_of t)

-- all that stands so many levels below any of these terms has this property
abbrev pub AllHoldBelow : (Term → Bool) → ℕ → List Term → Type 0
AllHoldBelow p levels ts = AllByRecursion (HoldsBelow p levels) ts

-- a property that the parts of a term have with it
abbrev pub IsHeritable : (Term → Bool) → Type 0
IsHeritable p = (t : Term) → p t ≡ true → HoldsBelow p 1 t

-- whether a term is an equation whose first side is a record
abbrev pub equates_record : Term → Bool
equates_record t = is_some (option_and_then (λ sides. rec_of sides.0) (two_args_of Eq t))

-- whether a right side of this operation may be new in three levels
abbrev pub is_deep_op : Op → Bool
is_deep_op Eq = true
is_deep_op Ult = true
is_deep_op Ule = true
is_deep_op Ite = true
is_deep_op _ = false

-- the same of one layer
abbrev pub is_deep : Term-F Term → Bool
is_deep (Apply op args) = is_deep_op op
is_deep _ = false

-- how many levels of the right side of the rule at a term may be new
abbrev pub new_levels : Term → ℕ
new_levels t = if is_deep (out-Term t) then 3 else 2

-- a property that all parts of a term have, and their parts with them, holds of all that stands
-- below the new levels of its right side; nothing is said of an equation of records, which comes
-- to as many levels as there are fields
abbrev pub IsShallow : Rule → Type 0
IsShallow rule =
    (vars : List Ty) (p : Term → Bool) → IsHeritable p → (t right : Term) →
    rule vars t ≡ Some right → equates_record t ≡ false → HoldsBelow p 1 t →
    HoldsBelow p (new_levels t) right

-- the right sides of each of these rules are shallow
abbrev pub AreShallow : List Rule → Type 0
AreShallow [] = Unit {0}
AreShallow (rule ∷ more) = IsShallow rule × AreShallow more
