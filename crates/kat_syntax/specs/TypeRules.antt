-- The conditions of typing, their numbers, and the order of faults.
use Rattle.std.specs.Prelude.{◌≡◌, ◌⊎◌, ℕ, ◌==◌, ◌&&◌, ◌||◌, nat_lt, Bool, false, if◌then◌else◌, List, [], ◌∷◌, Option, None, Some}
use Rattle.std.specs.List.{AllByRecursion}
use Rattle.kat_syntax.specs.declared.type_rule.TypeRule.{TypeRule}
use Rattle.kat_syntax.specs.declared.type_rule.TypeRule.TheVariants.{NameTaken, TypeUnknown, NoWidth, NameUnknown, LiteralLarge, TypeOther, CountOther, SliceOutside, WidthOther, NotListed, BranchesDiffer, BodyOther, MemoryMissing, MemoryBounds, RangeOutside, CellTaken, OutsideNotBits, NotHere, UsedBefore, NotProof, NotOnce, WithinOutside, TooMany, ContractTwice}

-- the number of a condition
abbrev pub code_of : TypeRule → ℕ
code_of NameTaken = 1
code_of TypeUnknown = 2
code_of NoWidth = 3
code_of NameUnknown = 4
code_of LiteralLarge = 5
code_of TypeOther = 6
code_of CountOther = 7
code_of SliceOutside = 8
code_of WidthOther = 9
code_of NotListed = 10
code_of BranchesDiffer = 11
code_of BodyOther = 12
code_of MemoryMissing = 13
code_of MemoryBounds = 14
code_of RangeOutside = 15
code_of CellTaken = 16
code_of OutsideNotBits = 17
code_of NotHere = 18
code_of UsedBefore = 19
code_of NotProof = 20
code_of NotOnce = 21
code_of WithinOutside = 22
code_of TooMany = 23
code_of ContractTwice = 24

-- a fault in a declaration: the tree where it stands, the declaration being tree 0, and the
-- condition that holds there
pub record Fault : Type 0 where
  pub tree : ℕ
  pub rule : TypeRule

-- whether a fault comes before another: by tree, then by the number of the condition
abbrev pub comes_before : Fault → Fault → Bool
comes_before f g =
    nat_lt f.tree g.tree || (f.tree == g.tree && nat_lt (code_of f.rule) (code_of g.rule))

-- the earlier of a fault that is known and another one
abbrev pub earlier : Option Fault → Fault → Option Fault
earlier None g = Some g
earlier (Some f) g = if comes_before g f then Some g else Some f

-- the least of a fault that is known and more of them
abbrev pub least_with : Option Fault → List Fault → Option Fault
least_with known [] = known
least_with known (fault ∷ faults) = least_with (earlier known fault) faults

-- the least of some faults, if there are any
abbrev pub least_of : List Fault → Option Fault
least_of faults = least_with None faults

-- a fault of this condition at this tree, unless it is met
abbrev pub unless : Bool → ℕ → TypeRule → List Fault
unless met tree rule = if met then [] else record { tree = tree; rule = rule } ∷ []

-- a fault is one of some
abbrev pub IsAmong : List Fault → Fault → Type 0
IsAmong [] fault = ⊥
IsAmong (other ∷ faults) fault = (other ≡ fault) ⊎ IsAmong faults fault

-- a fault is one of some, and none of them comes before it
pub record IsLeastOf (faults : List Fault) (fault : Fault) : Type 0 where
  pub one : IsAmong faults fault
  pub least : AllByRecursion (λ other. comes_before other fault ≡ false) faults
