-- The value of a term under a valuation of the variables.
use Rattle.std.specs.Prelude.{◌≡◌, ℕ, Bool, true, false, nat_lt, if◌then◌else◌, List, [], ◌∷◌, map, Option, Some, None, slice_get, option_and_then}
use Rattle.kat_value.specs.declared.types.TypeDecl.{TypeDecl}
use Rattle.kat_value.specs.declared.value.Value.{Value, out-Value}
use Rattle.kat_value.specs.declared.value.Value.TheOpen.{Value-F, Unit as UnitLayer, Bool as TruthLayer, Bits as BitsLayer, Member as MemberLayer}
use Rattle.kat_value.specs.Widths.{is_number}
use Rattle.kat_value.specs.Making.{all_there, value_of_making, value_of_record}
use Rattle.kat_value.specs.Typing.{member_count}
use Rattle.kat_term.specs.declared.term.Term.{Term}
use Rattle.kat_term.specs.declared.term.Term.TheOpen.{Term-F, Var, Lit, Apply, Make as Making, Rec as Record}
use Rattle.kat_term.specs.declared.term.Term.TheFolds.{fold-Term}
use Rattle.kat_value.specs.Operations.{value_of_op}

-- a value for each variable, by its number
abbrev pub Valuation : Type 0
Valuation = List Value

-- whether one layer of a value is a literal: of type unit, bool or bits or of an enum, and of that
-- type; the values of unions and records are made
abbrev pub is_literal : List TypeDecl → Value-F Value → Bool
is_literal types UnitLayer = true
is_literal types (TruthLayer b) = true
is_literal types (BitsLayer w n) = is_number w n
is_literal types (MemberLayer of index) = nat_lt index (member_count types of)
is_literal types _ = false

-- the value of a literal
abbrev pub literal_value : List TypeDecl → Value → Option Value
literal_value types x = if is_literal types (out-Value x) then Some x else None

-- one layer of a term, with the value of each part in its place
abbrev pub value_layer : List TypeDecl → Valuation → Term-F (Option Value) → Option Value
value_layer types v (Var i) = slice_get v i
value_layer types v (Lit x) = literal_value types x
value_layer types v (Apply op args) = option_and_then (value_of_op op) (all_there args)
value_layer types v (Making of ctor inner) = option_and_then (value_of_making types of ctor) inner
value_layer types v (Record of fields) =
    option_and_then (value_of_record types of) (all_there fields)

-- the value of a term, with the declared types of this table; none where it is not well typed
abbrev pub value_of : List TypeDecl → Valuation → Term → Option Value
value_of types v = fold-Term (Option Value) (value_layer types v)

-- where the first has a value, the second has the same
abbrev pub IsKept : Option Value → Option Value → Type 0
IsKept a b = (x : Value) → a ≡ Some x → b ≡ Some x
