-- Terms as the layers above take them apart and make them.
use Rattle.std.specs.Prelude.{ℕ, Bool, if◌then◌else◌, List, [], ◌∷◌, Option, Some, None, option_and_then}
use Rattle.kat_value.specs.declared.op.Op.{Op}
use Rattle.kat_value.specs.declared.value.Value.{Value}
use Rattle.kat_value.specs.declared.value.Value.TheVariants.{Unit as UnitValue, Bool as Truth, Bits, Member}
use Rattle.kat_term.specs.declared.term.Term.{Term}
use Rattle.kat_term.specs.declared.term.Term.TheOpen.{Term-F, Var as Variable, Lit as Literal, Apply as Application, Make as Making, Rec as Record}
use Rattle.kat_term.specs.declared.term.Term.TheViews.{out-Term}
use Rattle.kat_term.specs.declared.term.Term.TheVariants.{Lit, Apply}
use Rattle.kat_term.specs.Equality.{op_eq}

-- an operation on one term
abbrev pub one : Op → Term → Term
one op a = Apply op (a ∷ [])

-- an operation on two terms
abbrev pub two : Op → Term → Term → Term
two op a b = Apply op (a ∷ b ∷ [])

-- an operation on three terms
abbrev pub three : Op → Term → Term → Term → Term
three op a b c = Apply op (a ∷ b ∷ c ∷ [])

-- the literal of type unit
abbrev pub unit : Term
unit = Lit UnitValue

-- a literal of type bool
abbrev pub truth : Bool → Term
truth b = Lit (Truth b)

-- a literal of w bits
abbrev pub bits : ℕ → ℕ → Term
bits w n = Lit (Bits w n)

-- a literal of a member of an enum
abbrev pub member : ℕ → ℕ → Term
member of index = Lit (Member of index)

-- the number of one layer that is a variable
abbrev pub variable_in : Term-F Term → Option ℕ
variable_in (Variable i) = Some i
variable_in _ = None

-- the number of a term that is a variable
abbrev pub var_of : Term → Option ℕ
var_of t = variable_in (out-Term t)

-- the value of one layer that is a literal
abbrev pub value_in : Term-F Term → Option Value
value_in (Literal value) = Some value
value_in _ = None

-- the value of a term that is a literal
abbrev pub literal_of : Term → Option Value
literal_of t = value_in (out-Term t)

-- the arguments of one layer, where it is this operation
abbrev pub args_in : Op → Term-F Term → Option (List Term)
args_in op (Application found args) = if op_eq found op then Some args else None
args_in op _ = None

-- the arguments of a term, where it is this operation
abbrev pub args_of : Op → Term → Option (List Term)
args_of op t = args_in op (out-Term t)

-- a constructor with its payload
pub record MadeTerm : Type 0 where
  pub of : ℕ
  pub ctor : ℕ
  pub inner : Term

-- the constructor of one layer, with its payload
abbrev pub making_in : Term-F Term → Option MadeTerm
making_in (Making of ctor inner) = Some (record { of = of; ctor = ctor; inner = inner })
making_in _ = None

-- the constructor of a term that is made by one, with its payload
abbrev pub made_of : Term → Option MadeTerm
made_of t = making_in (out-Term t)

-- a record's type with its fields in order
pub record RecTerm : Type 0 where
  pub of : ℕ
  pub fields : List Term

-- the type and fields of one layer that is a record
abbrev pub record_in : Term-F Term → Option RecTerm
record_in (Record of fields) = Some (record { of = of; fields = fields })
record_in _ = None

-- the type and fields of a term that is a record
abbrev pub rec_of : Term → Option RecTerm
rec_of t = record_in (out-Term t)

-- three terms
pub record ThreeTerms : Type 0 where
  pub first : Term
  pub second : Term
  pub third : Term

-- a list's one item
abbrev pub one_item : List Term → Option Term
one_item [] = None
one_item (a ∷ []) = Some a
one_item (a ∷ b ∷ more) = None

-- a list's two items
abbrev pub two_items : List Term → Option (Term × Term)
two_items [] = None
two_items (a ∷ []) = None
two_items (a ∷ b ∷ []) = Some (a, b)
two_items (a ∷ b ∷ c ∷ more) = None

-- a list's three items
abbrev pub three_items : List Term → Option ThreeTerms
three_items [] = None
three_items (a ∷ []) = None
three_items (a ∷ b ∷ []) = None
three_items (a ∷ b ∷ c ∷ []) = Some (record { first = a; second = b; third = c })
three_items (a ∷ b ∷ c ∷ d ∷ more) = None

-- the argument of a term, where it is this operation on one
abbrev pub arg_of : Op → Term → Option Term
arg_of op t = option_and_then one_item (args_of op t)

-- the arguments of a term, where it is this operation on two
abbrev pub two_args_of : Op → Term → Option (Term × Term)
two_args_of op t = option_and_then two_items (args_of op t)

-- the arguments of a term, where it is this operation on three
abbrev pub three_args_of : Op → Term → Option ThreeTerms
three_args_of op t = option_and_then three_items (args_of op t)

-- the width and number of a value of bits
abbrev pub number_in : Value → Option (ℕ × ℕ)
number_in (Bits w n) = Some (w, n)
number_in _ = None

-- the truth of a value of type bool
abbrev pub truth_in : Value → Option Bool
truth_in (Truth b) = Some b
truth_in _ = None

-- the width and number of a term that is a literal of bits
abbrev pub number_of : Term → Option (ℕ × ℕ)
number_of t = option_and_then number_in (literal_of t)

-- the truth of a term that is a literal of type bool
abbrev pub truth_of : Term → Option Bool
truth_of t = option_and_then truth_in (literal_of t)
