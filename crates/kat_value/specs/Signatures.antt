-- The types of operations: what each takes, and what it gives. A type that nothing fixes is none,
-- and may be any.
use Rattle.std.specs.Prelude.{ℕ, Bool, true, false, ◌+◌, ◌-◌, ◌==◌, ◌&&◌, ◌||◌, nat_le, nat_lt, if◌then◌else◌, List, [], ◌∷◌, length, Option, Some, None, option_and_then, slice_get}
use Rattle.std.specs.Option.{option_map, option_or}
use Rattle.kat_value.specs.declared.op.Op.{Op}
use Rattle.kat_value.specs.declared.op.Op.TheVariants as op
use Rattle.kat_value.specs.declared.signature.Signature.{Signature}
use Rattle.kat_value.specs.declared.signature.Signature.TheVariants.{Truths, Equality, Comparison, Arithmetic, Slice, Cat, Extension, Choice, Get}
use Rattle.kat_value.specs.declared.types.Field.{Field}
use Rattle.kat_value.specs.declared.types.Ty.{Ty}
use Rattle.kat_value.specs.declared.types.Ty.TheVariants as ty
use Rattle.kat_value.specs.declared.types.TypeDecl.{TypeDecl}
use Rattle.kat_value.specs.Typing.{fields_at}
use Rattle.kat_value.specs.Widths.{widest, is_width}
use Rattle.kat_value.specs.Words.{arity_of}

-- whether two types are the same
abbrev pub same_type : Ty → Ty → Bool
same_type ty.Unit ty.Unit = true
same_type ty.Bool ty.Bool = true
same_type (ty.Bits v) (ty.Bits w) = v == w
same_type (ty.Enum i) (ty.Enum j) = i == j
same_type (ty.Union i) (ty.Union j) = i == j
same_type (ty.Rec i) (ty.Rec j) = i == j
same_type _ _ = false

-- whether two may be of one type
abbrev pub agree : Option Ty → Option Ty → Bool
agree None u = true
agree (Some t) None = true
agree (Some t) (Some u) = same_type t u

-- whether it may be a type of bits
abbrev pub may_be_bits : Option Ty → Bool
may_be_bits None = true
may_be_bits (Some (ty.Bits w)) = true
may_be_bits (Some _) = false

-- bits of this width, where it is one
abbrev pub bits_of : ℕ → Option Ty
bits_of w = if is_width w then Some (ty.Bits w) else None

-- how an operation is typed
abbrev pub signature_of : Op → Signature
signature_of op.Not = Truths
signature_of op.And = Truths
signature_of op.Or = Truths
signature_of op.Eq = Equality
signature_of op.Ult = Comparison
signature_of op.Ule = Comparison
signature_of op.Slt = Comparison
signature_of op.Sle = Comparison
signature_of (op.Slice hi lo) = Slice hi lo
signature_of op.Cat = Cat
signature_of (op.Zext width) = Extension width
signature_of (op.Sext width) = Extension width
signature_of op.Ite = Choice
signature_of (op.Get of field) = Get of field
signature_of _ = Arithmetic

-- whether the argument at a position may be of this type, behind arguments that fixed the other
abbrev pub takes : Signature → ℕ → Option Ty → Option Ty → Bool
takes Truths at fixed type = agree (Some ty.Bool) type
takes Equality at fixed type = agree fixed type
takes Comparison at fixed type = may_be_bits type && agree fixed type
takes Arithmetic at fixed type = may_be_bits type && agree fixed type
takes (Slice hi lo) at fixed type = may_be_bits type
takes Cat at fixed type = may_be_bits type
takes (Extension width) at fixed type = may_be_bits type
takes Choice at fixed type =
    if at == 0 then agree (Some ty.Bool) type
    else (may_be_bits type || agree (Some ty.Bool) type) && agree fixed type
takes (Get of field) at fixed type = agree (Some (ty.Rec of)) type

-- whether the argument at a position is the truth that chooses, whose type says nothing of the
-- others
abbrev pub is_test : Signature → ℕ → Bool
is_test Choice at = at == 0
is_test _ at = false

-- the type that is fixed behind the argument at a position: by the first that is known and may
-- stand there
abbrev pub fixed_behind : Signature → ℕ → Option Ty → Option Ty → Option Ty
fixed_behind signature at fixed type =
    if is_test signature at then fixed
    else if takes signature at fixed type then option_or fixed type else fixed

-- the type that arguments fix, the first of them at this position
abbrev pub fixed_from : Signature → ℕ → Option Ty → List (Option Ty) → Option Ty
fixed_from signature at fixed [] = fixed
fixed_from signature at fixed (type ∷ types) =
    fixed_from signature (at + 1) (fixed_behind signature at fixed type) types

-- the type that all arguments fix
abbrev pub fixed_by : Signature → List (Option Ty) → Option Ty
fixed_by signature args = fixed_from signature 0 None args

-- the type of two arguments of bits one above the other
abbrev pub joined_bits : List (Option Ty) → Option Ty
joined_bits (Some (ty.Bits v) ∷ Some (ty.Bits w) ∷ []) = bits_of (v + w)
joined_bits _ = None

-- the type of a field of a record
abbrev pub type_of_field : List TypeDecl → ℕ → ℕ → Option Ty
type_of_field types of field =
    option_map (λ (found : Field). found.ty)
    (option_and_then (λ fields. slice_get fields field) (fields_at types of))

-- the type that an operation gives on arguments of these types, whatever faults there are; none
-- where nothing fixes it
abbrev pub type_given : List TypeDecl → Signature → List (Option Ty) → Option Ty
type_given types Truths args = Some ty.Bool
type_given types Equality args = Some ty.Bool
type_given types Comparison args = Some ty.Bool
type_given types Arithmetic args = fixed_by Arithmetic args
type_given types (Slice hi lo) args = if nat_le lo hi then bits_of (hi - lo + 1) else None
type_given types Cat args = joined_bits args
type_given types (Extension width) args = bits_of width
type_given types Choice args = fixed_by Choice args
type_given types (Get of field) args = type_of_field types of field

-- whether a bit at this place is one of bits of this type, where it is known
abbrev pub has_place : ℕ → List (Option Ty) → Bool
has_place place (Some (ty.Bits w) ∷ []) = nat_lt place w
has_place place _ = true

-- whether the widths go together, as far as they are known: a slice stands within its argument, two
-- parts are no wider than bits can be, and an extension is no shorter than its argument
abbrev pub widths_fit : Signature → List (Option Ty) → Bool
widths_fit (Slice hi lo) args = nat_le lo hi && has_place hi args
widths_fit Cat (Some (ty.Bits v) ∷ Some (ty.Bits w) ∷ []) = nat_le (v + w) widest
widths_fit (Extension width) (Some (ty.Bits v) ∷ []) = nat_le v width
widths_fit _ args = true

-- whether each argument may stand where it does, the first of them at this position
abbrev pub all_taken : Signature → ℕ → Option Ty → List (Option Ty) → Bool
all_taken signature at fixed [] = true
all_taken signature at fixed (type ∷ types) =
    takes signature at fixed type
    && all_taken signature (at + 1) (fixed_behind signature at fixed type) types

-- whether an operation takes arguments of these types without a fault
abbrev pub accepts : Op → List (Option Ty) → Bool
accepts op args =
    (length args == arity_of op)
    && (all_taken (signature_of op) 0 None args && widths_fit (signature_of op) args)

-- the type of an operation on arguments of these types; none where it does not take them, or
-- nothing fixes it
abbrev pub type_of_op : List TypeDecl → Op → List (Option Ty) → Option Ty
type_of_op types op args = if accepts op args then type_given types (signature_of op) args else None
