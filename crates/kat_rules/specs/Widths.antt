-- The type of a term as its operation, its variables and its literals tell it, with no look at what
-- is declared: what the fields of a record are is not told. A width is told where it is one.
use Rattle.std.specs.Prelude.{ℕ, Bool, true, false, ◌+◌, ◌-◌, nat_le, if◌then◌else◌, List, Option, Some, None, slice_get, option_and_then}
use Rattle.kat_value.specs.declared.op.Op.{Op}
use Rattle.kat_value.specs.declared.op.Op.TheVariants.{Not, And, Or, Eq, Ult, Ule, Slt, Sle, Slice, Cat, Zext, Sext, Ite, Get}
use Rattle.kat_value.specs.declared.types.Ty.{Ty}
use Rattle.kat_value.specs.declared.types.Ty.TheVariants as ty
use Rattle.kat_value.specs.Signatures.{bits_of}
use Rattle.kat_term.specs.declared.term.Term.{Term}
use Rattle.kat_term.specs.declared.term.Term.TheOpen.{Term-F, Var, Lit, Apply, Make, Rec}
use Rattle.kat_term.specs.declared.term.Term.TheFolds.{fold-Term}
use Rattle.kat_value.specs.Shown.{type_of_value}

-- a type, where it is bool or bits of a width
abbrev pub told : Ty → Option Ty
told ty.Bool = Some ty.Bool
told (ty.Bits w) = bits_of w
told _ = None

-- the type at a place of a list
abbrev pub told_at : List (Option Ty) → ℕ → Option Ty
told_at types i = option_and_then (λ t. t) (slice_get types i)

-- the width of a type of bits
abbrev pub width_of_type : Ty → Option ℕ
width_of_type (ty.Bits w) = Some w
width_of_type _ = None

-- whether a type is bool
abbrev pub is_bool_type : Option Ty → Bool
is_bool_type (Some ty.Bool) = true
is_bool_type _ = false

-- the type of one number above another
abbrev pub joined : Option Ty → Option Ty → Option Ty
joined (Some (ty.Bits v)) (Some (ty.Bits w)) = bits_of (v + w)
joined _ _ = None

-- the type that an operation tells, from those of its arguments
abbrev pub told_by_op : Op → List (Option Ty) → Option Ty
told_by_op Not args = Some ty.Bool
told_by_op And args = Some ty.Bool
told_by_op Or args = Some ty.Bool
told_by_op Eq args = Some ty.Bool
told_by_op Ult args = Some ty.Bool
told_by_op Ule args = Some ty.Bool
told_by_op Slt args = Some ty.Bool
told_by_op Sle args = Some ty.Bool
told_by_op (Slice hi lo) args = if nat_le lo hi then bits_of (hi - lo + 1) else None
told_by_op Cat args = joined (told_at args 0) (told_at args 1)
told_by_op (Zext width) args = bits_of width
told_by_op (Sext width) args = bits_of width
told_by_op Ite args = told_at args 1
told_by_op (Get of field) args = None
told_by_op _ args = told_at args 0

-- the type that one layer of a term tells
abbrev pub told_layer : List Ty → Term-F (Option Ty) → Option Ty
told_layer vars (Var i) = option_and_then told (slice_get vars i)
told_layer vars (Lit x) = told (type_of_value x)
told_layer vars (Apply op args) = told_by_op op args
told_layer vars (Make of ctor inner) = None
told_layer vars (Rec of fields) = None

-- the type that a term over variables of these types tells
abbrev pub told_type : List Ty → Term → Option Ty
told_type vars = fold-Term (Option Ty) (told_layer vars)

-- the width that it tells
abbrev pub width_of : List Ty → Term → Option ℕ
width_of vars t = option_and_then width_of_type (told_type vars t)

-- whether it tells that it is of type bool
abbrev pub is_bool : List Ty → Term → Bool
is_bool vars t = is_bool_type (told_type vars t)

-- goes on with the width of a term
abbrev pub on_width : List Ty → Term → (ℕ → Option Term) → Option Term
on_width vars t go = option_and_then go (width_of vars t)
