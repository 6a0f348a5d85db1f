-- What rules ask of a term: each goes on with the parts that it finds, where they are there.
use Rattle.std.specs.Prelude.{ℕ, Bool, ◌==◌, if◌then◌else◌, List, Option, Some, None, option_and_then}
use Rattle.std.specs.Option.{option_or}
use Rattle.kat_value.specs.declared.op.Op.{Op}
use Rattle.kat_value.specs.declared.op.Op.TheVariants.{Slice, Zext, Sext, Get}
use Rattle.kat_value.specs.declared.types.Ty.{Ty}
use Rattle.kat_value.specs.Widths.{is_number}
use Rattle.kat_term.specs.declared.term.Term.{Term}
use Rattle.kat_term.specs.declared.term.Term.TheOpen.{Term-F, Apply as Application}
use Rattle.kat_term.specs.declared.term.Term.TheViews.{out-Term}
use Rattle.kat_term.specs.Views.{MadeTerm, RecTerm, ThreeTerms, arg_of, two_args_of, three_args_of, one_item, made_of, rec_of, number_of, truth_of}

-- a rule: the right side, where the left side is there, over variables of these types
abbrev pub Rule : Type 0
Rule = List Ty → Term → Option Term

-- the first of two right sides that is there
abbrev pub or_else : Option Term → Option Term → Option Term
or_else = option_or

-- a term, where a condition holds
abbrev pub only_if : Bool → Term → Option Term
only_if holds t = if holds then Some t else None

-- goes on with the argument of an operation on one
abbrev pub on_one : Op → Term → (Term → Option Term) → Option Term
on_one op t go = option_and_then go (arg_of op t)

-- goes on with the arguments of an operation on two
abbrev pub on_two : Op → Term → (Term → Term → Option Term) → Option Term
on_two op t go = option_and_then (λ args. go args.0 args.1) (two_args_of op t)

-- goes on with the arguments of an operation on three
abbrev pub on_three : Op → Term → (Term → Term → Term → Option Term) → Option Term
on_three op t go =
    option_and_then (λ (args : ThreeTerms). go args.first args.second args.third)
    (three_args_of op t)

-- goes on with the truth of a literal of type bool
abbrev pub on_truth : Term → (Bool → Option Term) → Option Term
on_truth t go = option_and_then go (truth_of t)

-- a number of a width that fits it
abbrev pub fitting : ℕ × ℕ → Option (ℕ × ℕ)
fitting literal = if is_number literal.0 literal.1 then Some literal else None

-- the width and number of a literal of bits that fits its width
abbrev pub fitting_number_of : Term → Option (ℕ × ℕ)
fitting_number_of t = option_and_then fitting (number_of t)

-- goes on with the width and number of a literal of bits
abbrev pub on_bits : Term → (ℕ → ℕ → Option Term) → Option Term
on_bits t go = option_and_then (λ literal. go literal.0 literal.1) (fitting_number_of t)

-- goes on with the number of a literal of this width
abbrev pub on_bits_of : ℕ → Term → (ℕ → Option Term) → Option Term
on_bits_of w t go = on_bits t (λ v n. if v == w then go n else None)

-- goes on with a constructor and its payload
abbrev pub on_made : Term → (MadeTerm → Option Term) → Option Term
on_made t go = option_and_then go (made_of t)

-- goes on with a record's type and fields
abbrev pub on_rec : Term → (RecTerm → Option Term) → Option Term
on_rec t go = option_and_then go (rec_of t)

-- a slice with its bounds
pub record SliceTerm : Type 0 where
  pub hi : ℕ
  pub lo : ℕ
  pub of : Term

-- an extension with the width that it gives
pub record LongerTerm : Type 0 where
  pub width : ℕ
  pub of : Term

-- a field of a record, by the positions of type and field
pub record FieldTerm : Type 0 where
  pub of : ℕ
  pub field : ℕ
  pub from : Term

-- the argument of one layer that is a slice
abbrev pub slice_in : Term-F Term → Option SliceTerm
slice_in (Application (Slice hi lo) args) =
    option_and_then (λ a. Some (record { hi = hi; lo = lo; of = a })) (one_item args)
slice_in _ = None

-- the argument of one layer that is made longer by zeros
abbrev pub zext_in : Term-F Term → Option LongerTerm
zext_in (Application (Zext width) args) =
    option_and_then (λ a. Some (record { width = width; of = a })) (one_item args)
zext_in _ = None

-- the argument of one layer that is made longer by copies of its top bit
abbrev pub sext_in : Term-F Term → Option LongerTerm
sext_in (Application (Sext width) args) =
    option_and_then (λ a. Some (record { width = width; of = a })) (one_item args)
sext_in _ = None

-- the argument of one layer that is a field of a record
abbrev pub field_in : Term-F Term → Option FieldTerm
field_in (Application (Get of field) args) =
    option_and_then (λ a. Some (record { of = of; field = field; from = a })) (one_item args)
field_in _ = None

-- goes on with the bounds and the argument of a slice
abbrev pub on_slice : Term → (ℕ → ℕ → Term → Option Term) → Option Term
on_slice t go = option_and_then (λ (s : SliceTerm). go s.hi s.lo s.of) (slice_in (out-Term t))

-- goes on with the width that a `zext` gives and its argument
abbrev pub on_zext : Term → (ℕ → Term → Option Term) → Option Term
on_zext t go = option_and_then (λ (z : LongerTerm). go z.width z.of) (zext_in (out-Term t))

-- goes on with the width that a `sext` gives and its argument
abbrev pub on_sext : Term → (ℕ → Term → Option Term) → Option Term
on_sext t go = option_and_then (λ (z : LongerTerm). go z.width z.of) (sext_in (out-Term t))

-- goes on with the positions and the argument of a `get`
abbrev pub on_field : Term → (ℕ → ℕ → Term → Option Term) → Option Term
on_field t go =
    option_and_then (λ (f : FieldTerm). go f.of f.field f.from) (field_in (out-Term t))
