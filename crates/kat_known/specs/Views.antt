-- What is asked of terms and lists: each goes on with what it finds, where that is there.
use Rattle.std.specs.Prelude.{ℕ, Bool, true, false, not, ◌&&◌, ◌||◌, if◌then◌else◌, List, [], ◌∷◌, Option, Some, None, option_and_then}
use Rattle.std.specs.Option.{option_map}
use Rattle.kat_value.specs.declared.op.Op.{Op}
use Rattle.kat_value.specs.declared.op.Op.TheVariants.{Not, And, Or}
use Rattle.kat_value.specs.declared.types.Ty.{Ty}
use Rattle.kat_term.specs.declared.term.Term.{Term}
use Rattle.kat_term.specs.declared.term.Term.TheOpen.{Term-F, Var, Lit, Apply, Make, Rec}
use Rattle.kat_term.specs.declared.term.Term.TheViews.{out-Term}
use Rattle.kat_term.specs.Equality.{term_eq}
use Rattle.kat_term.specs.Views.{arg_of, two_args_of, number_of}
use Rattle.kat_rules.specs.Widths.{is_bool}

-- goes on with the argument of a term, where it is this operation on one
abbrev pub with_one : {B : Type 0} → Op → Term → (Term → Option B) → Option B
with_one op t go = option_and_then go (arg_of op t)

-- goes on with the arguments of a term, where it is this operation on two
abbrev pub with_two : {B : Type 0} → Op → Term → (Term → Term → Option B) → Option B
with_two op t go = option_and_then (λ args. go args.0 args.1) (two_args_of op t)

-- goes on with the number of a literal of bits
abbrev pub with_number : {B : Type 0} → Term → (ℕ → B) → Option B
with_number t go = option_map (λ literal. go literal.1) (number_of t)

-- a thing, where a condition holds
abbrev pub where_so : {B : Type 0} → Bool → Option B → Option B
where_so holds o = if holds then o else None

-- whether a term is in a list
abbrev pub contains : Term → List Term → Bool
contains t [] = false
contains t (u ∷ us) = term_eq t u || contains t us

-- whether a term that may not be there is in a list
abbrev pub contains_there : Option Term → List Term → Bool
contains_there None us = false
contains_there (Some t) us = contains t us

-- whether an operation joins truths
abbrev pub is_joint_op : Op → Bool
is_joint_op Not = true
is_joint_op And = true
is_joint_op Or = true
is_joint_op _ = false

-- whether one layer is a literal or joins truths
abbrev pub is_joint : Term-F Term → Bool
is_joint (Var i) = false
is_joint (Lit x) = true
is_joint (Apply op args) = is_joint_op op
is_joint (Make of ctor inner) = false
is_joint (Rec of fields) = false

-- whether a term is an atom: of type bool, and no literal, `not`, `and` or `or`
abbrev pub is_atom : List Ty → Term → Bool
is_atom vars t = is_bool vars t && not (is_joint (out-Term t))
