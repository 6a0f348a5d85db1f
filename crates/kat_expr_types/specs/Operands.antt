-- The types of arguments, as the walk has them.
use Rattle.std.specs.Prelude.{◌≡◌, ◌==◌, ℕ, min, Bool, true, false, List, [], length, take, Option, None, Some}
use Rattle.kat_value.specs.declared.signature.Signature.{Signature}
use Rattle.kat_value.specs.declared.signature.Signature.TheVariants.{Arithmetic, Choice}
use Rattle.kat_value.specs.declared.types.Ty.{Ty}
use Rattle.kat_value.specs.Signatures.{fixed_by}
use Rattle.kat_syntax.specs.declared.type_rule.TypeRule.TheVariants.{CountOther}
use Rattle.kat_syntax.specs.TypeRules.{Fault, unless}
use Rattle.kat_syntax.specs.Declares.{TypedName, types_of}
use Rattle.kat_expr_types.specs.declared.args.ArgTypes.{ArgTypes}

-- the count of an operation's arguments, the first three types, and the type that all of them fix
pub record Keeps (signature : Signature) (types : List (Option Ty)) (kept : ArgTypes) : Type 0 where
  pub count : kept.count ≡ length types
  pub room : length kept.first ≡ 3
  pub first : take (min (length types) 3) kept.first ≡ take 3 types
  pub fixed : kept.fixed ≡ fixed_by signature types

-- whether an operation gives the type that all of its arguments fix
abbrev pub gives_fixed : Signature → Bool
gives_fixed Arithmetic = true
gives_fixed Choice = true
gives_fixed _ = false

-- the types that are wanted of arguments, as far as they are known
abbrev pub wanted_types : Option (List TypedName) → List (Option Ty)
wanted_types None = []
wanted_types (Some params) = types_of params

-- the fault of a list at this tree with another count of arguments than is wanted
abbrev pub count_fault : Option (List TypedName) → ℕ → ℕ → List Fault
count_fault None count at = []
count_fault (Some params) count at = unless (count == length params) at CountOther
