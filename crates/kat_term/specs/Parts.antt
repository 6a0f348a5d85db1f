-- The value and the type of a term, by those of its parts.
use Rattle.std.specs.Prelude.{◌≡◌, ℕ, List, map, option_and_then, slice_get}
use Rattle.std.specs.Option.{option_map}
use Rattle.kat_value.specs.declared.op.Op.{Op}
use Rattle.kat_value.specs.declared.types.Ty.{Ty}
use Rattle.kat_value.specs.declared.types.TypeDecl.{TypeDecl}
use Rattle.kat_value.specs.declared.value.Value.{Value}
use Rattle.kat_term.specs.declared.term.Term.{Term}
use Rattle.kat_term.specs.declared.term.Term.TheVariants.{Var, Lit, Apply, Make, Rec}
use Rattle.kat_value.specs.Operations.{value_of_op}
use Rattle.kat_value.specs.Shown.{type_of_value}
use Rattle.kat_value.specs.OperationTypes.{type_of_application, type_of_making, type_of_record}
use Rattle.kat_term.specs.Types.{type_of}
use Rattle.kat_value.specs.Making.{all_there, value_of_making, value_of_record}
use Rattle.kat_term.specs.Values.{Valuation, literal_value, value_of}

-- the value of each kind of term under a valuation
pub record ValuesByParts (types : List TypeDecl) (v : Valuation) : Type 0 where
  pub variable : (i : ℕ) → value_of types v (Var i) ≡ slice_get v i
  pub literal : (x : Value) → value_of types v (Lit x) ≡ literal_value types x
  pub application :
      (op : Op) (ts : List Term) →
      value_of types v (Apply op ts)
      ≡ option_and_then (value_of_op op) (all_there (map (value_of types v) ts))
  pub making :
      (of ctor : ℕ) (t : Term) →
      value_of types v (Make of ctor t)
      ≡ option_and_then (value_of_making types of ctor) (value_of types v t)
  pub fields :
      (of : ℕ) (ts : List Term) →
      value_of types v (Rec of ts)
      ≡ option_and_then (value_of_record types of) (all_there (map (value_of types v) ts))

-- the type of each kind of term over variables of these types
pub record TypesByParts (types : List TypeDecl) (vars : List Ty) : Type 0 where
  pub variable : (i : ℕ) → type_of types vars (Var i) ≡ slice_get vars i
  pub literal :
      (x : Value) → type_of types vars (Lit x) ≡ option_map type_of_value (literal_value types x)
  pub application :
      (op : Op) (ts : List Term) →
      type_of types vars (Apply op ts)
      ≡ option_and_then (type_of_application types op) (all_there (map (type_of types vars) ts))
  pub making :
      (of ctor : ℕ) (t : Term) →
      type_of types vars (Make of ctor t)
      ≡ option_and_then (type_of_making types of ctor) (type_of types vars t)
  pub fields :
      (of : ℕ) (ts : List Term) →
      type_of types vars (Rec of ts)
      ≡ option_and_then (type_of_record types of) (all_there (map (type_of types vars) ts))

-- under every valuation, and over all variables
abbrev pub TermsByParts : Type 0
TermsByParts =
    ((types : List TypeDecl) (v : Valuation) → ValuesByParts types v)
    × ((types : List TypeDecl) (vars : List Ty) → TypesByParts types vars)
