-- Fresh values: of type unit it is unit, of a record type the record of fresh values of its fields
-- in order, and of any other type a new variable.
use Rattle.std.specs.Prelude.{ℕ, zero, suc, ◌+◌, List, [], ◌∷◌, ◌++◌, length, Option, Some, None}
use Rattle.kat_value.specs.declared.types.Field.{Field}
use Rattle.kat_value.specs.declared.types.Ty.{Ty}
use Rattle.kat_value.specs.declared.types.Ty.TheVariants as ty
use Rattle.kat_value.specs.declared.types.TypeDecl.{TypeDecl}
use Rattle.kat_value.specs.Typing.{fields_at}
use Rattle.kat_term.specs.declared.term.Term.{Term}
use Rattle.kat_term.specs.declared.term.Term.TheVariants.{Var, Rec}
use Rattle.kat_term.specs.Views.{unit}

-- a fresh value with the types of its new variables, in order of their numbers
pub record Fresh : Type 0 where
  pub term : Term
  pub vars : List Ty

-- fresh values in order, with the types of their new variables
pub record FreshList : Type 0 where
  pub terms : List Term
  pub vars : List Ty

-- unit, or the variable with the next number
abbrev pub fresh_variable : Ty → ℕ → Fresh
fresh_variable ty.Unit next = record { term = unit; vars = [] }
fresh_variable t next = record { term = Var next; vars = t ∷ [] }

-- a fresh value before others
abbrev pub fresh_before : Fresh → FreshList → FreshList
fresh_before first rest = record { terms = first.term ∷ rest.terms; vars = first.vars ++ rest.vars }

-- fresh values of the types of fields, whose variables are numbered on
abbrev pub fresh_fields : (Ty → ℕ → Fresh) → List Field → ℕ → FreshList
fresh_fields fresh [] next = record { terms = []; vars = [] }
fresh_fields fresh (field ∷ fields) next =
    fresh_before (fresh field.ty next)
    (fresh_fields fresh fields (next + length (fresh field.ty next).vars))

-- the record of fresh values
abbrev pub fresh_record : ℕ → FreshList → Fresh
fresh_record of fields = record { term = Rec of fields.terms; vars = fields.vars }

-- the record of fresh values of these fields, where the table has them
abbrev pub fresh_rec : (Ty → ℕ → Fresh) → ℕ → Option (List Field) → ℕ → Fresh
fresh_rec fresh of (Some fields) next = fresh_record of (fresh_fields fresh fields next)
fresh_rec fresh of None next = fresh_variable (ty.Rec of) next

-- a fresh value of a type, with fresh values of the types of its fields
abbrev pub fresh_by : (Ty → ℕ → Fresh) → List TypeDecl → Ty → ℕ → Fresh
fresh_by fresh types (ty.Rec of) next = fresh_rec fresh of (fields_at types of) next
fresh_by fresh types t next = fresh_variable t next

-- a fresh value of a type, records standing in one another as deep as this
abbrev pub fresh_within : List TypeDecl → ℕ → Ty → ℕ → Fresh
fresh_within types zero t next = fresh_variable t next
fresh_within types (suc levels) t next = fresh_by (fresh_within types levels) types t next

-- a fresh value of a type, its variables numbered from this on. A type names earlier types alone,
-- so no more records stand in one another than there are types
abbrev pub fresh_of : List TypeDecl → Ty → ℕ → Fresh
fresh_of types t next = fresh_within types (length types) t next
