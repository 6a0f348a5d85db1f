-- Values of what typing knows of their types: of expressions, of locals, and of what expressions
-- read where they stand.
use Rattle.std.specs.Prelude.{◌≡◌, IsTrue, List, Option, Some, None}
use Rattle.std.specs.List.{AllZip}
use Rattle.kat_value.specs.declared.types.Ty.{Ty}
use Rattle.kat_value.specs.declared.types.TypeDecl.{TypeDecl}
use Rattle.kat_value.specs.declared.value.Value.{Value}
use Rattle.kat_value.specs.Typing.{HasType}
use Rattle.kat_ast.specs.declared.decl.DeclForm.{DeclForm}
use Rattle.kat_syntax.specs.Declares.{TypedName}
use Rattle.kat_syntax.specs.Evaluation.{Locals, Reads, Nothing, Registers, KeptValues, BothEnds}
use Rattle.kat_syntax.specs.Machine.{MachineState}
use Rattle.kat_syntax.specs.States.{IsState, are_of_types, kept_of, register_types}
use Rattle.kat_syntax.specs.Tables.{Name}
use Rattle.kat_syntax.specs.TypesWritten.{Scope}
use Rattle.kat_syntax.specs.TypeTable.{types_of_decls}
use Rattle.kat_syntax.specs.TypingExpressions.{Standing, Plain, InDispatch, WithKept, InChange}

-- a value is of what typing knows of its type: where nothing fixes the type, there is no value
abbrev pub IsOfKnown : List TypeDecl → Option Ty → Value → Type 0
IsOfKnown types None value = ⊥
IsOfKnown types (Some type) value = HasType types type value

-- there is a value, and it is of what typing knows of its type
pub record HasKnownValue (types : List TypeDecl) (known : Option Ty) (value : Option Value) :
    Type 0 where
  pub one : Value
  pub there : value ≡ Some one
  pub typed : IsOfKnown types known one

-- a local is what a scope says: of the same name, its value being of what is known of its type
abbrev pub IsLocal : List TypeDecl → TypedName → Name × Value → Type 0
IsLocal types known local = (known.name ≡ local.0) × IsOfKnown types known.type local.1

-- locals are of a scope: one for each of its names, in the same order
abbrev pub AreOfScope : List TypeDecl → Scope → Locals → Type 0
AreOfScope types scope locals = AllZip (IsLocal types) scope locals

-- values are those of the kept places of a state of the machine
abbrev pub AreKept : List DeclForm → List Value → Type 0
AreKept decls kept =
    (state : MachineState) × IsState decls state × (kept ≡ kept_of decls state)

-- what expressions read is what typing takes where they stand: a value for each register in the
-- dispatch, kept values in the untrusted assertion and entries, in a `change` those of both ends,
-- and nothing elsewhere
abbrev pub AreReadsOf : List DeclForm → Standing → Reads → Type 0
AreReadsOf decls Plain Nothing = Unit {0}
AreReadsOf decls InDispatch (Registers registers) =
    IsTrue (are_of_types (types_of_decls decls) (register_types decls) registers)
AreReadsOf decls WithKept (KeptValues kept) = AreKept decls kept
AreReadsOf decls InChange (BothEnds before after) = AreKept decls before × AreKept decls after
AreReadsOf decls _ _ = ⊥
