-- What the text of a run tells: the states at its boundaries, and its end.
use Rattle.std.specs.Prelude.{◌≡◌, ◌<◌, ◌≤◌, ◌^◌, ◌+◌, ℕ, List, ◌++◌, All, map}
use Rattle.std.specs.List.{AllByRecursion}
use Rattle.kat_names.specs.Names.{AllDiffer}
use Rattle.kat_value.specs.declared.types.Field.{Field}
use Rattle.kat_value.specs.declared.types.TypeDecl.{TypeDecl}
use Rattle.kat_value.specs.declared.types.TypeDecl.TheVariants.{Enum, Union as UnionType, Rec}
use Rattle.kat_ast.specs.Spec.{Spec}
use Rattle.kat_syntax.specs.Tables.{Name, register_names}
use Rattle.kat_syntax.specs.States.{IsState, first_index, cell_count}
use Rattle.kat_syntax.specs.TypeTable.{types_of_decls}
use Rattle.kat_syntax.specs.Run.{Run, RunEnd, Ended, OutIn, FailedIn}
use Rattle.kat_runner.specs.StateText.{state_text_of}

-- the byte of the digit 0: blanks, newlines and brackets are below it
abbrev pub first_of_words : ℕ
first_of_words = 48

-- a name is one word: no byte of it is a blank, a newline or a bracket
abbrev pub IsWord : Name → Type 0
IsWord name = All (λ byte. first_of_words ≤ byte) name

-- names are words and differ
pub record AreNames (names : List Name) : Type 0 where
  pub words : All IsWord names
  pub distinct : AllDiffer names

-- the names of constructors or fields
abbrev pub names_of_parts : List Field → List Name
names_of_parts parts = map (λ (part : Field). part.name) parts

-- the names that tell the values of a declared type: those of an enum's members, or of a union's
-- constructors
abbrev pub HasValueNames : TypeDecl → Type 0
HasValueNames (Enum x members) = AreNames members
HasValueNames (UnionType x ctors) = AreNames (names_of_parts ctors)
HasValueNames (Rec x fields) = Unit {0}

-- the names of the registers, of the members of an enum and of the constructors of a union are
-- words and differ, and the indices of the memory are below 2 ^ 64
pub record HasNames (spec : Spec) : Type 0 where
  pub registers : AreNames (register_names spec.decls)
  pub types : AllByRecursion HasValueNames (types_of_decls spec.decls)
  pub indices : first_index spec.decls + cell_count spec.decls ≤ 2 ^ 64

-- the numbers of an end are below 2 ^ 64
abbrev pub IsWithinWords : RunEnd → Type 0
IsWithinWords Ended = Unit {0}
IsWithinWords (OutIn cycle) = cycle < 2 ^ 64
IsWithinWords (FailedIn cycle place) =
    (cycle < 2 ^ 64) × (place.decl < 2 ^ 64) × (place.tree < 2 ^ 64)

-- a run whose states are of this machine
pub record IsOfMachine (spec : Spec) (run : Run) : Type 0 where
  pub states : All (IsState spec.decls) run.boundaries
  pub end : IsWithinWords run.end

-- two runs of one machine that print the same text have the same boundary states and the same end
abbrev pub TextTellsRun : Type 0
TextTellsRun =
    (spec : Spec) (first second : Run) → HasNames spec →
    IsOfMachine spec first → IsOfMachine spec second →
    state_text_of spec first ≡ state_text_of spec second → first ≡ second

-- where the texts of two runs of one machine begin one text, the runs are the same and so is what
-- follows: the text of a run is no proper beginning of the text of another
abbrev pub BeginningTellsRun : Type 0
BeginningTellsRun =
    (spec : Spec) (first second : Run) (more other : List ℕ) →
    HasNames spec → IsOfMachine spec first → IsOfMachine spec second →
    state_text_of spec first ++ more ≡ state_text_of spec second ++ other →
    (first ≡ second) × (more ≡ other)
