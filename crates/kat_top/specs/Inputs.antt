-- The inputs of a job: what their bytes are read as, or with which fault they are refused.
use Rattle.std.specs.Prelude.{◌≡◌, ◌⊎◌, ℕ, List, [], ◌∷◌, Option, Some, None}
use Rattle.kat_tree.specs.declared.error.TreeError.{TreeError}
use Rattle.kat_tree.specs.declared.error.TreeError.TheVariants as error
use Rattle.kat_tree.specs.declared.tree.Tree.{Tree}
use Rattle.kat_tree.specs.Spelling.{Spells}
use Rattle.kat_tree.specs.Faults.{IsFirstFault}
use Rattle.kat_ast.specs.Spec.{Spec}
use Rattle.kat_shapes.specs.declared.wanted.Wanted.{Wanted}
use Rattle.kat_ast.specs.Specifications.{Reads}
use Rattle.kat_syntax.specs.Machine.{MachineState}
use Rattle.kat_syntax.specs.FirstTypeFault.{TypeFault, IsTyped, first_type_fault}
use Rattle.kat_syntax.specs.Modes.{ModeFault, IsModed, first_mode_fault}
use Rattle.kat_forms.specs.Reading.{IsFirstMisfit}
use Rattle.kat_image.specs.Image.{IsImageOf, IsFirstRefused}
use Rattle.kat_top.specs.declared.fault.Fault.{Fault}
use Rattle.kat_top.specs.declared.fault.Fault.TheVariants as fault
use Rattle.kat_top.specs.declared.fault.TreeKind.{TreeKind}
use Rattle.kat_top.specs.declared.fault.TreeKind.TheVariants.{NotText, Unclosed, Stray, BadToken, Deep}

-- a name is the list of its bytes
abbrev pub Name : Type 0
Name = List ℕ

-- what a file is to be: a specification, one that is typed and moded, which is a machine, or an
-- image of the machine before it
pub data Kind : Type 0 where
  ASpec : Kind
  AModed : Kind
  AnImage : Kind

-- a file that a job asks for
pub record Input : Type 0 where
  pub kind : Kind
  pub name : Name

-- what a file was read as
pub data Thing : Type 0 where
  TheSpec : (spec : Spec) → Thing
  TheModed : (spec : Spec) → Thing
  TheState : (state : MachineState) → Thing

-- the machine among what was read before
abbrev pub machine_of : List Thing → Option Spec
machine_of [] = None
machine_of (TheModed machine ∷ things) = Some machine
machine_of (thing ∷ things) = machine_of things

-- a specification is typed and moded
pub record IsTypedAndModed (spec : Spec) : Type 0 where
  pub typed : IsTyped spec
  pub moded : IsModed spec

-- bytes stand for a specification that is typed and moded
pub record IsModedText (bytes : List ℕ) (spec : Spec) : Type 0 where
  pub reads : Reads bytes spec
  pub passes : IsTypedAndModed spec

-- what bytes are read as, behind what was read before them: a line for each kind
abbrev pub IsReadAs : List Thing → Kind → List ℕ → Thing → Type 0
IsReadAs earlier ASpec bytes thing = (spec : Spec) × (thing ≡ TheSpec spec) × Reads bytes spec
IsReadAs earlier AModed bytes thing =
    (spec : Spec) × (thing ≡ TheModed spec) × IsModedText bytes spec
IsReadAs earlier AnImage bytes thing =
    (machine : Spec) × (state : MachineState) × (machine_of earlier ≡ Some machine)
    × (thing ≡ TheState state) × IsImageOf machine bytes state

-- the error of a text that is no tree
abbrev pub tree_error : TreeKind → ℕ → TreeError
tree_error NotText at = error.NotText at
tree_error Unclosed at = error.Unclosed at
tree_error Stray at = error.Stray at
tree_error BadToken at = error.BadToken at
tree_error Deep at = error.Deep at

-- the bytes are no tree, and the fault is their first one
pub record IsNoTree (bytes : List ℕ) (said : Fault) : Type 0 where
  pub kind : TreeKind
  pub offset : ℕ
  pub said_is : said ≡ fault.Tree kind offset
  pub first : IsFirstFault bytes (tree_error kind offset)

-- the bytes spell a tree that is no specification, and the fault is its first misfit
pub record IsNoSpec (bytes : List ℕ) (said : Fault) : Type 0 where
  pub tree : Tree
  pub place : ℕ
  pub wanted : Wanted
  pub said_is : said ≡ fault.Form place wanted
  pub spelled : Spells bytes tree
  pub first : IsFirstMisfit tree (record { place = place; wanted = wanted })

-- a specification is not typed, and the fault is its first one of typing
pub record IsNotTyped (spec : Spec) (said : Fault) : Type 0 where
  pub found : TypeFault
  pub said_is : said ≡ fault.IllTyped found.decl found.tree found.rule
  pub first : first_type_fault spec ≡ Some found

-- a specification is typed and not moded, and the fault is its first one of modes
pub record IsNotModed (spec : Spec) (said : Fault) : Type 0 where
  pub found : ModeFault
  pub said_is : said ≡ fault.IllModed found.decl found.name
  pub typed : IsTyped spec
  pub first : first_mode_fault spec ≡ Some found

-- the bytes stand for a specification that is not typed, or typed and not moded
pub record IsIllTyped (bytes : List ℕ) (said : Fault) : Type 0 where
  pub spec : Spec
  pub reads : Reads bytes spec
  pub first : IsNotTyped spec said ⊎ IsNotModed spec said

-- the bytes are no image of the machine before them, and the fault is their first line that is not
-- of the format
pub record IsNoImage (earlier : List Thing) (bytes : List ℕ) (said : Fault) : Type 0 where
  pub machine : Spec
  pub line : ℕ
  pub said_is : said ≡ fault.Image line
  pub machine_is : machine_of earlier ≡ Some machine
  pub first : IsFirstRefused machine bytes line

-- the fault with which bytes are refused, behind what was read before them: a line for each kind
abbrev pub IsRefusedAs : List Thing → Kind → List ℕ → Fault → Type 0
IsRefusedAs earlier ASpec bytes said = IsNoTree bytes said ⊎ IsNoSpec bytes said
IsRefusedAs earlier AModed bytes said =
    IsIllTyped bytes said ⊎ (IsNoTree bytes said ⊎ IsNoSpec bytes said)
IsRefusedAs earlier AnImage bytes said = IsNoImage earlier bytes said

-- the bytes stand for a specification that has to be typed and moded, as a file of this kind, and
-- is not
abbrev pub IsIllTypedAs : Kind → List ℕ → Type 0
IsIllTypedAs AModed bytes = (spec : Spec) × Reads bytes spec × (IsTypedAndModed spec → ⊥)
IsIllTypedAs _ bytes = ⊥
