-- What a cycle from a state is, and what is guarded there.
use Rattle.std.specs.Prelude.{◌≡◌, ◌+◌, ℕ, if◌then◌else◌, List, [], ◌∷◌, Option, None, Some}
use Rattle.std.specs.Option.{option_map}
use Rattle.std.specs.Str.{bytes_eq}
use Rattle.kat_ast.specs.declared.assertion.Assertion.{Assertion}
use Rattle.kat_ast.specs.declared.decl.Block.{Block}
use Rattle.kat_ast.specs.declared.decl.DeclForm.{DeclForm}
use Rattle.kat_ast.specs.declared.decl.DeclForm.TheVariants as d
use Rattle.kat_ast.specs.declared.decl.Phase.{Phase}
use Rattle.kat_ast.specs.declared.decl.Phase.TheVariants as phase
use Rattle.kat_ast.specs.declared.decl.When.{When}
use Rattle.kat_syntax.specs.Evaluation.{Environment, Registers, KeptValues, value_of_expr}
use Rattle.kat_syntax.specs.Fragments.{Fragment, Join, whole}
use Rattle.kat_syntax.specs.Holds.{Holds, is_true}
use Rattle.kat_syntax.specs.Machine.{MachineState}
use Rattle.kat_syntax.specs.States.{KeptPlace, KeptRegister, KeptCell, cell_at, kept_of, kept_places, register_position}
use Rattle.kat_syntax.specs.Tables.{Name}

-- where the conditions of the dispatch are read: the registers of a state
abbrev pub in_dispatch : List DeclForm → MachineState → Environment
in_dispatch decls state = record { decls = decls; reads = Registers state.registers; locals = [] }

-- the phase of the first true condition, or of the `else`; a condition without a value is not true
abbrev pub first_true : Environment → List When → Phase → Phase
first_true env [] otherwise = otherwise
first_true env (case ∷ cases) otherwise =
    if is_true (value_of_expr env case.test) then case.phase else first_true env cases otherwise

-- the phase by the first dispatch among these declarations
abbrev pub phase_by : Environment → List DeclForm → Option Phase
phase_by env [] = None
phase_by env (d.Dispatch cases otherwise ∷ decls) = Some (first_true env cases otherwise)
phase_by env (_ ∷ decls) = phase_by env decls

-- what a cycle from a state is; a specification without a dispatch says nothing of it
abbrev pub phase_of : List DeclForm → MachineState → Option Phase
phase_of decls state = phase_by (in_dispatch decls state) decls

-- the first block of this name
abbrev pub block_of : List DeclForm → Name → Option Block
block_of [] x = None
block_of (d.Block block ∷ decls) x =
    if bytes_eq block.name x then Some block else block_of decls x
block_of (_ ∷ decls) x = block_of decls x

-- the first untrusted assertion
abbrev pub untrusted_of : List DeclForm → Option Assertion
untrusted_of [] = None
untrusted_of (d.Untrusted assertion ∷ decls) = Some assertion
untrusted_of (_ ∷ decls) = untrusted_of decls

-- the name of the first boot block
abbrev pub boot_of : List DeclForm → Option Name
boot_of [] = None
boot_of (d.Boot x ∷ decls) = Some x
boot_of (_ ∷ decls) = boot_of decls

-- the stated values of the cells of `(code lo n ..)`, each at its index in a state
abbrev pub AreStated : MachineState → ℕ → List ℕ → Type 0
AreStated state lo [] = Unit {0}
AreStated state lo (n ∷ values) = (cell_at state lo ≡ Some n) × AreStated state (lo + 1) values

-- every code cell has its stated value
abbrev pub IsCodeThere : List DeclForm → MachineState → Type 0
IsCodeThere [] state = Unit {0}
IsCodeThere (d.Code lo values ∷ decls) state = AreStated state lo values × IsCodeThere decls state
IsCodeThere (_ ∷ decls) state = IsCodeThere decls state

-- a fragment does not have a kept place
abbrev pub IsWithout : List DeclForm → Fragment → KeptPlace → Type 0
IsWithout decls f (KeptRegister r) =
    (at : ℕ) → register_position decls r ≡ Some at → f.registers at ≡ None
IsWithout decls f (KeptCell i) = f.cells i ≡ None

-- a fragment has none of so many cells from an index on
abbrev pub IsWithoutCells : Fragment → ℕ → List ℕ → Type 0
IsWithoutCells f lo [] = Unit {0}
IsWithoutCells f lo (n ∷ values) = (f.cells lo ≡ None) × IsWithoutCells f (lo + 1) values

-- a fragment has no code cell
abbrev pub IsWithoutCode : List DeclForm → Fragment → Type 0
IsWithoutCode [] f = Unit {0}
IsWithoutCode (d.Code lo values ∷ decls) f = IsWithoutCells f lo values × IsWithoutCode decls f
IsWithoutCode (_ ∷ decls) f = IsWithoutCode decls f

-- a fragment has no kept place
abbrev pub IsWithoutAll : List DeclForm → Fragment → List KeptPlace → Type 0
IsWithoutAll decls f [] = Unit {0}
IsWithoutAll decls f (place ∷ places) = IsWithout decls f place × IsWithoutAll decls f places

-- where the untrusted assertion and entries are read: the kept values of a state
abbrev pub with_kept : List DeclForm → MachineState → Environment
with_kept decls state =
    record { decls = decls; reads = KeptValues (kept_of decls state); locals = [] }

-- a state is guarded by an assertion: every code cell has its stated value, and a fragment of the
-- state without kept places and code cells holds the assertion with the state's kept values
pub record IsGuardedBy
    (decls : List DeclForm) (state : MachineState) (guard : Assertion) : Type 0 where
  pub code : IsCodeThere decls state
  pub owned : Fragment
  pub rest : Fragment
  pub part : Join (whole state) owned rest
  pub without_kept : IsWithoutAll decls owned (kept_places decls)
  pub without_code : IsWithoutCode decls owned
  pub holds : Holds guard (with_kept decls state) owned

-- guarded by an assertion that is declared
abbrev pub IsGuardedIn : List DeclForm → MachineState → Option Assertion → Type 0
IsGuardedIn decls state None = ⊥
IsGuardedIn decls state (Some guard) = IsGuardedBy decls state guard

-- the entry of a block
abbrev pub entry_of : List DeclForm → Name → Option Assertion
entry_of decls x = option_map (λ (block : Block). block.entry) (block_of decls x)

-- guarded in this phase: by the untrusted assertion, or by the entry of the block
abbrev pub IsGuardedAt : List DeclForm → MachineState → Option Phase → Type 0
IsGuardedAt decls state None = ⊥
IsGuardedAt decls state (Some phase.Untrusted) = IsGuardedIn decls state (untrusted_of decls)
IsGuardedAt decls state (Some phase.Inside) = ⊥
IsGuardedAt decls state (Some (phase.Block x)) = IsGuardedIn decls state (entry_of decls x)

-- a state is guarded
abbrev pub IsGuarded : List DeclForm → MachineState → Type 0
IsGuarded decls state = IsGuardedAt decls state (phase_of decls state)

-- a state boots: its phase is the boot block, and it is guarded
pub record Boots (decls : List DeclForm) (state : MachineState) : Type 0 where
  pub name : Name
  pub declared : boot_of decls ≡ Some name
  pub phase : phase_of decls state ≡ Some (phase.Block name)
  pub guarded : IsGuarded decls state
