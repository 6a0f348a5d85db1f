-- Parts of a state: what some registers and some cells hold.
use Rattle.std.specs.Prelude.{◌≡◌, ◌==◌, ◌≤◌, ◌<◌, ℕ, if◌then◌else◌, List, Option, None, Some, slice_get}
use Rattle.kat_value.specs.declared.types.Ty.{Ty}
use Rattle.kat_value.specs.declared.value.Value.{Value}
use Rattle.kat_value.specs.Typing.{HasType}
use Rattle.kat_value.specs.Numbers.{IsNumber}
use Rattle.kat_ast.specs.declared.decl.DeclForm.{DeclForm}
use Rattle.kat_syntax.specs.Machine.{MachineState}
use Rattle.kat_syntax.specs.Memories.{Memory}
use Rattle.kat_syntax.specs.States.{cell_at, memory_of, register_types}
use Rattle.kat_syntax.specs.TypeTable.{types_of_decls}

-- the values of some registers, by their positions in order of declaration, and the numbers of some
-- cells, by their indices
pub record Fragment : Type 0 where
  pub registers : ℕ → Option Value
  pub cells : ℕ → Option ℕ

-- the fragment of no place
abbrev pub nothing : Fragment
nothing = record { registers = λ at. None; cells = λ index. None }

-- the fragment of one register
abbrev pub one_register : ℕ → Value → Fragment
one_register r v =
    record nothing { registers = λ at. if at == r then Some v else None }

-- the fragment of one cell
abbrev pub one_cell : ℕ → ℕ → Fragment
one_cell i n = record nothing { cells = λ index. if index == i then Some n else None }

-- the fragment of all places of a state
abbrev pub whole : MachineState → Fragment
whole state = record { registers = slice_get state.registers; cells = cell_at state }

-- what one place of a union holds, by what the two parts hold there: not both of them have it
abbrev pub JoinAt : {A : Type 0} → Option A → Option A → Option A → Type 0
JoinAt p None g = p ≡ g
JoinAt p (Some v) None = p ≡ Some v
JoinAt p (Some v) (Some w) = ⊥

-- p is the union of the disjoint fragments f and g
pub record Join (p f g : Fragment) : Type 0 where
  pub registers : (at : ℕ) → JoinAt (p.registers at) (f.registers at) (g.registers at)
  pub cells : (index : ℕ) → JoinAt (p.cells index) (f.cells index) (g.cells index)

-- what a place may hold, where it is one: a value of this type
abbrev pub IsOfType : List DeclForm → Option Ty → Value → Type 0
IsOfType decls None v = ⊥
IsOfType decls (Some type) v = HasType (types_of_decls decls) type v

-- what a cell may hold, where its index is one of the memory: a number that fits
abbrev pub IsOfMemory : Option Memory → ℕ → ℕ → Type 0
IsOfMemory None index n = ⊥
IsOfMemory (Some memory) index n =
    (memory.lo ≤ index) × (index < memory.hi) × IsNumber memory.cell_width n

-- a fragment of a machine: its registers hold values of their types, and its cells are cells of the
-- memory and hold numbers that fit
pub record IsFragment (decls : List DeclForm) (f : Fragment) : Type 0 where
  pub registers : (at : ℕ) (v : Value) →
      f.registers at ≡ Some v → IsOfType decls (slice_get (register_types decls) at) v
  pub cells : (index n : ℕ) →
      f.cells index ≡ Some n → IsOfMemory (memory_of decls) index n
