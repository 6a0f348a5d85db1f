-- The registers and cells of a machine, by their names and indices, and which places are kept.
use Rattle.std.specs.Prelude.{◌≡◌, ◌&&◌, true, false, IsTrue, length, ℕ, ◌+◌, ◌-◌, ◌==◌, nat_le, Bool, if◌then◌else◌, List, [], ◌∷◌, ◌++◌, map, filter, filter_map, position, Option, None, Some, option_and_then, slice_get, slice_set, unwrap_or}
use Rattle.std.specs.List.{AllByRecursion, list_any, range_with_len}
use Rattle.std.specs.Option.{option_map}
use Rattle.std.specs.Str.{bytes_eq}
use Rattle.kat_names.specs.Names.{position_of}
use Rattle.kat_value.specs.declared.types.Ty.{Ty}
use Rattle.kat_value.specs.declared.types.TypeDecl.{TypeDecl}
use Rattle.kat_value.specs.declared.value.Value.{Value}
use Rattle.kat_value.specs.declared.value.Value.TheVariants.{Bits as Number}
use Rattle.kat_value.specs.Typing.{has_type}
use Rattle.kat_value.specs.Widths.{is_number}
use Rattle.kat_ast.specs.declared.decl.DeclForm.{DeclForm}
use Rattle.kat_ast.specs.declared.decl.DeclForm.TheVariants as d
use Rattle.kat_syntax.specs.Machine.{MachineState}
use Rattle.kat_syntax.specs.Memories.{Memory, memory_from, protects, ranges_of}
use Rattle.kat_syntax.specs.Tables.{Name, RegisterDecl, registers_of, register_names}
use Rattle.kat_syntax.specs.TypeTable.{named_type, types_of_decls}
use Rattle.kat_syntax.specs.TypingExpressions.{is_protected_kind}

-- the types of registers, the first declaration having the number k
abbrev pub register_types_from : List DeclForm → ℕ → List DeclForm → List Ty
register_types_from all k [] = []
register_types_from all k (d.Register x type kind ∷ decls) =
    named_type all k type ∷ register_types_from all (k + 1) decls
register_types_from all k (_ ∷ decls) = register_types_from all (k + 1) decls

-- the types of the registers, in order of declaration; one without values where a written type is
-- none
abbrev pub register_types : List DeclForm → List Ty
register_types decls = register_types_from decls 0 decls

-- the position of the first register of this name
abbrev pub register_position : List DeclForm → Name → Option ℕ
register_position decls r = position_of (register_names decls) r

-- the value at a position that there is
abbrev pub value_at : List Value → Option ℕ → Option Value
value_at values place = option_and_then (slice_get values) place

-- the value of the register of this name
abbrev pub register_value : List DeclForm → Name → List Value → Option Value
register_value decls r registers = value_at registers (register_position decls r)

-- the state with a value in the register at this position
abbrev pub with_register : ℕ → Value → MachineState → MachineState
with_register at v state = record state { registers = slice_set state.registers at v }

-- the number in a cell, where the memory has it
abbrev pub cell_at : MachineState → ℕ → Option ℕ
cell_at state i = if nat_le state.lo i then slice_get state.cells (i - state.lo) else None

-- the state with a number in a cell, where the memory has it
abbrev pub with_cell : ℕ → ℕ → MachineState → MachineState
with_cell i n state =
    if nat_le state.lo i
    then record state { cells = slice_set state.cells (i - state.lo) n }
    else state

-- the memory, where there is one
abbrev pub memory_of : List DeclForm → Option Memory
memory_of decls = memory_from 0 decls

-- the state with a value in the register at this position, where it is of the register's type
abbrev pub written_at : List DeclForm → ℕ → Value → MachineState → Option MachineState
written_at decls at v state =
    option_and_then (λ (type : Ty).
    if has_type (types_of_decls decls) v type then Some (with_register at v state) else None)
    (slice_get (register_types decls) at)

-- the state with a value in the register of this name, where it is of the register's type
abbrev pub written : List DeclForm → Name → Value → MachineState → Option MachineState
written decls r v state =
    option_and_then (λ at. written_at decls at v state) (register_position decls r)

-- a place whose value is kept
pub data KeptPlace : Type 0 where
  KeptRegister : (name : Name) → KeptPlace
  KeptCell : (index : ℕ) → KeptPlace

-- a register as a kept place, where it is protected
abbrev pub kept_register : RegisterDecl → Option KeptPlace
kept_register register =
    if is_protected_kind register.kind then Some (KeptRegister register.name) else None

-- the protected cells of a memory, by index
abbrev pub kept_cells : List DeclForm → Option Memory → List KeptPlace
kept_cells decls None = []
kept_cells decls (Some memory) =
    map KeptCell
    (filter (λ i. list_any (protects i) (ranges_of decls))
    (range_with_len memory.lo (memory.hi - memory.lo)))

-- the kept places: the protected registers in order of declaration, then the protected cells by
-- index
abbrev pub kept_places : List DeclForm → List KeptPlace
kept_places decls =
    filter_map kept_register (registers_of decls) ++ kept_cells decls (memory_of decls)

-- whether a kept place is the register of this name
abbrev pub is_kept_register : Name → KeptPlace → Bool
is_kept_register r (KeptRegister x) = bytes_eq x r
is_kept_register r (KeptCell i) = false

-- whether a kept place is the cell of this index
abbrev pub is_kept_cell : ℕ → KeptPlace → Bool
is_kept_cell n (KeptRegister x) = false
is_kept_cell n (KeptCell i) = i == n

-- the value that a list of kept values has for a place
abbrev pub kept_value : List DeclForm → (KeptPlace → Bool) → List Value → Option Value
kept_value decls is_it kept = value_at kept (position is_it (kept_places decls))

-- the width of cells, and no width where there is no memory
abbrev pub cell_width : List DeclForm → ℕ
cell_width decls =
    unwrap_or (option_map (λ (memory : Memory). memory.cell_width) (memory_of decls)) 0

-- the first index of the memory
abbrev pub first_index : List DeclForm → ℕ
first_index decls = unwrap_or (option_map (λ (memory : Memory). memory.lo) (memory_of decls)) 0

-- how many cells the memory has
abbrev pub cell_count : List DeclForm → ℕ
cell_count decls =
    unwrap_or (option_map (λ (memory : Memory). memory.hi - memory.lo) (memory_of decls)) 0

-- the value of a place in a state
abbrev pub value_of_place : List DeclForm → MachineState → KeptPlace → Option Value
value_of_place decls state (KeptRegister r) = register_value decls r state.registers
value_of_place decls state (KeptCell i) = option_map (Number (cell_width decls)) (cell_at state i)

-- the values of the kept places of a state, in their order
abbrev pub kept_of : List DeclForm → MachineState → List Value
kept_of decls state = filter_map (value_of_place decls state) (kept_places decls)

-- whether values are of these types, one for each
abbrev pub are_of_types : List TypeDecl → List Ty → List Value → Bool
are_of_types types [] [] = true
are_of_types types [] (value ∷ values) = false
are_of_types types (wanted ∷ more) [] = false
are_of_types types (wanted ∷ more) (value ∷ values) =
    has_type types value wanted && are_of_types types more values

-- each register has a value of its type, and each index of the memory a number that fits
pub record IsState (decls : List DeclForm) (state : MachineState) : Type 0 where
  pub registers : IsTrue
      (are_of_types (types_of_decls decls) (register_types decls) state.registers)
  pub first : state.lo ≡ first_index decls
  pub count : length state.cells ≡ cell_count decls
  pub fitting : AllByRecursion (λ n. IsTrue (is_number (cell_width decls) n)) state.cells
