-- The text of a run: a piece for each boundary and one for the end. It is said of the boundary
-- states alone.
use Rattle.std.specs.Prelude.{ℕ, ◌+◌, ◌-◌, ◌==◌, ◌&&◌, Bool, nat_le, nat_lt, if◌then◌else◌, List, [], ◌∷◌, ◌++◌, length, codes, Option, None, Some}
use Rattle.std.specs.List.{range_with_len}
use Rattle.std.specs.Fmt.{decimal}
use Rattle.kat_value.specs.declared.types.TypeDecl.{TypeDecl}
use Rattle.kat_value.specs.declared.value.Value.{Value}
use Rattle.kat_value.specs.declared.value.Value.TheVariants.{Bits}
use Rattle.kat_value.specs.Equality.{value_eq}
use Rattle.kat_ast.specs.Spec.{Spec}
use Rattle.kat_ast.specs.declared.decl.DeclForm.{DeclForm}
use Rattle.kat_syntax.specs.Machine.{MachineState}
use Rattle.kat_syntax.specs.States.{cell_at, cell_count, cell_width, first_index}
use Rattle.kat_syntax.specs.Tables.{Name, register_names}
use Rattle.kat_syntax.specs.TypeTable.{types_of_decls}
use Rattle.kat_syntax.specs.Run.{Run, RunEnd, Ended, OutIn, FailedIn}
use Rattle.kat_print.specs.Values.{text_of_value, register_line}

-- a newline
abbrev pub newline : List ℕ
newline = 10 ∷ []

-- a line for every register
abbrev pub register_lines : List TypeDecl → List Name → List Value → List ℕ
register_lines types (name ∷ names) (value ∷ values) =
    register_line types name value ++ register_lines types names values
register_lines types _ _ = []

-- a line for each register whose value is not the one before
abbrev pub changed_registers : List TypeDecl → List Name → List Value → List Value → List ℕ
changed_registers types (name ∷ names) (old ∷ before) (new ∷ after) =
    (if value_eq old new then [] else register_line types name new)
    ++ changed_registers types names before after
changed_registers types _ _ _ = []

-- the cells of a memory as text: the table of types and the width of a cell
pub record CellText : Type 0 where
  pub types : List TypeDecl
  pub width : ℕ

-- the line of a cell: its index in decimal, and its number as bits of its width
abbrev pub cell_line : CellText → ℕ → ℕ → List ℕ
cell_line text index number =
    codes "cell " ++ decimal index ++ codes " "
    ++ text_of_value text.types (Bits text.width number) ++ newline

-- the line of a cell that is not zero, where there is such a cell
abbrev pub filled_line : CellText → ℕ → Option ℕ → List ℕ
filled_line text index None = []
filled_line text index (Some number) = if number == 0 then [] else cell_line text index number

-- the line of a cell whose number is not the one before, where there is such a cell
abbrev pub changed_line : CellText → ℕ → Option ℕ → Option ℕ → List ℕ
changed_line text index None None = []
changed_line text index None (Some new) = cell_line text index new
changed_line text index (Some old) None = []
changed_line text index (Some old) (Some new) =
    if old == new then [] else cell_line text index new

-- a line for each of these cells that is not zero
abbrev pub filled_cells : CellText → MachineState → List ℕ → List ℕ
filled_cells text state [] = []
filled_cells text state (index ∷ indices) =
    filled_line text index (cell_at state index) ++ filled_cells text state indices

-- a line for each of these cells whose number is not the one before
abbrev pub changed_cells : CellText → MachineState → MachineState → List ℕ → List ℕ
changed_cells text before after [] = []
changed_cells text before after (index ∷ indices) =
    changed_line text index (cell_at before index) (cell_at after index)
    ++ changed_cells text before after indices

-- how the cells of a machine are shown
abbrev pub cell_text_of : List DeclForm → CellText
cell_text_of decls = record { types = types_of_decls decls; width = cell_width decls }

-- the indices of the memory, in order; none where there is no memory
abbrev pub indices_of : List DeclForm → List ℕ
indices_of decls = range_with_len (first_index decls) (cell_count decls)

-- whether the memory has this index
abbrev pub is_index : List DeclForm → ℕ → Bool
is_index decls index =
    nat_le (first_index decls) index && nat_lt (index - first_index decls) (cell_count decls)

-- what boundary 0 shows: every register, and each cell that is not zero
abbrev pub first_lines : List DeclForm → MachineState → List ℕ
first_lines decls state =
    register_lines (types_of_decls decls) (register_names decls) state.registers
    ++ filled_cells (cell_text_of decls) state (indices_of decls)

-- what a later boundary shows: the registers and the cells that are not as at the boundary before
abbrev pub later_lines : List DeclForm → MachineState → MachineState → List ℕ
later_lines decls before after =
    changed_registers (types_of_decls decls) (register_names decls) before.registers after.registers
    ++ changed_cells (cell_text_of decls) before after (indices_of decls)

-- a boundary's piece
abbrev pub boundary_piece : ℕ → List ℕ → List ℕ
boundary_piece k lines = codes "at " ++ decimal k ++ newline ++ lines

-- the pieces of the boundaries from k on, behind a boundary with this state
abbrev pub later_pieces : List DeclForm → ℕ → MachineState → List MachineState → List (List ℕ)
later_pieces decls k before [] = []
later_pieces decls k before (state ∷ states) =
    boundary_piece k (later_lines decls before state) ∷ later_pieces decls (k + 1) state states

-- the pieces of the boundaries, boundary 0 being the first
abbrev pub boundary_pieces : List DeclForm → List MachineState → List (List ℕ)
boundary_pieces decls [] = []
boundary_pieces decls (start ∷ states) =
    boundary_piece 0 (first_lines decls start) ∷ later_pieces decls 1 start states

-- the last piece: the number of the last boundary, or the line of the fault
abbrev pub end_piece : ℕ → RunEnd → List ℕ
end_piece last Ended = codes "ended " ++ decimal last ++ newline
end_piece last (OutIn cycle) = codes "out " ++ decimal cycle ++ newline
end_piece last (FailedIn cycle place) =
    codes "failed " ++ decimal cycle ++ codes " " ++ decimal place.decl
    ++ codes " " ++ decimal place.tree ++ newline

-- pieces one after another
abbrev pub joined : List (List ℕ) → List ℕ
joined [] = []
joined (piece ∷ pieces) = piece ++ joined pieces

-- the text of a run's boundaries
abbrev pub boundary_text_of : Spec → Run → List ℕ
boundary_text_of spec run = joined (boundary_pieces spec.decls run.boundaries)

-- the text of a run
abbrev pub state_text_of : Spec → Run → List ℕ
state_text_of spec run = boundary_text_of spec run ++ end_piece (length run.boundaries - 1) run.end
