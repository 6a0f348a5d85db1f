-- The text of a state as an image.
use Rattle.std.specs.Prelude.{ℕ, ◌+◌, ◌*◌, ◌==◌, ◌||◌, nat_lt, if◌then◌else◌, List, [], ◌∷◌, ◌++◌, codes}
use Rattle.std.specs.Fmt.{decimal}
use Rattle.kat_text.specs.Hexadecimal.{hex_digits}
use Rattle.kat_value.specs.declared.types.TypeDecl.{TypeDecl}
use Rattle.kat_value.specs.declared.value.Value.{Value}
use Rattle.kat_ast.specs.Spec.{Spec}
use Rattle.kat_syntax.specs.Machine.{MachineState}
use Rattle.kat_syntax.specs.States.{cell_width}
use Rattle.kat_syntax.specs.Tables.{Name, register_names}
use Rattle.kat_syntax.specs.TypeTable.{types_of_decls}
use Rattle.kat_print.specs.Values.{register_line}
use Rattle.kat_image.specs.Lines.{size_of_cell}

-- a line for every register
abbrev pub register_lines : List TypeDecl → List Name → List Value → List ℕ
register_lines types (name ∷ names) (value ∷ values) =
    register_line types name value ++ register_lines types names values
register_lines types _ _ = []

-- the end of a line of so many cells, where there is one
abbrev pub line_end : ℕ → List ℕ
line_end count = if nat_lt 0 count then 10 ∷ [] else []

-- what stands before a cell that is not zero, behind so many on the open line: a line begins with
-- each run, and behind eight cells
abbrev pub cell_start : ℕ → ℕ → List ℕ
cell_start index count =
    if (count == 0) || (count == 8)
    then line_end count ++ codes "cells " ++ decimal index ++ 32 ∷ []
    else []

-- a cell of so many digits, behind so many on the open line; one that is zero ends the line
abbrev pub cell_text : ℕ → ℕ → ℕ → ℕ → List ℕ
cell_text digits index count number =
    if number == 0
    then line_end count
    else cell_start index count ++ hex_digits digits number

-- how many cells the open line has behind a cell
abbrev pub count_behind : ℕ → ℕ → ℕ
count_behind count number =
    if number == 0 then 0 else if count == 8 then 1 else count + 1

-- cells of so many digits, the first having this index, behind so many on the open line
abbrev pub cells_text : ℕ → ℕ → ℕ → List ℕ → List ℕ
cells_text digits index count [] = line_end count
cells_text digits index count (number ∷ cells) =
    cell_text digits index count number
    ++ cells_text digits (index + 1) (count_behind count number) cells

-- how many digits a cell of so many bits has: two for each byte
abbrev pub digits_of_cell : ℕ → ℕ
digits_of_cell width = 2 * size_of_cell width

-- every register, and each run of cells that are not zero, at most eight on a line
abbrev pub image_text_of : Spec → MachineState → List ℕ
image_text_of spec state =
    register_lines (types_of_decls spec.decls) (register_names spec.decls) state.registers
    ++ cells_text (digits_of_cell (cell_width spec.decls)) state.lo 0 state.cells
