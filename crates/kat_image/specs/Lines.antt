-- What one line of an image sets.
use Rattle.std.specs.Prelude.{ℕ, ◌+◌, ◌-◌, ◌*◌, ◌/◌, ◌&&◌, ◌≡◌, ◌≤◌, true, IsTrue, nat_le, nat_lt, if◌then◌else◌, List, [], ◌∷◌, codes, length, take, drop, slice_get, zero, suc, Option, None, Some, option_and_then, Result, Ok, Err}
use Rattle.std.specs.List.{AllByRecursion}
use Rattle.std.specs.Option.{option_map}
use Rattle.std.specs.Str.{bytes_eq}
use Rattle.hex.specs.Hex.{decode_of}
use Rattle.hex.specs.declared.error.FromHexError.{FromHexError}
use Rattle.kat_value.specs.declared.types.Ty.{Ty}
use Rattle.kat_value.specs.declared.types.TypeDecl.{TypeDecl}
use Rattle.kat_value.specs.declared.value.Value.{Value}
use Rattle.kat_value.specs.Typing.{has_type}
use Rattle.kat_value.specs.Widths.{is_number, is_width}
use Rattle.kat_ast.specs.Spec.{Spec}
use Rattle.kat_syntax.specs.Memories.{Memory}
use Rattle.kat_syntax.specs.States.{register_position, register_types, cell_count, cell_width, memory_of}
use Rattle.kat_syntax.specs.TypeTable.{types_of_decls}
use Rattle.kat_image.specs.declared.setting.Setting.{Setting}
use Rattle.kat_image.specs.declared.setting.Setting.TheVariants.{Register, Cells}
use Rattle.kat_image.specs.Words.{word_front, behind, index_of}
use Rattle.kat_image.specs.ValueText.{value_front}

-- a value of this type, where nothing stands behind it
abbrev pub whole_value : List TypeDecl → Ty → Value × List ℕ → Option Value
whole_value types type read =
    if nat_lt 0 (length read.1) then None
    else if has_type types read.0 type then Some read.0
    else None

-- the value of this type that a text is
abbrev pub value_in : List TypeDecl → Ty → List ℕ → Option Value
value_in types type text =
    option_and_then (whole_value types type) (value_front (length types + 1) types type text)

-- `NAME VALUE`: a register and a value of its type
abbrev pub register_setting : Spec → List ℕ → Option Setting
register_setting spec text =
    option_and_then (λ (name : List ℕ × List ℕ).
    option_and_then (λ at.
    option_and_then (λ type.
    option_and_then (λ rest.
    option_map (Register at) (value_in (types_of_decls spec.decls) type rest))
    (behind 32 name.1))
    (slice_get (register_types spec.decls) at))
    (register_position spec.decls name.0))
    (word_front text)

-- the number that bytes make behind a number, the highest first
abbrev pub bytes_behind : ℕ → List ℕ → ℕ
bytes_behind number [] = number
bytes_behind number (byte ∷ bytes) = bytes_behind (number * 256 + byte) bytes

-- how many bytes a cell of so many bits has
abbrev pub size_of_cell : ℕ → ℕ
size_of_cell width = (width + 7) / 8

-- the number of the cell of so many bits at the front of bytes, where it fits
abbrev pub cell_in : ℕ → List ℕ → Option ℕ
cell_in width bytes =
    if nat_le (size_of_cell width) (length bytes)
    && is_number width (bytes_behind 0 (take (size_of_cell width) bytes))
    then Some (bytes_behind 0 (take (size_of_cell width) bytes))
    else None

-- the numbers of cells of so many bits, at most n of them, that are all of the bytes
abbrev pub cells_in : ℕ → ℕ → List ℕ → Option (List ℕ)
cells_in width n [] = Some []
cells_in width zero (byte ∷ bytes) = None
cells_in width (suc n) (byte ∷ bytes) =
    option_and_then (λ number.
    option_map (λ more. number ∷ more)
    (cells_in width n (drop (size_of_cell width) (byte ∷ bytes))))
    (cell_in width (byte ∷ bytes))

-- the bytes that hexadecimal digits of either case are
abbrev pub decoded : Result (List ℕ) FromHexError → Option (List ℕ)
decoded (Ok bytes) = Some bytes
decoded (Err error) = None

-- the numbers of at least one cell of so many bits
abbrev pub numbers_in : ℕ → List ℕ → Option (List ℕ)
numbers_in width bytes =
    if is_width width && nat_lt 0 (length bytes) then cells_in width (length bytes) bytes else None

-- numbers for the cells of a memory from this index on, where it has them all
abbrev pub placed_in : List ℕ → ℕ → Memory → Option Setting
placed_in numbers index memory =
    if nat_le memory.lo index && nat_le (index + length numbers) memory.hi
    then Some (Cells (index - memory.lo) numbers)
    else None

-- the same in the memory of a machine
abbrev pub placed : Spec → ℕ → List ℕ → Option Setting
placed spec index numbers = option_and_then (placed_in numbers index) (memory_of spec.decls)

-- `INDEX HEX`: the cells from an index on, and their bytes
abbrev pub cells_setting : Spec → List ℕ → Option Setting
cells_setting spec text =
    option_and_then (λ (word : List ℕ × List ℕ).
    option_and_then (λ index.
    option_and_then (λ hex.
    option_and_then (placed spec index)
    (option_and_then (numbers_in (cell_width spec.decls)) (decoded (decode_of hex))))
    (behind 32 word.1))
    (index_of word.0))
    (word_front text)

-- what a line says behind its first word
abbrev pub said_by : Spec → List ℕ → List ℕ → Option Setting
said_by spec keyword text =
    if bytes_eq keyword (codes "reg") then register_setting spec text
    else if bytes_eq keyword (codes "cells") then cells_setting spec text
    else None

-- what a line sets: `reg NAME VALUE` a register, `cells INDEX HEX` cells
abbrev pub setting_of : Spec → List ℕ → Option Setting
setting_of spec line =
    option_and_then (λ (keyword : List ℕ × List ℕ).
    option_and_then (said_by spec keyword.0) (behind 32 keyword.1))
    (word_front line)

-- a register has this value of its type
pub record IsRegisterValue (spec : Spec) (at : ℕ) (value : Value) : Type 0 where
  pub type : Ty
  pub there : slice_get (register_types spec.decls) at ≡ Some type
  pub typed : has_type (types_of_decls spec.decls) value type ≡ true

-- the memory has these cells, and each number fits
pub record AreCellNumbers (spec : Spec) (at : ℕ) (numbers : List ℕ) : Type 0 where
  pub within : at + length numbers ≤ cell_count spec.decls
  pub fitting : AllByRecursion (λ n. IsTrue (is_number (cell_width spec.decls) n)) numbers

-- a setting is one of the machine: its places are there, and their values are of their types
abbrev pub SetsPlaces : Spec → Setting → Type 0
SetsPlaces spec (Register at value) = IsRegisterValue spec at value
SetsPlaces spec (Cells at numbers) = AreCellNumbers spec at numbers

-- what a line sets are places of the machine
abbrev pub LinesSetPlaces : Type 0
LinesSetPlaces =
    (spec : Spec) (line : List ℕ) (setting : Setting) → setting_of spec line ≡ Some setting →
    SetsPlaces spec setting
