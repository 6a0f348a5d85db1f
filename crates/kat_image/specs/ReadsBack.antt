-- What the printed text of a state is read back as: words, numbers, values, and lines.
use Rattle.std.specs.Prelude.{◌≡◌, ℕ, ◌+◌, ◌-◌, ◌^◌, ◌<◌, ◌≤◌, IsTrue, true, false, List, [], ◌∷◌, ◌++◌, ⊤, codes, length, slice_get, Option, Some}
use Rattle.std.specs.Fmt.{decimal}
use Rattle.std.specs.List.{AllByRecursion}
use Rattle.std.specs.Str.{IsUtf8}
use Rattle.kat_names.specs.Names.{AllDiffer, position_of}
use Rattle.kat_text.specs.Hexadecimal.{hex_digits}
use Rattle.kat_value.specs.declared.types.Field.{Field}
use Rattle.kat_value.specs.declared.types.Ty.{Ty}
use Rattle.kat_value.specs.declared.types.TypeDecl.{TypeDecl}
use Rattle.kat_value.specs.declared.value.Value.{Value}
use Rattle.kat_value.specs.Typing.{ctor_at, has_type}
use Rattle.kat_value.specs.Widths.{is_number, is_width}
use Rattle.kat_ast.specs.Spec.{Spec}
use Rattle.kat_syntax.specs.Machine.{MachineState}
use Rattle.kat_syntax.specs.Memories.{Memory}
use Rattle.kat_syntax.specs.NamedValues.{ctor_from, members_of, ctors_of, name_of_type, names_at, type_position}
use Rattle.kat_syntax.specs.States.{IsState, cell_width, memory_of, register_types}
use Rattle.kat_syntax.specs.Tables.{Name, register_names}
use Rattle.kat_syntax.specs.TypeTable.{NamesEarlierTypes, types_of_decls}
use Rattle.kat_print.specs.Values.{text_of_value}
use Rattle.kat_image.specs.declared.setting.Setting.TheVariants.{Register, Cells}
use Rattle.kat_image.specs.Image.{IsImageOf, Lacks}
use Rattle.kat_image.specs.ImageText.{digits_of_cell, image_text_of}
use Rattle.kat_image.specs.Lines.{setting_of, value_in}
use Rattle.kat_image.specs.Words.{ends_word, index_of, number_of, word_front}

-- text that is one word of a line
pub record IsPlainWord (word : List ℕ) : Type 0 where
  pub utf8 : IsUtf8 word
  pub goes_on : AllByRecursion (λ byte. ends_word byte ≡ false) word
  pub one_line : Lacks 10 word

-- a word ends before this text
abbrev pub EndsBefore : List ℕ → Type 0
EndsBefore [] = ⊤
EndsBefore (byte ∷ rest) = ends_word byte ≡ true

-- the names of a declared type are words
pub record HasPlainNames (type : TypeDecl) : Type 0 where
  pub name : IsPlainWord (name_of_type type)
  pub members : AllByRecursion IsPlainWord (members_of type)
  pub ctors : AllByRecursion IsPlainWord (ctors_of type)

-- names in a table of types are words, each stands at one place, and types name earlier ones
pub record HasTypeNames (types : List TypeDecl) : Type 0 where
  pub words : AllByRecursion HasPlainNames types
  pub types_differ : (p : ℕ) (type : TypeDecl) → slice_get types p ≡ Some type →
      type_position types (name_of_type type) ≡ Some p
  pub ctors_differ : (p k : ℕ) (ctor : Field) → ctor_at types p k ≡ Some ctor →
      ctor_from 0 types ctor.name ≡ Some (record { of = p; ctor = k })
  pub members_differ : (p k : ℕ) (name : Name) →
      slice_get (names_at members_of types p) k ≡ Some name →
      position_of (names_at members_of types p) name ≡ Some k
  pub earlier : NamesEarlierTypes types

-- the names of registers and types tell them apart, and cells have a width and an index
pub record HasImageNames (spec : Spec) : Type 0 where
  pub registers : AllByRecursion IsPlainWord (register_names spec.decls)
  pub registers_differ : AllDiffer (register_names spec.decls)
  pub types : HasTypeNames (types_of_decls spec.decls)
  pub memory : (memory : Memory) → memory_of spec.decls ≡ Some memory →
      IsTrue (is_width memory.cell_width) × (memory.hi ≤ 2 ^ 64)

-- a word is read back
abbrev pub WordsComeBack : Type 0
WordsComeBack = (word rest : List ℕ) → IsPlainWord word → EndsBefore rest →
    word_front (word ++ rest) ≡ Some (word, rest)

-- hexadecimal digits are read back as their number
abbrev pub DigitsComeBack : Type 0
DigitsComeBack = (digits number : ℕ) → 0 < digits → number < 16 ^ digits → number < 2 ^ 64 →
    number_of (codes "0x" ++ hex_digits digits number) ≡ Some number

-- an index is read back
abbrev pub IndicesComeBack : Type 0
IndicesComeBack = (index : ℕ) → index < 2 ^ 64 → index_of (decimal index) ≡ Some index

-- a value is read back, by its type
abbrev pub ValuesComeBack : List TypeDecl → Type 0
ValuesComeBack types = (type : Ty) (value : Value) → IsTrue (has_type types value type) →
    value_in types type (text_of_value types value) ≡ Some value

-- the line of a register, without its end
abbrev pub register_text : List TypeDecl → Name → Value → List ℕ
register_text types name value =
    codes "reg " ++ name ++ codes " " ++ text_of_value types value

-- a register's line is read back, and is one line
abbrev pub RegisterLinesComeBack : Spec → Type 0
RegisterLinesComeBack spec =
    (at : ℕ) (name : Name) (type : Ty) (value : Value) →
    slice_get (register_names spec.decls) at ≡ Some name →
    slice_get (register_types spec.decls) at ≡ Some type →
    IsTrue (has_type (types_of_decls spec.decls) value type) →
    (setting_of spec (register_text (types_of_decls spec.decls) name value)
    ≡ Some (Register at value))
    × Lacks 10 (register_text (types_of_decls spec.decls) name value)

-- the digits of cells
abbrev pub cell_digits : ℕ → List ℕ → List ℕ
cell_digits digits [] = []
cell_digits digits (number ∷ numbers) = hex_digits digits number ++ cell_digits digits numbers

-- the line of cells from an index on, without its end
abbrev pub cells_line : ℕ → ℕ → List ℕ → List ℕ
cells_line width index numbers =
    codes "cells " ++ decimal index ++ 32 ∷ cell_digits (digits_of_cell width) numbers

-- a line of cells is read back, and is one line
abbrev pub CellLinesComeBack : Spec → Type 0
CellLinesComeBack spec =
    (memory : Memory) (index : ℕ) (numbers : List ℕ) → memory_of spec.decls ≡ Some memory →
    memory.lo ≤ index → index + length numbers ≤ memory.hi → 0 < length numbers →
    AllByRecursion (λ number. IsTrue (is_number memory.cell_width number)) numbers →
    (setting_of spec (cells_line memory.cell_width index numbers)
    ≡ Some (Cells (index - memory.lo) numbers))
    × Lacks 10 (cells_line memory.cell_width index numbers)

-- the printed text of each state is an image of it
abbrev pub StatesComeBack : Spec → Type 0
StatesComeBack spec = (state : MachineState) → IsState spec.decls state →
    IsImageOf spec (image_text_of spec state) state
