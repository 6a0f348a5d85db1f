-- What an image says: the values that the registers and cells have at the start.
use Rattle.std.specs.Prelude.{◌≡◌, ◌≢◌, ◌<◌, ◌+◌, ◌-◌, ◌==◌, ◌⊎◌, ℕ, nat_le, if◌then◌else◌, List, [], ◌∷◌, ◌++◌, Option, Some, None, length, take, slice_get, slice_index_or}
use Rattle.std.specs.List.{All, Contains, slice_split}
use Rattle.std.specs.Option.{option_map}
use Rattle.kat_value.specs.declared.value.Value.{Value}
use Rattle.kat_value.specs.declared.value.Value.TheVariants.{Bits}
use Rattle.kat_ast.specs.Spec.{Spec}
use Rattle.kat_syntax.specs.Machine.{MachineState}
use Rattle.kat_syntax.specs.Start.{start_of}
use Rattle.kat_syntax.specs.States.{cell_width}
use Rattle.kat_image.specs.declared.setting.Setting.{Setting}
use Rattle.kat_image.specs.declared.setting.Setting.TheVariants.{Register, Cells}
use Rattle.kat_image.specs.Lines.{setting_of}

-- the bytes of one line
abbrev pub Line : Type 0
Line = List ℕ

-- the lines of a text are what stands between its newlines: behind a last newline that is an empty
-- line
abbrev pub lines_of : List ℕ → List Line
lines_of bytes = slice_split (λ byte. byte == 10) bytes

-- none of the bytes is this one
abbrev pub Lacks : ℕ → List ℕ → Type 0
Lacks byte bytes = All (λ b. b ≢ byte) bytes

-- a register, or a cell counted from the first of the memory
pub data Place : Type 0 where
  RegisterAt : (at : ℕ) → Place
  CellAt : (at : ℕ) → Place

-- what a state has at a place
abbrev pub value_at : Spec → MachineState → Place → Option Value
value_at spec state (RegisterAt at) = slice_get state.registers at
value_at spec state (CellAt at) =
    option_map (Bits (cell_width spec.decls)) (slice_get state.cells at)

-- what a setting gives a place
abbrev pub given : Spec → Setting → Place → Option Value
given spec (Register at value) (RegisterAt place) = if place == at then Some value else None
given spec (Register at value) (CellAt place) = None
given spec (Cells at numbers) (RegisterAt place) = None
given spec (Cells at numbers) (CellAt place) =
    if nat_le at place
    then option_map (Bits (cell_width spec.decls)) (slice_get numbers (place - at))
    else None

-- a line sets a place to this value
pub record Sets (spec : Spec) (line : Line) (place : Place) (value : Value) : Type 0 where
  pub setting : Setting
  pub said : setting_of spec line ≡ Some setting
  pub gives : given spec setting place ≡ Some value

-- one of the lines sets a place to this value
abbrev pub IsSet : Spec → List Line → Place → Value → Type 0
IsSet spec lines place value = (line : Line) × Contains lines line × Sets spec line place value

-- no line sets the place
abbrev pub IsUnset : Spec → List Line → Place → Type 0
IsUnset spec lines place = (value : Value) → IsSet spec lines place value → ⊥

-- a line is of the format, and sets places that none of these lines sets
pub record SetsFree (spec : Spec) (lines : List Line) (line : Line) : Type 0 where
  pub setting : Setting
  pub said : setting_of spec line ≡ Some setting
  pub free : (place : Place) (value : Value) → given spec setting place ≡ Some value →
      IsUnset spec lines place

-- behind these lines may stand one that is empty, or that sets places that none of them sets
abbrev pub MayFollow : Spec → List Line → Line → Type 0
MayFollow spec lines line = (line ≡ []) ⊎ SetsFree spec lines line

-- each line is empty, or sets places that no line before it sets
abbrev pub AreSettings : Spec → List Line → Type 0
AreSettings spec lines =
    (k : ℕ) (d : Line) → k < length lines →
    MayFollow spec (take k lines) (slice_index_or lines k d)

-- a line sets the place to what is its value now, or none does and its value is the first one
abbrev pub HasItsValue : Spec → List Line → MachineState → Place → Type 0
HasItsValue spec lines state place =
    ((value : Value) × IsSet spec lines place value × (value_at spec state place ≡ Some value))
    ⊎ (IsUnset spec lines place
    × (value_at spec state place ≡ value_at spec (start_of spec) place))

-- the bytes are an image of the state: their lines set registers and cells, and all else is as in
-- the first state
pub record IsImageOf (spec : Spec) (bytes : List ℕ) (state : MachineState) : Type 0 where
  pub settings : AreSettings spec (lines_of bytes)
  pub values : (place : Place) → HasItsValue spec (lines_of bytes) state place
  pub first : state.lo ≡ (start_of spec).lo

-- the line of this number, counted from 1, is the first that is not of the format
pub record IsFirstRefused (spec : Spec) (bytes : List ℕ) (number : ℕ) : Type 0 where
  pub lines : List Line
  pub line : Line
  pub rest : List Line
  pub counted : number ≡ length lines + 1
  pub split : lines_of bytes ≡ lines ++ line ∷ rest
  pub taken : AreSettings spec lines
  pub refused : MayFollow spec lines line → ⊥
