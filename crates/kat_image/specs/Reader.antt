-- The reading of an image, up to one of its lines.
use Rattle.std.specs.Prelude.{◌≡◌, ℕ, ◌+◌, ◌<◌, ◌≤◌, ◌^◌, Bool, true, false, List, [], ◌∷◌, ◌++◌, length, map, slice_get, slice_set, Option, Some, None}
use Rattle.kat_value.specs.declared.value.Value.{Value}
use Rattle.kat_ast.specs.Spec.{Spec}
use Rattle.kat_syntax.specs.Start.{start_of}
use Rattle.kat_image.specs.declared.image.Image.{Image}
use Rattle.kat_image.specs.declared.setting.Setting.{Setting}
use Rattle.kat_image.specs.declared.setting.Setting.TheVariants.{Register, Cells}
use Rattle.kat_image.specs.Image.{Line, Place, RegisterAt, CellAt, IsUnset, MayFollow, AreSettings, HasItsValue, given, lines_of}

-- whether a line has set a place, where there is one
abbrev pub flag_at : Image → Place → Option Bool
flag_at image (RegisterAt at) = slice_get image.registers_set at
flag_at image (CellAt at) = slice_get image.cells_set at

-- the image has the places of the machine, and a flag for each
pub record HasRoom (spec : Spec) (image : Image) : Type 0 where
  pub registers : length image.state.registers ≡ length (start_of spec).registers
  pub cells : length image.state.cells ≡ length (start_of spec).cells
  pub registers_set : length image.registers_set ≡ length image.state.registers
  pub cells_set : length image.cells_set ≡ length image.state.cells
  pub lo : image.lo ≡ image.state.lo
  pub small : image.lo + length image.state.cells < 2 ^ 64

-- the lines so far are of the format, and the image has what they set
pub record IsReadTo (spec : Spec) (lines : List Line) (image : Image) : Type 0 where
  pub settings : AreSettings spec lines
  pub values : (place : Place) → HasItsValue spec lines image.state place
  pub free : (place : Place) → flag_at image place ≡ Some false → IsUnset spec lines place
  pub taken : (place : Place) → flag_at image place ≡ Some true → IsUnset spec lines place → ⊥
  pub first : image.state.lo ≡ (start_of spec).lo

-- items with others in their places from a place on
abbrev pub with_items : {A : Type 0} → ℕ → List A → List A → List A
with_items at [] items = items
with_items at (item ∷ more) items = with_items (at + 1) more (slice_set items at item)

-- an image has the places of a setting
abbrev pub IsWithin : Image → Setting → Type 0
IsWithin image (Register at value) = at < length image.registers_set
IsWithin image (Cells at numbers) = at + length numbers ≤ length image.cells_set

-- each place that a setting gives a value is one that no line has set
abbrev pub IsFree : Spec → Image → Setting → Type 0
IsFree spec image setting =
    (place : Place) (value : Value) → given spec setting place ≡ Some value →
    flag_at image place ≡ Some false

-- a place that a setting gives a value is one that a line has set
pub record IsTaken (spec : Spec) (image : Image) (setting : Setting) : Type 0 where
  pub place : Place
  pub value : Value
  pub gives : given spec setting place ≡ Some value
  pub taken : flag_at image place ≡ Some true

-- the image with these cells set
abbrev pub with_cells : Image → ℕ → List ℕ → Image
with_cells image at numbers =
    let cells = with_items at numbers image.state.cells in
    record image {
      state = record image.state { cells = cells };
      cells_set = with_items at (map (λ number. true) numbers) image.cells_set;
    }

-- the image with a register set
abbrev pub with_register : Image → ℕ → Value → Image
with_register image at value =
    let registers = slice_set image.state.registers at value in
    record image {
      state = record image.state { registers = registers };
      registers_set = slice_set image.registers_set at true;
    }

-- the image with what a setting sets
abbrev pub with_setting : Image → Setting → Image
with_setting image (Register at value) = with_register image at value
with_setting image (Cells at numbers) = with_cells image at numbers

-- a setting was taken where all its places were free, and else not
pub record IsSetFree (spec : Spec) (old : Image) (setting : Setting) (new : Image) : Type 0 where
  pub free : IsFree spec old setting
  pub set : new ≡ with_setting old setting

-- a line was taken behind those before it, or it may not stand there
abbrev pub Takes : Spec → List Line → Line → Bool → Image → Type 0
Takes spec lines line true image = IsReadTo spec (lines ++ line ∷ []) image
Takes spec lines line false image = MayFollow spec lines line → ⊥

-- the lines of what stands behind a newline, where there is one
abbrev pub lines_behind : Option (List ℕ) → List Line
lines_behind None = []
lines_behind (Some rest) = lines_of rest
