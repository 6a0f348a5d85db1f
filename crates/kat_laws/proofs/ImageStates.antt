-- The state of an image is one of the machine.
use Rattle.std.proofs.Common.{◌≡◌, ◌∙◌, ◌&&◌, ◌==◌, ◌-◌, ◌<◌, ◌≤◌, ℕ, zero, suc, Bool, true, false, if◌then◌else◌, List, [], ◌∷◌, length, Option, None, Some, inl, inr, refl, sym, ap, subst, arith}
use Rattle.std.specs.Prelude.{IsTrue, nat_le, slice_get}
use Rattle.std.specs.List.{AllByRecursion}
use Rattle.std.specs.Option.{option_map}
use Rattle.std.proofs.lemmas.Bool.{and_parts, eqb-true, false≢true, leb-true}
use Rattle.kat_value.specs.declared.types.Ty.{Ty}
use Rattle.kat_value.specs.declared.types.TypeDecl.{TypeDecl}
use Rattle.kat_value.specs.declared.value.Value.{Value}
use Rattle.kat_value.specs.declared.value.Value.TheVariants.{Bits as Number}
use Rattle.kat_value.specs.Typing.{has_type}
use Rattle.kat_value.specs.Widths.{is_number}
use Rattle.kat_ast.specs.Spec.{Spec}
use Rattle.kat_syntax.specs.Machine.{MachineState}
use Rattle.kat_syntax.specs.Start.{start_of}
use Rattle.kat_syntax.specs.States.{IsState, are_of_types, register_types, cell_count, cell_width}
use Rattle.kat_syntax.specs.TypeTable.{types_of_decls}
use Rattle.kat_image.specs.declared.setting.Setting.{Setting}
use Rattle.kat_image.specs.declared.setting.Setting.TheVariants.{Register, Cells}
use Rattle.kat_image.specs.Lines.{IsRegisterValue, LinesSetPlaces, SetsPlaces}
use Rattle.kat_image.specs.Image.{Line, RegisterAt, CellAt, HasItsValue, given, lines_of}
use Rattle.kat_laws.specs.Images.{ImagesAreStates}
use Rattle.kat_laws.specs.Runs.{StartsAreStates}

-- there is a value exactly where there is a type, and it is of it
abbrev IsPlaceOf : List TypeDecl → Option Ty → Option Value → Type 0
IsPlaceOf types None None = Unit {0}
IsPlaceOf types None (Some value) = ⊥
IsPlaceOf types (Some type) None = ⊥
IsPlaceOf types (Some type) (Some value) = has_type types value type ≡ true

both_hold : (a b : Bool) → a ≡ true → b ≡ true → (a && b) ≡ true
both_hold true b p q = q
both_hold false b p q = p

some_same : {A : Type 0} (x y : A) → ◌≡◌ {A = Option A} (Some x) (Some y) → x ≡ y
some_same x y e = cc

-- nothing is no value
no_value : {A : Type 0} (x : A) → ◌≡◌ {A = Option A} None (Some x) → ⊥
no_value x e = cc

chosen : (b : Bool) (x y : Value) → (if b then Some x else None) ≡ Some y → (b ≡ true) × (x ≡ y)
chosen true x y e = (refl, some_same x y e)
chosen false x y e = absurd (no_value y e)

-- values are of types where they are so at each place
from_places : (types : List TypeDecl) (tys : List Ty) (values : List Value) →
    ((at : ℕ) → IsPlaceOf types (slice_get tys at) (slice_get values at)) → are_of_types types tys
    values ≡ true
from_places types [] [] h = refl
from_places types [] (value ∷ values) h = absurd (h 0)
from_places types (type ∷ tys) [] h = absurd (h 0)
from_places types (type ∷ tys) (value ∷ values) h = both_hold (has_type types value type)
    (are_of_types types tys values) (h 0) (from_places types tys values (λ at. h (suc at)))

to_places : (types : List TypeDecl) (tys : List Ty) (values : List Value) → are_of_types types tys
    values ≡ true → (at : ℕ) → IsPlaceOf types (slice_get tys at) (slice_get values at)
to_places types [] [] are zero = tt
to_places types [] [] are (suc at) = tt
to_places types [] (value ∷ values) are at = absurd (false≢true are)
to_places types (type ∷ tys) [] are at = absurd (false≢true are)
to_places types (type ∷ tys) (value ∷ values) are zero =
    (and_parts (has_type types value type) (are_of_types types tys values) are).0
to_places types (type ∷ tys) (value ∷ values) are (suc at) = to_places types tys values
    (and_parts (has_type types value type) (are_of_types types tys values) are).1 at

-- a register that a line sets has a value of its type
given_register : (spec : Spec) (s : Setting) (at : ℕ) (v : Value) → SetsPlaces spec s →
    given spec s (RegisterAt at) ≡ Some v → IsRegisterValue spec at v
given_register spec (Cells from numbers) at v h e = absurd (no_value v e)
given_register spec (Register to value) at v h e =
    let same = chosen (at == to) value v e in
    let place : at ≡ to = eqb-true at to same.0 in
    subst (IsRegisterValue spec at) same.1
    (subst (λ k. IsRegisterValue spec k value) (sym place) h)

register_of : (spec : Spec) (lines : List Line) (state : MachineState) (at : ℕ) →
    LinesSetPlaces →
    are_of_types (types_of_decls spec.decls) (register_types spec.decls)
    (start_of spec).registers ≡ true →
    HasItsValue spec lines state (RegisterAt at) → IsPlaceOf (types_of_decls spec.decls)
    (slice_get (register_types spec.decls) at) (slice_get state.registers at)
register_of spec lines state at law start (inl set) =
    let sets = set.1.2 in
    let h = given_register spec sets.setting at set.0
    (law spec set.1.0 sets.setting sets.said) sets.gives in
    subst (IsPlaceOf (types_of_decls spec.decls) (slice_get (register_types spec.decls) at))
    (sym set.2)
    (subst (λ t. IsPlaceOf (types_of_decls spec.decls) t (Some set.0)) (sym h.there) h.typed)
register_of spec lines state at law start (inr unset) =
    subst (IsPlaceOf (types_of_decls spec.decls) (slice_get (register_types spec.decls) at))
    (sym unset.1)
    (to_places (types_of_decls spec.decls) (register_types spec.decls) (start_of spec).registers
    start at)

-- a cell is there and its number fits, or none is there
abbrev IsCell : ℕ → ℕ → ℕ → Option ℕ → Type 0
IsCell width count i None = count ≤ i
IsCell width count i (Some n) = (i < count) × (is_number width n ≡ true)

abbrev Fits : ℕ → List ℕ → Type 0
Fits width numbers = AllByRecursion (λ n. IsTrue (is_number width n)) numbers

fits_at : (width : ℕ) (numbers : List ℕ) (k n : ℕ) → Fits width numbers →
    slice_get numbers k ≡ Some n → (k < length numbers) × (is_number width n ≡ true)
fits_at width [] k n all e = absurd (no_value n e)
fits_at width (m ∷ numbers) zero n all e =
    let same : m ≡ n = cc in
    (omega arith, subst (λ x. is_number width x ≡ true) same all.0)
fits_at width (m ∷ numbers) (suc k) n all e =
    let h = fits_at width numbers k n all.1 e in
    (omega (arith, h.0), h.1)

cell_in_list : (width : ℕ) (numbers : List ℕ) (i : ℕ) → Fits width numbers →
    IsCell width (length numbers) i (slice_get numbers i)
cell_in_list width [] i all = omega arith
cell_in_list width (n ∷ numbers) zero all = (omega arith, all.0)
cell_in_list width (n ∷ numbers) (suc i) all =
    later (slice_get numbers i) (cell_in_list width numbers i all.1)
  where
    later : (o : Option ℕ) → IsCell width (length numbers) i o →
        IsCell width (length (n ∷ numbers)) (suc i) o
    later None h = omega (arith, h)
    later (Some m) h = (omega (arith, h.0), h.1)

from_cells : (width : ℕ) (cells : List ℕ) (count : ℕ) →
    ((i : ℕ) → IsCell width count i (slice_get cells i)) →
    (length cells ≡ count) × Fits width cells
from_cells width [] zero h = (refl, tt)
from_cells width [] (suc count) h = absurd (let no = h 0 in omega arith)
from_cells width (n ∷ cells) zero h = absurd (let no = (h 0).0 in omega arith)
from_cells width (n ∷ cells) (suc count) h =
    let rest = from_cells width cells count (λ i. sooner i (slice_get cells i) (h (suc i))) in
    (ap suc rest.0, ((h 0).1, rest.1))
  where
    sooner : (i : ℕ) (o : Option ℕ) → IsCell width (suc count) (suc i) o → IsCell width count i o
    sooner i None h = omega (arith, h)
    sooner i (Some m) h = (omega (arith, h.0), h.1)

-- bits of one width tell their numbers
bits_told : (w : ℕ) (a : Option ℕ) (n : ℕ) → option_map (Number w) a ≡ Some (Number w n) →
    a ≡ Some n
bits_told w None n e = absurd (no_value (Number w n) e)
bits_told w (Some m) n e =
    let same : Number w m ≡ Number w n = some_same (Number w m) (Number w n) e in
    let told : m ≡ n = cc in
    ap Some told

none_told : (w : ℕ) (a : Option ℕ) → option_map (Number w) a ≡ None → a ≡ None
none_told w None e = refl
none_told w (Some m) e = absurd (no_value (Number w m) (sym e))

-- a cell that a line sets is there, and its number fits
given_cell : (spec : Spec) (s : Setting) (i : ℕ) (v : Value) (o : Option ℕ) → SetsPlaces spec s →
    given spec s (CellAt i) ≡ Some v → option_map (Number (cell_width spec.decls)) o ≡ Some v →
    IsCell (cell_width spec.decls) (cell_count spec.decls) i o
given_cell spec (Register to value) i v o h e there = absurd (no_value v e)
given_cell spec (Cells from numbers) i v o h e there =
    by (nat_le from i) refl e
  where
    w : ℕ
    w = cell_width spec.decls

    found : from ≤ i → (n : Option ℕ) → slice_get numbers (i - from) ≡ n →
        option_map (Number w) n ≡ Some v → IsCell w (cell_count spec.decls) i o
    found low None is f = absurd (no_value v f)
    found low (Some n) is f =
        let fits = fits_at w numbers (i - from) n h.fitting is in
        let same : o ≡ Some n = bits_told w o n (there ∙ sym f) in
        subst (IsCell w (cell_count spec.decls) i) (sym same)
        (omega (arith, low, fits.0, h.within), fits.1)

    by : (b : Bool) → nat_le from i ≡ b →
        (if b then option_map (Number w) (slice_get numbers (i - from)) else None) ≡ Some v →
        IsCell w (cell_count spec.decls) i o
    by true is f = found (leb-true from i is) (slice_get numbers (i - from)) refl f
    by false is f = absurd (no_value v f)

cell_of : (spec : Spec) (lines : List Line) (state : MachineState) (i : ℕ) → LinesSetPlaces →
    IsState spec.decls (start_of spec) → HasItsValue spec lines state (CellAt i) →
    IsCell (cell_width spec.decls) (cell_count spec.decls) i (slice_get state.cells i)
cell_of spec lines state i law start (inl set) =
    let sets = set.1.2 in
    given_cell spec sets.setting i set.0 (slice_get state.cells i)
    (law spec set.1.0 sets.setting sets.said) sets.gives set.2
cell_of spec lines state i law start (inr unset) =
    same (slice_get state.cells i) (slice_get (start_of spec).cells i) unset.1
    (subst (λ k. IsCell (cell_width spec.decls) k i (slice_get (start_of spec).cells i)) start.count
    (cell_in_list (cell_width spec.decls) (start_of spec).cells i start.fitting))
  where
    w : ℕ
    w = cell_width spec.decls

    same : (a b : Option ℕ) → option_map (Number w) a ≡ option_map (Number w) b →
        IsCell w (cell_count spec.decls) i b → IsCell w (cell_count spec.decls) i a
    same a None e h = subst (IsCell w (cell_count spec.decls) i) (sym (none_told w a e)) h
    same a (Some n) e h = subst (IsCell w (cell_count spec.decls) i) (sym (bits_told w a n e)) h

pub images_are_states : StartsAreStates → LinesSetPlaces → ImagesAreStates
images_are_states starts law spec bytes state machine image =
    let start = starts spec machine in
    let cells = from_cells (cell_width spec.decls) state.cells (cell_count spec.decls)
    (λ i. cell_of spec (lines_of bytes) state i law start (image.values (CellAt i))) in
    record {
      registers = from_places (types_of_decls spec.decls) (register_types spec.decls)
          state.registers
          (λ at. register_of spec (lines_of bytes) state at law start.registers
          (image.values (RegisterAt at)));
      first = image.first ∙ start.first;
      count = cells.0;
      fitting = cells.1;
    }
