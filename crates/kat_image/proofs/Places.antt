-- The places that a setting sets.
use Rattle.std.proofs.Common.{◌≡◌, ℕ, zero, suc, ◌+◌, ◌-◌, ◌<◌, ◌≤◌, ◌==◌, Bool, true, false, List, [], ◌∷◌, length, drop, get_or, map, set, Option, None, Some, inl, inr, ⊎_elim, refl, sym, ap, ◌∙◌, arith}
use Rattle.std.specs.Option.{option_map}
use Rattle.std.specs.Prelude.{nat_le, slice_get}
use Rattle.std.proofs.lemmas.Bool.{cases_lt, eqb-true, eq-eqb, cond-true, cond-false, le-leb, lt-leb, cases_eq, false_from_ne_true}
use Rattle.std.proofs.lemmas.List.{length-map, length-replicate, length-set}
use Rattle.std.proofs.lemmas.Option.{slice_get-get_or, slice_get_within}
use Rattle.kat_value.specs.declared.value.Value.{Value}
use Rattle.kat_value.specs.declared.value.Value.TheVariants.{Bits}
use Rattle.kat_ast.specs.Spec.{Spec}
use Rattle.kat_syntax.specs.Start.{first_or_unit}
use Rattle.kat_syntax.specs.States.{cell_count, cell_width, register_types}
use Rattle.kat_syntax.specs.TypeTable.{types_of_decls}
use Rattle.kat_image.specs.declared.image.Image.{Image}
use Rattle.kat_image.specs.declared.setting.Setting.{Setting}
use Rattle.kat_image.specs.declared.setting.Setting.TheVariants.{Register, Cells}
use Rattle.kat_image.specs.Lines.{SetsPlaces}
use Rattle.kat_image.specs.Image.{Place, RegisterAt, CellAt, given, value_at}
use Rattle.kat_image.specs.Reader.{HasRoom, IsFree, IsTaken, IsWithin, flag_at, with_cells, with_items, with_setting}
use Rattle.kat_image.proofs.Settings.{get-set_same, get-set_other}

module _ {A : Type 0} where
  pub length-with_items : (at : ℕ) (more items : List A) →
      length (with_items at more items) ≡ length items
  length-with_items at [] items = refl
  length-with_items at (x ∷ more) items =
      length-with_items (at + 1) more (set items at x) ∙ length-set items at x

  -- an item before the first
  get_before : (more items : List A) (at i : ℕ) → i < at →
      slice_get (with_items at more items) i ≡ slice_get items i
  get_before [] items at i less = refl
  get_before (x ∷ more) items at i less =
      get_before more (set items at x) (at + 1) i (omega arith)
      ∙ get-set_other items at i x (λ e. absurd (omega (arith, e, less)))

  -- an item behind the last
  get_behind : (more items : List A) (at i : ℕ) → at + length more ≤ i →
      slice_get (with_items at more items) i ≡ slice_get items i
  get_behind [] items at i far = refl
  get_behind (x ∷ more) items at i far =
      get_behind more (set items at x) (at + 1) i (omega arith)
      ∙ get-set_other items at i x (λ e. absurd (omega (arith, e, far)))

  -- one of them
  get_inside : (more items : List A) (at k : ℕ) → k < length more →
      at + length more ≤ length items →
      slice_get (with_items at more items) (at + k) ≡ slice_get more k
  get_inside [] items at k less within = absurd (omega arith)
  get_inside (x ∷ more) items at zero less within =
      ap (slice_get (with_items (at + 1) more (set items at x))) (omega arith)
      ∙ get_before more (set items at x) (at + 1) at (omega arith)
      ∙ get-set_same items at x (omega arith)
  get_inside (x ∷ more) items at (suc k) less within =
      ap (slice_get (with_items (at + 1) more (set items at x))) (omega arith)
      ∙ get_inside more (set items at x) (at + 1) k (omega arith)
      (omega (arith, length-set items at x))

-- something is not nothing
pub clash : {A : Type 0} → (x : A) → ◌≡◌ {A = Option A} (Some x) None → ⊥
clash x e = cc

get_within : {A : Type 0} → (xs : List A) (k : ℕ) → k < length xs →
    (x : A) × (slice_get xs k ≡ Some x)
get_within [] k less = absurd (omega arith)
get_within (x ∷ xs) zero less = (x, refl)
get_within (x ∷ xs) (suc k) less = get_within xs k (omega arith)

all_true : (numbers : List ℕ) (k : ℕ) → k < length numbers →
    slice_get (map (λ number. true) numbers) k ≡ Some true
all_true [] k less = absurd (omega arith)
all_true (n ∷ numbers) zero less = refl
all_true (n ∷ numbers) (suc k) less = all_true numbers k (omega arith)

all_counted : (numbers : List ℕ) → length (map (λ number. true) numbers) ≡ length numbers
all_counted [] = refl
all_counted (n ∷ numbers) = ap suc (all_counted numbers)

-- what a list of numbers gives a cell
given_before : (spec : Spec) (at i : ℕ) (numbers : List ℕ) → i < at →
    given spec (Cells at numbers) (CellAt i) ≡ None
given_before spec at i numbers less =
    cond-false (nat_le at i)
    (option_map (Bits (cell_width spec.decls)) (slice_get numbers (i - at)))
    None (lt-leb at i less)

given_from : (spec : Spec) (at i : ℕ) (numbers : List ℕ) → at ≤ i →
    given spec (Cells at numbers) (CellAt i)
    ≡ option_map (Bits (cell_width spec.decls)) (slice_get numbers (i - at))
given_from spec at i numbers far =
    cond-true (nat_le at i) (option_map (Bits (cell_width spec.decls)) (slice_get numbers (i - at)))
    None (le-leb at i far)

beyond : {A : Type 0} → (xs : List A) (k : ℕ) → length xs ≤ k → slice_get xs k ≡ None
beyond [] k far = refl
beyond (x ∷ xs) zero far = absurd (omega arith)
beyond (x ∷ xs) (suc k) far = beyond xs k (omega arith)

-- what a cell has and whether it is set, behind a setting of cells: by the three places of it
cells_case : (at i : ℕ) (numbers : List ℕ) → (P : Type 0) → (i < at → P) →
    ((k : ℕ) → i ≡ at + k → k < length numbers → P) → (at + length numbers ≤ i → P) → P
cells_case at i numbers P before inside behind =
    ⊎_elim before
    (λ from.
    ⊎_elim (λ less. inside (i - at) (omega arith) (omega arith)) (λ far. behind (omega arith))
    (cases_lt (i - at) (length numbers)))
    (cases_lt i at)

-- behind a setting each place has what the setting gives it, and else what it had
pub record IsPlaced (spec : Spec) (image : Image) (setting : Setting) (place : Place) : Type 0 where
  pub value : (v : Value) → given spec setting place ≡ Some v →
      value_at spec (with_setting image setting).state place ≡ Some v
  pub flag : (v : Value) → given spec setting place ≡ Some v →
      flag_at (with_setting image setting) place ≡ Some true
  pub kept : given spec setting place ≡ None →
      value_at spec (with_setting image setting).state place ≡ value_at spec image.state place
  pub old : given spec setting place ≡ None →
      flag_at (with_setting image setting) place ≡ flag_at image place

-- it is one that was given, or not
pub is_placed : (spec : Spec) (image : Image) (setting : Setting) (place : Place) →
    IsWithin image setting → length image.registers_set ≡ length image.state.registers →
    length image.cells_set ≡ length image.state.cells → IsPlaced spec image setting place
is_placed spec image (Register at value) (RegisterAt i) within rs cs =
    elim (cases_eq i at) [
      | inl same ↦
          let gives : given spec (Register at value) (RegisterAt i) ≡ Some value =
          cond-true (i == at) (Some value) None (eq-eqb i at same) in
          let here : slice_get (set image.state.registers at value) i ≡ Some value =
          ap (slice_get (set image.state.registers at value)) same
          ∙ get-set_same image.state.registers at value (omega (arith, rs, within)) in
          let flag : slice_get (set image.registers_set at true) i ≡ Some true =
          ap (slice_get (set image.registers_set at true)) same
          ∙ get-set_same image.registers_set at true within in
          record {
            value = λ v e. here ∙ sym gives ∙ e;
            flag = λ v e. flag;
            kept = λ e. absurd (clash value (sym gives ∙ e));
            old = λ e. absurd (clash value (sym gives ∙ e));
          }
      | inr other ↦
          let none : given spec (Register at value) (RegisterAt i) ≡ None =
          cond-false (i == at) (Some value) None
          (false_from_ne_true (i == at) (λ e. other (eqb-true i at e))) in
          record {
            value = λ v e. absurd (clash v (sym e ∙ none));
            flag = λ v e. absurd (clash v (sym e ∙ none));
            kept = λ e. get-set_other image.state.registers at i value other;
            old = λ e. get-set_other image.registers_set at i true other;
          }
    ]
is_placed spec image (Register at value) (CellAt i) within rs cs =
    record {
      value = λ v e. absurd (clash v (sym e));
      flag = λ v e. absurd (clash v (sym e));
      kept = λ e. refl;
      old = λ e. refl;
    }
is_placed spec image (Cells at numbers) (RegisterAt i) within rs cs =
    record {
      value = λ v e. absurd (clash v (sym e));
      flag = λ v e. absurd (clash v (sym e));
      kept = λ e. refl;
      old = λ e. refl;
    }
is_placed spec image (Cells at numbers) (CellAt i) within rs cs =
    let marks = map (λ (number : ℕ). true) numbers in
    let w = cell_width spec.decls in
    cells_case at i numbers (IsPlaced spec image (Cells at numbers) (CellAt i))
    (λ less.
    let none = given_before spec at i numbers less in
    record {
      value = λ v e. absurd (clash v (sym e ∙ none));
      flag = λ v e. absurd (clash v (sym e ∙ none));
      kept = λ e. ap (option_map (Bits w)) (get_before numbers image.state.cells at i less);
      old = λ e. get_before marks image.cells_set at i less;
    })
    (λ k is less.
    let one = get_within numbers k less in
    let gives : given spec (Cells at numbers) (CellAt i) ≡ Some (Bits w one.0) =
    given_from spec at i numbers (omega (arith, is))
    ∙ ap (λ j. option_map (Bits w) (slice_get numbers j)) (omega (arith, is))
    ∙ ap (option_map (Bits w)) one.1 in
    let here : slice_get (with_items at numbers image.state.cells) i ≡ Some one.0 =
    ap (slice_get (with_items at numbers image.state.cells)) is
    ∙ get_inside numbers image.state.cells at k less (omega (arith, cs, within)) ∙ one.1 in
    let flag : slice_get (with_items at marks image.cells_set) i ≡ Some true =
    ap (slice_get (with_items at marks image.cells_set)) is
    ∙ get_inside marks image.cells_set at k (omega (arith, all_counted numbers, less))
    (omega (arith, all_counted numbers, within)) ∙ all_true numbers k less in
    record {
      value = λ v e. ap (option_map (Bits w)) here ∙ sym gives ∙ e;
      flag = λ v e. flag;
      kept = λ e. absurd (clash (Bits w one.0) (sym gives ∙ e));
      old = λ e. absurd (clash (Bits w one.0) (sym gives ∙ e));
    })
    (λ far.
    let none : given spec (Cells at numbers) (CellAt i) ≡ None =
    given_from spec at i numbers (omega arith)
    ∙ ap (option_map (Bits w)) (beyond numbers (i - at) (omega arith)) in
    record {
      value = λ v e. absurd (clash v (sym e ∙ none));
      flag = λ v e. absurd (clash v (sym e ∙ none));
      kept = λ e. ap (option_map (Bits w)) (get_behind numbers image.state.cells at i far);
      old = λ e. get_behind marks image.cells_set at i (omega (arith, all_counted numbers, far));
    })

-- one cell more was looked at
pub free_more : (flags : List Bool) (at k : ℕ) →
    ((j : ℕ) → j < k → slice_get flags (at + j) ≡ Some false) → at + k < length flags →
    get_or flags (at + k) false ≡ false →
    (j : ℕ) → j < k + 1 → slice_get flags (at + j) ≡ Some false
free_more flags at k before within here j less =
    ⊎_elim (before j)
    (λ far.
    let same : j ≡ k = omega arith in
    ap (λ i. slice_get flags (at + i)) same
    ∙ slice_get-get_or flags (at + k) false within ∙ ap Some here)
    (cases_lt j k)

-- the image on the way from one to that with these cells: the first k are set
pub record IsPutTo (old : Image) (at : ℕ) (numbers : List ℕ) (k : ℕ) (image : Image) : Type 0 where
  pub whole : with_cells image (at + k) (drop k numbers) ≡ with_cells old at numbers
  pub count : length image.cells_set ≡ length old.cells_set
  pub room : (spec : Spec) → HasRoom spec old → HasRoom spec image

-- whether a register or cells are free, by their flags
pub register_free : (spec : Spec) (image : Image) (at : ℕ) (value : Value) →
    slice_get image.registers_set at ≡ Some false → IsFree spec image (Register at value)
register_free spec image at value flag (CellAt i) v e = absurd (clash v (sym e))
register_free spec image at value flag (RegisterAt i) v e =
    elim (cases_eq i at) [
      | inl same ↦ ap (slice_get image.registers_set) same ∙ flag
      | inr other ↦ absurd (clash v (sym e ∙ cond-false (i == at) (Some value) None
          (false_from_ne_true (i == at) (λ b. other (eqb-true i at b)))))
    ]

pub register_taken : (spec : Spec) (image : Image) (at : ℕ) (value : Value) →
    slice_get image.registers_set at ≡ Some true → IsTaken spec image (Register at value)
register_taken spec image at value flag =
    record {
      place = RegisterAt at;
      value = value;
      gives = cond-true (at == at) (Some value) None (eq-eqb at at refl);
      taken = flag;
    }

pub cells_free : (spec : Spec) (image : Image) (at : ℕ) (numbers : List ℕ) →
    ((k : ℕ) → k < length numbers → slice_get image.cells_set (at + k) ≡ Some false) →
    IsFree spec image (Cells at numbers)
cells_free spec image at numbers flags (RegisterAt i) v e = absurd (clash v (sym e))
cells_free spec image at numbers flags (CellAt i) v e =
    cells_case at i numbers (flag_at image (CellAt i) ≡ Some false)
    (λ less. absurd (clash v (sym e ∙ given_before spec at i numbers less)))
    (λ k is less. ap (slice_get image.cells_set) is ∙ flags k less)
    (λ far. absurd (clash v (sym e ∙ given_from spec at i numbers (omega arith)
    ∙ ap (option_map (Bits (cell_width spec.decls))) (beyond numbers (i - at) (omega arith)))))

pub cells_taken : (spec : Spec) (image : Image) (at : ℕ) (numbers : List ℕ) →
    (k : ℕ) × (k < length numbers) × (slice_get image.cells_set (at + k) ≡ Some true) →
    IsTaken spec image (Cells at numbers)
cells_taken spec image at numbers h =
    let one = get_within numbers h.0 h.1 in
    record {
      place = CellAt (at + h.0);
      value = Bits (cell_width spec.decls) one.0;
      gives = given_from spec at (at + h.0) numbers (omega arith)
          ∙ ap (λ j. option_map (Bits (cell_width spec.decls)) (slice_get numbers j))
          (omega arith)
          ∙ ap (option_map (Bits (cell_width spec.decls))) one.1;
      taken = h.2;
    }

-- an image has the places of a setting of its machine
pub within_of : (spec : Spec) (image : Image) (s : Setting) → HasRoom spec image →
    SetsPlaces spec s → IsWithin image s
within_of spec image (Register at value) room h =
    let low = slice_get_within (register_types spec.decls) at h.type h.there in
    let many = length-map (register_types spec.decls)
    (first_or_unit (types_of_decls spec.decls)) in
    omega (arith, low, many, room.registers, room.registers_set)
within_of spec image (Cells at numbers) room h =
    let many = length-replicate {A = ℕ} (cell_count spec.decls) 0 in
    omega (arith, h.within, many, room.cells, room.cells_set)
