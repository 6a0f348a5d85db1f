-- The cells of a state, as those that were stored become those of the next state.
use Rattle.std.proofs.Common.{◌≡◌, ◌∙◌, ℕ, zero, suc, ◌+◌, ◌-◌, ◌<◌, ◌≤◌, Bool, true, false, ◌||◌, nat_le, List, [], ◌∷◌, length, drop, get_or, slice_get, Some, None, refl, ap, sym, subst, if◌then◌else◌, arith, ⊎_elim}
use Rattle.std.specs.Prelude.{◌==◌, slice_set, slice_index}
use Rattle.std.proofs.lemmas.Bool.{cases_lt}
use Rattle.std.proofs.lemmas.Bool.Decides.{nat_tests}
use Rattle.std.proofs.lemmas.List.{length-set, ext_get_or}
use Rattle.std.proofs.lemmas.Option.{slice_get-get_or, slice_get_past, slice_get_within}
use Rattle.kat_value.specs.declared.value.Value.{Value}
use Rattle.kat_syntax.specs.Machine.{MachineState}
use Rattle.kat_syntax.specs.States.{cell_at, with_cell}
use Rattle.kat_runner.specs.Runner.{is_stored}

differ : (i j : ℕ) → (i == j) ≡ false → j ≡ i → ⊥
differ i j test same = grind (arith, nat_tests)

-- another place than the one that is set, and that place
other_place : {A : Type 0} (xs : List A) (i j : ℕ) (a : A) → (i ≡ j → ⊥) →
    slice_get (slice_set xs i a) j ≡ slice_get xs j
other_place [] i j a other = refl
other_place (x ∷ xs) zero zero a other = absurd (other refl)
other_place (x ∷ xs) zero (suc j) a other = refl
other_place (x ∷ xs) (suc i) zero a other = refl
other_place (x ∷ xs) (suc i) (suc j) a other =
    other_place xs i j a (λ e. other (ap suc e))

set_place : {A : Type 0} (xs : List A) (i : ℕ) (a : A) → i < length xs →
    slice_get (slice_set xs i a) i ≡ Some a
set_place [] i a h = absurd (omega arith)
set_place (x ∷ xs) zero a h = refl
set_place (x ∷ xs) (suc i) a h = set_place xs i a (omega arith)

-- from one state to another nothing changes but this cell
pub record CellSet (i : ℕ) (before after : MachineState) : Type 0 where
  pub registers : after.registers ≡ before.registers
  pub first : after.lo ≡ before.lo
  pub count : length after.cells ≡ length before.cells
  pub others : (j : ℕ) → (i ≡ j → ⊥) → cell_at after j ≡ cell_at before j

other_cell : (s : MachineState) (i n j : ℕ) (c : Bool) → nat_le s.lo i ≡ true → nat_le s.lo j ≡ c →
    (i ≡ j → ⊥) →
    (if c then slice_get (slice_set s.cells (i - s.lo) n) (j - s.lo) else None)
    ≡ (if c then slice_get s.cells (j - s.lo) else None)
other_cell s i n j false here there other = refl
other_cell s i n j true here there other =
    let first : s.lo ≤ i = grind (arith, nat_tests) in
    let second : s.lo ≤ j = grind (arith, nat_tests) in
    other_place s.cells (i - s.lo) (j - s.lo) n (λ e. other (omega (arith, first, second, e)))

cell_set_by : (i n : ℕ) (s : MachineState) (b : Bool) → nat_le s.lo i ≡ b →
    CellSet i s (if b then record s { cells = slice_set s.cells (i - s.lo) n } else s)
cell_set_by i n s true is = record {
  registers = refl;
  first = refl;
  count = length-set s.cells (i - s.lo) n;
  others = λ j other. other_cell s i n j (nat_le s.lo j) is refl other;
}
cell_set_by i n s false is = record {
  registers = refl;
  first = refl;
  count = refl;
  others = λ j other. refl;
}

pub cell_set : (i n : ℕ) (s : MachineState) → CellSet i s (with_cell i n s)
cell_set i n s = cell_set_by i n s (nat_le s.lo i) refl

-- two states with cells of the same indices
module _ (next s : MachineState) (first : next.lo ≡ s.lo)
    (count : length s.cells ≡ length next.cells) where
  -- the cell that is set, where the next state has it
  here_by : (i n : ℕ) (b : Bool) → nat_le s.lo i ≡ b → cell_at next i ≡ Some n →
      cell_at (if b then record s { cells = slice_set s.cells (i - s.lo) n } else s) i ≡ Some n
  here_by i n false is e =
      let not_there : nat_le next.lo i ≡ false = ap (λ lo. nat_le lo i) first ∙ is in
      let none : cell_at next i ≡ None =
      ap (λ b. if b then slice_get next.cells (i - next.lo) else None) not_there in
      absurd (cc)
  here_by i n true is e =
      let there : nat_le next.lo i ≡ true = ap (λ lo. nat_le lo i) first ∙ is in
      let found : slice_get next.cells (i - next.lo) ≡ Some n =
      sym (ap (λ b. if b then slice_get next.cells (i - next.lo) else None) there) ∙ e in
      let within : i - next.lo < length next.cells =
      slice_get_within next.cells (i - next.lo) n found in
      ap (λ b. if b then slice_get (slice_set s.cells (i - s.lo) n) (i - s.lo) else None) is
      ∙ set_place s.cells (i - s.lo) n (omega (arith, within, first, count))

  pub set_here : (i n : ℕ) → cell_at next i ≡ Some n → cell_at (with_cell i n s) i ≡ Some n
  set_here i n e = here_by i n (nat_le s.lo i) refl e

  -- an index that the one does not have is not one of the other
  none_by : (i : ℕ) (b : Bool) → nat_le s.lo i ≡ b → cell_at next i ≡ None → cell_at s i ≡ None
  none_by i false is e = ap (λ b. if b then slice_get s.cells (i - s.lo) else None) is
  none_by i true is e =
      let there : nat_le next.lo i ≡ true = ap (λ lo. nat_le lo i) first ∙ is in
      let missing : slice_get next.cells (i - next.lo) ≡ None =
      sym (ap (λ b. if b then slice_get next.cells (i - next.lo) else None) there) ∙ e in
      ap (λ b. if b then slice_get s.cells (i - s.lo) else None) is
      ∙ ⊎_elim
      (λ (within : i - next.lo < length next.cells).
      let some = slice_get-get_or next.cells (i - next.lo) 0 within in
      absurd (cc))
      (λ (past : length next.cells ≤ i - next.lo).
      slice_get_past s.cells (i - s.lo) (omega (arith, past, first, count)))
      (cases_lt (i - next.lo) (length next.cells))

  pub none_here : (i : ℕ) → cell_at next i ≡ None → cell_at s i ≡ None
  none_here i e = none_by i (nat_le s.lo i) refl e

cell_behind : (s : MachineState) (k : ℕ) → cell_at s (s.lo + k) ≡ slice_get s.cells k
cell_behind s k =
    let there : nat_le s.lo (s.lo + k) ≡ true = grind (arith, nat_tests) in
    let is : s.lo + k - s.lo ≡ k = omega arith in
    ap (λ b. if b then slice_get s.cells (s.lo + k - s.lo) else None) there
    ∙ ap (slice_get s.cells) is

-- where each index has the same number, the cells are the same
pub same_cells : (next s : MachineState) → next.lo ≡ s.lo → length s.cells ≡ length next.cells →
    ((i : ℕ) → cell_at next i ≡ cell_at s i) → s.cells ≡ next.cells
same_cells next s first count same = ext_get_or 0 s.cells next.cells count (λ k h.
    let one = slice_get-get_or s.cells k 0 h in
    let two = slice_get-get_or next.cells k 0 (omega (arith, h, count)) in
    let is : Some (get_or s.cells k 0) ≡ Some (get_or next.cells k 0) =
    sym one ∙ sym (cell_behind s k) ∙ sym (same (s.lo + k))
    ∙ ap (λ lo. cell_at next (lo + k)) (sym first) ∙ cell_behind next k ∙ two in
    cc)

-- a state by its parts
pub state_is : (s : MachineState) (registers : List Value) (lo : ℕ) (cells : List ℕ) →
    s.registers ≡ registers → s.lo ≡ lo → s.cells ≡ cells →
    s ≡ record { registers = registers; lo = lo; cells = cells }
state_is s registers lo cells r l c =
    let of : List Value → ℕ → List ℕ → MachineState =
    λ rs first all. record { registers = rs; lo = first; cells = all } in
    ap (λ rs. of rs s.lo s.cells) r ∙ ap (λ first. of registers first s.cells) l
    ∙ ap (of registers lo) c

-- one more stored index is passed, by a step that changes no other cell
pub passes : (next before after : MachineState) (stored : List ℕ) (at index : ℕ) →
    drop at stored ≡ index ∷ drop (at + 1) stored →
    ((i : ℕ) → is_stored (drop at stored) i ≡ false → cell_at next i ≡ cell_at before i) →
    ((j : ℕ) → (index ≡ j → ⊥) → cell_at after j ≡ cell_at before j) →
    cell_at next index ≡ cell_at after index →
    (i : ℕ) → is_stored (drop (at + 1) stored) i ≡ false → cell_at next i ≡ cell_at after i
passes next before after stored at index front passed others here i none =
    by (i == index) refl where
      by : (b : Bool) → (i == index) ≡ b → cell_at next i ≡ cell_at after i
      by true e =
          let same : index ≡ i = grind (arith, nat_tests) in
          subst (λ j. cell_at next j ≡ cell_at after j) same here
      by false e =
          passed i
          (ap (λ xs. is_stored xs i) front
          ∙ ap (λ b. b || is_stored (drop (at + 1) stored) i) e
          ∙ none)
          ∙ sym (others i (differ i index e))

-- what is left at an index is its element and what is left behind it
pub front_at : (xs : List ℕ) (i : ℕ) → i < length xs →
    drop i xs ≡ slice_index xs i ∷ drop (i + 1) xs
front_at [] i h = absurd (omega arith)
front_at (x ∷ xs) zero h = refl
front_at (x ∷ xs) (suc i) h =
    let e : suc i + 1 ≡ suc (i + 1) = omega arith in
    front_at xs i (omega arith) ∙ ap (λ n. slice_index xs i ∷ drop n (x ∷ xs)) (sym e)
