-- What the lines of cells tell.
use Rattle.std.proofs.Common.{◌≡◌, ◌≢◌, ℕ, zero, suc, ◌+◌, ◌-◌, ◌<◌, ◌≤◌, ◌^◌, Bool, true, List, [], ◌∷◌, ◌++◌, length, drop, if◌then◌else◌, Some, None, refl, sym, ap, ◌∙◌, arith, append_assoc}
use Rattle.std.specs.Prelude.{◌==◌, IsTrue, nat_le, slice_get}
use Rattle.std.specs.Fmt.{decimal}
use Rattle.std.specs.List.{AllByRecursion, AllZip, range_with_len}
use Rattle.std.proofs.lemmas.Bool.{cond-true, eqb-true, le-leb}
use Rattle.std.proofs.lemmas.List.{append_cancel_left}
use Rattle.kat_value.specs.declared.value.Value.TheVariants.{Bits}
use Rattle.kat_value.specs.Widths.{is_number}
use Rattle.kat_syntax.specs.Machine.{MachineState}
use Rattle.kat_syntax.specs.States.{cell_at}
use Rattle.kat_print.specs.Values.{text_of_value}
use Rattle.kat_runner.specs.StateText.{CellText, cell_line, filled_line, changed_line, filled_cells, changed_cells}
use Rattle.kat_laws.proofs.TextNumbers.{decimal_told}
use Rattle.kat_laws.proofs.TextValues.{number_told}
use Rattle.kat_laws.proofs.TextLines.{AreApart, Tells, changed}

-- two indices are below 2 ^ 64 and differ
pub record IndicesDiffer (one other : ℕ) : Type 0 where
  pub first : one < 2 ^ 64
  pub second : other < 2 ^ 64
  pub differ : one ≢ other

index_apart : (one index count : ℕ) → one < index → index + count ≤ 2 ^ 64 →
    AllByRecursion (IndicesDiffer one) (range_with_len index count)
index_apart one index zero less within = tt
index_apart one index (suc count) less within = (
  record {
    first = omega (arith, less, within);
    second = omega (arith, less, within);
    differ = λ e. omega (arith, less, e);
  },
  index_apart one (index + 1) count (omega (arith, less)) (omega (arith, within)),
)

-- the indices of a memory
pub indices_apart : (index count : ℕ) → index + count ≤ 2 ^ 64 →
    AreApart ℕ IndicesDiffer (range_with_len index count)
indices_apart index zero within = tt
indices_apart index (suc count) within = (
  index_apart index (index + 1) count (omega arith) (omega (arith, within)),
  indices_apart (index + 1) count (omega (arith, within)),
)

-- the numbers of cells
pub numbers_fit : (width index : ℕ) (cells : List ℕ) →
    AllByRecursion (λ n. IsTrue (is_number width n)) cells →
    AllZip (λ (i : ℕ) n. is_number width n ≡ true) (range_with_len index (length cells)) cells
numbers_fit width index [] fit = tt
numbers_fit width index (n ∷ cells) fit = (fit.0, numbers_fit width (index + 1) cells fit.1)

-- the cells of a state from its first index on
pub cells_at : (state : MachineState) (first : ℕ) → state.lo ≡ first → (k : ℕ) →
    cell_at state (first + k) ≡ slice_get state.cells k
cells_at state first same k =
    cond-true (nat_le state.lo (first + k)) (slice_get state.cells (first + k - state.lo)) None
    (le-leb state.lo (first + k) (omega (arith, same)))
    ∙ ap (slice_get state.cells) (omega (arith, same))

-- the cells behind the first
behind_first : (state : MachineState) (index n : ℕ) (cells : List ℕ) →
    ((k : ℕ) → cell_at state (index + k) ≡ slice_get (n ∷ cells) k) → (k : ℕ) →
    cell_at state (index + 1 + k) ≡ slice_get cells k
behind_first state index n cells at k =
    let next : index + 1 + k ≡ index + suc k = omega arith in
    ap (cell_at state) next ∙ at (suc k)

first_at : (state : MachineState) (index n : ℕ) (cells : List ℕ) →
    ((k : ℕ) → cell_at state (index + k) ≡ slice_get (n ∷ cells) k) →
    cell_at state index ≡ Some n
first_at state index n cells at =
    let here : index ≡ index + 0 = omega arith in
    ap (cell_at state) here ∙ at 0

-- a cell that is zero is left out at boundary 0
abbrev pub is_zero : ℕ → ℕ → Bool
is_zero old new = new == 0

-- a cell whose number is the one before is left out later
abbrev pub is_same : ℕ → ℕ → Bool
is_same old new = old == new

pub zeros_hide : (old u v : ℕ) → is_zero old u ≡ true → is_zero old v ≡ true → u ≡ v
zeros_hide old u v p q = eqb-true u 0 p ∙ sym (eqb-true v 0 q)

pub same_hide : (old u v : ℕ) → is_same old u ≡ true → is_same old v ≡ true → u ≡ v
same_hide old u v p q = sym (eqb-true old u p) ∙ eqb-true old v q

module _ (text : CellText) where
  -- a number is of the width of cells
  abbrev pub IsCell : ℕ → ℕ → Type 0
  IsCell index n = is_number text.width n ≡ true

  -- the line of a cell and what follows, word by word
  cell_words : (index n : ℕ) (rest : List ℕ) → cell_line text index n ++ rest ≡
      99 ∷ 101 ∷ 108 ∷ 108 ∷ 32 ∷
      (decimal index ++ 32 ∷ (text_of_value text.types (Bits text.width n) ++ 10 ∷ rest))
  cell_words index n rest = simp append_assoc refl

  -- the lines of cells tell, whichever numbers are not shown, where these are known
  pub cells_tell : (same : ℕ → ℕ → Bool) →
      ((old u v : ℕ) → same old u ≡ true → same old v ≡ true → u ≡ v) →
      Tells ℕ ℕ same (cell_line text) 99 IndicesDiffer IsCell
  cells_tell same hides = record {
    hides = hides;
    begins = λ index n r. refl;
    keys = λ one other u v r s apart e.
        apart.differ
        (decimal_told one other
        (32 ∷ (text_of_value text.types (Bits text.width u) ++ 10 ∷ r))
        (32 ∷ (text_of_value text.types (Bits text.width v) ++ 10 ∷ s)) apart.first apart.second
        (omega arith) (omega arith)
        (ap (drop 5) (sym (cell_words one u r) ∙ e ∙ cell_words other v s))).0;
    values = λ index u v r s p q e.
        let behind_index = append_cancel_left (decimal index)
        (32 ∷ (text_of_value text.types (Bits text.width u) ++ 10 ∷ r))
        (32 ∷ (text_of_value text.types (Bits text.width v) ++ 10 ∷ s))
        (ap (drop 5) (sym (cell_words index u r) ∙ e ∙ cell_words index v s)) in
        let parts = number_told text.types text.width u v (10 ∷ r) (10 ∷ s) p q
        (ap (drop 1) behind_index) in
        (parts.0, ap (drop 1) parts.1);
  }

  -- the cells of boundary 0
  pub filled_are : (state : MachineState) (index : ℕ) (olds cells : List ℕ) →
      length olds ≡ length cells →
      ((k : ℕ) → cell_at state (index + k) ≡ slice_get cells k) →
      filled_cells text state (range_with_len index (length cells))
      ≡ changed ℕ ℕ is_zero (cell_line text) (range_with_len index (length cells)) olds cells
  filled_are state index olds [] long at = refl
  filled_are state index [] (n ∷ cells) long at = absurd (omega (arith, long))
  filled_are state index (old ∷ olds) (n ∷ cells) long at =
      let indices : List ℕ = range_with_len (index + 1) (length cells) in
      ap (λ cell. filled_line text index cell ++ filled_cells text state indices)
      (first_at state index n cells at)
      ∙ ap (λ lines. (if is_zero old n then [] else cell_line text index n) ++ lines)
      (filled_are state (index + 1) olds cells (omega (arith, long))
      (behind_first state index n cells at))

  -- the cells of a later boundary
  pub changes_are : (before after : MachineState) (index : ℕ) (olds cells : List ℕ) →
      length olds ≡ length cells →
      ((k : ℕ) → cell_at before (index + k) ≡ slice_get olds k) →
      ((k : ℕ) → cell_at after (index + k) ≡ slice_get cells k) →
      changed_cells text before after (range_with_len index (length cells))
      ≡ changed ℕ ℕ is_same (cell_line text) (range_with_len index (length cells)) olds cells
  changes_are before after index olds [] long from to = refl
  changes_are before after index [] (n ∷ cells) long from to = absurd (omega (arith, long))
  changes_are before after index (old ∷ olds) (n ∷ cells) long from to =
      let indices : List ℕ = range_with_len (index + 1) (length cells) in
      ap (λ cell. changed_line text index cell (cell_at after index)
      ++ changed_cells text before after indices) (first_at before index old olds from)
      ∙ ap (λ cell. changed_line text index (Some old) cell
      ++ changed_cells text before after indices) (first_at after index n cells to)
      ∙ ap (λ lines. (if is_same old n then [] else cell_line text index n) ++ lines)
      (changes_are before after (index + 1) olds cells (omega (arith, long))
      (behind_first before index old olds from) (behind_first after index n cells to))
