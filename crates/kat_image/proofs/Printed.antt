-- The text of an image, one register and one cell at a time.
use Rattle.std.proofs.Common.{◌≡◌, ℕ, zero, suc, ◌+◌, ◌-◌, ◌<◌, ◌≤◌, min, refl, ap, sym, ◌∙◌, arith, add-one, List, [], ◌∷◌, ◌++◌, length, drop, get_or, drop-cons, append_assoc, Option, Some, None, Result, Ok, Err}
use Rattle.std.specs.Prelude.{slice_get, OnOk}
use Rattle.std.proofs.lemmas.List.{drop_all}
use Rattle.kat_value.specs.declared.types.TypeDecl.{TypeDecl}
use Rattle.kat_value.specs.declared.value.Value.{Value}
use Rattle.kat_syntax.specs.Tables.{Name}
use Rattle.kat_print.specs.Values.{register_line}
use Rattle.kat_image.specs.ImageText.{register_lines, cells_text, cell_text, count_behind, line_end}
use Rattle.kat_image.proofs.Settings.{some_same}

module _ (types : List TypeDecl) where
  no_values : (names : List Name) → register_lines types names [] ≡ []
  no_values [] = refl
  no_values (name ∷ names) = refl

  -- no line is left where the names or the values have ended
  pub lines_end : (n : ℕ) (names : List Name) (values : List Value) →
      min (length names) (length values) ≤ n →
      register_lines types (drop n names) (drop n values) ≡ []
  lines_end n [] values h =
      ap (λ ns. register_lines types ns (drop n values)) (drop_all n [] (omega arith))
  lines_end n (name ∷ names) [] h =
      ap (register_lines types (drop n (name ∷ names))) (drop_all n [] (omega arith))
      ∙ no_values (drop n (name ∷ names))
  lines_end zero (name ∷ names) (value ∷ values) h = absurd (omega arith)
  lines_end (suc n) (name ∷ names) (value ∷ values) h = lines_end n names values (omega arith)

module _ {T : Type 0} (xs : List T) (i : ℕ) (x : T) where
  front_of_drop : i < length xs → x ≡ get_or xs i x → drop i xs ≡ x ∷ drop (i + 1) xs
  front_of_drop h x_is =
      rw (add-one, drop-cons xs i x) (ap (λ y. y ∷ drop (suc i) xs) (sym x_is))

-- the line of the register at i, and the lines behind it
pub lines_at : (types : List TypeDecl) (names : List Name) (values : List Value) (i : ℕ)
    (name : Name) (value : Value) → i < length names → i < length values →
    name ≡ get_or names i name → value ≡ get_or values i value →
    register_lines types (drop i names) (drop i values)
    ≡ register_line types name value
    ++ register_lines types (drop (i + 1) names) (drop (i + 1) values)
lines_at types names values i name value n v name_is value_is =
    ap (λ ns. register_lines types ns (drop i values)) (front_of_drop names i name n name_is)
    ∙ ap (register_lines types (name ∷ drop (i + 1) names))
    (front_of_drop values i value v value_is)

-- the item at a place is the first of what is left from it
dropped : (cells : List ℕ) (k number : ℕ) → slice_get cells k ≡ Some number →
    drop k cells ≡ number ∷ drop (suc k) cells
dropped [] k number e = absurd (cc)
dropped (cell ∷ cells) zero number e = ap (λ n. n ∷ cells) (some_same cell number e)
dropped (cell ∷ cells) (suc k) number e = dropped cells k number e

-- the text of the cell of an index, and of the cells behind it
pub cells_at : (digits lo index count number : ℕ) (cells : List ℕ) → lo ≤ index →
    slice_get cells (index - lo) ≡ Some number →
    cells_text digits index count (drop (index - lo) cells)
    ≡ cell_text digits index count number
    ++ cells_text digits (index + 1) (count_behind count number) (drop (index + 1 - lo) cells)
cells_at digits lo index count number cells from e =
    let behind : suc (index - lo) ≡ index + 1 - lo = omega arith in
    ap (cells_text digits index count) (dropped cells (index - lo) number e)
    ∙ ap (λ k. cell_text digits index count number
    ++ cells_text digits (index + 1) (count_behind count number) (drop k cells)) behind

-- the end of the last line behind the last cell
pub cells_end : (digits index count k : ℕ) (cells : List ℕ) → length cells ≤ k →
    cells_text digits index count (drop k cells) ≡ line_end count
cells_end digits index count k cells far =
    ap (cells_text digits index count) (drop_all k cells far)

-- up to a cell the text is written, and at most eight cells stand on the open line
pub record IsPrintedTo (digits lo : ℕ) (cells before out : List ℕ) (index count : ℕ) : Type 0 where
  pub few : count ≤ 8
  pub whole : out ++ cells_text digits index count (drop (index - lo) cells)
      ≡ before ++ cells_text digits lo 0 cells

module _ (digits lo : ℕ) (cells before : List ℕ) where
  -- nothing is written before the first cell
  pub printed_start : (index : ℕ) → lo ≡ index →
      IsPrintedTo digits lo cells before before index 0
  printed_start index e =
      let none : index - lo ≡ 0 = omega (arith, e) in
      record {
        few = omega arith;
        whole = ap (λ k. before ++ cells_text digits index 0 (drop k cells)) none
            ∙ ap (λ i. before ++ cells_text digits i 0 cells) (sym e);
      }

  -- one more cell is written
  pub printed_more : (out new : List ℕ) (index count number behind : ℕ) → lo ≤ index →
      slice_get cells (index - lo) ≡ Some number →
      new ≡ out ++ cell_text digits index count number →
      behind ≡ count_behind count number → behind ≤ 8 →
      IsPrintedTo digits lo cells before out index count →
      IsPrintedTo digits lo cells before new (index + 1) behind
  printed_more out new index count number behind from e new_is behind_is few is =
      record {
        few = few;
        whole = ap (λ c. new ++ cells_text digits (index + 1) c (drop (index + 1 - lo) cells))
            behind_is
            ∙ ap (λ o. o ++ cells_text digits (index + 1) (count_behind count number)
            (drop (index + 1 - lo) cells)) new_is
            ∙ append_assoc out (cell_text digits index count number)
            (cells_text digits (index + 1) (count_behind count number)
            (drop (index + 1 - lo) cells))
            ∙ ap (λ t. out ++ t) (sym (cells_at digits lo index count number cells from e))
            ∙ is.whole;
      }

  -- the end of the last line makes the text whole
  pub printed_end : (out new : List ℕ) (index count : ℕ) → length cells ≤ index - lo →
      IsPrintedTo digits lo cells before out index count → new ≡ out ++ line_end count →
      new ≡ before ++ cells_text digits lo 0 cells
  printed_end out new index count far is new_is =
      new_is
      ∙ ap (λ t. out ++ t) (sym (cells_end digits index count (index - lo) cells far))
      ∙ is.whole

-- what holds where one fact does, in an answer without an error
pub on_ok : {T E : Type 0} {P Q : Type 0} (result : Result T E) → OnOk result P → (P → Q) →
    OnOk result Q
on_ok (Ok value) p by = by p
on_ok (Err error) p by = p
