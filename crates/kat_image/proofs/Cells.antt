-- The reading of cells.
use Rattle.std.proofs.Common.{◌≡◌, ℕ, zero, suc, ◌+◌, ◌<◌, ◌≤◌, ◌*◌, ◌^◌, List, [], ◌∷◌, ◌++◌, length, drop, Option, None, Some, refl, sym, ap, ◌∙◌, subst, arith, append_assoc, append-nil, length-drop}
use Rattle.std.specs.Prelude.{option_and_then}
use Rattle.std.specs.Option.{option_map}
use Rattle.std.proofs.Math.Nat.{pow-le-pow_right}
use Rattle.kat_image.specs.Lines.{size_of_cell, cell_in, cells_in}

-- the numbers so far and those of the rest are those of all bytes
pub record IsReadSo (width : ℕ) (numbers rest bytes : List ℕ) : Type 0 where
  pub left : ℕ
  pub enough : length rest ≤ left
  pub whole : option_map (λ more. numbers ++ more) (cells_in width left rest)
      ≡ cells_in width (length bytes) bytes

same_map : (o : Option (List ℕ)) → option_map (λ more. [] ++ more) o ≡ o
same_map None = refl
same_map (Some numbers) = refl

pub reads_none : (width : ℕ) (bytes : List ℕ) → IsReadSo width [] bytes bytes
reads_none width bytes =
    record {
      left = length bytes;
      enough = omega arith;
      whole = same_map (cells_in width (length bytes) bytes);
    }

pushed : (numbers : List ℕ) (number : ℕ) (o : Option (List ℕ)) →
    option_map (λ more. (numbers ++ number ∷ []) ++ more) o
    ≡ option_map (λ more. numbers ++ more) (option_map (λ more. number ∷ more) o)
pushed numbers number None = refl
pushed numbers number (Some more) = ap Some (append_assoc numbers (number ∷ []) more)

-- one cell more
pub reads_more : (width number : ℕ) (numbers rest bytes : List ℕ) → 0 < length rest →
    0 < size_of_cell width → size_of_cell width ≤ length rest → cell_in width rest ≡ Some number →
    IsReadSo width numbers rest bytes →
    IsReadSo width (numbers ++ number ∷ []) (drop (size_of_cell width) rest) bytes
reads_more width number numbers [] bytes some size within cell r = absurd (omega arith)
reads_more width number numbers (b ∷ rest) bytes some size within cell r =
    by r.left r.enough r.whole
  where
    by : (left : ℕ) → length (b ∷ rest) ≤ left →
        option_map (λ more. numbers ++ more) (cells_in width left (b ∷ rest))
        ≡ cells_in width (length bytes) bytes →
        IsReadSo width (numbers ++ number ∷ []) (drop (size_of_cell width) (b ∷ rest)) bytes
    by zero enough whole = absurd (omega arith)
    by (suc left) enough whole =
        let behind = drop (size_of_cell width) (b ∷ rest) in
        let step : cells_in width (suc left) (b ∷ rest)
        ≡ option_map (λ more. number ∷ more) (cells_in width left behind) =
        ap (option_and_then (λ n. option_map (λ more. n ∷ more) (cells_in width left behind))) cell
        in
        record {
          left = left;
          enough = omega (arith, enough, size, length-drop (size_of_cell width) (b ∷ rest));
          whole = pushed numbers number (cells_in width left behind)
              ∙ ap (option_map (λ more. numbers ++ more)) (sym step) ∙ whole;
        }

-- the same of what the reader has
pub reads_pushed : (width size number : ℕ) (numbers pushed rest behind bytes : List ℕ) →
    size ≡ size_of_cell width → 0 < size → size ≤ length rest → Some number ≡ cell_in width rest →
    pushed ≡ numbers ++ number ∷ [] → behind ≡ drop size rest →
    IsReadSo width numbers rest bytes → IsReadSo width pushed behind bytes
reads_pushed width size number numbers pushed rest behind bytes size_is some within cell
    pushed_is behind_is r =
    let more = reads_more width number numbers rest bytes (omega (arith, some, within))
    (omega (arith, some, size_is)) (omega (arith, within, size_is)) (sym cell) r in
    let here : drop (size_of_cell width) rest ≡ behind =
    ap (λ k. drop k rest) (sym size_is) ∙ sym behind_is in
    subst (λ n. IsReadSo width n behind bytes) (sym pushed_is)
    (subst (λ b. IsReadSo width (numbers ++ number ∷ []) b bytes) here more)

-- a cell that is none
pub reads_stop : (width : ℕ) (numbers rest bytes : List ℕ) → 0 < length rest →
    cell_in width rest ≡ None → IsReadSo width numbers rest bytes →
    None ≡ cells_in width (length bytes) bytes
reads_stop width numbers [] bytes some cell r = absurd (omega arith)
reads_stop width numbers (b ∷ rest) bytes some cell r = by r.left r.enough r.whole
  where
    by : (left : ℕ) → length (b ∷ rest) ≤ left →
        option_map (λ more. numbers ++ more) (cells_in width left (b ∷ rest))
        ≡ cells_in width (length bytes) bytes →
        None ≡ cells_in width (length bytes) bytes
    by zero enough whole = absurd (omega arith)
    by (suc left) enough whole =
        let behind = drop (size_of_cell width) (b ∷ rest) in
        ap (λ o. option_map (λ more. numbers ++ more)
        (option_and_then (λ n. option_map (λ more. n ∷ more) (cells_in width left behind)) o))
        (sym cell) ∙ whole

-- no bytes are left
pub reads_all : (width : ℕ) (numbers rest bytes : List ℕ) → rest ≡ [] →
    IsReadSo width numbers rest bytes → Some numbers ≡ cells_in width (length bytes) bytes
reads_all width numbers rest bytes none r =
    ap Some (sym (append-nil numbers))
    ∙ ap (option_map (λ more. numbers ++ more)) (sym (at_end r.left rest none)) ∙ r.whole
  where
    at_end : (left : ℕ) (rest : List ℕ) → rest ≡ [] → cells_in width left rest ≡ Some []
    at_end left rest e = ap (cells_in width left) e

-- one byte more fits eight
pub byte_fits : (number index count : ℕ) → number < 256 ^ index → index < count → count ≤ 8 →
    number * 256 + 256 ≤ 2 ^ 64
byte_fits number index count small less most =
    let e : 256 ^ index ≤ 256 ^ 7 =
    pow-le-pow_right {n = 256} (omega arith) {i = index} {j = 7} (omega (arith, less, most)) in
    omega (arith, small, e)
