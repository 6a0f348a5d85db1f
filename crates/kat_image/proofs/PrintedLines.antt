-- The text of an image as lines, each with its newline, and its cells as runs.
use Rattle.std.proofs.Common.{◌≡◌, ◌≢◌, ℕ, suc, ◌+◌, ◌≤◌, ◌==◌, ◌||◌, eqb, Bool, true, false, if◌then◌else◌, List, [], ◌∷◌, ◌++◌, append_assoc, append-nil, length, length-append, inl, inr, refl, sym, ap, ◌∙◌, arith, codes, decimal, nat_lt}
use Rattle.std.specs.List.{All}
use Rattle.std.proofs.lemmas.Bool.{cases_eq, eqb-true, eq-eqb, lt-ltb, false_from_ne_true, cond-true, cond-false, or_from}
use Rattle.std.proofs.lemmas.List.Elements.{All-head, All-tail, All-nil, All-cons}
use Rattle.std.proofs.lemmas.List.Splits.{slice_split_at}
use Rattle.kat_text.specs.Hexadecimal.{hex_digits}
use Rattle.kat_image.specs.Image.{Line, Lacks, lines_of}
use Rattle.kat_image.specs.ImageText.{cells_text, cell_text, count_behind, cell_start, line_end}
use Rattle.kat_image.specs.ReadsBack.{cell_digits}

-- lines, each with a newline behind it
abbrev pub ended : List Line → List ℕ
ended [] = []
ended (line ∷ lines) = line ++ 10 ∷ ended lines

no_tens : (line : Line) → Lacks 10 line → All (λ b. eqb b 10 ≡ false) line
no_tens [] h = All-nil (λ b. eqb b 10 ≡ false)
no_tens (b ∷ line) h =
    All-cons (λ c. eqb c 10 ≡ false) b line
    (false_from_ne_true (eqb b 10) (λ e. All-head (λ c. c ≢ 10) b line h (eqb-true b 10 e)))
    (no_tens line (All-tail (λ c. c ≢ 10) b line h))

-- the lines of such a text are these, and an empty one behind the last newline
pub lines_of_ended : (lines : List Line) → All (Lacks 10) lines →
    lines_of (ended lines) ≡ lines ++ [] ∷ []
lines_of_ended [] h = refl
lines_of_ended (line ∷ lines) h =
    slice_split_at (λ b. eqb b 10) line 10 (ended lines)
    (no_tens line (All-head (Lacks 10) line lines h)) refl
    ∙ ap (λ ls. line ∷ ls) (lines_of_ended lines (All-tail (Lacks 10) line lines h))

-- two texts of lines, one behind the other
pub ended-append : (a b : List Line) → ended (a ++ b) ≡ ended a ++ ended b
ended-append [] b = refl
ended-append (line ∷ a) b =
    ap (λ t. line ++ 10 ∷ t) (ended-append a b) ∙ sym (append_assoc line (10 ∷ ended a) (ended b))

-- cells that stand on one line: the index of the first, and their numbers
pub record Run : Type 0 where
  pub at : ℕ
  pub numbers : List ℕ

-- the run that is open, where there is one, before others
abbrev pub closed : ℕ → List ℕ → List Run → List Run
closed at [] runs = runs
closed at (n ∷ numbers) runs = record { at = at; numbers = n ∷ numbers } ∷ runs

-- the runs of cells from an index on, behind those of an open run
abbrev pub runs_of : (index at : ℕ) (held cells : List ℕ) → List Run
runs_of index at held [] = closed at held []
runs_of index at held (n ∷ cells) =
    if n == 0 then closed at held (runs_of (index + 1) (index + 1) [] cells)
    else if length held == 8 then closed at held (runs_of (index + 1) index (n ∷ []) cells)
    else runs_of (index + 1) at (held ++ n ∷ []) cells

-- what stands before the digits of a run
abbrev pub run_head : ℕ → List ℕ
run_head at = codes "cells " ++ decimal at ++ 32 ∷ []

-- the line of a run
abbrev pub run_line : ℕ → Run → Line
run_line digits run = run_head run.at ++ cell_digits digits run.numbers

abbrev pub run_lines : ℕ → List Run → List Line
run_lines digits [] = []
run_lines digits (run ∷ runs) = run_line digits run ∷ run_lines digits runs

-- the open line, where there is one
abbrev pub opened : ℕ → ℕ → List ℕ → List ℕ
opened digits at [] = []
opened digits at (n ∷ numbers) = run_head at ++ cell_digits digits (n ∷ numbers)

cell_digits-push : (digits n : ℕ) (numbers : List ℕ) →
    cell_digits digits (numbers ++ n ∷ []) ≡ cell_digits digits numbers ++ hex_digits digits n
cell_digits-push digits n [] = append-nil (hex_digits digits n)
cell_digits-push digits n (m ∷ numbers) =
    ap (λ t. hex_digits digits m ++ t) (cell_digits-push digits n numbers)
    ∙ sym (append_assoc (hex_digits digits m) (cell_digits digits numbers) (hex_digits digits n))

-- the second and the third of three
pub second : {A : Type 0} (a b : Bool) (x y z : A) → a ≡ false → b ≡ true →
    (if a then x else if b then y else z) ≡ y
second a b x y z e f =
    ap (λ c. if c then x else if b then y else z) e ∙ ap (λ c. if c then y else z) f

pub third : {A : Type 0} (a b : Bool) (x y z : A) → a ≡ false → b ≡ false →
    (if a then x else if b then y else z) ≡ z
third a b x y z e f =
    ap (λ c. if c then x else if b then y else z) e ∙ ap (λ c. if c then y else z) f

pub other_than : (a b : ℕ) → a ≢ b → eqb a b ≡ false
other_than a b ne = false_from_ne_true (eqb a b) (λ e. ne (eqb-true a b e))

some_end : (k : ℕ) → line_end (suc k) ≡ 10 ∷ []
some_end k = cond-true (nat_lt 0 (suc k)) (10 ∷ []) [] (lt-ltb 0 (suc k) (omega arith))

closed_cons : (head text more : List ℕ) (k : ℕ) → text ≡ more →
    head ++ (line_end (suc k) ++ text) ≡ head ++ 10 ∷ more
closed_cons head text more k e =
    ap (λ l. head ++ (l ++ text)) (some_end k) ∙ ap (λ t. head ++ 10 ∷ t) e

-- the end of the open line, before other lines
closed_text : (digits at : ℕ) (held : List ℕ) (runs : List Run) (text : List ℕ) →
    text ≡ ended (run_lines digits runs) →
    opened digits at held ++ (line_end (length held) ++ text)
    ≡ ended (run_lines digits (closed at held runs))
closed_text digits at [] runs text e = e
closed_text digits at (n ∷ held) runs text e =
    closed_cons (opened digits at (n ∷ held)) text (ended (run_lines digits runs)) (length held) e

module _ (digits index n : ℕ) (cells : List ℕ) (some : eqb n 0 ≡ false) where
  abbrev behind : ℕ → List ℕ
  behind count = cells_text digits (index + 1) count cells

  abbrev text : ℕ → List ℕ
  text c = cell_text digits index c n ++ behind (count_behind c n)

  -- a cell that is not zero
  not_zero : (c : ℕ) →
      text c ≡ (cell_start index c ++ hex_digits digits n) ++ behind (if c == 8 then 1 else c + 1)
  not_zero c =
      ap (λ b. (if b then line_end c else cell_start index c ++ hex_digits digits n)
      ++ behind (if b then 0 else if c == 8 then 1 else c + 1)) some

  -- one digit text alone
  alone : hex_digits digits n ≡ cell_digits digits (n ∷ [])
  alone = sym (append-nil (hex_digits digits n))

  -- the first cell of a run
  fresh : text 0 ≡ opened digits index (n ∷ []) ++ behind 1
  fresh = not_zero 0 ∙ ap (λ t. (run_head index ++ t) ++ behind 1) alone

  -- a cell behind eight begins a line
  full : (c : ℕ) → c ≡ 8 → text c ≡ line_end c ++ (opened digits index (n ∷ []) ++ behind 1)
  full c e =
      let here : text 8 ≡ 10 ∷ (run_head index ++ hex_digits digits n) ++ behind 1 = not_zero 8 in
      let more : 10 ∷ (run_head index ++ hex_digits digits n) ++ behind 1
      ≡ line_end 8 ++ (opened digits index (n ∷ []) ++ behind 1) =
      ap (λ t. 10 ∷ (run_head index ++ t) ++ behind 1) alone in
      ap text e ∙ here ∙ more
      ∙ ap (λ k. line_end k ++ (opened digits index (n ∷ []) ++ behind 1)) (sym e)

  -- one on the open line only its digits
  middle : (k : ℕ) → eqb (suc k) 8 ≡ false →
      text (suc k) ≡ hex_digits digits n ++ behind (suc k + 1)
  middle k e =
      let hex = hex_digits digits n in
      let next : ℕ = if suc k == 8 then 1 else suc k + 1 in
      let none : cell_start index (suc k) ≡ [] =
      cond-false ((suc k == 0) || (suc k == 8))
      (line_end (suc k) ++ codes "cells " ++ decimal index ++ 32 ∷ []) []
      (or_from (suc k == 0) (suc k == 8)
      (other_than (suc k) 0 (λ z. absurd (omega (arith, z)))) e) in
      let start : (cell_start index (suc k) ++ hex) ++ behind next ≡ hex ++ behind next =
      ap (λ t. (t ++ hex) ++ behind next) none in
      not_zero (suc k) ∙ start
      ∙ ap (λ c. hex ++ behind c) (cond-false (suc k == 8) 1 (suc k + 1) e)

-- the text of cells is the lines of their runs, from any open run on
abbrev pub AreRuns : ℕ → List ℕ → Type 0
AreRuns digits cells = (index at : ℕ) (held : List ℕ) → index ≡ at + length held →
    length held ≤ 8 →
    opened digits at held ++ cells_text digits index (length held) cells
    ≡ ended (run_lines digits (runs_of index at held cells))

-- one cell more
not_none : (digits index at n : ℕ) (cells : List ℕ) → AreRuns digits cells →
    (held : List ℕ) → index ≡ at + length held → length held ≤ 8 → eqb n 0 ≡ false →
    opened digits at held ++ cells_text digits index (length held) (n ∷ cells)
    ≡ ended (run_lines digits (runs_of index at held (n ∷ cells)))
not_none digits index at n cells ih [] e few some =
    let same : index ≡ at = omega (arith, e) in
    fresh digits index n cells some
    ∙ ap (λ i. opened digits i (n ∷ []) ++ cells_text digits (index + 1) 1 cells) same
    ∙ ih (index + 1) at (n ∷ []) (omega (arith, e)) (omega arith)
    ∙ ap (λ rs. ended (run_lines digits rs))
    (sym (cond-false (n == 0) (runs_of (index + 1) (index + 1) [] cells)
    (runs_of (index + 1) at (n ∷ []) cells) some))
not_none digits index at n cells ih (m ∷ held) e few some =
    let rest = runs_of (index + 1) (index + 1) [] cells in
    let begun = runs_of (index + 1) index (n ∷ []) cells in
    let long = runs_of (index + 1) at ((m ∷ held) ++ n ∷ []) cells in
    elim (cases_eq (length (m ∷ held)) 8) [
      | inl eight ↦
          ap (λ t. opened digits at (m ∷ held) ++ t)
          (full digits index n cells some (length (m ∷ held)) eight)
          ∙ closed_text digits at (m ∷ held) begun
          (opened digits index (n ∷ []) ++ cells_text digits (index + 1) 1 cells)
          (ih (index + 1) index (n ∷ []) (omega arith) (omega arith))
          ∙ ap (λ rs. ended (run_lines digits rs)) (sym (second (n == 0)
          (length (m ∷ held) == 8) (closed at (m ∷ held) rest) (closed at (m ∷ held) begun)
          long some (eq-eqb (length (m ∷ held)) 8 eight)))
      | inr other ↦
          let not_8 = other_than (length (m ∷ held)) 8 other in
          let count : length ((m ∷ held) ++ n ∷ []) ≡ length (m ∷ held) + 1 =
          length-append (m ∷ held) (n ∷ []) in
          let hex = hex_digits digits n in
          let text = cells_text digits (index + 1) (length (m ∷ held) + 1) cells in
          ap (λ t. opened digits at (m ∷ held) ++ t)
          (middle digits index n cells some (length held) not_8)
          ∙ sym (append_assoc (opened digits at (m ∷ held)) hex text)
          ∙ ap (λ t. t ++ text)
          (append_assoc (run_head at) (cell_digits digits (m ∷ held)) hex
          ∙ ap (λ t. run_head at ++ t) (sym (cell_digits-push digits n (m ∷ held))))
          ∙ ap (λ c. opened digits at ((m ∷ held) ++ n ∷ [])
          ++ cells_text digits (index + 1) c cells) (sym count)
          ∙ ih (index + 1) at ((m ∷ held) ++ n ∷ [])
          (omega (arith, e, count)) (omega (arith, few, other, count))
          ∙ ap (λ rs. ended (run_lines digits rs)) (sym (third (n == 0)
          (length (m ∷ held) == 8) (closed at (m ∷ held) rest) (closed at (m ∷ held) begun)
          long some not_8))
    ]

one_more : (digits n : ℕ) (cells : List ℕ) → AreRuns digits cells → AreRuns digits (n ∷ cells)
one_more digits n cells ih index at held e few =
    elim (cases_eq n 0) [
      | inl none ↦
          let rest = runs_of (index + 1) (index + 1) [] cells in
          let test = eq-eqb n 0 none in
          ap (λ b. opened digits at held
          ++ ((if b then line_end (length held)
          else cell_start index (length held) ++ hex_digits digits n)
          ++ cells_text digits (index + 1) (if b then 0
          else if length held == 8 then 1 else length held + 1) cells)) test
          ∙ closed_text digits at held rest (cells_text digits (index + 1) 0 cells)
          (ih (index + 1) (index + 1) [] (omega arith) (omega arith))
          ∙ ap (λ rs. ended (run_lines digits rs)) (sym (cond-true (n == 0) (closed at held rest)
          (if length held == 8
          then closed at held (runs_of (index + 1) index (n ∷ []) cells)
          else runs_of (index + 1) at (held ++ n ∷ []) cells) test))
      | inr some ↦ not_none digits index at n cells ih held e few (other_than n 0 some)
    ]

-- the text of cells is the lines of their runs
pub cells_are_runs : (digits : ℕ) (cells : List ℕ) → AreRuns digits cells
cells_are_runs digits [] index at [] e few = refl
cells_are_runs digits [] index at (m ∷ held) e few =
    ap (λ l. opened digits at (m ∷ held) ++ l) (some_end (length held))
cells_are_runs digits (n ∷ cells) index at held e few =
    one_more digits n cells (cells_are_runs digits cells) index at held e few
