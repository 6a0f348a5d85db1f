-- The lines of the cells that a cycle stored are those of the cells that it changed.
use Rattle.std.proofs.Common.{◌≡◌, ℕ, zero, suc, ◌+◌, ◌-◌, ◌<◌, ◌≤◌, ◌==◌, ◌&&◌, ◌||◌, Bool, true, false, cond, nat_le, nat_lt, if◌then◌else◌, refl, ap, sym, ◌∙◌, arith, List, [], ◌∷◌, ◌++◌, length, Option, None, Some, ⊎_elim, true≢false}
use Rattle.std.specs.List.{filter, range_with_len, dedup}
use Rattle.std.specs.List.Sorted.{IsStrictlyIncreasing}
use Rattle.std.specs.Prelude.{slice_index, nat_eq}
use Rattle.std.proofs.lemmas.List.Folds.{Any-from_list_any, list_any_at}
use Rattle.std.proofs.lemmas.List.Kept.{Contains-dedup_nat}
use Rattle.std.proofs.lemmas.Bool.{cases_lt}
use Rattle.std.proofs.lemmas.Bool.Decides.{nat_tests}
use Rattle.kat_ast.specs.declared.decl.DeclForm.{DeclForm}
use Rattle.kat_syntax.specs.Machine.{MachineState}
use Rattle.kat_syntax.specs.States.{cell_at, first_index, cell_count}
use Rattle.kat_runner.specs.StateText.{CellText, cell_text_of, cell_line, changed_line, changed_cells, filled_line, filled_cells, is_index, indices_of}
use Rattle.kat_runner.specs.Runner.{is_stored, ChangesOnlyStored}

-- whether an index is one of so many from the first on
abbrev is_within : ℕ → ℕ → ℕ → Bool
is_within first count index = nat_le first index && nat_lt (index - first) count

-- each of these is above the one before, and none is below the least
abbrev Rises : ℕ → List ℕ → Type 0
Rises least [] = Unit {0}
Rises least (x ∷ xs) = (least ≤ x) × Rises (x + 1) xs

rises-lower : (a b : ℕ) → a ≤ b → (xs : List ℕ) → Rises b xs → Rises a xs
rises-lower a b h [] r = tt
rises-lower a b h (x ∷ xs) r = let low : b ≤ x = r.0 in (omega arith, r.1)

rises-from : (least : ℕ) (xs : List ℕ) → (0 < length xs → least ≤ slice_index xs 0) →
    IsStrictlyIncreasing xs → Rises least xs
rises-from least [] low up = tt
rises-from least (x ∷ xs) low up = (
  low (omega arith),
  rises-from (x + 1) xs (λ h. let above : x < slice_index xs 0 = up 0 (omega arith) in omega arith)
      (λ k h.
      let next : suc k + 1 ≡ suc (k + 1) = omega arith in
      rw next at (up (suc k) (omega arith))),
)

-- an index below the least is not stored
not_stored : (index : ℕ) (xs : List ℕ) → Rises (index + 1) xs → is_stored xs index ≡ false
not_stored index [] r = refl
not_stored index (x ∷ xs) r =
    let low : index + 1 ≤ x = r.0 in
    let other : (index == x) ≡ false = grind (arith, nat_tests) in
    ap (λ b. b || is_stored xs index) other
    ∙ not_stored index xs (rises-lower (index + 1) (x + 1) (omega arith) xs r.1)

still_not_stored : (index x : ℕ) (xs : List ℕ) → (index == x) ≡ false →
    is_stored xs index ≡ false → is_stored (x ∷ xs) index ≡ false
still_not_stored index x xs other e = ap (λ b. b || is_stored xs index) other ∙ e

-- what `dedup` leaves has the indices that were stored
pub stored_before_dedup : (xs : List ℕ) (index : ℕ) →
    is_stored (dedup nat_eq xs) index ≡ false → is_stored xs index ≡ false
stored_before_dedup xs index none = by (is_stored xs index) refl where
  by : (b : Bool) → is_stored xs index ≡ b → is_stored xs index ≡ false
  by false e = e
  by true e =
      let a = Any-from_list_any (λ stored. index == stored) xs e in
      let c = Contains-dedup_nat xs a.1 (a.0, a.2, a.3) in
      let there : is_stored (dedup nat_eq xs) index ≡ true =
      list_any_at (λ stored. index == stored) (dedup nat_eq xs) c.0 a.1 c.1
      (ap (λ stored. index == stored) c.2 ∙ a.4) in
      absurd (true≢false (sym there ∙ none))

and-false : (b : Bool) → (b && false) ≡ false
and-false true = refl
and-false false = refl

within-none : (first x : ℕ) → is_within first 0 x ≡ false
within-none first x =
    let e : nat_lt (x - first) 0 ≡ false = grind (arith, nat_tests) in
    ap (λ b. nat_le first x && b) e ∙ and-false (nat_le first x)

within-below : (first count x : ℕ) → x < first → is_within first count x ≡ false
within-below first count x h =
    let e : nat_le first x ≡ false = grind (arith, nat_tests) in
    ap (λ b. b && nat_lt (x - first) count) e

within-first : (first count x : ℕ) → x ≡ first → is_within first (suc count) x ≡ true
within-first first count x h =
    let e : nat_le first x ≡ true = grind (arith, nat_tests) in
    let f : nat_lt (x - first) (suc count) ≡ true = grind (arith, nat_tests) in
    ap (λ b. b && nat_lt (x - first) (suc count)) e ∙ f

lt-suc : (a b : ℕ) → nat_lt (suc a) (suc b) ≡ nat_lt a b
lt-suc a b = ⊎_elim
    (λ (h : a < b).
    let e : nat_lt (suc a) (suc b) ≡ true = grind (arith, nat_tests) in
    let f : nat_lt a b ≡ true = grind (arith, nat_tests) in
    e ∙ sym f)
    (λ (h : b ≤ a).
    let e : nat_lt (suc a) (suc b) ≡ false = grind (arith, nat_tests) in
    let f : nat_lt a b ≡ false = grind (arith, nat_tests) in
    e ∙ sym f)
    (cases_lt a b)

within-next : (first count x : ℕ) → first + 1 ≤ x →
    is_within first (suc count) x ≡ is_within (first + 1) count x
within-next first count x h =
    let e : nat_le first x ≡ true = grind (arith, nat_tests) in
    let f : nat_le (first + 1) x ≡ true = grind (arith, nat_tests) in
    let g : x - first ≡ suc (x - (first + 1)) = omega arith in
    let k : nat_lt (suc (x - (first + 1))) (suc count) ≡ nat_lt (x - (first + 1)) count =
    lt-suc (x - (first + 1)) count in
    ap (λ b. b && nat_lt (x - first) (suc count)) e
    ∙ ap (λ n. nat_lt n (suc count)) g
    ∙ k
    ∙ sym (ap (λ b. b && nat_lt (x - (first + 1)) count) f)

filter-none : (first : ℕ) (xs : List ℕ) → filter (is_within first 0) xs ≡ []
filter-none first [] = refl
filter-none first (x ∷ xs) =
    let kept : List ℕ = filter (is_within first 0) xs in
    ap (λ b. cond b (x ∷ kept) kept) (within-none first x) ∙ filter-none first xs

-- above the first, those of the memory are those of the memory behind the first
filter-next : (first count : ℕ) (xs : List ℕ) → Rises (first + 1) xs →
    filter (is_within first (suc count)) xs ≡ filter (is_within (first + 1) count) xs
filter-next first count [] r = refl
filter-next first count (x ∷ xs) r =
    let low : first + 1 ≤ x = r.0 in
    let kept : List ℕ = filter (is_within first (suc count)) xs in
    ap (λ b. cond b (x ∷ kept) kept) (within-next first count x low)
    ∙ ap (λ fs. cond (is_within (first + 1) count x) (x ∷ fs) fs)
    (filter-next first count xs (rises-lower (first + 1) (x + 1) (omega arith) xs r.1))

module _ (text : CellText) (before after : MachineState) where
  -- the cells from the first on that were not stored are as before
  abbrev Unchanged : ℕ → List ℕ → Type 0
  Unchanged first stored =
      (index : ℕ) → first ≤ index → is_stored stored index ≡ false →
      cell_at after index ≡ cell_at before index

  abbrev lines : List ℕ → List ℕ
  lines = changed_cells text before after

  no_line : (index : ℕ) (number : Option ℕ) → changed_line text index number number ≡ []
  no_line index None = refl
  no_line index (Some n) =
      let same : (n == n) ≡ true = grind (arith, nat_tests) in
      ap (λ b. if b then [] else cell_line text index n) same

  same_line : (index : ℕ) → cell_at after index ≡ cell_at before index →
      changed_line text index (cell_at before index) (cell_at after index) ≡ []
  same_line index e =
      ap (λ number. changed_line text index (cell_at before index) number) e
      ∙ no_line index (cell_at before index)

  lines-none : (count first : ℕ) → Unchanged first [] → lines (range_with_len first count) ≡ []
  lines-none zero first u = refl
  lines-none (suc n) first u =
      ap (λ line. line ++ lines (range_with_len (first + 1) n))
      (same_line first (u first (omega arith) refl))
      ∙ lines-none n (first + 1) (λ index h e. u index (omega arith) e)

  -- where none is below the first
  lines-from : (count first : ℕ) (stored : List ℕ) → Rises first stored → Unchanged first stored →
      lines (filter (is_within first count) stored) ≡ lines (range_with_len first count)
  lines-from zero first stored r u = ap lines (filter-none first stored)
  lines-from (suc n) first [] r u = sym (lines-none (suc n) first u)
  lines-from (suc n) first (s ∷ rest) r u =
      let low : first ≤ s = r.0 in
      let later : List ℕ = range_with_len (first + 1) n in
      ⊎_elim
      (λ (above : first < s).
      let r' : Rises (first + 1) (s ∷ rest) = (omega arith, r.1) in
      ap lines (filter-next first n (s ∷ rest) r')
      ∙ lines-from n (first + 1) (s ∷ rest) r' (λ index h e. u index (omega arith) e)
      ∙ sym (ap (λ line. line ++ lines later)
      (same_line first (u first (omega arith) (not_stored first (s ∷ rest) r')))))
      (λ (no_more : s ≤ first).
      let is : s ≡ first = omega arith in
      let r' : Rises (first + 1) rest = rises-lower (first + 1) (s + 1) (omega arith) rest r.1 in
      let kept : List ℕ = filter (is_within first (suc n)) rest in
      let u' : Unchanged (first + 1) rest = λ index h e.
      let other : (index == s) ≡ false = grind (arith, nat_tests) in
      u index (omega arith) (still_not_stored index s rest other e) in
      ap (λ b. lines (cond b (s ∷ kept) kept)) (within-first first n s is)
      ∙ ap (λ fs. lines (s ∷ fs)) (filter-next first n rest r')
      ∙ ap (λ ls. changed_line text s (cell_at before s) (cell_at after s) ++ ls)
      (lines-from n (first + 1) rest r' u')
      ∙ ap (λ x. lines (x ∷ later)) is)
      (cases_lt first s)

  -- wherever they begin
  lines-of : (count first : ℕ) (stored : List ℕ) → Rises 0 stored → Unchanged first stored →
      lines (filter (is_within first count) stored) ≡ lines (range_with_len first count)
  lines-of count first [] r u = lines-from count first [] tt u
  lines-of count first (s ∷ rest) r u =
      let kept : List ℕ = filter (is_within first count) rest in
      ⊎_elim
      (λ (below : s < first).
      let u' : Unchanged first rest = λ index h e.
      let other : (index == s) ≡ false = grind (arith, nat_tests) in
      u index h (still_not_stored index s rest other e) in
      ap (λ b. lines (cond b (s ∷ kept) kept)) (within-below first count s below)
      ∙ lines-of count first rest (rises-lower 0 (s + 1) (omega arith) rest r.1) u')
      (λ (low : first ≤ s). lines-from count first (s ∷ rest) (low, r.1) u)
      (cases_lt s first)

-- the lines of the stored indices are those of all
pub stored_lines : (decls : List DeclForm) (before after : MachineState) (stored : List ℕ) →
    IsStrictlyIncreasing stored → ChangesOnlyStored stored before after →
    changed_cells (cell_text_of decls) before after (filter (is_index decls) stored)
    ≡ changed_cells (cell_text_of decls) before after (indices_of decls)
stored_lines decls before after stored up changes =
    lines-of (cell_text_of decls) before after (cell_count decls) (first_index decls) stored
    (rises-from 0 stored (λ h. omega arith) up) (λ index h e. changes.others index e)

-- the line of the cell at an index, and the lines behind it
pub filled_cells-at : (text : CellText) (state : MachineState) (index hi : ℕ) → index < hi →
    filled_cells text state (range_with_len index (hi - index))
    ≡ filled_line text index (cell_at state index)
    ++ filled_cells text state (range_with_len (index + 1) (hi - (index + 1)))
filled_cells-at text state index hi h =
    let e : hi - index ≡ suc (hi - (index + 1)) = omega arith in
    ap (λ n. filled_cells text state (range_with_len index n)) e
