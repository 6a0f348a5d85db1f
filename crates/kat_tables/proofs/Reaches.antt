-- Protected ranges by their first cells, with the greatest end so far.
use Rattle.std.proofs.Common.{◌≡◌, ℕ, zero, suc, ◌+◌, ◌-◌, ◌<◌, ◌≤◌, max, Bool, true, false, ◌&&◌, ◌||◌, nat_le, nat_lt, if◌then◌else◌, List, [], ◌∷◌, ◌++◌, length, get_or, take, drop, refl, sym, ap, subst, ◌∙◌, arith}
use Rattle.std.specs.List.{list_any, AllWithin}
use Rattle.std.specs.List.Sorted.{IsNonDecreasingBy, IsPartitionPoint, IsPermutation}
use Rattle.std.proofs.lemmas.Bool.Decides.{nat_tests}
use Rattle.std.proofs.lemmas.List.Sorted.{list_any-IsPermutation}
use Rattle.kat_ast.specs.declared.decl.CellsKind.TheVariants as cells
use Rattle.kat_ast.specs.declared.decl.DeclForm.{DeclForm}
use Rattle.kat_ast.specs.declared.decl.DeclForm.TheVariants as d
use Rattle.kat_syntax.specs.Memories.{protects, ranges_of}
use Rattle.kat_tables.specs.declared.protected.Reach.{Reach}
use Rattle.kat_tables.specs.Protected.{IsProtected, reaches_of, raised, end_at}

-- the first cell of a range
abbrev pub first_cell : Reach → ℕ
first_cell reach = reach.lo

-- whether a range has this cell
abbrev pub has_cell : ℕ → Reach → Bool
has_cell n reach = nat_le reach.lo n && nat_lt n reach.hi

-- the protected ranges have the cells that are protected
protected_same : (n : ℕ) (decls : List DeclForm) →
    list_any (has_cell n) (reaches_of decls) ≡ list_any (protects n) (ranges_of decls)
protected_same n [] = refl
protected_same n (d.Cells cells.Protected lo hi ∷ decls) =
    ap (λ b. (nat_le lo n && nat_lt n hi) || b) (protected_same n decls)
protected_same n (d.Cells cells.Outside lo hi ∷ decls) = protected_same n decls
protected_same n (d.Code lo values ∷ decls) = protected_same n decls
protected_same n (_ ∷ decls) = protected_same n decls

-- what is sorted is sorted behind its first
sorted_behind : (reach : Reach) (more : List Reach) → IsNonDecreasingBy first_cell (reach ∷ more) →
    IsNonDecreasingBy first_cell more
sorted_behind reach more sorted i j d up within =
    sorted (suc i) (suc j) d (omega arith) (omega arith)

-- no range of which each begins later has the cell
later_none : (n : ℕ) (reaches : List Reach) →
    ((j : ℕ) (d : Reach) → j < length reaches → n < first_cell (get_or reaches j d)) →
    list_any (has_cell n) reaches ≡ false
later_none n [] later = refl
later_none n (reach ∷ more) later =
    let past : n < reach.lo = later 0 reach (omega arith) in
    let fails : nat_le reach.lo n ≡ false = grind (arith, nat_tests) in
    ap (λ b. (b && nat_lt n reach.hi) || list_any (has_cell n) more) fails
    ∙ later_none n more (λ j d within. later (suc j) d (omega arith))

or_none : (b : Bool) → b ≡ (b || false)
or_none true = refl
or_none false = refl

or_three : (a b c : Bool) → ((a || b) || c) ≡ (a || (b || c))
or_three true b c = refl
or_three false b c = refl

below_greater : (n a b : ℕ) → nat_lt n (max a b) ≡ (nat_lt n a || nat_lt n b)
below_greater n a b = grind (arith, nat_tests)

-- the end at a cell tells whether some range has it
end_tells : (n h : ℕ) (reaches : List Reach) → IsNonDecreasingBy first_cell reaches →
    nat_lt n (end_at n h (raised h reaches)) ≡ (nat_lt n h || list_any (has_cell n) reaches)
end_tells n h [] sorted = or_none (nat_lt n h)
end_tells n h (reach ∷ more) sorted =
    let further = max h reach.hi in
    let rest = end_tells n further more (sorted_behind reach more sorted) in
    let begun : nat_le reach.lo n ≡ true →
    nat_lt n (if nat_le reach.lo n then end_at n further (raised further more) else h)
    ≡ (nat_lt n h || ((nat_le reach.lo n && nat_lt n reach.hi) || list_any (has_cell n) more)) =
    λ e.
    ap (λ b. nat_lt n (if b then end_at n further (raised further more) else h)) e
    ∙ rest
    ∙ ap (λ b. b || list_any (has_cell n) more) (below_greater n h reach.hi)
    ∙ or_three (nat_lt n h) (nat_lt n reach.hi) (list_any (has_cell n) more)
    ∙ ap (λ b. nat_lt n h || ((b && nat_lt n reach.hi) || list_any (has_cell n) more)) (sym e) in
    let past : nat_le reach.lo n ≡ false →
    nat_lt n (if nat_le reach.lo n then end_at n further (raised further more) else h)
    ≡ (nat_lt n h || ((nat_le reach.lo n && nat_lt n reach.hi) || list_any (has_cell n) more)) =
    λ e.
    let above : n < reach.lo = grind (arith, nat_tests) in
    let none : list_any (has_cell n) more ≡ false =
    later_none n more (λ j d within.
    let up : reach.lo ≤ first_cell (get_or more j d) =
    sorted 0 (suc j) d (omega arith) (omega arith) in
    omega arith) in
    ap (λ b. nat_lt n (if b then end_at n further (raised further more) else h)) e
    ∙ or_none (nat_lt n h)
    ∙ ap (λ b. nat_lt n h || b) (sym none)
    ∙ ap (λ b. nat_lt n h || ((b && nat_lt n reach.hi) || list_any (has_cell n) more)) (sym e) in
    elim (nat_le reach.lo n) as (λ b. nat_le reach.lo n ≡ b →
    nat_lt n (if nat_le reach.lo n then end_at n further (raised further more) else h)
    ≡ (nat_lt n h || ((nat_le reach.lo n && nat_lt n reach.hi) || list_any (has_cell n) more)))
    [ true ↦ begun | false ↦ past ] refl

raised_length : (h : ℕ) (reaches : List Reach) → length (raised h reaches) ≡ length reaches
raised_length h [] = refl
raised_length h (reach ∷ more) = ap (λ n. suc n) (raised_length (max h reach.hi) more)

raised_first : (h : ℕ) (reaches : List Reach) (i : ℕ) (d : Reach) → i < length reaches →
    first_cell (get_or (raised h reaches) i d) ≡ first_cell (get_or reaches i d)
raised_first h [] i d within = absurd (omega arith)
raised_first h (reach ∷ more) zero d within = refl
raised_first h (reach ∷ more) (suc i) d within =
    raised_first (max h reach.hi) more i d (omega arith)

-- greater ends leave ranges sorted
raised_sorted : (h : ℕ) (reaches : List Reach) → IsNonDecreasingBy first_cell reaches →
    IsNonDecreasingBy first_cell (raised h reaches)
raised_sorted h reaches sorted i j d up within =
    let inside : j < length reaches = omega (arith, raised_length h reaches) in
    let order : first_cell (get_or reaches i d) ≤ first_cell (get_or reaches j d) =
    sorted i j d up inside in
    rw (raised_first h reaches i d (omega arith), raised_first h reaches j d inside) order

none_below : (n : ℕ) → nat_lt n 0 ≡ false
none_below n = grind (arith, nat_tests)

-- the ranges of declarations, sorted and with greater ends, are the table
pub is_protected : (decls : List DeclForm) (reaches sorted table : List Reach) →
    reaches ≡ reaches_of decls → IsPermutation reaches sorted →
    IsNonDecreasingBy first_cell sorted → table ≡ raised 0 sorted → IsProtected decls table
is_protected decls reaches sorted table are moved rising is = rw is record {
  sorted = raised_sorted 0 sorted rising;
  answers = λ n.
      end_tells n 0 sorted rising
      ∙ ap (λ b. b || list_any (has_cell n) sorted) (none_below n)
      ∙ sym (list_any-IsPermutation (has_cell n) reaches sorted moved)
      ∙ ap (list_any (has_cell n)) are
      ∙ protected_same n decls;
}

-- where no range has begun at a cell
pub none_begun : (n h : ℕ) (reaches : List Reach) →
    AllWithin (λ (reach : Reach). nat_le reach.lo n ≡ false) reaches 0 (length reaches) →
    end_at n h reaches ≡ h
none_begun n h [] later = refl
none_begun n h (reach ∷ more) later =
    ap (λ b. if b then end_at n reach.hi more else h)
    (later 0 reach (omega arith) (omega arith))

-- where the last range that has begun at a cell is this one
pub last_begun : (n h : ℕ) (reaches : List Reach) (k : ℕ) (d : Reach) → k < length reaches →
    IsPartitionPoint (λ (reach : Reach). nat_le reach.lo n ≡ true)
    (λ (reach : Reach). nat_le reach.lo n ≡ false) reaches (k + 1) →
    end_at n h reaches ≡ (get_or reaches k d).hi
last_begun n h [] k d within point = absurd (omega arith)
last_begun n h (reach ∷ more) zero d within point =
    ap (λ b. if b then end_at n reach.hi more else h) (point.0 0 reach (omega arith) (omega arith))
    ∙ none_begun n reach.hi more
    (λ j e from below. point.1 (suc j) e (omega arith) (omega arith))
last_begun n h (reach ∷ more) (suc k) d within point =
    ap (λ b. if b then end_at n reach.hi more else h) (point.0 0 reach (omega arith) (omega arith))
    ∙ last_begun n reach.hi more k d (omega arith) (
      λ j e from below. point.0 (suc j) e (omega arith) (omega arith),
      λ j e from below. point.1 (suc j) e (omega arith) (omega arith),
    )

-- a cell is below the end of the last range that has begun there, where it is protected
pub below_last : (n : ℕ) (reaches : List Reach) (begun : ℕ) (d : Reach) → 0 < begun →
    begun ≤ length reaches →
    IsPartitionPoint (λ (reach : Reach). nat_le reach.lo n ≡ true)
    (λ (reach : Reach). nat_le reach.lo n ≡ false) reaches begun →
    nat_lt n (get_or reaches (begun - 1) d).hi ≡ nat_lt n (end_at n 0 reaches)
below_last n reaches begun d some within point =
    let counted : begun ≡ begun - 1 + 1 = omega arith in
    sym (ap (nat_lt n) (last_begun n 0 reaches (begun - 1) d (omega arith)
    (subst (IsPartitionPoint (λ (reach : Reach). nat_le reach.lo n ≡ true)
    (λ (reach : Reach). nat_le reach.lo n ≡ false) reaches) counted point)))

-- no cell is below the end where no range has begun
pub below_none : (n : ℕ) (reaches : List Reach) (begun : ℕ) → begun ≤ 0 →
    IsPartitionPoint (λ (reach : Reach). nat_le reach.lo n ≡ true)
    (λ (reach : Reach). nat_le reach.lo n ≡ false) reaches begun →
    nat_lt 0 begun ≡ nat_lt n (end_at n 0 reaches)
below_none n reaches begun none point =
    let fails : nat_lt 0 begun ≡ false = grind (arith, nat_tests) in
    fails ∙ sym (none_below n)
    ∙ sym (ap (nat_lt n) (none_begun n 0 reaches
    (λ j d from below. point.1 j d (omega arith) below)))

-- a list that was written over another of its length
pub written_over : (sorted items : List Reach) (len : ℕ) → len ≡ length items →
    length sorted ≡ length items → take len (sorted ++ drop (length sorted) items) ≡ sorted
written_over [] [] len is same = ap (λ n. take {A = Reach} n []) is
written_over [] (y ∷ items) len is same = absurd (omega arith)
written_over (x ∷ sorted) [] len is same = absurd (omega arith)
written_over (x ∷ sorted) (y ∷ items) len is same =
    ap (λ n. take n ((x ∷ sorted) ++ drop (length (x ∷ sorted)) (y ∷ items))) is
    ∙ ap (λ l. x ∷ l) (written_over sorted items (length items) refl (omega arith))
