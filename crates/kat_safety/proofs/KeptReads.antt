-- The kept places that typing finds have values in a state of the machine, of the types it finds.
use Rattle.std.proofs.Common.{◌≡◌, ◌∙◌, ℕ, zero, suc, ◌+◌, ◌-◌, ◌<◌, ◌≤◌, ◌&&◌, ◌||◌, ◌≢◌, not, is_some, nat_le, nat_lt, Bool, true, false, List, [], ◌∷◌, ◌++◌, length, map, slice_get, Option, Some, None, refl, ap, sym, subst, arith, if◌then◌else◌}
use Rattle.std.specs.Prelude.{◌==◌, filter, filter_map, option_and_then, position, unwrap_or}
use Rattle.std.specs.List.{AllByRecursion, cons_option, list_any, range_with_len}
use Rattle.std.specs.Option.{option_map}
use Rattle.std.specs.Str.{bytes_eq}
use Rattle.std.proofs.lemmas.Bool.{and_parts, eq-eqb, eqb-true, false≢true, le-leb, leb-true, ltb-true, or_left, or_right}
use Rattle.std.proofs.lemmas.List.Folds.{list_any-append}
use Rattle.std.proofs.lemmas.Slice.Eq.{bytes_eq-Decides}
use Rattle.kat_value.specs.declared.types.Ty.TheVariants as ty
use Rattle.kat_value.specs.declared.value.Value.{Value}
use Rattle.kat_value.specs.declared.value.Value.TheVariants.{Bits as Number}
use Rattle.kat_value.specs.TypeLaws.{BitsAreNumbers}
use Rattle.kat_value.specs.Signatures.{bits_of}
use Rattle.kat_value.specs.Widths.{is_number}
use Rattle.kat_ast.specs.declared.decl.CellsKind.TheVariants as cells
use Rattle.kat_ast.specs.declared.decl.DeclForm.{DeclForm}
use Rattle.kat_ast.specs.declared.decl.DeclForm.TheVariants as d
use Rattle.kat_syntax.specs.declared.type_rule.TypeRule.TheVariants.{CellTaken, MemoryMissing, NameUnknown, NotHere, RangeOutside}
use Rattle.kat_syntax.specs.Around.{Around, a_register, meant}
use Rattle.kat_syntax.specs.Machine.{MachineState}
use Rattle.kat_syntax.specs.Memories.{Memory, Range, is_protected_cell, is_taken, is_within, kept_cell_type, memory_before, memory_from, protects, range_of_cells, ranges_of}
use Rattle.kat_syntax.specs.States.{IsState, KeptPlace, KeptCell, KeptRegister, are_of_types, cell_at, cell_width, is_kept_cell, is_kept_register, kept_cells, kept_places, kept_register, kept_value, memory_of, register_types, register_types_from, register_value, value_at, value_of_place}
use Rattle.kat_syntax.specs.Tables.{Name, RegisterDecl, register_names, registers_of}
use Rattle.kat_syntax.specs.TypeRules.{unless}
use Rattle.kat_syntax.specs.TypeTable.{types_of_decls}
use Rattle.kat_syntax.specs.TypingDeclarations.{range_faults}
use Rattle.kat_syntax.specs.TypingExpressions.{cell_faults, is_of_kind, is_protected_kind, register_faults, type_of_register, unknown}
use Rattle.kat_syntax.specs.TypingStatements.{without_memory}
use Rattle.kat_names.specs.Names.{position_of}
use Rattle.kat_safety.specs.Typed.{AreKept}
use Rattle.kat_safety.proofs.Clean.{AreClean, empty_first, empty_second, inner_clean, met}
use Rattle.kat_safety.proofs.Lookups.{position_next}
use Rattle.kat_safety.proofs.RegisterTables.{cell_there, memory_wide, registers_placed, value_typed}
use Rattle.kat_safety.proofs.TypedExpressions.{IsGiven}

-- what two lists have, both have together
all_both : {A : Type 0} (P : A → Type 0) (xs ys : List A) →
    AllByRecursion P xs → AllByRecursion P ys → AllByRecursion P (xs ++ ys)
all_both P [] ys first second = second
all_both P (x ∷ xs) ys first second = (first.0, all_both P xs ys first.1 second)

-- a list has what stands below its length
slice_there : {A : Type 0} (xs : List A) (at : ℕ) → at < length xs →
    is_some (slice_get xs at) ≡ true
slice_there [] at below = absurd (omega (arith, below))
slice_there (x ∷ xs) zero below = refl
slice_there (x ∷ xs) (suc at) below = slice_there xs at (omega (arith, below))

-- one value more, and one place further
value_further : (v : Value) (vs : List Value) (place : Option ℕ) →
    value_at (v ∷ vs) (option_map suc place) ≡ value_at vs place
value_further v vs None = refl
value_further v vs (Some at) = refl

-- the value at the first place that a test finds, where all places have values
pub record HasFirst (of : KeptPlace → Option Value) (test : KeptPlace → Bool)
    (o : Option Value) : Type 0 where
  pub place : KeptPlace
  pub passes : test place ≡ true
  pub has : is_some (of place) ≡ true
  pub there : o ≡ of place

found_at : (of : KeptPlace → Option Value) (test : KeptPlace → Bool) (places : List KeptPlace) →
    AllByRecursion (λ place. is_some (of place) ≡ true) places → list_any test places ≡ true →
    HasFirst of test (value_at (filter_map of places) (position test places))
found_at of test [] all any = absurd (false≢true any)
found_at of test (place ∷ places) all any =
    subst (λ (o : Option ℕ).
    HasFirst of test (value_at (cons_option (of place) (filter_map of places)) o))
    (sym (position_next test place places))
    (by (test place) refl (of place) refl all.0 (found_at of test places all.1) any) where
      by : (b : Bool) → test place ≡ b → (o : Option Value) → of place ≡ o → is_some o ≡ true →
          (list_any test places ≡ true →
          HasFirst of test (value_at (filter_map of places) (position test places))) →
          (b || list_any test places) ≡ true →
          HasFirst of test (value_at (cons_option o (filter_map of places))
          (if b then Some 0 else option_map suc (position test places)))
      by b is None here some rest any = absurd (false≢true some)
      by true is (Some v) here some rest any = record {
        place = place;
        passes = is;
        has = ap is_some here;
        there = sym here;
      }
      by false is (Some v) here some rest any =
          let more = rest any in record {
            place = more.place;
            passes = more.passes;
            has = more.has;
            there = value_further v (filter_map of places) (position test places) ∙ more.there;
          }

-- a register among those declared has a value
registers_have : (all : List DeclForm) (k : ℕ) (decls : List DeclForm) (vs : List Value)
    (x : Name) → are_of_types (types_of_decls all) (register_types_from all k decls) vs ≡ true →
    list_any (bytes_eq x) (register_names decls) ≡ true →
    is_some (value_at vs (position_of (register_names decls) x)) ≡ true
registers_have all k [] vs x are any = absurd (false≢true any)
registers_have all k (d.Register y type kind ∷ decls) [] x are any = absurd (false≢true are)
registers_have all k (d.Register y type kind ∷ decls) (v ∷ vs) x are any =
    subst (λ (o : Option ℕ). is_some (value_at (v ∷ vs) o) ≡ true)
    (sym (position_next (bytes_eq x) y (register_names decls)))
    (by (bytes_eq x y) (registers_have all (k + 1) decls vs x (and_parts _ _ are).1) any) where
      by : (b : Bool) →
          (list_any (bytes_eq x) (register_names decls) ≡ true →
          is_some (value_at vs (position_of (register_names decls) x)) ≡ true) →
          (b || list_any (bytes_eq x) (register_names decls)) ≡ true →
          is_some (value_at (v ∷ vs)
          (if b then Some 0 else option_map suc (position_of (register_names decls) x))) ≡ true
      by true rest any = refl
      by false rest any =
          ap is_some (value_further v vs (position_of (register_names decls) x)) ∙ rest any
registers_have all k (_ ∷ decls) vs x are any = registers_have all (k + 1) decls vs x are any

-- what all named registers have, the kept ones have
kept_registers_have : (of : KeptPlace → Option Value) (registers : List RegisterDecl) →
    ((x : Name) →
    list_any (bytes_eq x) (map (λ (one : RegisterDecl). one.name) registers) ≡ true →
    is_some (of (KeptRegister x)) ≡ true) →
    AllByRecursion (λ place. is_some (of place) ≡ true) (filter_map kept_register registers)
kept_registers_have of [] each = tt
kept_registers_have of (one ∷ registers) each =
    by (is_protected_kind one.kind) (kept_registers_have of registers (λ x e.
    each x (or_right (bytes_eq x one.name)
    (list_any (bytes_eq x) (map (λ (one : RegisterDecl). one.name) registers)) e))) where
      by : (b : Bool) →
          AllByRecursion (λ place. is_some (of place) ≡ true)
          (filter_map kept_register registers) →
          AllByRecursion (λ place. is_some (of place) ≡ true)
          (cons_option (if b then Some (KeptRegister one.name) else None)
          (filter_map kept_register registers))
      by true rest = (
        each one.name (or_left (bytes_eq one.name one.name)
            (list_any (bytes_eq one.name) (map (λ (one : RegisterDecl). one.name) registers))
            ((bytes_eq-Decides one.name one.name).1 refl)),
        rest,
      )
      by false rest = rest

-- an index of the memory has a number in a state
number_there : (s : MachineState) (i : ℕ) → s.lo ≤ i → i < s.lo + length s.cells →
    is_some (cell_at s i) ≡ true
number_there s i from below =
    ap (λ b. is_some (if b then slice_get s.cells (i - s.lo) else None)) (le-leb s.lo i from)
    ∙ slice_there s.cells (i - s.lo) (omega (arith, from, below))

-- so the kept cells have values
cells_have : (decls : List DeclForm) (s : MachineState) (test : ℕ → Bool) (lo count : ℕ) →
    s.lo ≤ lo → lo + count ≤ s.lo + length s.cells →
    AllByRecursion (λ place. is_some (value_of_place decls s place) ≡ true)
    (map KeptCell (filter test (range_with_len lo count)))
cells_have decls s test lo zero from to = tt
cells_have decls s test lo (suc count) from to =
    by (test lo) (number_there s lo from (omega (arith, to)))
    (cells_have decls s test (lo + 1) count (omega (arith, from)) (omega (arith, to))) where
      some_number : (o : Option ℕ) → is_some o ≡ true →
          is_some (option_map (Number (cell_width decls)) o) ≡ true
      some_number None e = e
      some_number (Some n) e = refl

      by : (b : Bool) → is_some (cell_at s lo) ≡ true →
          AllByRecursion (λ place. is_some (value_of_place decls s place) ≡ true)
          (map KeptCell (filter test (range_with_len (lo + 1) count))) →
          AllByRecursion (λ place. is_some (value_of_place decls s place) ≡ true)
          (map KeptCell (if b then lo ∷ filter test (range_with_len (lo + 1) count)
          else filter test (range_with_len (lo + 1) count)))
      by true here rest = (some_number (cell_at s lo) here, rest)
      by false here rest = rest

-- every kept place has a value in a state of the machine
places_have : (decls : List DeclForm) (s : MachineState) → IsState decls s →
    AllByRecursion (λ place. is_some (value_of_place decls s place) ≡ true) (kept_places decls)
places_have decls s is =
    all_both (λ place. is_some (value_of_place decls s place) ≡ true)
    (filter_map kept_register (registers_of decls)) (kept_cells decls (memory_of decls))
    (kept_registers_have (value_of_place decls s) (registers_of decls)
    (λ x any. registers_have decls 0 decls s.registers x is.registers any))
    (by (memory_of decls) refl) where
      by : (o : Option Memory) → memory_of decls ≡ o →
          AllByRecursion (λ place. is_some (value_of_place decls s place) ≡ true)
          (kept_cells decls o)
      by None e = tt
      by (Some m) e =
          let lo : s.lo ≡ m.lo = is.first
          ∙ ap (λ o. unwrap_or (option_map (λ (one : Memory). one.lo) o) 0) e in
          let count : length s.cells ≡ m.hi - m.lo = is.count
          ∙ ap (λ o. unwrap_or (option_map (λ (one : Memory). one.hi - one.lo) o) 0) e in
          cells_have decls s (λ i. list_any (protects i) (ranges_of decls)) m.lo (m.hi - m.lo)
          (omega (arith, lo)) (omega (arith, lo, count))

-- a cell lies in the memory of a machine
record IsInMemory (decls : List DeclForm) (i : ℕ) : Type 0 where
  memory : Memory
  there : memory_of decls ≡ Some memory
  from : memory.lo ≤ i
  below : i < memory.hi

-- a cell of a range without faults does
range_in_memory : (all : List DeclForm) (k i : ℕ) (range : Range) →
    range_faults (record { decls = all; number = k }) range ≡ [] →
    (nat_le range.lo i && nat_lt i range.hi) ≡ true → IsInMemory all i
range_in_memory all k i range clean covers =
    let around : Around = record { decls = all; number = k } in
    let within = unless (is_within range (memory_before around)) 0 RangeOutside in
    let taken = unless (not (is_taken around range)) 0 CellTaken in
    by (memory_from 0 all) refl
    (met (is_some (memory_before around)) 0 MemoryMissing
    (empty_first (without_memory around 0) (within ++ taken) clean))
    (met (is_within range (memory_before around)) 0 RangeOutside
    (empty_first within taken (empty_second (without_memory around 0) (within ++ taken) clean)))
  where
    before : (m : Memory) → memory_from 0 all ≡ Some m → (b : Bool) →
        is_some (if b then Some m else None) ≡ true →
        is_within range (if b then Some m else None) ≡ true → IsInMemory all i
    before m e false some within = absurd (false≢true some)
    before m e true some within =
        let inside = and_parts (nat_le m.lo range.lo) (nat_le range.hi m.hi)
        (and_parts (nat_lt range.lo range.hi) _ within).1 in
        let here = and_parts (nat_le range.lo i) (nat_lt i range.hi) covers in
        let low = leb-true m.lo range.lo inside.0 in
        let high = leb-true range.hi m.hi inside.1 in
        let first = leb-true range.lo i here.0 in
        let last = ltb-true i range.hi here.1 in
        record {
          memory = m;
          there = e;
          from = omega (arith, low, first);
          below = omega (arith, high, last);
        }

    by : (o : Option Memory) → memory_from 0 all ≡ o →
        is_some (option_and_then (λ (m : Memory). if nat_lt m.decl k then Some m else None) o)
        ≡ true →
        is_within range
        (option_and_then (λ (m : Memory). if nat_lt m.decl k then Some m else None) o) ≡ true →
        IsInMemory all i
    by None e some within = absurd (false≢true some)
    by (Some m) e some within = before m e (nat_lt m.decl k) some within

-- a protected cell does
protected_in_memory : (all : List DeclForm) (k i : ℕ) (decls : List DeclForm) →
    AreClean all k decls → list_any (protects i) (ranges_of decls) ≡ true → IsInMemory all i
protected_in_memory all k i [] clean any = absurd (false≢true any)
protected_in_memory all k i (d.Cells cells.Protected lo hi ∷ decls) clean any =
    by (nat_le lo i && nat_lt i hi) refl (protected_in_memory all (k + 1) i decls clean.1) any where
      by : (b : Bool) → (nat_le lo i && nat_lt i hi) ≡ b →
          (list_any (protects i) (ranges_of decls) ≡ true → IsInMemory all i) →
          (b || list_any (protects i) (ranges_of decls)) ≡ true → IsInMemory all i
      by true covers rest any = range_in_memory all k i (range_of_cells cells.Protected lo hi)
          (inner_clean all k (d.Cells cells.Protected lo hi) clean.0) covers
      by false covers rest any = rest any
protected_in_memory all k i (d.Cells cells.Outside lo hi ∷ decls) clean any =
    protected_in_memory all (k + 1) i decls clean.1 any
protected_in_memory all k i (d.Code lo values ∷ decls) clean any =
    protected_in_memory all (k + 1) i decls clean.1 any
protected_in_memory all k i (_ ∷ decls) clean any =
    protected_in_memory all (k + 1) i decls clean.1 any

-- an index that passes is among the cells that do
cell_among : (test : ℕ → Bool) (i lo count : ℕ) → test i ≡ true → lo ≤ i → i < lo + count →
    list_any (is_kept_cell i) (map KeptCell (filter test (range_with_len lo count))) ≡ true
cell_among test i lo zero passes from below = absurd (omega (arith, from, below))
cell_among test i lo (suc count) passes from below =
    by (lo == i) refl (test lo) refl (λ (other : lo ≢ i).
    cell_among test i (lo + 1) count passes (omega (arith, from, other)) (omega (arith, below)))
  where
    apart : (lo == i) ≡ false → lo ≢ i
    apart not_same = λ e. false≢true (sym not_same ∙ eq-eqb lo i e)

    by : (same : Bool) → (lo == i) ≡ same → (b : Bool) → test lo ≡ b →
        (lo ≢ i →
        list_any (is_kept_cell i)
        (map KeptCell (filter test (range_with_len (lo + 1) count))) ≡ true) →
        list_any (is_kept_cell i)
        (map KeptCell (if b then lo ∷ filter test (range_with_len (lo + 1) count)
        else filter test (range_with_len (lo + 1) count))) ≡ true
    by true same true is later = or_left (lo == i)
        (list_any (is_kept_cell i)
        (map KeptCell (filter test (range_with_len (lo + 1) count)))) same
    by true same false is later = absurd (false≢true
        (sym is ∙ ap test (eqb-true lo i same) ∙ passes))
    by false same true is later = or_right (lo == i)
        (list_any (is_kept_cell i)
        (map KeptCell (filter test (range_with_len (lo + 1) count)))) (later (apart same))
    by false same false is later = later (apart same)

module _ (numbers : BitsAreNumbers) (decls : List DeclForm) (k : ℕ)
    (clean : AreClean decls 0 decls) (kept : List Value) (are : AreKept decls kept) where
  abbrev around : Around
  around = record { decls = decls; number = k }

  abbrev state : MachineState
  state = are.0

  -- the kept value at the first place that a test finds
  kept_found : (test : KeptPlace → Bool) → list_any test (kept_places decls) ≡ true →
      HasFirst (value_of_place decls state) test (kept_value decls test kept)
  kept_found test any =
      subst (λ (values : List Value).
      HasFirst (value_of_place decls state) test (kept_value decls test values)) (sym are.2)
      (found_at (value_of_place decls state) test (kept_places decls)
      (places_have decls state are.1) any)

  -- a protected register that is known has a kept value of its type
  pub kept_register_given : (at : ℕ) (r : Name) →
      register_faults around true is_protected_kind at r ≡ [] →
      IsGiven (types_of_decls decls) (type_of_register around r)
      (kept_value decls (is_kept_register r) kept)
  kept_register_given at r none =
      let seen = meant a_register around r in
      let here = unless (true && is_of_kind is_protected_kind seen) at NotHere in
      let kind = met (is_of_kind is_protected_kind seen) at NotHere
      (empty_first here (unknown (at + 2) seen) none) in
      let some = met (is_some seen) (at + 2) NameUnknown
      (empty_second here (unknown (at + 2) seen) none) in
      let placed = registers_placed decls r 0 0 decls clean seen refl some in
      let any : list_any (is_kept_register r) (kept_places decls) ≡ true =
      list_any-append (is_kept_register r) (filter_map kept_register (registers_of decls))
      (kept_cells decls (memory_of decls))
      ∙ or_left (list_any (is_kept_register r) (filter_map kept_register (registers_of decls)))
      (list_any (is_kept_register r) (kept_cells decls (memory_of decls))) (placed.kept kind) in
      let found = kept_found (is_kept_register r) any in
      let v = value_typed (types_of_decls decls) (register_types decls) state.registers placed.at
      placed.type are.1.registers placed.typed in
      record {
        type = placed.type;
        fixed = placed.fixed;
        value = v.0;
        there = found.there ∙ of_register found.place found.passes
            ∙ ap (option_and_then (slice_get state.registers)) placed.place ∙ v.1;
        typed = v.2;
      } where
        of_register : (place : KeptPlace) → is_kept_register r place ≡ true →
            value_of_place decls state place ≡ register_value decls r state.registers
        of_register (KeptRegister x) passes =
            ap (λ (y : Name). register_value decls y state.registers)
            ((bytes_eq-Decides x r).0 passes)
        of_register (KeptCell i) passes = absurd (false≢true passes)

  -- a protected cell has a kept value of the cells' type
  pub kept_cell_given : (n at : ℕ) → cell_faults around true at n ≡ [] →
      IsGiven (types_of_decls decls) (kept_cell_type around)
      (kept_value decls (is_kept_cell n) kept)
  kept_cell_given n at none =
      let protected = met (is_protected_cell around n) at NotHere none in
      let inside = protected_in_memory decls 0 n decls clean protected in
      let m = inside.memory in
      let among : list_any (is_kept_cell n) (kept_cells decls (memory_of decls)) ≡ true =
      ap (λ o. list_any (is_kept_cell n) (kept_cells decls o)) inside.there
      ∙ cell_among (λ i. list_any (protects i) (ranges_of decls)) n m.lo (m.hi - m.lo) protected
      inside.from (omega (arith, inside.from, inside.below)) in
      let any : list_any (is_kept_cell n) (kept_places decls) ≡ true =
      list_any-append (is_kept_cell n) (filter_map kept_register (registers_of decls))
      (kept_cells decls (memory_of decls))
      ∙ or_right (list_any (is_kept_cell n) (filter_map kept_register (registers_of decls)))
      (list_any (is_kept_cell n) (kept_cells decls (memory_of decls))) among in
      let found = kept_found (is_kept_cell n) any in
      of_cell m inside.there found.place found.passes found.has found.there where
        width_is : (m : Memory) → memory_of decls ≡ Some m → cell_width decls ≡ m.cell_width
        width_is m e = ap (λ o. unwrap_or (option_map (λ (one : Memory). one.cell_width) o) 0) e

        given : (m : Memory) → memory_of decls ≡ Some m → (i : ℕ) (o : Option ℕ) →
            cell_at state i ≡ o → is_some (option_map (Number (cell_width decls)) o) ≡ true →
            kept_value decls (is_kept_cell n) kept
            ≡ option_map (Number (cell_width decls)) o →
            IsGiven (types_of_decls decls) (kept_cell_type around)
            (kept_value decls (is_kept_cell n) kept)
        given m e i None here some there = absurd (false≢true some)
        given m e i (Some number) here some there =
            let fits : is_number m.cell_width number ≡ true =
            cell_there decls m i number state e are.1 here in
            let wide = memory_wide decls 0 decls clean m e in
            record {
              type = ty.Bits m.cell_width;
              fixed = ap (option_and_then (λ (m : Memory). bits_of m.cell_width)) e
                  ∙ ap (λ b. if b then Some (ty.Bits m.cell_width) else None) wide.1;
              value = Number m.cell_width number;
              there = there ∙ ap (λ w. Some (Number w number)) (width_is m e);
              typed = (numbers (types_of_decls decls) m.cell_width
                  (Number m.cell_width number)).1 (number, refl, fits);
            }

        of_cell : (m : Memory) → memory_of decls ≡ Some m → (place : KeptPlace) →
            is_kept_cell n place ≡ true → is_some (value_of_place decls state place) ≡ true →
            kept_value decls (is_kept_cell n) kept ≡ value_of_place decls state place →
            IsGiven (types_of_decls decls) (kept_cell_type around)
            (kept_value decls (is_kept_cell n) kept)
        of_cell m e (KeptRegister x) passes has there = absurd (false≢true passes)
        of_cell m e (KeptCell i) passes has there =
            given m e i (cell_at state i) refl has there
