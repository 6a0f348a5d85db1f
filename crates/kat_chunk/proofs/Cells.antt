-- Cells out of regions, and back.
use Rattle.std.proofs.Common.{◌≡◌, ◌≢◌, ℕ, ◌==◌, Bool, true, false, not, ◌&&◌, ◌||◌, if◌then◌else◌, List, [], ◌∷◌, ◌++◌, Option, Some, None, IsSome, is_some, refl, sym, ap, ap₂, subst, subst₂, ◌∙◌}
use Rattle.std.proofs.lemmas.Bool.{eq-eqb}
use Rattle.std.specs.List.{list_any}
use Rattle.kat_value.specs.Equality.{TestsEquality, value_eq}
use Rattle.kat_value.specs.declared.value.Value.{Value}
use Rattle.kat_value.specs.declared.value.Value.TheVariants.{Bits as Number}
use Rattle.kat_ast.specs.declared.decl.DeclForm.{DeclForm}
use Rattle.kat_syntax.specs.Cycle.{bound}
use Rattle.kat_syntax.specs.Fragments.{Fragment, IsOfMemory, Join, JoinAt, nothing, one_cell}
use Rattle.kat_syntax.specs.Holds.{HasCellsWhere, IsThere, RegionDecl, guards, index_width, is_index}
use Rattle.kat_syntax.specs.States.{memory_of}
use Rattle.kat_syntax.specs.Tables.{Name}
use Rattle.kat_chunk.specs.Laws.{CellOut, HasCellAt}
use Rattle.kat_chunk.specs.Regions.{IsRegionWithout, has_cell, is_hole}
use Rattle.kat_chunk.proofs.Options.{Tested, Same, Other, none_some, on_false, on_true, some_same, tested}

-- what is false with anything is false
and_false : (b : Bool) → (b && false) ≡ false
and_false true = refl
and_false false = refl

-- what is true or anything is true
or_true : (b : Bool) → (b || true) ≡ true
or_true true = refl
or_true false = refl

-- what is false adds nothing
or_false : (b : Bool) → (b || false) ≡ b
or_false true = refl
or_false false = refl

-- a test before two that are the same
either : {a : Bool} (t b c : Bool) → a ≡ (b || c) → (t || a) ≡ ((t || b) || c)
either true b c e = refl
either false b c e = e

-- a test of a list with one more at its end
any_added :
    {X : Type 0} (test : X → Bool) (xs : List X) (y : X) →
    list_any test (xs ++ y ∷ []) ≡ (list_any test xs || test y)
any_added test [] y = or_false (test y)
any_added test (x ∷ xs) y =
    either (test x) (list_any test xs) (test y) (any_added test xs y)

-- the number of a value of bits
abbrev number_in : Value → ℕ
number_in (Number w n) = n
number_in _ = 0

-- what is there
there : {A : Type 0} (o : Option A) → IsSome o → (a : A) × (o ≡ Some a)
there None e = absurd (cc)
there (Some a) e = (a, refl)

-- a place that the second part does not have is that of the first
first_alone : {A : Type 0} (p f : Option A) → JoinAt p f None → p ≡ f
first_alone p None e = e
first_alone p (Some v) e = e

-- a place that the second part has
second_has : {A : Type 0} {v : A} (p f : Option A) → JoinAt p f (Some v) → p ≡ Some v
second_has p None e = e
second_has p (Some w) e = absurd e

-- a fragment of cells without one of them
abbrev less : ℕ → Fragment → Fragment
less i f =
    record { registers = λ at. None; cells = λ j. if j == i then None else f.cells j }

-- a cell and the others at one place
split_at :
    (f : Fragment) (i n j : ℕ) → f.cells i ≡ Some n → Tested j i →
    JoinAt (f.cells j) (if j == i then Some n else None) (if j == i then None else f.cells j)
split_at f i n j is (Same e t) =
    subst (λ b. JoinAt (f.cells j) (if b then Some n else None) (if b then None else f.cells j))
    (sym t) (ap f.cells e ∙ is)
split_at f i n j is (Other e t) =
    subst (λ b. JoinAt (f.cells j) (if b then Some n else None) (if b then None else f.cells j))
    (sym t) refl

module _
    (decls : List DeclForm) (guard less_guard : ℕ → Bool) (i : ℕ)
    (no : less_guard i ≡ false) (same : (j : ℕ) → (j ≢ i) → less_guard j ≡ guard j) where
  -- whether an index of the memory is guarded
  abbrev inside : (ℕ → Bool) → ℕ → Bool
  inside g j = is_index (memory_of decls) j && g j

  -- what is left at a place has a number that fits
  left_fits :
      (f : Fragment) (j m : ℕ) → HasCellsWhere decls guard f → Tested j i →
      (if j == i then None else f.cells j) ≡ Some m → IsOfMemory (memory_of decls) j m
  left_fits f j m h (Same e t) is = none_some (sym (on_true _ _ t) ∙ is)
  left_fits f j m h (Other e t) is = h.fits.cells j m (sym (on_false _ _ t) ∙ is)

  -- what is left at a place is there where the region without the cell has it
  left_there :
      (f : Fragment) (j : ℕ) → HasCellsWhere decls guard f → Tested j i →
      IsThere (is_index (memory_of decls) j && less_guard j) (if j == i then None else f.cells j)
  left_there f j h (Same e t) =
      subst (λ b. IsThere b (if j == i then None else f.cells j))
      (sym (ap (λ b. is_index (memory_of decls) j && b) (ap less_guard e ∙ no)
      ∙ and_false (is_index (memory_of decls) j)))
      (on_true _ _ t)
  left_there f j h (Other e t) =
      subst₂ (λ b o. IsThere (is_index (memory_of decls) j && b) o)
      (sym (same j e)) (sym (on_false _ _ t)) (h.cells j)

  -- a cell comes out
  pub cell_out :
      (f : Fragment) → HasCellsWhere decls guard f →
      is_index (memory_of decls) i ≡ true → guard i ≡ true →
      (n : ℕ) × (g : Fragment) × Join f (one_cell i n) g
      × IsOfMemory (memory_of decls) i n × HasCellsWhere decls less_guard g
  cell_out f h index guarded =
      let has = there (f.cells i)
      (subst (λ b. IsThere b (f.cells i)) (ap₂ (λ a b. a && b) index guarded) (h.cells i)) in (
        has.0,
        less i f,
        record {
          registers = λ at. h.registers at;
          cells = λ j. split_at f i has.0 j has.1 (tested j i);
        },
        h.fits.cells i has.0 has.1,
        record {
          fits = record {
            registers = λ at v e. none_some e;
            cells = λ j m e. left_fits f j m h (tested j i) e;
          };
          registers = λ at. refl;
          cells = λ j. left_there f j h (tested j i);
        },
      )

  module _ (p f : Fragment) (n : ℕ) (fits : IsOfMemory (memory_of decls) i n)
      (join : Join p f (one_cell i n)) (h : HasCellsWhere decls less_guard f) where
    -- the union has no register
    no_register : (at : ℕ) → p.registers at ≡ None
    no_register at =
        first_alone (p.registers at) (f.registers at) (join.registers at) ∙ h.registers at

    -- it has the cell
    cell_here : p.cells i ≡ Some n
    cell_here =
        second_has (p.cells i) (f.cells i)
        (subst (λ o. JoinAt (p.cells i) (f.cells i) o) (on_true _ _ (eq-eqb i i refl))
        (join.cells i))

    -- and elsewhere what the region has
    cell_there : (j : ℕ) → (j == i) ≡ false → p.cells j ≡ f.cells j
    cell_there j t =
        first_alone (p.cells j) (f.cells j)
        (subst (λ o. JoinAt (p.cells j) (f.cells j) o) (on_false _ _ t) (join.cells j))

    -- its numbers fit
    number_fits :
        (j m : ℕ) → Tested j i → p.cells j ≡ Some m → IsOfMemory (memory_of decls) j m
    number_fits j m (Same e t) is =
        subst₂ (λ k x. IsOfMemory (memory_of decls) k x) (sym e)
        (some_same (sym cell_here ∙ ap p.cells (sym e) ∙ is)) fits
    number_fits j m (Other e t) is = h.fits.cells j m (sym (cell_there j t) ∙ is)

    -- it has the cells of the whole region, where that has the cell
    filled_there :
        (j : ℕ) → inside guard i ≡ true → Tested j i →
        IsThere (is_index (memory_of decls) j && guard j) (p.cells j)
    filled_there j whole (Same e t) =
        subst (λ b. IsThere b (p.cells j)) (sym (ap (inside guard) e ∙ whole))
        (ap is_some (ap p.cells e ∙ cell_here))
    filled_there j whole (Other e t) =
        subst₂ (λ b o. IsThere (is_index (memory_of decls) j && b) o)
        (same j e) (sym (cell_there j t)) (h.cells j)

    -- the region without the cell is the whole, where the whole does not have the cell
    same_there :
        (j : ℕ) → inside guard i ≡ false → Tested j i →
        IsThere (is_index (memory_of decls) j && guard j) (f.cells j)
    same_there j none (Same e t) =
        subst (λ b. IsThere b (f.cells j)) (sym (ap (inside guard) e ∙ none))
        (ap f.cells e ∙ subst (λ b. IsThere b (f.cells i))
        (ap (λ b. is_index (memory_of decls) i && b) no
        ∙ and_false (is_index (memory_of decls) i)) (h.cells i))
    same_there j none (Other e t) =
        subst (λ b. IsThere (is_index (memory_of decls) j && b) (f.cells j)) (same j e) (h.cells j)

    -- a hole is filled, or the cell is left over
    pub hole_filled :
        (g : Fragment) × (rest : Fragment) × Join p g rest × HasCellsWhere decls guard g
    hole_filled = go (inside guard i) refl
      where
        go :
            (b : Bool) → inside guard i ≡ b →
            (g : Fragment) × (rest : Fragment) × Join p g rest × HasCellsWhere decls guard g
        go true e = (
          p,
          nothing,
          record {
            registers = λ at. alone (p.registers at);
            cells = λ j. alone (p.cells j);
          },
          record {
            fits = record {
              registers = λ at v is. none_some (sym (no_register at) ∙ is);
              cells = λ j m is. number_fits j m (tested j i) is;
            };
            registers = no_register;
            cells = λ j. filled_there j e (tested j i);
          },
        )
          where
            alone : {A : Type 0} (o : Option A) → JoinAt o o None
            alone None = refl
            alone (Some v) = refl
        go false e = (
          f,
          one_cell i n,
          join,
          record {
            fits = h.fits;
            registers = h.registers;
            cells = λ j. same_there j e (tested j i);
          },
        )

module _ (tests : TestsEquality) where
  -- the key of an index is its own
  key_here : (w i : ℕ) → value_eq (Number w i) (Number w i) ≡ true
  key_here w i = (tests (Number w i) (Number w i)).1 refl

  -- and no other's
  key_other : (w i j : ℕ) → (j ≢ i) → value_eq (Number w i) (Number w j) ≡ false
  key_other w i j other = go (value_eq (Number w i) (Number w j)) refl
    where
      go : (b : Bool) → value_eq (Number w i) (Number w j) ≡ b → b ≡ false
      go true e =
          absurd (other (sym (ap number_in ((tests (Number w i) (Number w j)).0 e))))
      go false e = refl

  -- a region without one cell more
  pub cell_comes_out :
      (decls : List DeclForm) (x : Name) (values holes : List Value) (i : ℕ) (f : Fragment) →
      IsRegionWithout decls x values holes f → HasCellAt decls x values holes i →
      CellOut decls x values holes i f
  cell_comes_out decls x values holes i f h at =
      let region_is = some_same (sym at.declared ∙ h.1) in
      let locals_is = some_same (sym at.binds
      ∙ ap (λ (r : RegionDecl). bound r.params values) region_is ∙ h.3) in
      let key = Number (index_width decls) i in
      let test = λ (j : ℕ) (hole : Value). value_eq hole (Number (index_width decls) j) in
      let out = cell_out decls (has_cell decls h.0 h.2 holes)
      (has_cell decls h.0 h.2 (holes ++ key ∷ [])) i
      (ap (λ b. guards decls h.0 h.2 i && not b)
      (any_added (test i) holes key
      ∙ ap (λ b. is_hole decls holes i || b) (key_here (index_width decls) i)
      ∙ or_true (is_hole decls holes i))
      ∙ and_false (guards decls h.0 h.2 i))
      (λ j other. ap (λ b. guards decls h.0 h.2 j && not b)
      (any_added (test j) holes key
      ∙ ap (λ b. is_hole decls holes j || b) (key_other (index_width decls) i j other)
      ∙ or_false (is_hole decls holes j)))
      f h.4 at.index
      (subst₂ (λ r l. has_cell decls r l holes i ≡ true) region_is locals_is at.inside) in
      record {
        number = out.0;
        others = out.1;
        is = out.2;
        fits = out.3;
        left = (h.0, h.1, h.2, h.3, out.4);
      }

  -- a region with the cell of its first hole
  pub hole_is_filled :
      (decls : List DeclForm) (x : Name) (values holes : List Value) (i n : ℕ) (p f : Fragment) →
      IsRegionWithout decls x values (Number (index_width decls) i ∷ holes) f →
      IsOfMemory (memory_of decls) i n → Join p f (one_cell i n) →
      (g : Fragment) × (rest : Fragment) × Join p g rest × IsRegionWithout decls x values holes g
  hole_is_filled decls x values holes i n p f h fits join =
      let key = Number (index_width decls) i in
      let filled = hole_filled decls (has_cell decls h.0 h.2 holes)
      (has_cell decls h.0 h.2 (key ∷ holes)) i
      (ap (λ b. guards decls h.0 h.2 i && not (b || is_hole decls holes i))
      (key_here (index_width decls) i) ∙ and_false (guards decls h.0 h.2 i))
      (λ j other. ap (λ b. guards decls h.0 h.2 j && not (b || is_hole decls holes j))
      (key_other (index_width decls) i j other))
      p f n fits join h.4 in
      (filled.0, filled.1, filled.2, (h.0, h.1, h.2, h.3, filled.3))
