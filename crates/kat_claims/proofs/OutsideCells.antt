-- A cell that may be written from outside is of no other declaration of a typed specification.
use Rattle.std.proofs.Common.{arith, ◌≡◌, ◌∙◌, ℕ, zero, suc, ◌+◌, ◌<◌, ◌≤◌, Bool, true, false, ◌&&◌, ◌||◌, List, [], ◌∷◌, length, take, drop, Option, Some, None, inl, inr, refl, sym, ap, subst, add-one}
use Rattle.std.specs.Prelude.{◌⊎◌, nat_le, nat_lt}
use Rattle.std.specs.List.{AllByRecursion, cons_option, list_any}
use Rattle.std.proofs.lemmas.Bool.{and_from, and_parts, false_from_ne_true, false≢true, le-leb, lt-ltb, not-true, or_cases, or_from, or_parts, or_right}
use Rattle.std.proofs.lemmas.Bool.Decides.{nat_tests}
use Rattle.std.proofs.lemmas.List.Folds.{list_any_kept}
use Rattle.kat_ast.specs.declared.decl.CellsKind.TheVariants as cells
use Rattle.kat_ast.specs.declared.decl.DeclForm.{DeclForm}
use Rattle.kat_ast.specs.declared.decl.DeclForm.TheVariants as d
use Rattle.kat_syntax.specs.declared.type_rule.TypeRule.TheVariants.{CellTaken}
use Rattle.kat_syntax.specs.Around.{Around}
use Rattle.kat_syntax.specs.Machine.{MachineState}
use Rattle.kat_syntax.specs.Memories.{Range, is_taken, overlap, protects, range_of, range_of_cells, range_of_code, ranges_of}
use Rattle.kat_syntax.specs.Phases.{AreStated, IsCodeThere}
use Rattle.kat_syntax.specs.States.{cell_at}
use Rattle.kat_syntax.specs.TypingDeclarations.{inner_faults, range_faults}
use Rattle.kat_claims.specs.Outside.{IsCodeCell}
use Rattle.kat_claims.proofs.Faultless.{AreClean, inner_clean, met, no_first, no_second}

-- a test that is never met
never_met : (b : Bool) → (b ≡ true → false ≡ true) → b ≡ false
never_met b never = false_from_ne_true b (λ e. false≢true (never e))

-- whether a range has a cell
abbrev pub covers : ℕ → Range → Bool
covers i range = nat_le range.lo i && nat_lt i range.hi

-- whether a range, where there is one, has a cell
abbrev pub covers_in : ℕ → Option Range → Bool
covers_in i None = false
covers_in i (Some range) = covers i range

-- whether a declaration has a cell
abbrev pub has : ℕ → DeclForm → Bool
has i decl = covers_in i (range_of decl)

-- whether a declaration is of outside cells
abbrev pub is_outside_cells : DeclForm → Bool
is_outside_cells (d.Cells cells.Outside lo hi) = true
is_outside_cells _ = false

-- whether a declaration is of outside cells and has this one
abbrev pub lets_write : ℕ → DeclForm → Bool
lets_write i decl = has i decl && is_outside_cells decl

-- of two ranges without a cell in common the second does not have a cell of the first
cell_of_one :
    (i : ℕ) (a b : Range) (c : Bool) → overlap a b ≡ false → covers i a ≡ true → covers i b ≡ c →
    c ≡ false
cell_of_one i a b false apart first second = refl
cell_of_one i a b true apart first second = absurd (grind (arith, nat_tests))

-- a cell is of outside declarations alone
abbrev pub IsOutsideAlone : ℕ → List DeclForm → Type 0
IsOutsideAlone i decls =
    AllByRecursion (λ decl. has i decl ≡ true → is_outside_cells decl ≡ true) decls

module _ (i : ℕ) where
  -- where no earlier range has a cell in common with a range, none has a cell of it
  none_earlier :
      (range : Range) (decls : List DeclForm) → covers i range ≡ true →
      list_any (overlap range) (ranges_of decls) ≡ false → list_any (has i) decls ≡ false
  none_earlier range [] here apart = refl
  none_earlier range (decl ∷ decls) here apart =
      one (range_of decl) (none_earlier range decls here) apart
    where
      one :
          (o : Option Range) →
          (list_any (overlap range) (ranges_of decls) ≡ false → list_any (has i) decls ≡ false) →
          list_any (overlap range) (cons_option o (ranges_of decls)) ≡ false →
          (covers_in i o || list_any (has i) decls) ≡ false
      one None rest apart = rest apart
      one (Some other) rest apart =
          let parts =
          or_parts (overlap range other) (list_any (overlap range) (ranges_of decls)) apart in
          or_from (covers i other) (list_any (has i) decls)
          (cell_of_one i range other (covers i other) parts.0 here refl) (rest parts.1)

  -- a range without faults does not have a cell of an earlier declaration
  untaken :
      (around : Around) (range : Range) → range_faults around range ≡ [] →
      list_any (has i) (take around.number around.decls) ≡ true → covers i range ≡ false
  untaken around range e taken =
      let free = not-true (is_taken around range)
      (met _ 0 CellTaken (no_second _ _ (no_second _ _ e))) in
      never_met (covers i range) (λ here.
      sym (none_earlier range (take around.number around.decls) here free) ∙ taken)

  -- a declaration without faults does not have a cell of an earlier one
  not_again :
      (around : Around) (decl : DeclForm) → inner_faults around decl ≡ [] →
      list_any (has i) (take around.number around.decls) ≡ true → has i decl ≡ false
  not_again around (d.Cells kind lo hi) e taken = untaken around (range_of_cells kind lo hi) e taken
  not_again around (d.Code lo values) e taken =
      untaken around (range_of_code lo values) (no_first _ _ e) taken
  not_again around _ e taken = refl

  none_later :
      (all : List DeclForm) (k : ℕ) (decls : List DeclForm) → AreClean all k decls →
      list_any (has i) (take k all) ≡ true → list_any (has i) decls ≡ false
  none_later all k [] clean taken = refl
  none_later all k (decl ∷ decls) clean taken =
      let around : Around = record { decls = all; number = k } in
      or_from (has i decl) (list_any (has i) decls)
      (not_again around decl (inner_clean around decl clean.0) taken)
      (none_later all (k + 1) decls clean.1 (list_any_kept (has i) all k taken))

  -- what stands at a number, and is among those up to it
  at_number :
      (all : List DeclForm) (k : ℕ) (decl : DeclForm) (decls : List DeclForm) →
      drop k all ≡ decl ∷ decls →
      (drop (suc k) all ≡ decls) × (has i decl ≡ true → list_any (has i) (take (suc k) all) ≡ true)
  at_number [] zero decl decls e = absurd (cc)
  at_number [] (suc k) decl decls e = absurd (cc)
  at_number (first ∷ all) zero decl decls e =
      let same : first ≡ decl = cc in
      let rest : all ≡ decls = cc in
      (rest, λ here. ap (λ b. b || false) (ap (has i) same ∙ here))
  at_number (first ∷ all) (suc k) decl decls e =
      let more = at_number all k decl decls e in
      (more.0, λ here. or_right (has i first) (list_any (has i) (take (suc k) all)) (more.1 here))

  -- of declarations of which none has the cell
  none_has :
      (decls : List DeclForm) → list_any (has i) decls ≡ false →
      IsOutsideAlone i decls
  none_has [] none = tt
  none_has (decl ∷ decls) none =
      let parts = or_parts (has i decl) (list_any (has i) decls) none in
      (λ here. absurd (false≢true (sym parts.0 ∙ here)), none_has decls parts.1)

  -- none of which has the cell lets it be written
  none_lets :
      (decls : List DeclForm) → list_any (has i) decls ≡ false →
      list_any (lets_write i) decls ≡ false
  none_lets [] none = refl
  none_lets (decl ∷ decls) none =
      let parts = or_parts (has i decl) (list_any (has i) decls) none in
      or_from (lets_write i decl) (list_any (lets_write i) decls)
      (ap (λ b. b && is_outside_cells decl) parts.0) (none_lets decls parts.1)

  -- a cell that one declaration lets be written is of no declaration that does not
  pub alone_from :
      (all : List DeclForm) (k : ℕ) (decls : List DeclForm) → drop k all ≡ decls →
      AreClean all k decls → list_any (lets_write i) decls ≡ true →
      IsOutsideAlone i decls
  alone_from all k [] is clean lets = tt
  alone_from all k (decl ∷ decls) is clean lets =
      by (or_cases (lets_write i decl) (list_any (lets_write i) decls) lets)
      (alone_from all (k + 1) decls
      (subst (λ n. drop n all ≡ decls) (sym (add-one k)) (at_number all k decl decls is).0) clean.1)
    where
      later : has i decl ≡ true → list_any (has i) decls ≡ false
      later here = none_later all (k + 1) decls clean.1
          (subst (λ n. list_any (has i) (take n all) ≡ true) (sym (add-one k))
          ((at_number all k decl decls is).1 here))

      by :
          (lets_write i decl ≡ true) ⊎ (list_any (lets_write i) decls ≡ true) →
          (list_any (lets_write i) decls ≡ true → IsOutsideAlone i decls) →
          IsOutsideAlone i (decl ∷ decls)
      by (inl here) rest =
          let parts = and_parts (has i decl) (is_outside_cells decl) here in
          (λ again. parts.1, none_has decls (later parts.0))
      by (inr more) rest =
          (λ here. absurd (false≢true (sym (none_lets decls (later here)) ∙ more)), rest more)

  -- a cell that is outside alone is not protected
  pub unprotected :
      (decls : List DeclForm) →
      IsOutsideAlone i decls →
      list_any (protects i) (ranges_of decls) ≡ false
  unprotected [] alone = refl
  unprotected (d.Cells cells.Protected lo hi ∷ decls) alone =
      or_from (nat_le lo i && nat_lt i hi) (list_any (protects i) (ranges_of decls))
      (never_met (nat_le lo i && nat_lt i hi) alone.0) (unprotected decls alone.1)
  unprotected (d.Cells cells.Outside lo hi ∷ decls) alone = unprotected decls alone.1
  unprotected (d.Code lo values ∷ decls) alone = unprotected decls alone.1
  unprotected (_ ∷ decls) alone = unprotected decls alone.1

  -- a code cell is not outside alone
  pub code_alone : (decls : List DeclForm) → IsCodeCell decls i → IsOutsideAlone i decls → ⊥
  code_alone [] is alone = is
  code_alone (d.Code lo values ∷ decls) (inl (first, last)) alone =
      false≢true (alone.0 (and_from _ _ (le-leb lo i first) (lt-ltb i (lo + length values) last)))
  code_alone (d.Code lo values ∷ decls) (inr more) alone = code_alone decls more alone.1
  code_alone (_ ∷ decls) is alone = code_alone decls is alone.1

module _ (s t : MachineState) where
  -- stated values of cells that two states have alike
  stated :
      (lo : ℕ) (values : List ℕ) →
      ((j : ℕ) → lo ≤ j → j < lo + length values → cell_at s j ≡ cell_at t j) →
      AreStated t lo values → AreStated s lo values
  stated lo [] same are = tt
  stated lo (n ∷ values) same are = (
    same lo (omega arith) (omega arith) ∙ are.0,
    stated (lo + 1) values
        (λ j first last. same j (omega (arith, first)) (omega (arith, last))) are.1,
  )

  -- so every code cell has its stated value in both
  pub code_there :
      (decls : List DeclForm) → ((j : ℕ) → IsCodeCell decls j → cell_at s j ≡ cell_at t j) →
      IsCodeThere decls t → IsCodeThere decls s
  code_there [] same there = tt
  code_there (d.Code lo values ∷ decls) same there = (
    stated lo values (λ j first last. same j (inl (first, last))) there.0,
    code_there decls (λ j is. same j (inr is)) there.1,
  )
  code_there (_ ∷ decls) same there = code_there decls same there
