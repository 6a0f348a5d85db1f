-- The lines of runs set each cell that is not zero to what it has.
use Rattle.std.proofs.Common.{◌≡◌, ◌≢◌, ℕ, zero, suc, ◌+◌, ◌-◌, ◌<◌, ◌≤◌, ◌==◌, List, [], ◌∷◌, ◌++◌, append_assoc, append-nil, length, length-append, Option, Some, None, ◌⊎◌, inl, inr, ⊎_elim, refl, sym, ap, ◌∙◌, subst, arith, codes, decimal}
use Rattle.std.specs.List.{AllByRecursion}
use Rattle.std.specs.Prelude.{IsTrue, if◌then◌else◌, slice_get}
use Rattle.std.proofs.lemmas.Bool.{cases_eq, cases_lt, eq-eqb, cond-true}
use Rattle.std.proofs.lemmas.List.Elements.{All-nil, All-cons, All-append}
use Rattle.kat_value.specs.declared.value.Value.{Value}
use Rattle.kat_value.specs.Widths.{is_number}
use Rattle.kat_ast.specs.Spec.{Spec}
use Rattle.kat_syntax.specs.Machine.{MachineState}
use Rattle.kat_syntax.specs.Memories.{Memory}
use Rattle.kat_syntax.specs.States.{memory_of}
use Rattle.kat_image.specs.declared.setting.Setting.TheVariants.{Cells}
use Rattle.kat_image.specs.Image.{Line, Lacks, Place, RegisterAt, CellAt, value_at, IsSet}
use Rattle.kat_image.specs.ImageText.{digits_of_cell}
use Rattle.kat_image.specs.ReadsBack.{CellLinesComeBack, cell_digits, cells_line}
use Rattle.kat_image.proofs.Settings.{some_same}
use Rattle.kat_image.proofs.PrintedLines.{Run, closed, runs_of, run_line, run_lines, other_than, second, third}
use Rattle.kat_image.proofs.PrintedPlaces.{IsPrinted, printed_next}
use Rattle.kat_image.proofs.PrintedSteps.{StandsNext, cells_next}
use Rattle.kat_image.proofs.PrintedRegisters.{Printed, StandsAt, stands_here, stands_behind}

-- cells from one place to another are zero
abbrev pub ZerosTo : MachineState → ℕ → ℕ → Type 0
ZerosTo state c p = (i : ℕ) → c ≤ i → i < p → slice_get state.cells i ≡ Some 0

module _ (spec : Spec) (state : MachineState) where
  -- zero cells are printed by no line
  pub printed_zeros : (lines : List Line) (r c p : ℕ) → c ≤ p → ZerosTo state c p →
      Printed spec state lines r c → Printed spec state lines r p
  printed_zeros lines r c p le zeros printed =
      (record { settings = printed.0.settings; only = only; all = all }, printed.1)
    where
      only : (place : Place) (v : Value) → IsSet spec lines place v →
          IsPrinted spec state r p place
      only (RegisterAt i) v set = printed.0.only (RegisterAt i) v set
      only (CellAt i) v set =
          let old = printed.0.only (CellAt i) v set in
          let low = old.0 in (omega (arith, low, le), old.1)

      all : (place : Place) (v : Value) → IsPrinted spec state r p place →
          value_at spec state place ≡ Some v → IsSet spec lines place v
      all (RegisterAt i) v is e = printed.0.all (RegisterAt i) v is e
      all (CellAt i) v is e =
          ⊎_elim (λ low. printed.0.all (CellAt i) v (low, is.1) e)
          (λ far. absurd (is.1 (zeros i far is.0))) (cases_lt i c)

-- no cell, and one cell more, of an open run
none_open : (state : MachineState) (c p : ℕ) → c ≤ p → ZerosTo state c p → StandsNext state c p []
none_open state c p le zeros =
    record {
      behind = le;
      zeros = zeros;
      same = λ k less. absurd (omega (arith, less));
      some = λ k e. nothing k e;
    }
  where
    nothing : (k : ℕ) → slice_get {X = ℕ} [] k ≡ Some 0 → ⊥
    nothing k e = absurd (cc)

-- an item of a list with one more
pushed : (held : List ℕ) (n k : ℕ) →
    ((k < length held) × (slice_get (held ++ n ∷ []) k ≡ slice_get held k))
    ⊎ ((k ≡ length held) × (slice_get (held ++ n ∷ []) k ≡ Some n))
    ⊎ ((length held < k) × (slice_get (held ++ n ∷ []) k ≡ None))
pushed [] n zero = inr (inl (refl, refl))
pushed [] n (suc k) = inr (inr (omega arith, refl))
pushed (m ∷ held) n zero = inl (omega arith, refl)
pushed (m ∷ held) n (suc k) =
    ⊎_elim
    (λ low. let l = low.0 in inl (omega (arith, l), low.1))
    (⊎_elim (λ at. inr (inl (ap suc at.0, at.1)))
    (λ far. let l = far.0 in inr (inr (omega (arith, l), far.1))))
    (pushed held n k)

no_item : ◌≡◌ {A = Option ℕ} None (Some 0) → ⊥
no_item e = absurd (cc)

more_open : (state : MachineState) (c p n : ℕ) (held : List ℕ) → n ≢ 0 →
    slice_get state.cells (p + length held) ≡ Some n → StandsNext state c p held →
    StandsNext state c p (held ++ n ∷ [])
more_open state c p n held ne there opening =
    record { behind = opening.behind; zeros = opening.zeros; same = same; some = some }
  where
    same : (k : ℕ) → k < length (held ++ n ∷ []) →
        slice_get state.cells (p + k) ≡ slice_get (held ++ n ∷ []) k
    same k less =
        let count : length (held ++ n ∷ []) ≡ length held + 1 = length-append held (n ∷ []) in
        ⊎_elim
        (λ low. opening.same k low.0 ∙ sym low.1)
        (⊎_elim (λ at. ap (λ i. slice_get state.cells (p + i)) at.0 ∙ there ∙ sym at.1)
        (λ far. let l = far.0 in absurd (omega (arith, l, less, count))))
        (pushed held n k)

    some : (k : ℕ) → slice_get (held ++ n ∷ []) k ≡ Some 0 → ⊥
    some k e =
        ⊎_elim
        (λ low. opening.some k (sym low.1 ∙ e))
        (⊎_elim (λ at. ne (some_same n 0 (sym at.1 ∙ e)))
        (λ far. no_item (sym far.1 ∙ e)))
        (pushed held n k)

all_push : (P : ℕ → Type 0) (held : List ℕ) (n : ℕ) → AllByRecursion P held → P n →
    AllByRecursion P (held ++ n ∷ [])
all_push P [] n h p = (p, tt)
all_push P (m ∷ held) n h p = (h.0, all_push P held n h.1 p)

-- the line of a run in the words of what is read back
same_line : (width at : ℕ) (numbers : List ℕ) →
    run_line (digits_of_cell width) (record { at = at; numbers = numbers })
    ≡ cells_line width at numbers
same_line width at numbers =
    append_assoc (codes "cells " ++ decimal at) (32 ∷ [])
    (cell_digits (digits_of_cell width) numbers)

module _ (spec : Spec) (state : MachineState) (memory : Memory) (r : ℕ)
    (is : memory_of spec.decls ≡ Some memory) (back : CellLinesComeBack spec)
    (count : length state.cells ≡ memory.hi - memory.lo) where
  abbrev digits : ℕ
  digits = digits_of_cell memory.cell_width

  abbrev FitsCell : ℕ → Type 0
  FitsCell n = IsTrue (is_number memory.cell_width n)

  -- lines and those behind them print all cells
  abbrev Finish : List Line → Type 0
  Finish lines = Printed spec state lines r (length state.cells)

  -- a run behind what is printed
  pub record IsOpen (c p at : ℕ) (held : List ℕ) : Type 0 where
    pub next : StandsNext state c p held
    pub fits : AllByRecursion FitsCell held
    pub index : at ≡ memory.lo + p
    pub low : p + length held ≤ length state.cells

  -- one run more
  run_printed : (lines : List Line) (c p at n : ℕ) (held : List ℕ) → IsOpen c p at (n ∷ held) →
      Printed spec state lines r c →
      Printed spec state
      (lines ++ run_line digits (record { at = at; numbers = n ∷ held }) ∷ [])
      r (p + length (n ∷ held))
  run_printed lines c p at n held opening printed =
      let index = opening.index in
      let low = opening.low in
      let line = cells_line memory.cell_width at (n ∷ held) in
      let read = back memory at (n ∷ held) is (omega (arith, index))
      (omega (arith, index, low, count)) (omega arith) opening.fits in
      let place : at - memory.lo ≡ p = omega (arith, index) in
      subst (λ l. Printed spec state (lines ++ l ∷ []) r (p + length (n ∷ held)))
      (sym (same_line memory.cell_width at (n ∷ held))) (
        printed_next spec state lines line (Cells p (n ∷ held)) r c r (p + length (n ∷ held))
            (read.0 ∙ ap (λ i. Some (Cells i (n ∷ held))) place)
            (cells_next spec state p (n ∷ held) r c opening.next) printed.0,
        All-append (Lacks 10) lines (line ∷ []) printed.1
            (All-cons (Lacks 10) line [] read.1 (All-nil (Lacks 10))),
      )

  -- the open run, where there is one, and the runs behind it
  closed_printed : (runs : List Run) (lines : List Line) (c p at : ℕ) (held : List ℕ) →
      IsOpen c p at held → Printed spec state lines r c →
      ((c' : ℕ) (more : List Line) → c' ≤ p + length held →
      ZerosTo state c' (p + length held) → Printed spec state more r c' →
      Finish (more ++ run_lines digits runs)) →
      Finish (lines ++ run_lines digits (closed at held runs))
  closed_printed runs lines c p at [] opening printed go =
      let behind = opening.next.behind in
      go c lines (omega (arith, behind))
      (λ i from less. opening.next.zeros i from (omega (arith, less))) printed
  closed_printed runs lines c p at (n ∷ held) opening printed go =
      let line = run_line digits (record { at = at; numbers = n ∷ held }) in
      subst Finish (append_assoc lines (line ∷ []) (run_lines digits runs))
      (go (p + length (n ∷ held)) (lines ++ line ∷ []) (omega arith)
      (λ i from less. absurd (omega (arith, from, less)))
      (run_printed lines c p at n held opening printed))

  -- the lines of the runs of cells print all cells
  abbrev Prints : List ℕ → Type 0
  Prints cells = (index at c p : ℕ) (held : List ℕ) (lines : List Line) →
      index ≡ at + length held → IsOpen c p at held →
      StandsAt state.cells (p + length held) cells →
      p + length held + length cells ≡ length state.cells →
      AllByRecursion FitsCell cells → Printed spec state lines r c →
      Finish (lines ++ run_lines digits (runs_of index at held cells))

  -- behind a cell that is zero
  zero_next : (cells : List ℕ) → Prints cells → (index at c p n : ℕ) (held : List ℕ)
      (lines : List Line) → index ≡ at + length held → IsOpen c p at held →
      StandsAt state.cells (p + length held) (n ∷ cells) →
      p + length held + length (n ∷ cells) ≡ length state.cells →
      AllByRecursion FitsCell cells → Printed spec state lines r c → n ≡ 0 →
      Finish (lines ++ run_lines digits (closed at held (runs_of (index + 1) (index + 1) [] cells)))
  zero_next cells ih index at c p n held lines e opening stands total fits printed none =
      let q : ℕ = p + length held in
      let is_at = opening.index in
      closed_printed (runs_of (index + 1) (index + 1) [] cells) lines c p at held opening printed
      (λ c' more le zeros now.
      ih (index + 1) (index + 1) c' (q + 1) [] more (omega arith)
      (record {
        next = none_open state c' (q + 1) (omega (arith, le)) (λ i from less.
            ⊎_elim (λ low. zeros i from low)
            (λ far.
            let here : i ≡ q = omega (arith, far, less) in
            ap (slice_get state.cells) here ∙ stands_here state.cells q n cells stands
            ∙ ap Some none)
            (cases_lt i q));
        fits = tt;
        index = omega (arith, e, is_at);
        low = omega (arith, total);
      })
      (λ k. ap (slice_get state.cells) (omega arith)
      ∙ stands_behind state.cells q n cells stands k)
      (omega (arith, total)) fits now)

  -- behind one that begins a line
  full_next : (cells : List ℕ) → Prints cells → (index at c p n : ℕ) (held : List ℕ)
      (lines : List Line) → index ≡ at + length held → IsOpen c p at held →
      StandsAt state.cells (p + length held) (n ∷ cells) →
      p + length held + length (n ∷ cells) ≡ length state.cells →
      AllByRecursion FitsCell (n ∷ cells) → Printed spec state lines r c → n ≢ 0 →
      Finish (lines ++ run_lines digits (closed at held (runs_of (index + 1) index (n ∷ []) cells)))
  full_next cells ih index at c p n held lines e opening stands total fits printed some =
      let q : ℕ = p + length held in
      let is_at = opening.index in
      closed_printed (runs_of (index + 1) index (n ∷ []) cells) lines c p at held opening printed
      (λ c' more le zeros now.
      ih (index + 1) index c' q (n ∷ []) more (omega arith)
      (record {
        next = more_open state c' q n [] some
            (ap (slice_get state.cells) (omega arith)
            ∙ stands_here state.cells q n cells stands)
            (none_open state c' q le zeros);
        fits = (fits.0, tt);
        index = omega (arith, e, is_at);
        low = omega (arith, total);
      })
      (λ k. ap (slice_get state.cells) (omega arith)
      ∙ stands_behind state.cells q n cells stands k)
      (omega (arith, total)) fits.1 now)

  -- behind one on the open line
  held_next : (cells : List ℕ) → Prints cells → (index at c p n : ℕ) (held : List ℕ)
      (lines : List Line) → index ≡ at + length held → IsOpen c p at held →
      StandsAt state.cells (p + length held) (n ∷ cells) →
      p + length held + length (n ∷ cells) ≡ length state.cells →
      AllByRecursion FitsCell (n ∷ cells) → Printed spec state lines r c → n ≢ 0 →
      Finish (lines ++ run_lines digits (runs_of (index + 1) at (held ++ n ∷ []) cells))
  held_next cells ih index at c p n held lines e opening stands total fits printed some =
      let q : ℕ = p + length held in
      let long : length (held ++ n ∷ []) ≡ length held + 1 = length-append held (n ∷ []) in
      ih (index + 1) at c p (held ++ n ∷ []) lines (omega (arith, e, long))
      (record {
        next = more_open state c p n held some (stands_here state.cells q n cells stands)
            opening.next;
        fits = all_push FitsCell held n opening.fits fits.0;
        index = opening.index;
        low = omega (arith, total, long);
      })
      (λ k. ap (slice_get state.cells) (omega (arith, long))
      ∙ stands_behind state.cells q n cells stands k)
      (omega (arith, total, long)) fits.1 printed

  one_more : (n : ℕ) (cells : List ℕ) → Prints cells → Prints (n ∷ cells)
  one_more n cells ih index at c p held lines e opening stands total fits printed =
      let rest = closed at held (runs_of (index + 1) (index + 1) [] cells) in
      let begun = closed at held (runs_of (index + 1) index (n ∷ []) cells) in
      let long = runs_of (index + 1) at (held ++ n ∷ []) cells in
      let goal = λ (runs : List Run). Finish (lines ++ run_lines digits runs) in
      elim (cases_eq n 0) [
        | inl none ↦
            subst goal
            (sym (cond-true (n == 0) rest (if length held == 8 then begun else long)
            (eq-eqb n 0 none)))
            (zero_next cells ih index at c p n held lines e opening stands total fits.1 printed
            none)
        | inr some ↦
            elim (cases_eq (length held) 8) [
              | inl eight ↦
                  subst goal
                  (sym (second (n == 0) (length held == 8) rest begun long (other_than n 0 some)
                  (eq-eqb (length held) 8 eight)))
                  (full_next cells ih index at c p n held lines e opening stands total fits printed
                  some)
              | inr other ↦
                  subst goal
                  (sym (third (n == 0) (length held == 8) rest begun long (other_than n 0 some)
                  (other_than (length held) 8 other)))
                  (held_next cells ih index at c p n held lines e opening stands total fits printed
                  some)
            ]
      ]

  pub runs_printed : (cells : List ℕ) → Prints cells
  runs_printed [] index at c p held lines e opening stands total fits printed =
      closed_printed [] lines c p at held opening printed
      (λ c' more le zeros now.
      let all : p + length held ≡ length state.cells = omega (arith, total) in
      subst (λ ls. Printed spec state ls r (length state.cells)) (sym (append-nil more))
      (printed_zeros spec state more r c' (length state.cells) (omega (arith, le, all))
      (λ i from less. zeros i from (omega (arith, less, all))) now))
  runs_printed (n ∷ cells) index at c p held lines e opening stands total fits printed =
      one_more n cells (runs_printed cells) index at c p held lines e opening stands total fits
      printed

  -- the lines of all cells
  pub all_runs_printed : (lines : List Line) → AllByRecursion FitsCell state.cells →
      Printed spec state lines r 0 →
      Finish (lines ++ run_lines digits (runs_of memory.lo memory.lo [] state.cells))
  all_runs_printed lines fits printed =
      runs_printed state.cells memory.lo memory.lo 0 0 [] lines (omega arith)
      (record {
        next = none_open state 0 0 (omega arith) (λ i from less. absurd (omega (arith, less)));
        fits = tt;
        index = omega arith;
        low = omega arith;
      })
      (λ k. ap (slice_get state.cells) (omega arith)) (omega arith) fits printed
