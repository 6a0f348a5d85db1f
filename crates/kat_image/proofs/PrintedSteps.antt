-- What the line of a register, and the line of a run of cells, set next.
use Rattle.std.proofs.Common.{◌≡◌, ◌≢◌, ℕ, ◌+◌, ◌-◌, ◌<◌, ◌≤◌, ◌==◌, List, length, Option, Some, None, ◌⊎◌, inl, inr, ⊎_elim, sym, ap, ◌∙◌, arith}
use Rattle.std.specs.Option.{option_map}
use Rattle.std.specs.Prelude.{nat_le, slice_get}
use Rattle.std.proofs.lemmas.Bool.{cases_eq, cases_lt, eqb-true, eq-eqb, le-leb, lt-leb, false_from_ne_true, cond-true, cond-false}
use Rattle.kat_value.specs.declared.value.Value.{Value}
use Rattle.kat_value.specs.declared.value.Value.TheVariants.{Bits}
use Rattle.kat_ast.specs.Spec.{Spec}
use Rattle.kat_syntax.specs.Machine.{MachineState}
use Rattle.kat_syntax.specs.States.{cell_width}
use Rattle.kat_image.specs.declared.setting.Setting.TheVariants.{Register, Cells}
use Rattle.kat_image.specs.Image.{Place, RegisterAt, CellAt, given, value_at}
use Rattle.kat_image.proofs.PrintedPlaces.{IsPrinted, PrintsNext, far_off}

none_given : {P : Type 0} → (v : Value) → ◌≡◌ {A = Option Value} None (Some v) → P
none_given v e = absurd (cc)

module _ (spec : Spec) (state : MachineState) (r : ℕ) (v : Value) where
  this_one : (i : ℕ) → i ≡ r → given spec (Register r v) (RegisterAt i) ≡ Some v
  this_one i same = cond-true (i == r) (Some v) None (eq-eqb i r same)

  no_other : (i : ℕ) → i ≢ r → given spec (Register r v) (RegisterAt i) ≡ None
  no_other i other =
      cond-false (i == r) (Some v) None (false_from_ne_true (i == r) (λ e. other (eqb-true i r e)))

  -- a register behind those that are printed
  pub register_next : slice_get state.registers r ≡ Some v →
      PrintsNext spec state (Register r v) r 0 (r + 1) 0
  register_next there = record { new = new; only = only; old = old; all = all }
    where
      new : (place : Place) (w : Value) → given spec (Register r v) place ≡ Some w →
          IsPrinted spec state r 0 place → ⊥
      new (RegisterAt i) w g p =
          none_given w (sym (no_other i (λ e. absurd (omega (arith, e, p)))) ∙ g)
      new (CellAt i) w g p = none_given w g

      only : (place : Place) (w : Value) → given spec (Register r v) place ≡ Some w →
          IsPrinted spec state (r + 1) 0 place
      only (RegisterAt i) w g =
          ⊎_elim (λ same. omega (arith, same))
          (λ other. none_given w (sym (no_other i other) ∙ g)) (cases_eq i r)
      only (CellAt i) w g = none_given w g

      old : (place : Place) → IsPrinted spec state r 0 place →
          IsPrinted spec state (r + 1) 0 place
      old (RegisterAt i) p = omega (arith, p)
      old (CellAt i) p = p

      all : (place : Place) (w : Value) → IsPrinted spec state (r + 1) 0 place →
          value_at spec state place ≡ Some w →
          IsPrinted spec state r 0 place ⊎ (given spec (Register r v) place ≡ Some w)
      all (RegisterAt i) w p e =
          ⊎_elim
          (λ same.
          inr (this_one i same ∙ sym there ∙ ap (slice_get state.registers) (sym same) ∙ e))
          (λ other. inl (omega (arith, other, p))) (cases_eq i r)
      all (CellAt i) w p e = inl p

-- a run stands in the cells behind those that are printed, and between them are zeros
pub record StandsNext (state : MachineState) (c at : ℕ) (numbers : List ℕ) : Type 0 where
  pub behind : c ≤ at
  pub zeros : (i : ℕ) → c ≤ i → i < at → slice_get state.cells i ≡ Some 0
  pub same : (k : ℕ) → k < length numbers →
      slice_get state.cells (at + k) ≡ slice_get numbers k
  pub some : (k : ℕ) → slice_get numbers k ≡ Some 0 → ⊥

module _ (spec : Spec) (state : MachineState) (at : ℕ) (numbers : List ℕ) where
  abbrev cell : Option ℕ → Option Value
  cell = option_map (Bits (cell_width spec.decls))

  low_none : (i : ℕ) → i < at → given spec (Cells at numbers) (CellAt i) ≡ None
  low_none i less =
      cond-false (nat_le at i) (cell (slice_get numbers (i - at))) None (lt-leb at i less)

  from_there : (i : ℕ) → at ≤ i →
      given spec (Cells at numbers) (CellAt i) ≡ cell (slice_get numbers (i - at))
  from_there i far =
      cond-true (nat_le at i) (cell (slice_get numbers (i - at))) None (le-leb at i far)

  high_none : (i : ℕ) → at + length numbers ≤ i →
      given spec (Cells at numbers) (CellAt i) ≡ None
  high_none i far =
      from_there i (omega (arith, far)) ∙ ap cell (far_off numbers (i - at) (omega (arith, far)))

  -- cells behind those that are printed
  pub cells_next : (r c : ℕ) → StandsNext state c at numbers →
      PrintsNext spec state (Cells at numbers) r c r (at + length numbers)
  cells_next r c run = record { new = new; only = only; old = old; all = all }
    where
      here : (i : ℕ) → at ≤ i → i < at + length numbers →
          slice_get state.cells i ≡ slice_get numbers (i - at)
      here i far less =
          ap (slice_get state.cells) (omega (arith, far))
          ∙ run.same (i - at) (omega (arith, far, less))

      new : (place : Place) (w : Value) → given spec (Cells at numbers) place ≡ Some w →
          IsPrinted spec state r c place → ⊥
      new (RegisterAt i) w g p = none_given w g
      new (CellAt i) w g p =
          let low = p.0 in let from = run.behind in
          none_given w (sym (low_none i (omega (arith, low, from))) ∙ g)

      only : (place : Place) (w : Value) → given spec (Cells at numbers) place ≡ Some w →
          IsPrinted spec state r (at + length numbers) place
      only (RegisterAt i) w g = none_given w g
      only (CellAt i) w g =
          ⊎_elim (λ less. none_given w (sym (low_none i less) ∙ g))
          (λ far.
          ⊎_elim
          (λ less. (less, λ z. run.some (i - at) (sym (here i far less) ∙ z)))
          (λ beyond. none_given w (sym (high_none i beyond) ∙ g))
          (cases_lt i (at + length numbers)))
          (cases_lt i at)

      old : (place : Place) → IsPrinted spec state r c place →
          IsPrinted spec state r (at + length numbers) place
      old (RegisterAt i) p = p
      old (CellAt i) p =
          let low = p.0 in let from = run.behind in (omega (arith, low, from), p.1)

      all : (place : Place) (w : Value) → IsPrinted spec state r (at + length numbers) place →
          value_at spec state place ≡ Some w →
          IsPrinted spec state r c place ⊎ (given spec (Cells at numbers) place ≡ Some w)
      all (RegisterAt i) w p e = inl p
      all (CellAt i) w p e =
          ⊎_elim
          (λ less.
          ⊎_elim (λ low. inl (low, p.1)) (λ from. absurd (p.1 (run.zeros i from less)))
          (cases_lt i c))
          (λ far. inr (from_there i far ∙ ap cell (sym (here i far p.0)) ∙ e))
          (cases_lt i at)
