-- Lines that set each register and each cell that is not zero once are an image of the state.
use Rattle.std.proofs.Common.{◌≡◌, ℕ, zero, suc, ◌<◌, ◌≤◌, List, [], ◌∷◌, ◌++◌, length, replicate, Some, None, ◌⊎◌, inl, inr, ⊎_elim, refl, sym, ap, ◌∙◌, subst, arith}
use Rattle.std.specs.Option.{option_map}
use Rattle.std.specs.Prelude.{slice_get}
use Rattle.std.proofs.lemmas.Bool.{cases_lt}
use Rattle.std.proofs.lemmas.List.Elements.{Contains-push_cases}
use Rattle.kat_value.specs.declared.value.Value.{Value}
use Rattle.kat_value.specs.declared.value.Value.TheVariants.{Bits}
use Rattle.kat_ast.specs.Spec.{Spec}
use Rattle.kat_syntax.specs.Machine.{MachineState}
use Rattle.kat_syntax.specs.Start.{start_of}
use Rattle.kat_syntax.specs.States.{cell_count, cell_width, first_index}
use Rattle.kat_image.specs.declared.setting.Setting.{Setting}
use Rattle.kat_image.specs.Lines.{setting_of}
use Rattle.kat_image.specs.Image.{Line, Place, RegisterAt, CellAt, Sets, IsSet, IsUnset, AreSettings, HasItsValue, IsImageOf, given, lines_of, value_at}
use Rattle.kat_image.proofs.Settings.{some_same, IsSet-more, IsSet-last, IsUnset-push, AreSettings-push, empty_sets}

-- an item that is there, and none behind the last
here : {A : Type 0} → (xs : List A) (k : ℕ) → k < length xs →
    (x : A) × (slice_get xs k ≡ Some x)
here [] k less = absurd (omega arith)
here (x ∷ xs) zero less = (x, refl)
here (x ∷ xs) (suc k) less = here xs k (omega arith)

pub far_off : {A : Type 0} → (xs : List A) (k : ℕ) → length xs ≤ k → slice_get xs k ≡ None
far_off [] k far = refl
far_off (x ∷ xs) zero far = absurd (omega arith)
far_off (x ∷ xs) (suc k) far = far_off xs k (omega arith)

zeros : (n k : ℕ) → k < n → slice_get {X = ℕ} (replicate n 0) k ≡ Some 0
zeros zero k less = absurd (omega arith)
zeros (suc n) zero less = refl
zeros (suc n) (suc k) less = zeros n k (omega arith)

zeros_end : (n k : ℕ) → n ≤ k → slice_get {X = ℕ} (replicate n 0) k ≡ None
zeros_end zero k far = refl
zeros_end (suc n) zero far = absurd (omega arith)
zeros_end (suc n) (suc k) far = zeros_end n k (omega arith)

module _ (spec : Spec) (state : MachineState) where
  -- one of the first registers, or of the first cells and not zero
  abbrev pub IsPrinted : ℕ → ℕ → Place → Type 0
  IsPrinted r c (RegisterAt i) = i < r
  IsPrinted r c (CellAt i) = (i < c) × (slice_get state.cells i ≡ Some 0 → ⊥)

-- lines set these registers and cells, no others, to what they have in a state
pub record ArePrinted (spec : Spec) (state : MachineState) (lines : List Line) (r c : ℕ)
    : Type 0 where
  pub settings : AreSettings spec lines
  pub only : (place : Place) (v : Value) → IsSet spec lines place v →
      IsPrinted spec state r c place
  pub all : (place : Place) (v : Value) → IsPrinted spec state r c place →
      value_at spec state place ≡ Some v → IsSet spec lines place v

-- a setting gives what is printed next
pub record PrintsNext (spec : Spec) (state : MachineState) (s : Setting) (r c r' c' : ℕ)
    : Type 0 where
  pub new : (place : Place) (v : Value) → given spec s place ≡ Some v →
      IsPrinted spec state r c place → ⊥
  pub only : (place : Place) (v : Value) → given spec s place ≡ Some v →
      IsPrinted spec state r' c' place
  pub old : (place : Place) → IsPrinted spec state r c place → IsPrinted spec state r' c' place
  pub all : (place : Place) (v : Value) → IsPrinted spec state r' c' place →
      value_at spec state place ≡ Some v →
      IsPrinted spec state r c place ⊎ (given spec s place ≡ Some v)

module _ (spec : Spec) (state : MachineState) where
  -- nothing is printed at first
  pub none_printed : ArePrinted spec state [] 0 0
  none_printed =
      record {
        settings = λ k d less. absurd (omega (arith, less));
        only = λ place v set. absurd (omega (arith, set.1.1));
        all = nowhere;
      }
    where
      nowhere : (place : Place) (v : Value) → IsPrinted spec state 0 0 place →
          value_at spec state place ≡ Some v → IsSet spec [] place v
      nowhere (RegisterAt i) v p e = absurd (omega (arith, p))
      nowhere (CellAt i) v p e = let less = p.0 in absurd (omega (arith, less))

  -- one line more
  pub printed_next : (lines : List Line) (line : Line) (s : Setting) (r c r' c' : ℕ) →
      setting_of spec line ≡ Some s → PrintsNext spec state s r c r' c' →
      ArePrinted spec state lines r c → ArePrinted spec state (lines ++ line ∷ []) r' c'
  printed_next lines line s r c r' c' said next a =
      record {
        settings = AreSettings-push spec lines line a.settings (inr (record {
          setting = s;
          said = said;
          free = λ place v gives w set. next.new place v gives (a.only place w set);
        }));
        only = λ place v set.
            ⊎_elim (λ there. next.old place (a.only place v (set.0, there, set.2)))
            (λ same.
            let sets : Sets spec line place v = subst (λ l. Sets spec l place v) (sym same) set.2 in
            let one : sets.setting ≡ s = some_same sets.setting s (sym sets.said ∙ said) in
            next.only place v (ap (λ x. given spec x place) (sym one) ∙ sets.gives))
            (Contains-push_cases lines line set.0 set.1);
        all = λ place v p e.
            ⊎_elim (λ before. IsSet-more spec lines line place v (a.all place v before e))
            (λ gives. IsSet-last spec lines line place v (record {
              setting = s;
              said = said;
              gives = gives;
            }))
            (next.all place v p e);
      }

  -- where all is printed, the lines and an empty one give each place its value
  values_of : (lines : List Line) (place : Place) →
      length state.registers ≡ length (start_of spec).registers →
      length state.cells ≡ cell_count spec.decls →
      ArePrinted spec state lines (length state.registers) (length state.cells) →
      HasItsValue spec (lines ++ [] ∷ []) state place
  values_of lines (RegisterAt i) rs cs a =
      ⊎_elim
      (λ less.
      let one = here state.registers i less in
      inl (
        one.0,
        IsSet-more spec lines [] (RegisterAt i) one.0
            (a.all (RegisterAt i) one.0 less one.1),
        one.1,
      ))
      (λ far.
      inr (
        IsUnset-push spec lines [] (RegisterAt i)
            (λ v set. let low : i < length state.registers = a.only (RegisterAt i) v set in
            absurd (omega (arith, low, far)))
            (λ v sets. empty_sets spec [] (RegisterAt i) v refl sets),
        far_off state.registers i far
            ∙ sym (far_off (start_of spec).registers i (omega (arith, rs, far))),
      ))
      (cases_lt i (length state.registers))
  values_of lines (CellAt i) rs cs a =
      ⊎_elim
      (λ less. let one = here state.cells i less in by one.0 one.1 less)
      (λ far.
      inr (
        unset (λ p. let low = p.0 in omega (arith, low, far)),
        ap (option_map (Bits w)) (far_off state.cells i far)
            ∙ sym (ap (option_map (Bits w)) (zeros_end (cell_count spec.decls) i
            (omega (arith, cs, far)))),
      ))
      (cases_lt i (length state.cells))
    where
      w : ℕ
      w = cell_width spec.decls

      unset : (IsPrinted spec state (length state.registers) (length state.cells) (CellAt i) → ⊥) →
          IsUnset spec (lines ++ [] ∷ []) (CellAt i)
      unset not = IsUnset-push spec lines [] (CellAt i)
          (λ v set. not (a.only (CellAt i) v set))
          (λ v sets. empty_sets spec [] (CellAt i) v refl sets)

      by : (n : ℕ) → slice_get state.cells i ≡ Some n → i < length state.cells →
          HasItsValue spec (lines ++ [] ∷ []) state (CellAt i)
      by zero e less =
          inr (
            unset (λ p. p.1 e),
            ap (option_map (Bits w)) (e ∙ sym (zeros (cell_count spec.decls) i
                (omega (arith, cs, less)))),
          )
      by (suc n) e less =
          let there : value_at spec state (CellAt i) ≡ Some (Bits w (suc n)) =
          ap (option_map (Bits w)) e in
          inl (
            Bits w (suc n),
            IsSet-more spec lines [] (CellAt i) (Bits w (suc n))
                (a.all (CellAt i) (Bits w (suc n))
                (less, λ z. not_both n (some_same (suc n) 0 (sym e ∙ z))) there),
            there,
          )
        where
          not_both : (n : ℕ) → suc n ≡ 0 → ⊥
          not_both n z = omega (arith, z)

  -- and are an image of the state
  pub printed_whole : (bytes : List ℕ) (lines : List Line) →
      lines_of bytes ≡ lines ++ [] ∷ [] →
      length state.registers ≡ length (start_of spec).registers →
      state.lo ≡ first_index spec.decls → length state.cells ≡ cell_count spec.decls →
      ArePrinted spec state lines (length state.registers) (length state.cells) →
      IsImageOf spec bytes state
  printed_whole bytes lines split rs first cs a =
      record {
        settings = subst (AreSettings spec) (sym split)
            (AreSettings-push spec lines [] a.settings (inl refl));
        values = λ place. subst (λ ls. HasItsValue spec ls state place) (sym split)
            (values_of lines place rs cs a);
        first = first;
      }
