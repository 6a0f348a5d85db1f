-- What lines set.
use Rattle.std.proofs.Common.{◌≡◌, ◌≢◌, ℕ, zero, suc, ◌<◌, Bool, true, false, if◌then◌else◌, List, [], ◌∷◌, ◌++◌, length, take, get_or, set, Option, None, Some, inl, inr, ⊎_elim, refl, sym, ap, ◌∙◌, subst, arith}
use Rattle.std.specs.Option.{option_map}
use Rattle.std.specs.Prelude.{slice_get, option_and_then}
use Rattle.std.specs.Str.{is_utf8}
use Rattle.std.proofs.lemmas.Bool.{cases_lt}
use Rattle.std.proofs.lemmas.Grind.{common_steps}
use Rattle.std.proofs.lemmas.List.{take-append-le, get_or_default, get_or-take, get_or_push}
use Rattle.std.proofs.lemmas.List.Elements.{Contains-append_left, Contains-push, Contains-push_cases}
use Rattle.std.proofs.Math.ListN.{get_or-append}
use Rattle.std.proofs.Math.Seq.{take-append_seam, get_or-append_seam}
use Rattle.kat_value.specs.declared.value.Value.{Value}
use Rattle.kat_value.specs.declared.value.Value.TheVariants.{Bits}
use Rattle.kat_ast.specs.Spec.{Spec}
use Rattle.kat_syntax.specs.Machine.{MachineState}
use Rattle.kat_syntax.specs.States.{cell_width}
use Rattle.kat_image.specs.declared.setting.Setting.{Setting}
use Rattle.kat_image.specs.Lines.{said_by, setting_of}
use Rattle.kat_image.specs.Words.{behind}
use Rattle.kat_image.specs.Image.{Line, Place, RegisterAt, CellAt, Sets, SetsFree, IsSet, IsUnset, MayFollow, AreSettings, HasItsValue, IsImageOf, IsFirstRefused, given, lines_of, value_at}

-- one place of a list
pub get-set_same : {X : Type 0} → (xs : List X) (i : ℕ) (x : X) → i < length xs →
    slice_get (set xs i x) i ≡ Some x
get-set_same [] i x lt = absurd (omega arith)
get-set_same (y ∷ xs) zero x lt = refl
get-set_same (y ∷ xs) (suc i) x lt = get-set_same xs i x (omega arith)

pub get-set_other : {X : Type 0} → (xs : List X) (i j : ℕ) (x : X) → j ≢ i → slice_get (set xs i x)
    j ≡ slice_get xs j
get-set_other [] i j x ne = refl
get-set_other (y ∷ xs) zero zero x ne = absurd (ne refl)
get-set_other (y ∷ xs) zero (suc j) x ne = refl
get-set_other (y ∷ xs) (suc i) zero x ne = refl
get-set_other (y ∷ xs) (suc i) (suc j) x ne = get-set_other xs i j x (λ e. ne (ap suc e))

same_from_gets : {X : Type 0} → (xs ys : List X) → ((i : ℕ) → slice_get xs i ≡ slice_get ys i) →
    xs ≡ ys
same_from_gets [] [] h = refl
same_from_gets [] (y ∷ ys) h = let e = h 0 in cc
same_from_gets (x ∷ xs) [] h = let e = h 0 in cc
same_from_gets {X} (x ∷ xs) (y ∷ ys) h =
    let e : ◌≡◌ {A = Option X} (Some x) (Some y) = h 0 in
    let head : x ≡ y = cc in
    ap (λ z. z ∷ xs) head ∙ ap (λ zs. y ∷ zs) (same_from_gets xs ys (λ i. h (suc i)))

-- what an option has
pub some_same : {A : Type 0} (x y : A) → ◌≡◌ {A = Option A} (Some x) (Some y) → x ≡ y
some_same x y e = cc

module _ (spec : Spec) where
  -- an empty line sets nothing
  no_front : (b : Bool) → option_and_then (λ (keyword : List ℕ × List ℕ).
      option_and_then (said_by spec keyword.0) (behind 32 keyword.1))
      (if b then Some ([], []) else None) ≡ None
  no_front true = refl
  no_front false = refl

  pub empty_line : setting_of spec [] ≡ None
  empty_line = no_front (is_utf8 [])

  -- one line more
  pub IsSet-more : (lines : List Line) (line : Line) (at : Place) (v : Value) →
      IsSet spec lines at v → IsSet spec (lines ++ line ∷ []) at v
  IsSet-more lines line at v h = (h.0, Contains-append_left lines (line ∷ []) h.0 h.1, h.2)

  pub IsSet-last : (lines : List Line) (line : Line) (at : Place) (v : Value) →
      Sets spec line at v → IsSet spec (lines ++ line ∷ []) at v
  IsSet-last lines line at v sets = (line, Contains-push lines line, sets)

  pub IsUnset-push : (lines : List Line) (line : Line) (at : Place) → IsUnset spec lines at →
      ((v : Value) → Sets spec line at v → ⊥) → IsUnset spec (lines ++ line ∷ []) at
  IsUnset-push lines line at unset not v h =
      ⊎_elim (λ there. unset v (h.0, there, h.2)) (λ same. not v (subst (λ l. Sets spec l at v)
      (sym same) h.2)) (Contains-push_cases lines line h.0 h.1)

  pub AreSettings-push : (lines : List Line) (line : Line) → AreSettings spec lines → MayFollow spec
      lines line → AreSettings spec (lines ++ line ∷ [])
  AreSettings-push lines line settings may k d lt =
      ⊎_elim
      (λ low.
      let front : take k (lines ++ line ∷ []) ≡ take k lines = take-append-le k lines (line ∷ [])
      (omega arith) in
      let same : get_or (lines ++ line ∷ []) k d ≡ get_or lines k d = grind (arith, common_steps) in
      subst (λ l. MayFollow spec l (get_or (lines ++ line ∷ []) k d)) (sym front)
      (subst (MayFollow spec (take k lines)) (sym same) (settings k d low)))
      (λ high.
      let at : length lines ≡ k = grind (arith, common_steps) in
      let front : take k (lines ++ line ∷ []) ≡ lines = ap (λ i. take i (lines ++ line ∷ []))
      (sym at) ∙ take-append_seam lines (line ∷ []) in
      let same : get_or (lines ++ line ∷ []) k d ≡ line = get_or_push lines line d k at in
      subst (λ l. MayFollow spec l (get_or (lines ++ line ∷ []) k d)) (sym front)
      (subst (MayFollow spec lines) (sym same) may))
      (cases_lt k (length lines))

  pub empty_sets : (line : Line) (at : Place) (v : Value) → line ≡ [] → Sets spec line at v → ⊥
  empty_sets line at v empty sets =
      let none : ◌≡◌ {A = Option Setting} None (Some sets.setting) =
      sym empty_line ∙ ap (setting_of spec) (sym empty) ∙ sets.said in cc

  pub HasItsValue-kept : (lines : List Line) (line : Line) (old new : MachineState) (at : Place) →
      HasItsValue spec lines old at → ((v : Value) → Sets spec line at v → ⊥) →
      value_at spec new at ≡ value_at spec old at →
      HasItsValue spec (lines ++ line ∷ []) new at
  HasItsValue-kept lines line old new at (inl h) not same =
      inl (h.0, IsSet-more lines line at h.0 h.1, same ∙ h.2)
  HasItsValue-kept lines line old new at (inr h) not same =
      inr (IsUnset-push lines line at h.0 not, same ∙ h.1)

  pub HasItsValue-set : (lines : List Line) (line : Line) (new : MachineState) (at : Place)
      (v : Value) → Sets spec line at v → value_at spec new at ≡ Some v →
      HasItsValue spec (lines ++ line ∷ []) new at
  HasItsValue-set lines line new at v sets there = inl (v, IsSet-last lines line at v sets, there)

  -- a line gives a place one value
  one_setting : (line : Line) (at : Place) (v w : Value) → Sets spec line at v →
      Sets spec line at w → v ≡ w
  one_setting line at v w a b =
      let same : a.setting ≡ b.setting = some_same a.setting b.setting (sym a.said ∙ b.said) in
      some_same v w (sym a.gives ∙ ap (λ s. given spec s at) same ∙ b.gives)

  free_place : (lines : List Line) (line : Line) (at : Place) (w : Value) →
      SetsFree spec lines line → Sets spec line at w → IsUnset spec lines at
  free_place lines line at w h sets =
      let same : sets.setting ≡ h.setting =
      some_same sets.setting h.setting (sym sets.said ∙ h.said) in
      h.free at w (ap (λ s. given spec s at) (sym same) ∙ sets.gives)

  -- of two lines that set one place the later one may not stand there
  later : (lines : List Line) (i j : ℕ) (at : Place) (x y : Line) (v w : Value) →
      AreSettings spec lines → i < j → j < length lines → get_or lines i x ≡ x →
      get_or lines j y ≡ y → Sets spec x at v → Sets spec y at w → ⊥
  later lines i j at x y v w settings lt within x_is y_is x_sets y_sets =
      let may : MayFollow spec (take j lines) y = subst (MayFollow spec (take j lines)) y_is
      (settings j y within) in
      let low : i < length (take j lines) = grind (arith, common_steps) in
      let there : get_or (take j lines) i x ≡ x = get_or-take j lines i x lt ∙ x_is in
      ⊎_elim (λ empty. empty_sets y at w empty y_sets)
      (λ h. free_place (take j lines) y at w h y_sets v (x, (i, low, there), x_sets))
      may

  pub one_value : (lines : List Line) (at : Place) (v w : Value) → AreSettings spec lines →
      IsSet spec lines at v → IsSet spec lines at w → v ≡ w
  one_value lines at v w settings a b =
      let i = a.1.0 in
      let j = b.1.0 in
      ⊎_elim (λ lt. absurd (later lines i j at a.0 b.0 v w settings lt b.1.1 a.1.2 b.1.2 a.2 b.2))
      (λ le.
      ⊎_elim (λ lt. absurd (later lines j i at b.0 a.0 w v settings lt a.1.1 b.1.2 a.1.2 b.2 a.2))
      (λ ge.
      let same : i ≡ j = omega arith in
      let lines_same : a.0 ≡ b.0 = sym a.1.2 ∙ ap (λ k. get_or lines k a.0) same ∙ get_or_default
      lines j a.0 b.0 b.1.1 ∙ b.1.2 in
      one_setting b.0 at v w (subst (λ l. Sets spec l at v) lines_same a.2) b.2)
      (cases_lt j i))
      (cases_lt i j)

  one_place : (lines : List Line) (a b : MachineState) (at : Place) → AreSettings spec lines →
      HasItsValue spec lines a at → HasItsValue spec lines b at →
      value_at spec a at ≡ value_at spec b at
  one_place lines a b at settings (inl h) (inl k) = h.2 ∙ ap Some
      (one_value lines at h.0 k.0 settings h.1 k.1) ∙ sym k.2
  one_place lines a b at settings (inl h) (inr k) = absurd (k.0 h.0 h.1)
  one_place lines a b at settings (inr h) (inl k) = absurd (h.0 k.0 k.1)
  one_place lines a b at settings (inr h) (inr k) = h.1 ∙ sym k.1

-- bits of one width tell their numbers
bits_told : (w : ℕ) (a b : Option ℕ) → option_map (Bits w) a ≡ option_map (Bits w) b → a ≡ b
bits_told w None None e = refl
bits_told w None (Some n) e = absurd (cc)
bits_told w (Some n) None e = absurd (cc)
bits_told w (Some n) (Some m) e =
    let same : Bits w n ≡ Bits w m = some_same (Bits w n) (Bits w m) e in
    let told : n ≡ m = cc in
    ap Some told

state_same : (a b : MachineState) → a.registers ≡ b.registers → a.lo ≡ b.lo → a.cells ≡ b.cells →
    a ≡ b
state_same a b registers first cells =
    ap (λ (r : List Value). record a { registers = r }) registers
    ∙ ap (λ (i : ℕ). record a { registers = b.registers; lo = i }) first
    ∙ ap (λ (l : List ℕ). record b { cells = l }) cells

pub one_state : (spec : Spec) (bytes : List ℕ) (a b : MachineState) → IsImageOf spec bytes a →
    IsImageOf spec bytes b → a ≡ b
one_state spec bytes a b x y =
    let same : (at : Place) → value_at spec a at ≡ value_at spec b at =
    λ at. one_place spec (lines_of bytes) a b at x.settings (x.values at) (y.values at) in
    state_same a b (same_from_gets a.registers b.registers (λ at. same (RegisterAt at)))
    (x.first ∙ sym y.first)
    (same_from_gets a.cells b.cells (λ at. bits_told (cell_width spec.decls) (slice_get a.cells at)
    (slice_get b.cells at) (same (CellAt at))))

-- a text with a line that is refused is an image of no state
pub refused_image : (spec : Spec) (bytes : List ℕ) (number : ℕ) (state : MachineState) →
    IsFirstRefused spec bytes number → IsImageOf spec bytes state → ⊥
refused_image spec bytes number state first image =
    let all = subst (AreSettings spec) first.split image.settings in
    let at = length first.lines in
    let within : at < length (first.lines ++ first.line ∷ first.rest) = grind (arith, common_steps)
    in
    let same : get_or (first.lines ++ first.line ∷ first.rest) at first.line ≡ first.line =
    grind (arith, common_steps) in
    first.refused (subst (λ l. MayFollow spec l first.line)
    (take-append_seam first.lines (first.line ∷ first.rest))
    (subst (MayFollow spec (take at (first.lines ++ first.line ∷ first.rest))) same
    (all at first.line within)))

-- a line that is refused does not stand among those that were taken before another one
no_earlier : (spec : Spec) (bytes : List ℕ) (n m : ℕ) (x : IsFirstRefused spec bytes n)
    (y : IsFirstRefused spec bytes m) → length x.lines < length y.lines → ⊥
no_earlier spec bytes n m x y less =
    let at = length x.lines in
    let whole : x.lines ++ x.line ∷ x.rest ≡ y.lines ++ y.line ∷ y.rest = sym x.split ∙ y.split in
    let front : take at y.lines ≡ x.lines =
    sym (take-append-le at y.lines (y.line ∷ y.rest) (omega arith)) ∙ ap (take at) (sym whole) ∙
    take-append_seam x.lines (x.line ∷ x.rest)
    in
    let here : get_or y.lines at x.line ≡ x.line =
    sym (get_or-append y.lines (y.line ∷ y.rest) x.line at less) ∙ ap (λ l. get_or l at x.line)
    (sym whole) ∙ get_or-append_seam x.lines x.line x.rest x.line
    in
    x.refused (subst (λ l. MayFollow spec l x.line) front (subst (MayFollow spec (take at y.lines))
    here (y.taken at x.line less)))

-- so one line is the first that is refused
pub one_refused : (spec : Spec) (bytes : List ℕ) (n m : ℕ) → IsFirstRefused spec bytes n →
    IsFirstRefused spec bytes m → n ≡ m
one_refused spec bytes n m x y =
    let left : length x.lines < length y.lines → ⊥ = λ less. no_earlier spec bytes n m x y less in
    let right : length y.lines < length x.lines → ⊥ = λ less. no_earlier spec bytes m n y x less in
    let a = x.counted in let b = y.counted in
    omega arith
