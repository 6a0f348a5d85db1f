-- Steps of the code that proves goals.
use Rattle.std.proofs.Common.{◌≡◌, ◌∙◌, ◌++◌, ◌-◌, ◌<◌, ◌≤◌, ℕ, zero, suc, Bool, true, false, IsTrue, List, [], ◌∷◌, map, Option, Result, refl, ap, sym, subst, arith, append_assoc}
use Rattle.std.specs.Prelude.{IfOk}
use Rattle.std.proofs.lemmas.List.{append-nil}
use Rattle.kat_value.specs.declared.types.Ty.{Ty}
use Rattle.kat_term.specs.declared.term.Term.{Term}
use Rattle.kat_norm.specs.Substitution.{Substitution}
use Rattle.kat_solver.specs.declared.frames.Frame.{Frame}
use Rattle.kat_solver.specs.declared.settled.Settled.{Settled}
use Rattle.kat_solver.specs.declared.settled.Settled.TheVariants.{Open}
use Rattle.kat_solver.specs.Frames.{asked_in, asked_of, IsNext}
use Rattle.kat_solver.specs.Prove.{max_askings, max_splits, Asked, ask, Next, No, More, goal_in, next_by, next_of, and_more, all_proved, is_proved}

pub all_askings : 100000 ≡ max_askings
unfolding max_askings
all_askings = refl

pub all_splits : 8 ≡ max_splits
unfolding max_splits
all_splits = refl

-- the last frame's goals come first
pub asked_with : (frames : List Frame) (frame : Frame) →
    asked_of (frames ++ frame ∷ []) ≡ asked_in frame ++ asked_of frames
asked_with [] frame = sym (append-nil (asked_in frame))
asked_with (f ∷ frames) frame =
    ap (λ goals. goals ++ asked_in f) (asked_with frames frame)
    ∙ append_assoc (asked_in frame) (asked_of frames) (asked_in f)

pub pushed : (old new : List Frame) (frame : Frame) → new ≡ old ++ frame ∷ [] →
    asked_of new ≡ asked_in frame ++ asked_of old
pushed old new frame is = ap asked_of is ∙ asked_with old frame

-- goals of one world, of which the first stands in its place
pub pushed_others : (old new : List Frame) (settled : Settled) (goal : Term)
    (whole rest : List Term) → whole ≡ goal ∷ rest →
    new ≡ old ++ (record { settled = settled; goal = goal; others = rest }) ∷ [] →
    asked_of new ≡ map (ask settled) whole ++ asked_of old
pushed_others old new settled goal whole rest first is =
    pushed old new (record { settled = settled; goal = goal; others = rest }) is
    ∙ ap (λ goals. map (ask settled) goals ++ asked_of old) (sym first)

no_frames : (frames : List Frame) → asked_of frames ≡ [] → frames ≡ []
no_frames [] e = refl
no_frames (f ∷ frames) e = none (asked_of frames) e where
  none : (goals : List Asked) → goals ++ asked_in f ≡ [] → f ∷ frames ≡ []
  none [] h = cc
  none (g ∷ goals) h = cc

module _ (vars : List Ty) (norm : Term → Option Term) where
  pub begins : (frames : List Frame) (settled : Settled) (goal : Term) →
      asked_of frames ≡ ask settled goal ∷ [] →
      all_proved vars norm 100000 8 (asked_of frames) ≡ is_proved vars norm settled goal
  begins frames settled goal e =
      ap (all_proved vars norm 100000 8) e
      ∙ ap (λ n. all_proved vars norm n 8 (ask settled goal ∷ [])) all_askings
      ∙ ap (λ n. all_proved vars norm max_askings n (ask settled goal ∷ [])) all_splits

  pub nothing : (left splits : ℕ) (frames : List Frame) → frames ≡ [] →
      all_proved vars norm left splits (asked_of frames) ≡ true
  nothing left splits frames e = ap (λ fs. all_proved vars norm left splits (asked_of fs)) e
      ∙ by left where
        by : (n : ℕ) → all_proved vars norm n splits [] ≡ true
        by zero = refl
        by (suc n) = refl

  -- one asking
  one_asked : (left splits : ℕ) (world : Settled) (goal : Term) (others : List Asked) → 0 < left →
      all_proved vars norm left splits (ask world goal ∷ others)
      ≡ and_more vars norm (next_of vars norm world goal splits)
      (all_proved vars norm (left - 1)) others
  one_asked zero splits world goal others less = let no : ⊥ = omega (arith, less) in absurd no
  one_asked (suc left) splits world goal others less =
      ap (λ n. and_more vars norm (next_of vars norm world goal splits)
      (all_proved vars norm n) others) (let e : left ≡ suc left - 1 = omega arith in e)

  module _ (left splits : ℕ) (whole rest : List Frame) (frame : Frame) (less : 0 < left)
      (is : whole ≡ rest ++ frame ∷ []) where
    asked : all_proved vars norm left splits (asked_of whole)
        ≡ and_more vars norm (next_of vars norm frame.settled frame.goal splits)
        (all_proved vars norm (left - 1))
        (map (ask frame.settled) frame.others ++ asked_of rest)
    asked =
        ap (all_proved vars norm left splits) (pushed rest whole frame is)
        ∙ one_asked left splits frame.settled frame.goal
        (map (ask frame.settled) frame.others ++ asked_of rest) less

    pub goes_on : (goes : Bool) (more : ℕ) (frames : List Frame) →
        IsNext goes more frames (next_of vars norm frame.settled frame.goal splits)
        (map (ask frame.settled) frame.others ++ asked_of rest) → goes ≡ true →
        all_proved vars norm left splits (asked_of whole)
        ≡ all_proved vars norm (left - 1) more (asked_of frames)
    goes_on goes more frames next on =
        asked ∙ by (next_of vars norm frame.settled frame.goal splits) next where
          by : (n : Next) → IsNext goes more frames n
              (map (ask frame.settled) frame.others ++ asked_of rest) →
              and_more vars norm n (all_proved vars norm (left - 1))
              (map (ask frame.settled) frame.others ++ asked_of rest)
              ≡ all_proved vars norm (left - 1) more (asked_of frames)
          by No h = let no : true ≡ false = sym on ∙ h in cc
          by (More goals count) h =
              ap (λ gs. all_proved vars norm (left - 1) count gs) (sym h.2)
              ∙ ap (λ n. all_proved vars norm (left - 1) n (asked_of frames)) (sym h.1)

    pub stops : (goes : Bool) (more : ℕ) (frames : List Frame) →
        IsNext goes more frames (next_of vars norm frame.settled frame.goal splits)
        (map (ask frame.settled) frame.others ++ asked_of rest) → goes ≡ false →
        all_proved vars norm left splits (asked_of whole) ≡ false
    stops goes more frames next no_more =
        asked ∙ by (next_of vars norm frame.settled frame.goal splits) next where
          by : (n : Next) → IsNext goes more frames n
              (map (ask frame.settled) frame.others ++ asked_of rest) →
              and_more vars norm n (all_proved vars norm (left - 1))
              (map (ask frame.settled) frame.others ++ asked_of rest) ≡ false
          by No h = refl
          by (More goals count) h = let no : false ≡ true = sym no_more ∙ h.0 in cc

  -- where no asking is left
  pub ends : (left splits : ℕ) (frames : List Frame) (b : Bool) → left ≤ 0 →
      (IsTrue b → frames ≡ []) → (frames ≡ [] → IsTrue b) →
      all_proved vars norm left splits (asked_of frames) ≡ b
  ends left splits frames true e first second = nothing left splits frames (first refl)
  ends left splits frames false e first second =
      ap (λ n. all_proved vars norm n splits (asked_of frames))
      (let z : left ≡ 0 = omega (arith, e) in z) ∙ by (asked_of frames) refl where
        by : (goals : List Asked) → asked_of frames ≡ goals →
            all_proved vars norm 0 splits goals ≡ false
        by [] h = sym (second (no_frames frames h))
        by (g ∷ goals) h = refl

  -- the next of a goal that is normed and reduced
  pub next_is : (settled : Settled) (pairs : Substitution) (list seen : List Term) (goal : Term)
      (splits : ℕ) (o : Option Term) → settled ≡ Open pairs list →
      seen ≡ list → o ≡ goal_in vars norm pairs seen goal →
      next_by vars norm settled splits o ≡ next_of vars norm settled goal splits
  next_is settled pairs list seen goal splits o is same gives =
      ap (λ w. next_by vars norm w splits o) is
      ∙ ap (next_by vars norm (Open pairs list) splits) gives
      ∙ ap (λ us. next_by vars norm (Open pairs list) splits (goal_in vars norm pairs us goal)) same
      ∙ ap (λ w. next_of vars norm w goal splits) (sym is)

pub passes : {E : Type 0} (r : Result Bool E) (splits : ℕ) (frames : List Frame) (rest : List Asked)
    (n m : Next) → n ≡ m →
    IfOk r (λ goes. IsNext goes splits frames n rest) →
    IfOk r (λ goes. IsNext goes splits frames m rest)
passes r splits frames rest n m same =
    subst (λ k. IfOk r (λ goes. IsNext goes splits frames k rest)) same

pub no_next : (splits : ℕ) (frames : List Frame) (rest : List Asked) (n : Next) → No ≡ n →
    IsNext false splits frames n rest
no_next splits frames rest n same = subst (λ k. IsNext false splits frames k rest) same refl
