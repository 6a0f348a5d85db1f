-- Runs over fewer events, and over more of them.
use Rattle.std.proofs.Common.{arith, ◌≡◌, ◌≢◌, ◌∙◌, ℕ, ◌+◌, suc, true, false, List, [], ◌∷◌, ◌++◌, length, refl, sym, ap, subst, if◌then◌else◌}
use Rattle.std.specs.Prelude.{IsTrue, ◌≤◌, ◌<◌}
use Rattle.std.specs.List.{AllByRecursion}
use Rattle.kat_ast.specs.Spec.{Spec}
use Rattle.kat_ast.specs.declared.decl.Block.{Block}
use Rattle.kat_ast.specs.declared.decl.DeclForm.{DeclForm}
use Rattle.kat_syntax.specs.Cycle.{CycleOutcome, Completed, OutOfCalls, FailedAt, cycle_of}
use Rattle.kat_syntax.specs.FirstTypeFault.{IsTyped}
use Rattle.kat_syntax.specs.Machine.{MachineState}
use Rattle.kat_syntax.specs.OutsideWrites.{NoFit, NoPlace, Poked, Wrote, poked}
use Rattle.kat_syntax.specs.declared.places.Poke.{Poke}
use Rattle.kat_syntax.specs.Phases.{IsCodeThere, phase_of}
use Rattle.kat_syntax.specs.Run.{Cycle, Ended, Event, IsEventList, OutsideWrite, Run, after_cycle, run_from, run_of, state_behind, with_boundary}
use Rattle.kat_syntax.specs.Secure.{EachStep, Exit, IsBlock, IsBlockRun, IsNoFailure, IsSecureRun, IsWithinBlock, KeepsWhereUntrusted, Left, Stays, exit_of, is_inside, one_later}
use Rattle.kat_syntax.specs.States.{kept_of}
use Rattle.kat_claims.specs.Outside.{OutsideWritesKeep}
use Rattle.kat_claims.specs.Runs.{RunsGoByEvents}

-- two states are of one phase and have one list of kept values, and the first has the code cells
-- where the second has
pub record LooksAs (decls : List DeclForm) (s t : MachineState) : Type 0 where
  pub phase : phase_of decls s ≡ phase_of decls t
  pub kept : kept_of decls s ≡ kept_of decls t
  pub code : IsCodeThere decls t → IsCodeThere decls s

module _ (decls : List DeclForm) where
  -- a state looks as itself
  pub same_look : (s : MachineState) → LooksAs decls s s
  same_look s = record { phase = refl; kept = refl; code = λ there. there }

  -- the first states of a list look as those of another
  abbrev pub Begins : List MachineState → List MachineState → Type 0
  Begins [] ts = Unit {0}
  Begins (s ∷ ss) [] = ⊥
  Begins (s ∷ ss) (t ∷ ts) = LooksAs decls s t × Begins ss ts

  -- all of them do
  abbrev Alike : List MachineState → List MachineState → Type 0
  Alike ss ts = Begins ss ts × (length ss ≡ length ts)

  -- the place in the longer list that a place of the shorter one has
  record Found (before : List MachineState) (s : MachineState) (after long : List MachineState) :
      Type 0 where
    earlier : List MachineState
    here : MachineState
    later : List MachineState
    is : long ≡ earlier ++ here ∷ later
    alike : Alike before earlier
    looks : LooksAs decls s here
    begins : Begins after later

  -- each place has one
  found :
      (before : List MachineState) (s : MachineState) (after long : List MachineState) →
      Begins (before ++ s ∷ after) long → Found before s after long
  found [] s after [] begins = absurd begins
  found [] s after (t ∷ ts) begins = record {
    earlier = [];
    here = t;
    later = ts;
    is = refl;
    alike = (tt, refl);
    looks = begins.0;
    begins = begins.1;
  }
  found (x ∷ before) s after [] begins = absurd begins
  found (x ∷ before) s after (t ∷ ts) begins =
      let more = found before s after ts begins.1 in
      record {
        earlier = t ∷ more.earlier;
        here = more.here;
        later = more.later;
        is = ap (λ l. t ∷ l) more.is;
        alike = ((begins.0, more.alike.0), ap suc more.alike.1);
        looks = more.looks;
        begins = more.begins;
      }

  -- untrusted cycles
  untrusted_cut :
      (s next t : MachineState) (later rest earlier long : List MachineState) →
      LooksAs decls s t → Begins (next ∷ rest) later → long ≡ earlier ++ t ∷ later →
      EachStep (KeepsWhereUntrusted decls) long → KeepsWhereUntrusted decls s next
  untrusted_cut s next t [] rest earlier long looks begins is each at = absurd begins
  untrusted_cut s next t (u ∷ later) rest earlier long looks begins is each at =
      let keeps = each earlier later t u is (sym looks.phase ∙ at) in
      (ap is_inside begins.0.phase ∙ keeps.0, begins.0.kept ∙ keeps.1 ∙ sym looks.kept)

  -- how the exit in the shorter list stands to that in the longer one
  abbrev ExitCut : Exit → Exit → Type 0
  ExitCut (Left y c) (Left z d) = (c ≡ d) × LooksAs decls y z
  ExitCut (Left y c) (Stays d) = ⊥
  ExitCut (Stays c) (Left z d) = c < d
  ExitCut (Stays c) (Stays d) = c ≤ d

  later_cut : (x y : Exit) → ExitCut x y → ExitCut (one_later x) (one_later y)
  later_cut (Left y c) (Left z d) cut = (ap suc cut.0, cut.1)
  later_cut (Left y c) (Stays d) cut = absurd cut
  later_cut (Stays c) (Left z d) cut = omega (arith, cut)
  later_cut (Stays c) (Stays d) cut = omega (arith, cut)

  -- with none behind, none is left
  none_later : (x : Exit) → ExitCut (Stays 0) (one_later x)
  none_later (Left z d) = omega arith
  none_later (Stays d) = omega arith

  none_cut : (later : List MachineState) → ExitCut (Stays 0) (exit_of decls later)
  none_cut [] = omega arith
  none_cut (t ∷ ts) =
      elim (is_inside (phase_of decls t)) as
      (λ b. ExitCut (Stays 0) (if b then one_later (exit_of decls ts) else Left t 1))
      [ true ↦ none_later (exit_of decls ts) | false ↦ omega arith ]

  exits_cut :
      (after later : List MachineState) → Begins after later →
      ExitCut (exit_of decls after) (exit_of decls later)
  exits_cut [] later begins = none_cut later
  exits_cut (s ∷ after) [] begins = absurd begins
  exits_cut (s ∷ after) (t ∷ later) begins =
      simp begins.0.phase
      (elim (is_inside (phase_of decls t)) as
      (λ b. ExitCut (if b then one_later (exit_of decls after) else Left s 1)
      (if b then one_later (exit_of decls later) else Left t 1)) [
        | true ↦ later_cut _ _ (exits_cut after later begins.1)
        | false ↦ (refl, begins.0)
      ])

  -- a block's run
  block_cut :
      (block : Block) (s t : MachineState) (x y : Exit) → LooksAs decls s t → ExitCut x y →
      IsBlockRun decls block t y → IsBlockRun decls block s x
  block_cut block s t (Left y c) (Left z d) looks cut run =
      (subst (λ n. n ≤ block.within) (sym cut.0) run.0, simp (looks.kept, cut.1.kept) run.1)
  block_cut block s t (Left y c) (Stays d) looks cut run = absurd cut
  block_cut block s t (Stays c) (Left z d) looks cut run =
      let less : d ≤ block.within = run.0 in omega (arith, cut, less)
  block_cut block s t (Stays c) (Stays d) looks cut run = omega (arith, cut, run)

  -- what goes by looks holds of the first states where it holds of all
  carried :
      (P : MachineState → Type 0) → ((s t : MachineState) → LooksAs decls s t → P t → P s) →
      (short long : List MachineState) → Begins short long → AllByRecursion P long →
      AllByRecursion P short
  carried P each [] long begins all = tt
  carried P each (s ∷ short) [] begins all = absurd begins
  carried P each (s ∷ short) (t ∷ long) begins all =
      (each s t begins.0 all.0, carried P each short long begins.1 all.1)

  -- boundaries that are inside
  abbrev Inside : MachineState → Type 0
  Inside state = IsTrue (is_inside (phase_of decls state))

  inside_looks : (s t : MachineState) → LooksAs decls s t → Inside t → Inside s
  inside_looks s t looks inside = subst (λ p. IsTrue (is_inside p)) (sym looks.phase) inside

  -- behind a block
  within_cut :
      (before earlier : List MachineState) (entry : MachineState) (inside : List MachineState) →
      Alike before (earlier ++ entry ∷ inside) → IsBlock decls entry →
      AllByRecursion Inside inside → IsWithinBlock decls before
  within_cut [] [] entry inside (begins, same) is all = absurd (omega (arith, same))
  within_cut [] (e ∷ earlier) entry inside (begins, same) is all = absurd (omega (arith, same))
  within_cut (s ∷ before) [] entry inside (begins, same) is all = (
    [],
    s,
    before,
    refl,
    (is.0, begins.0.phase ∙ is.1),
    carried Inside inside_looks before inside begins.1 all,
  )
  within_cut (s ∷ before) (e ∷ earlier) entry inside (begins, same) is all =
      let shorter : length before ≡ length (earlier ++ entry ∷ inside) = omega (arith, same) in
      let more = within_cut before earlier entry inside (begins.1, shorter) is all in
      (s ∷ more.0, more.1, more.2, ap (λ l. s ∷ l) more.3, more.4, more.5)

  -- a run is the beginning of another, as far as security sees
  pub record IsCut (long short : Run) : Type 0 where
    pub begins : Begins short.boundaries long.boundaries
    pub ends : IsNoFailure long.end → IsNoFailure short.end

  -- it does what a run of a secure specification does
  pub secure_cut :
      (long short : Run) → IsCut long short → IsSecureRun decls long → IsSecureRun decls short
  secure_cut long short cut secure = record {
    never_fails = cut.ends secure.never_fails;
    untrusted_keeps = λ before after s next is.
        let at = place before s (next ∷ after) is in
        untrusted_cut s next at.here at.later after at.earlier long.boundaries at.looks at.begins
        at.is secure.untrusted_keeps;
    blocks_end = λ before after s is x phase_is.
        let at = place before s after is in
        let ran = secure.blocks_end at.earlier at.later at.here at.is x
        (sym at.looks.phase ∙ phase_is) in (
          ran.0,
          ran.1,
          block_cut ran.0 s at.here (exit_of decls after) (exit_of decls at.later) at.looks
              (exits_cut after at.later at.begins) ran.2,
        );
    inside_behind_block = λ before after s is inside.
        let at = place before s after is in
        let within = secure.inside_behind_block at.earlier at.later at.here at.is
        (subst (λ p. IsTrue (is_inside p)) at.looks.phase inside) in
        within_cut before within.0 within.1 within.2 (subst (Alike before) within.3 at.alike)
        within.4 within.5;
    code_stays = carried (IsCodeThere decls) (λ s t looks. looks.code) short.boundaries
        long.boundaries cut.begins secure.code_stays;
  }
    where
      place :
          (before : List MachineState) (s : MachineState) (after : List MachineState) →
          short.boundaries ≡ before ++ s ∷ after → Found before s after long.boundaries
      place before s after is = found before s after long.boundaries
          (subst (λ l. Begins l long.boundaries) is cut.begins)

-- the first boundary of a run over these events looks as its start
abbrev pub BeginsAt : Spec → Run → MachineState → Type 0
BeginsAt spec run s = Begins spec.decls (s ∷ []) run.boundaries

-- more events behind a run, whose first boundary looks as where they begin
module _ (spec : Spec) (n : ℕ) (more : List Event)
    (first : (k : ℕ) (s : MachineState) → BeginsAt spec (run_from spec n k s more) s) where
  cut_at :
      (k : ℕ) (s : MachineState) (events : List Event) →
      IsCut spec.decls (run_from spec n k s (events ++ more)) (run_from spec n k s events)
  cut_at k s [] = record { begins = first k s; ends = λ no. tt }
  cut_at k s (Cycle ∷ events) =
      by (cycle_of spec n s) (λ next. cut_at (k + 1) next events)
    where
      by : (c : CycleOutcome) →
          ((next : MachineState) →
          IsCut spec.decls (run_from spec n (k + 1) next (events ++ more))
          (run_from spec n (k + 1) next events)) →
          IsCut spec.decls
          (with_boundary s (after_cycle (k + 1) c
          (λ next. run_from spec n (k + 1) next (events ++ more))))
          (with_boundary s (after_cycle (k + 1) c (λ next. run_from spec n (k + 1) next events)))
      by (Completed p) next =
          let later = next p.state in
          record { begins = (same_look spec.decls s, later.begins); ends = later.ends }
      by OutOfCalls next = record { begins = (same_look spec.decls s, tt); ends = λ no. no }
      by (FailedAt place) next = record { begins = (same_look spec.decls s, tt); ends = λ no. no }
  cut_at k s (OutsideWrite poke ∷ events) =
      cut_at k (state_behind s (poked spec poke s)) events

  -- so what a longer run does that is secure, the shorter one does
  secure_before :
      (start : MachineState) (events : List Event) →
      IsSecureRun spec.decls (run_of spec n start (events ++ more)) →
      IsSecureRun spec.decls (run_of spec n start events)
  secure_before start events =
      secure_cut spec.decls (run_of spec n start (events ++ more)) (run_of spec n start events)
      (cut_at 0 start events)

-- events that are none or begin with a cycle
begins_with_cycle :
    (spec : Spec) (n k : ℕ) (s : MachineState) (more : List Event) → IsEventList more →
    BeginsAt spec (run_from spec n k s more) s
begins_with_cycle spec n k s [] is = (same_look spec.decls s, tt)
begins_with_cycle spec n k s (Cycle ∷ more) is = (same_look spec.decls s, tt)
begins_with_cycle spec n k s (OutsideWrite poke ∷ more) is = absurd is

-- more events behind a run that ended in a cycle
ended_from :
    (spec : Spec) (n k : ℕ) (s : MachineState) (events more : List Event) →
    (run_from spec n k s events).end ≢ Ended →
    run_from spec n k s (events ++ more) ≡ run_from spec n k s events
ended_from spec n k s [] more ends = absurd (ends refl)
ended_from spec n k s (Cycle ∷ events) more ends =
    by (cycle_of spec n s) (λ next. ended_from spec n (k + 1) next events more) ends
  where
    by : (c : CycleOutcome) →
        ((next : MachineState) → (run_from spec n (k + 1) next events).end ≢ Ended →
        run_from spec n (k + 1) next (events ++ more) ≡ run_from spec n (k + 1) next events) →
        (with_boundary s (after_cycle (k + 1) c (λ next. run_from spec n (k + 1) next events))).end
        ≢ Ended →
        with_boundary s (after_cycle (k + 1) c
        (λ next. run_from spec n (k + 1) next (events ++ more)))
        ≡ with_boundary s (after_cycle (k + 1) c (λ next. run_from spec n (k + 1) next events))
    by (Completed p) next ends = ap (with_boundary s) (next p.state ends)
    by OutOfCalls next ends = refl
    by (FailedAt place) next ends = refl
ended_from spec n k s (OutsideWrite poke ∷ events) more ends =
    ended_from spec n k (state_behind s (poked spec poke s)) events more ends

-- a state looks as what it is behind a write from outside
written_look :
    (spec : Spec) (poke : Poke) (s : MachineState) → OutsideWritesKeep → IsTyped spec →
    LooksAs spec.decls s (state_behind s (poked spec poke s))
written_look spec poke s keep typed = by (poked spec poke s) refl
  where
    by : (p : Poked) → poked spec poke s ≡ p → LooksAs spec.decls s (state_behind s p)
    by (Wrote t) is = record {
      phase = sym (keep.phase spec poke s t typed is);
      kept = sym (keep.kept spec poke s t typed is);
      code = (keep.code spec poke s t typed is).0;
    }
    by NoPlace is = same_look spec.decls s
    by NoFit is = same_look spec.decls s

-- what looks as a state that looks as the first of some looks as that one
further_look :
    (decls : List DeclForm) (s t : MachineState) (states : List MachineState) →
    LooksAs decls s t → Begins decls (t ∷ []) states → Begins decls (s ∷ []) states
further_look decls s t [] looks begins = absurd begins
further_look decls s t (u ∷ states) looks begins = (
  record {
    phase = looks.phase ∙ begins.0.phase;
    kept = looks.kept ∙ begins.0.kept;
    code = λ there. looks.code (begins.0.code there);
  },
  tt,
)

-- any events, of a typed specification
begins_anywhere :
    (spec : Spec) (n k : ℕ) (s : MachineState) (more : List Event) → OutsideWritesKeep →
    IsTyped spec → BeginsAt spec (run_from spec n k s more) s
begins_anywhere spec n k s [] keep typed = (same_look spec.decls s, tt)
begins_anywhere spec n k s (Cycle ∷ more) keep typed = (same_look spec.decls s, tt)
begins_anywhere spec n k s (OutsideWrite poke ∷ more) keep typed =
    let behind = state_behind s (poked spec poke s) in
    further_look spec.decls s behind (run_from spec n k behind more).boundaries
    (written_look spec poke s keep typed) (begins_anywhere spec n k behind more keep typed)

-- what runs do goes by their events
pub runs_go_by_events : OutsideWritesKeep → RunsGoByEvents
runs_go_by_events keep = record {
  ended = λ spec n. ended_from spec n 0;
  cut = λ spec n start events more is.
      secure_before spec n more (λ k s. begins_with_cycle spec n k s more is) start events;
  cut_anywhere = λ spec n start events more typed.
      secure_before spec n more (λ k s. begins_anywhere spec n k s more keep typed) start events;
}
