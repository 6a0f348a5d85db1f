-- The text of a run, boundary by boundary.
use Rattle.std.proofs.Common.{◌≡◌, ℕ, zero, suc, ◌+◌, ◌-◌, ◌≤◌, refl, ap, sym, subst, ◌∙◌, arith, add-zero, List, [], ◌∷◌, ◌++◌, length, append_assoc, Err, Ok, replicate}
use Rattle.std.proofs.lemmas.List.{append-nil}
use Rattle.kat_io.specs.declared.writing.SinkError.{SinkError}
use Rattle.kat_io.specs.declared.writing.SinkError.TheVariants as sink_error
use Rattle.kat_io.specs.Seen.{SinkSeen, TookAll, GaveUp}
use Rattle.kat_io.specs.WriteLaws.{WritesJoin, GaveUpInMore, GaveUpAtOnce}
use Rattle.kat_ast.specs.declared.place.Place.{Place}
use Rattle.kat_ast.specs.Spec.{Spec}
use Rattle.kat_ast.specs.declared.decl.DeclForm.{DeclForm}
use Rattle.kat_syntax.specs.Machine.{MachineState, Progress}
use Rattle.kat_syntax.specs.Cycle.{CycleOutcome, Completed, OutOfCalls, FailedAt, cycle_of}
use Rattle.kat_syntax.specs.Run.{Cycle, Run, RunEnd, Ended, OutIn, FailedIn, with_boundary, after_cycle, run_from}
use Rattle.kat_runner.specs.StateText.{first_lines, later_lines, boundary_piece, later_pieces, boundary_pieces, end_piece, joined, boundary_text_of}
use Rattle.kat_runner.specs.Runner.{run_of_cycles, text_for_end, text_owed, EndsRun}
use Rattle.kat_runner.specs.declared.runner.RunEnd.{RunEnd as GivenEnd}
use Rattle.kat_runner.specs.declared.runner.RunEnd.TheVariants as given

-- what is written behind a boundary with this state, from the outcome of the cycle behind it, which
-- is cycle k
abbrev pub text_after : List DeclForm → ℕ → MachineState → CycleOutcome → (MachineState → List ℕ) →
    List ℕ
text_after decls k before (Completed progress) go =
    boundary_piece k (later_lines decls before progress.state) ++ go progress.state
text_after decls k before OutOfCalls go = []
text_after decls k before (FailedAt place) go = []

abbrev pub end_after : ℕ → CycleOutcome → (MachineState → RunEnd) → RunEnd
end_after k (Completed progress) go = go progress.state
end_after k OutOfCalls go = OutIn k
end_after k (FailedAt place) go = FailedIn k place

-- what is written behind boundary k, which has this state, with so many cycles left, and how the
-- run ends
abbrev pub text_behind : Spec → ℕ → ℕ → MachineState → ℕ → List ℕ
text_behind spec calls k state zero = end_piece k Ended
text_behind spec calls k state (suc left) =
    text_after spec.decls (k + 1) state (cycle_of spec calls state) (λ next. text_behind spec calls
    (k + 1) next left)

abbrev pub end_behind : Spec → ℕ → ℕ → MachineState → ℕ → RunEnd
end_behind spec calls k state zero = Ended
end_behind spec calls k state (suc left) =
    end_after (k + 1) (cycle_of spec calls state) (λ next. end_behind spec calls (k + 1) next left)

-- the last piece, which only a run that ended has
abbrev last_piece : ℕ → RunEnd → List ℕ
last_piece last Ended = end_piece last Ended
last_piece last (OutIn cycle) = []
last_piece last (FailedIn cycle place) = []

-- a run from boundary k on, which has this state, with this text behind it and this end
record GoesOn (decls : List DeclForm) (k : ℕ) (state : MachineState) (text : List ℕ) (end : RunEnd)
    (run : Run) : Type 0 where
  later : List MachineState
  boundaries : run.boundaries ≡ state ∷ later
  text_is : joined (later_pieces decls (k + 1) state later) ++ last_piece (k + length later) run.end
      ≡ text
  end_is : run.end ≡ end

goes_on-after : (decls : List DeclForm) (k : ℕ) (state : MachineState) (go : MachineState →
    Run) (text : MachineState → List ℕ) (end : MachineState → RunEnd) →
    ((next : MachineState) → GoesOn decls (k + 1) next (text next) (end next) (go next)) →
    (outcome : CycleOutcome) →
    GoesOn decls k state (text_after decls (k + 1) state outcome text) (end_after (k + 1) outcome
    end) (with_boundary state (after_cycle (k + 1) outcome go))
goes_on-after decls k state go text end goes (Completed progress) =
    let next = progress.state in
    let g : GoesOn decls (k + 1) next (text next) (end next) (go next) = goes next in
    let piece : List ℕ =
    boundary_piece (k + 1) (later_lines decls state next) in
    let others : List ℕ = joined (later_pieces decls (k + 1 + 1) next g.later) in
    let e : k + suc (length g.later) ≡ k + 1 + length g.later = omega arith in
    record {
      later = next ∷ g.later;
      boundaries = ap (λ (b : List MachineState). state ∷ b) g.boundaries;
      text_is = append_assoc piece others (last_piece (k + suc (length g.later)) (go next).end)
          ∙ ap (λ n. piece ++ (others ++ last_piece n (go next).end)) e
          ∙ ap (λ x. piece ++ x) g.text_is;
      end_is = g.end_is;
    }
goes_on-after decls k state go text end goes OutOfCalls =
    record { later = []; boundaries = refl; text_is = refl; end_is = refl }
goes_on-after decls k state go text end goes (FailedAt place) =
    record { later = []; boundaries = refl; text_is = refl; end_is = refl }

goes_on : (spec : Spec) (calls left k : ℕ) (state : MachineState) →
    GoesOn spec.decls k state (text_behind spec calls k state left) (end_behind spec calls k state
    left) (run_from spec calls k state (replicate left Cycle))
goes_on spec calls zero k state =
    record {
      later = [];
      boundaries = refl;
      text_is =
          ap (λ n. end_piece n Ended) (add-zero k);
      end_is = refl;
    }
goes_on spec calls (suc left) k state =
    goes_on-after spec.decls k state (λ next. run_from spec calls (k + 1) next (replicate left
    Cycle))
    (λ next. text_behind spec calls (k + 1) next left) (λ next. end_behind spec calls (k + 1) next
    left)
    (λ next. goes_on spec calls left (k + 1) next) (cycle_of spec calls state)

text_for_end-is : (spec : Spec) (run : Run) (end : RunEnd) → run.end ≡ end →
    text_for_end spec run end
    ≡ boundary_text_of spec run ++ last_piece (length run.boundaries - 1) end
text_for_end-is spec run Ended e =
    ap (λ end. boundary_text_of spec run ++ end_piece (length run.boundaries - 1) end) e
text_for_end-is spec run (OutIn cycle) e = sym (append-nil (boundary_text_of spec run))
text_for_end-is spec run (FailedIn cycle place) e = sym (append-nil (boundary_text_of spec run))

-- the text that is owed, from boundary 0 and what is behind it
text_owed-is : (spec : Spec) (state : MachineState) (text : List ℕ) (end : RunEnd) (run : Run) →
    GoesOn spec.decls 0 state text end run →
    boundary_piece 0 (first_lines spec.decls state) ++ text
    ≡ text_owed spec run
text_owed-is spec state text end run g =
    let piece : List ℕ = boundary_piece 0 (first_lines spec.decls state) in
    let others : List ℕ = joined (later_pieces spec.decls 1 state g.later) in
    let e : suc (length g.later) - 1 ≡ 0 + length g.later = omega arith in
    sym (
    text_for_end-is spec run run.end refl
    ∙ ap (λ (b : List MachineState). joined (boundary_pieces spec.decls b) ++ last_piece (length b
    - 1) run.end) g.boundaries
    ∙ append_assoc piece others (last_piece (suc (length g.later) - 1) run.end)
    ∙ ap (λ n. piece ++ (others ++ last_piece n run.end)) e
    ∙ ap (λ x. piece ++ x) g.text_is)

-- the sink took the front of the whole text, and the rest is still to be written
pub record Owes (whole : List ℕ) (end : RunEnd) (old now : SinkSeen)
    (rest : List ℕ) (rest_end : RunEnd) : Type 0 where
  pub front : List ℕ
  pub took : TookAll front old now
  pub text_is : front ++ rest ≡ whole
  pub end_is : end ≡ rest_end

-- what the laws of writes say of a text of which the front was written
module _ (join : WritesJoin) (longer : GaveUpInMore) (at_once : GaveUpAtOnce) where
  module _ (whole : List ℕ) (end : RunEnd) (old now : SinkSeen)
      (rest : List ℕ) (rest_end : RunEnd) (owes : Owes whole end old now rest rest_end) where
    -- nothing more is written
    owes-nothing : GaveUp sink_error.Memory whole old now
    owes-nothing =
        subst (λ text. GaveUp sink_error.Memory text old now) owes.text_is
        (join (Err sink_error.Memory) owes.front rest old now now owes.took (at_once rest now))

    -- nothing more is owed
    owes-done : rest ≡ [] → TookAll whole old now
    owes-done none =
        let is : owes.front ≡ whole =
        sym (append-nil owes.front) ∙ ap (λ r. owes.front ++ r) (sym none) ∙ owes.text_is in
        subst (λ text. TookAll text old now) is owes.took

    -- a piece is written
    owes-piece : (after : SinkSeen) (piece later : List ℕ) (later_end : RunEnd) →
        TookAll piece now after → rest ≡ piece ++ later → rest_end ≡ later_end →
        Owes whole end old after later later_end
    owes-piece after piece later later_end wrote rest_is end_is = record {
      front = owes.front ++ piece;
      took = join (Ok tt) owes.front piece old now after owes.took wrote;
      text_is = append_assoc owes.front piece later
          ∙ ap (λ r. owes.front ++ r) (sym rest_is)
          ∙ owes.text_is;
      end_is = owes.end_is ∙ end_is;
    }

    -- a piece is given up
    owes-part : (error : SinkError) (after : SinkSeen) (piece later : List ℕ) →
        GaveUp error piece now after → rest ≡ piece ++ later → GaveUp error whole old after
    owes-part error after piece later gave_up rest_is =
        let rest_given_up : GaveUp error (piece ++ later) now after =
        longer error piece later now after gave_up in
        subst (λ text. GaveUp error text old after)
        (ap (λ r. owes.front ++ r) (sym rest_is) ∙ owes.text_is)
        (join (Err error) owes.front (piece ++ later) old now after owes.took rest_given_up)

-- what is owed at boundary k of a run of so many cycles, which has this state, with so many cycles
-- left
abbrev pub OwesAt : Spec → ℕ → MachineState → ℕ → SinkSeen → SinkSeen → ℕ → MachineState → ℕ →
    Type 0
OwesAt spec calls start cycles old now k state left =
    let run : Run = run_of_cycles spec calls start cycles in
    Owes (text_owed spec run) run.end old now
    (text_behind spec calls k state left) (end_behind spec calls k state left)

-- the piece of boundary 0
abbrev pub first_piece : List DeclForm → MachineState → List ℕ
first_piece decls state = boundary_piece 0 (first_lines decls state)

-- the piece of boundary k + 1
abbrev pub next_piece : ℕ → List DeclForm → MachineState → MachineState → List ℕ
next_piece k decls before after = boundary_piece (k + 1) (later_lines decls before after)

-- what is owed along a run, by those laws
module _ (join : WritesJoin) (longer : GaveUpInMore) (at_once : GaveUpAtOnce) where
  module _ (spec : Spec) (calls : ℕ) (start : MachineState) (cycles : ℕ) (old : SinkSeen) where
    abbrev run : Run
    run = run_of_cycles spec calls start cycles

    abbrev owed : List ℕ
    owed = text_owed spec run

    abbrev behind : ℕ → MachineState → ℕ → List ℕ
    behind = text_behind spec calls

    first_is : first_piece spec.decls start ++ behind 0 start cycles ≡ owed
    first_is =
        text_owed-is spec start (behind 0 start cycles) (end_behind spec calls 0 start cycles) run
        (goes_on spec calls cycles 0 start)

    -- boundary 0 is written
    module _ (now : SinkSeen) where
      -- the whole piece
      pub owes_at-start : (left : ℕ) → left ≡ cycles →
          TookAll (first_piece spec.decls start) old now →
          OwesAt spec calls start cycles old now 0 start left
      owes_at-start left left_is wrote =
          let piece : List ℕ = first_piece spec.decls start in
          record {
            front = piece;
            took = wrote;
            text_is = ap (λ n. piece ++ behind 0 start n) left_is ∙ first_is;
            end_is = (goes_on spec calls cycles 0 start).end_is
                ∙ ap (end_behind spec calls 0 start) (sym left_is);
          }

      -- a part of it
      pub start-part : (error : SinkError) → GaveUp error (first_piece spec.decls start) old now →
          GaveUp error owed old now
      start-part error gave_up =
          let later : List ℕ = behind 0 start cycles in
          subst (λ text. GaveUp error text old now) first_is
          (longer error (first_piece spec.decls start) later old now gave_up)

    module _ (now : SinkSeen) (k : ℕ) (state : MachineState) (left : ℕ)
        (owes : OwesAt spec calls start cycles old now k state left) where
      -- memory runs out in a cycle
      pub owes_at-nothing : GaveUp sink_error.Memory owed old now
      owes_at-nothing = owes-nothing join longer at_once _ _ old now _ _ owes

      -- a cycle is left
      module _ (more : ℕ) (some : left ≡ suc more) where
        abbrev by_cycle : CycleOutcome → List ℕ
        by_cycle outcome = text_after spec.decls (k + 1) state outcome (λ next. behind (k + 1) next
            more)

        abbrev end_by_cycle : CycleOutcome → RunEnd
        end_by_cycle outcome =
            end_after (k + 1) outcome (λ next. end_behind spec calls (k + 1) next more)

        text_by : (outcome : CycleOutcome) → cycle_of spec calls state ≡ outcome →
            behind k state left ≡ by_cycle outcome
        text_by outcome e =
            ap (behind k state) some ∙ ap (λ (o : CycleOutcome). by_cycle o) e

        end_by : (outcome : CycleOutcome) → cycle_of spec calls state ≡ outcome →
            end_behind spec calls k state left ≡ end_by_cycle outcome
        end_by outcome e =
            ap (end_behind spec calls k state) some ∙ ap (λ (o : CycleOutcome). end_by_cycle o) e

        -- the cycle ran out of calls
        pub owes_at-out : cycle_of spec calls state ≡ OutOfCalls →
            EndsRun (given.Out (k + 1)) spec run old now
        owes_at-out e =
            let end_out : run.end ≡ OutIn (k + 1) = owes.end_is ∙ end_by OutOfCalls e in (
              end_out,
              subst (λ (r : RunEnd). TookAll (text_for_end spec run r) old now) end_out
                  (owes-done join longer at_once _ _ old now _ _ owes (text_by OutOfCalls e)),
            )

        -- the cycle failed
        pub owes_at-failed : (place : Place) → cycle_of spec calls state ≡ FailedAt place →
            EndsRun (given.Failed (k + 1) place) spec run old now
        owes_at-failed place e =
            let end_failed : run.end ≡ FailedIn (k + 1) place =
            owes.end_is ∙ end_by (FailedAt place) e in (
              end_failed,
              subst (λ (r : RunEnd). TookAll (text_for_end spec run r) old now) end_failed
                  (owes-done join longer at_once _ _ old now _ _ owes (text_by (FailedAt place) e)),
            )

        -- the cycle completed, and its boundary is printed behind the one before, which is shown
        module _ (progress : Progress) (e : cycle_of spec calls state ≡ Completed progress)
            (after : SinkSeen) (shown : MachineState) (shown_is : shown ≡ state) where
          rest_is : behind k state left
              ≡ next_piece k spec.decls shown progress.state ++ behind (k + 1) progress.state more
          rest_is =
              text_by (Completed progress) e
              ∙ ap (λ s. next_piece k spec.decls s progress.state ++ behind (k + 1) progress.state
              more)
              (sym shown_is)

          -- the whole piece
          pub owes_at-next : TookAll (next_piece k spec.decls shown progress.state) now after →
              OwesAt spec calls start cycles old after (k + 1) progress.state more
          owes_at-next wrote =
              owes-piece join longer at_once _ _ old now _ _ owes after _ _ _ wrote rest_is
              (end_by (Completed progress) e)

          -- a part of it
          pub next-part : (error : SinkError) →
              GaveUp error (next_piece k spec.decls shown progress.state) now after →
              GaveUp error owed old after
          next-part error gave_up =
              owes-part join longer at_once _ _ old now _ _ owes error after _ _ gave_up rest_is

      -- no cycle is left
      module _ (none : left ≡ 0) (after : SinkSeen) (last : ℕ) (last_is : last ≡ k) where
        end_piece_is : behind k state left ≡ end_piece last Ended ++ []
        end_piece_is =
            ap (behind k state) none
            ∙ ap (λ n. end_piece n Ended) (sym last_is)
            ∙ sym (append-nil (end_piece last Ended))

        -- a part of the last piece is written
        pub end-part : (error : SinkError) → GaveUp error (end_piece last Ended) now after →
            GaveUp error owed old after
        end-part error gave_up =
            owes-part join longer at_once _ _ old now _ _ owes error after (end_piece last Ended) []
            gave_up end_piece_is

        -- the last piece is written
        pub owes_at-end : TookAll (end_piece last Ended) now after →
            EndsRun given.Ended spec run old after
        owes_at-end wrote =
            let end_ended : run.end ≡ Ended =
            owes.end_is ∙ ap (end_behind spec calls k state) none in
            let written : Owes owed run.end old after [] (end_behind spec calls k state left) =
            owes-piece join longer at_once _ _ old now _ _ owes after (end_piece last Ended) [] _
            wrote end_piece_is refl in (
              end_ended,
              subst (λ (r : RunEnd). TookAll (text_for_end spec run r) old after) end_ended
                  (owes-done join longer at_once _ _ old after _ _ written refl),
            )

-- however a run ends, the count of faults does not fall
pub ends_kept : (end : GivenEnd) (spec : Spec) (run : Run) (old new : SinkSeen) →
    EndsRun end spec run old new → old.faults ≤ new.faults
ends_kept given.Ended spec run old new ends = omega (arith, ends.1.faults)
ends_kept (given.Out cycle) spec run old new ends = omega (arith, ends.1.faults)
ends_kept (given.Failed cycle site) spec run old new ends = omega (arith, ends.1.faults)
ends_kept given.WriteFault spec run old new ends = omega (arith, ends.faults)
ends_kept given.Memory spec run old new ends = omega (arith, ends.faults)
