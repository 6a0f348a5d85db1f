-- A cycle changes no cell but those that it stored.
use Rattle.std.proofs.Common.{◌≡◌, ℕ, zero, suc, not, ap, sym, ◌∙◌, List, [], Option, None, Some}
use Rattle.kat_value.specs.declared.value.Value.{Value}
use Rattle.kat_ast.specs.declared.place.Place.{Place}
use Rattle.kat_ast.specs.declared.decl.DeclForm.{DeclForm}
use Rattle.kat_ast.specs.Spec.{Spec}
use Rattle.kat_syntax.specs.Tables.{Name, function_from, step_of}
use Rattle.kat_syntax.specs.Machine.{MachineState, Progress}
use Rattle.kat_syntax.specs.Outcomes.{Outcome, Done, Out, Fail, Stuck, given, at_site, place_in}
use Rattle.kat_syntax.specs.Cycle.{Completed, as_cycle, bound, body_of, call_of, progress_at, stuck_place, step_call, cycle_of}
use Rattle.kat_syntax.specs.MeaningLaws.{StatementsChangeWhatTheyWrite}
use Rattle.kat_runner.specs.Runner.{is_stored, ChangesOnlyStored}

done_given : {A S : Type 0} (o : Option A) (go : A → Outcome S) (v : Value) (q : Progress) →
    given o go ≡ Done v q → (a : A) × (go a ≡ Done v q)
done_given None go v q e = absurd (cc)
done_given (Some a) go v q e = (a, e)

done_at : {S U : Type 0} (move : S → U) (o : Outcome S) (v : Value) (q : Progress) →
    at_site move o ≡ Done v q → o ≡ Done v q
done_at move (Done w p) v q e =
    let value : w ≡ v = cc in
    let progress : p ≡ q = cc in
    ap (λ x. Done x p) value ∙ ap (Done v) progress
done_at move Out v q e = absurd (cc)
done_at move (Fail site) v q e = absurd (cc)
done_at move Stuck v q e = absurd (cc)

-- a cycle that completes has done the call of its step function
completed : (place : Place) (o : Outcome Place) (p : Progress) → as_cycle place o ≡ Completed p →
    (v : Value) × (o ≡ Done v p)
completed place (Done v q) p e = (v, let same : q ≡ p = cc in ap (Done v) same)
completed place Out p e = absurd (cc)
completed place (Fail site) p e = absurd (cc)
completed place Stuck p e = absurd (cc)

module _ (law : StatementsChangeWhatTheyWrite) (decls : List DeclForm) (state : MachineState) where
  -- what there is at the start of the body of the step function
  abbrev at_start : ℕ → Progress
  at_start left = record { state = state; left = left; stores = [] }

  body_changes : (depth left : ℕ) (f : Name) (q : Progress) (v : Value) →
      given (function_from 0 decls f) (body_of decls (call_of decls depth) [] (at_start left))
      ≡ Done v q → ChangesOnlyStored q.stores state q.state
  body_changes depth left f q v e =
      let found = done_given (function_from 0 decls f)
      (body_of decls (call_of decls depth) [] (at_start left)) v q e in
      let locals = done_given (bound found.0.params []) _ v q found.1 in
      let changes = law decls depth found.0.body locals.0 (at_start left) q v
      (done_at _ _ v q (done_at (place_in found.0.decl) _ v q locals.1)) in
      record {
        first = changes.1.first;
        registers = changes.1.registers;
        cells = changes.1.cells;
        others = λ index none.
            changes.1.other_cells index
            (ap not (ap (λ stores. is_stored stores index) (sym changes.1.stores) ∙ none));
      }

  call_changes : (depth left : ℕ) (f : Name) (q : Progress) (v : Value) →
      call_of decls depth f [] (at_start left) ≡ Done v q →
      ChangesOnlyStored q.stores state q.state
  call_changes zero left f q v e = absurd (cc)
  call_changes (suc depth) zero f q v e = absurd (cc)
  call_changes (suc depth) (suc left) f q v e = body_changes depth left f q v e

-- from the state before a cycle to the one behind it only cells that it stored are another
pub cycle_changes : StatementsChangeWhatTheyWrite → (spec : Spec) (calls : ℕ)
    (state : MachineState) (p : Progress) → cycle_of spec calls state ≡ Completed p →
    ChangesOnlyStored p.stores state p.state
cycle_changes law spec calls state p e =
    let done = completed (stuck_place spec.decls) (step_call spec calls state) p e in
    let step = done_given (step_of spec.decls)
    (λ f. call_of spec.decls calls f [] (progress_at calls state)) done.0 p done.1 in
    call_changes law spec.decls state calls calls step.0 p done.0 step.1
