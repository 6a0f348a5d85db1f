-- Machines that break one clause of security each, and one of which no state boots.
use Rattle.std.proofs.Common.{arith, ◌≡◌, ◌∙◌, ℕ, suc, Bool, true, false, List, [], ◌∷◌, Option, Some, refl, sym, ap, subst, slice_get}
use Rattle.std.specs.Prelude.{◌<◌, option_and_then}
use Rattle.std.proofs.lemmas.Bool.{true≢false}
use Rattle.std.proofs.lemmas.Option.{same_Some}
use Rattle.kat_value.specs.declared.value.Value.{Value}
use Rattle.kat_value.specs.declared.value.Value.TheVariants as value
use Rattle.kat_value.specs.declared.value.Value.TheViews.{outs-Bool}
use Rattle.kat_ast.specs.declared.decl.Block.{Block}
use Rattle.kat_ast.specs.declared.decl.DeclForm.{DeclForm}
use Rattle.kat_ast.specs.declared.decl.Phase.{Phase}
use Rattle.kat_ast.specs.declared.decl.Phase.TheVariants as phase
use Rattle.kat_ast.specs.declared.decl.RegisterKind.{RegisterKind}
use Rattle.kat_ast.specs.declared.decl.RegisterKind.TheVariants as register
use Rattle.kat_ast.specs.declared.decl.When.{When}
use Rattle.kat_ast.specs.declared.expr.Expr.{Expr}
use Rattle.kat_ast.specs.declared.stm.Stm.{Stm}
use Rattle.kat_syntax.specs.Cycle.{CycleOutcome, FailedAt, call_of, cycle_of}
use Rattle.kat_syntax.specs.Evaluation.{value_of_expr}
use Rattle.kat_syntax.specs.Machine.{MachineState}
use Rattle.kat_syntax.specs.Meaning.{truth_of}
use Rattle.kat_syntax.specs.Phases.{Boots, phase_of}
use Rattle.kat_syntax.specs.Run.{Cycle, Ended}
use Rattle.kat_syntax.specs.Secure.{IsBlockRun, IsSecure, IsSecureRun, KeepsWhereUntrusted, between, exit_of, is_inside}
use Rattle.kat_claims.specs.Machines.{anything, as_spec, block, exceeding, failing, fails, falsehood, guarded, lingering, mode, shifts, slipping, state_of, tampering, unbootable, not_set, when_untrusted, write, yes}
use Rattle.kat_claims.proofs.Steps.{block_phase, boots_there, ends_as, expr_layer, leaves, of_block, state_there, stm_layer, truth_has_type, two_cycles}

-- true is not false
differ : {T : Type 0} → Some (value.Bool false) ≡ Some (value.Bool true) → T
differ e = absurd (let no : Some false ≡ Some true =
    ap (λ (o : Option Value). option_and_then truth_of o) e in cc)

-- such a machine, from where its block begins, over two cycles
module _ (kind : RegisterKind) (cases : List When) (otherwise : Phase) (change : Expr)
    (body : Stm) where
  abbrev decls : List DeclForm
  decls = of_block kind cases otherwise change body

  abbrev start : MachineState
  start = state_of true false

  -- its block
  abbrev own : Block
  own = record { name = block; entry = anything; within = 1; change = change }

  -- what it does where it is secure, the cycles leading to these states
  record Does (t u : MachineState) : Type 0 where
    keeps : KeepsWhereUntrusted decls t u
    ends : IsBlockRun decls own start (exit_of decls (t ∷ u ∷ []))

  -- it does so, by the run over two cycles
  does :
      (t u : MachineState) → cycle_of (as_spec decls) 1 start ≡ leaves t 0 →
      cycle_of (as_spec decls) 1 t ≡ leaves u 0 → IsSecure (as_spec decls) → Does t u
  does t u first second secure =
      let run : IsSecureRun decls (record { boundaries = start ∷ t ∷ u ∷ []; end = Ended }) =
      subst (IsSecureRun decls) (two_cycles (as_spec decls) start t u first second)
      (secure start 1 (Cycle ∷ Cycle ∷ []) (state_there kind cases otherwise change body true false)
      (boots_there kind cases otherwise change body false) tt (refl, (refl, tt))) in
      let there = run.blocks_end [] (t ∷ u ∷ []) start refl block
      (block_phase kind cases otherwise change body false) in
      let same : own ≡ there.0 = same_Some own there.0 there.1 in
      record {
        keeps = run.untrusted_keeps (start ∷ []) [] t u refl;
        ends = subst (λ (b : Block). IsBlockRun decls b start (exit_of decls (t ∷ u ∷ [])))
            (sym same) there.2;
      }

module _ (kind : RegisterKind) (cases : List When) (otherwise : Phase) (change : Expr) where
  -- a cycle of such a machine with this step
  abbrev cycle : Stm → MachineState → CycleOutcome
  cycle body s = cycle_of (as_spec (of_block kind cases otherwise change body)) 1 s

  -- a step that hands the first truth on
  shifts_once : (a b : Bool) → cycle shifts (state_of a b) ≡ leaves (state_of false a) 0
  shifts_once a b =
      let decls = of_block kind cases otherwise change shifts in
      ap (ends_as decls (state_of a b) 0) (stm_layer decls (call_of decls 0) _)
      ∙ simp (stm_layer, expr_layer, truth_has_type)

  -- so a machine with the first step, where it is secure, does that of two cycles
  shifting :
      IsSecure (as_spec (of_block kind cases otherwise change shifts)) →
      Does kind cases otherwise change shifts (state_of false true) (state_of false false)
  shifting =
      does kind cases otherwise change shifts _ _ (shifts_once true false) (shifts_once false true)

  -- steps that write one of the truths
  first_once :
      (a b : Bool) → cycle (write mode falsehood) (state_of a b) ≡ leaves (state_of false b) 0
  first_once a b =
      let decls = of_block kind cases otherwise change (write mode falsehood) in
      ap (ends_as decls (state_of a b) 0) (stm_layer decls (call_of decls 0) _)
      ∙ simp (expr_layer, truth_has_type)

  second_once :
      (a b : Bool) → cycle (write guarded yes) (state_of a b) ≡ leaves (state_of a true) 0
  second_once a b =
      let decls = of_block kind cases otherwise change (write guarded yes) in
      ap (ends_as decls (state_of a b) 0) (stm_layer decls (call_of decls 0) _)
      ∙ simp (expr_layer, truth_has_type)

-- the machine that fails does so in its first cycle
fails_there :
    (state : MachineState) (left : ℕ) →
    cycle_of failing (suc left) state ≡ FailedAt (record { decl = 2; tree = 5 })
fails_there state left =
    ap (ends_as failing.decls state left) (stm_layer failing.decls (call_of failing.decls left) _)

pub failing_breaks : IsSecure failing → ⊥
failing_breaks secure =
    let run = secure (state_of true false) 1 (Cycle ∷ [])
    (state_there register.Protected [] phase.Untrusted yes fails true false)
    (boots_there register.Protected [] phase.Untrusted yes fails false) tt (refl, tt) in
    simp (fails_there (state_of true false) 0) at run.never_fails

-- the second cycle of the machine that tampers is untrusted, and changes the protected register
tampering_phase : phase_of tampering.decls (state_of false true) ≡ Some phase.Untrusted
tampering_phase = simp expr_layer

pub tampering_breaks : IsSecure tampering → ⊥
tampering_breaks secure =
    let done = shifting register.Protected [] phase.Untrusted yes secure in
    differ (ap (λ (kept : List Value). slice_get kept 0) (done.keeps tampering_phase).1)

-- the second cycle of the machine that slips is untrusted, and what it leaves is inside
slipping_phase : phase_of slipping.decls (state_of false true) ≡ Some phase.Untrusted
slipping_phase = simp expr_layer

slipping_inside : phase_of slipping.decls (state_of false false) ≡ Some phase.Inside
slipping_inside = simp expr_layer

pub slipping_breaks : IsSecure slipping → ⊥
slipping_breaks secure =
    let done = shifting register.Plain (when_untrusted ∷ []) phase.Inside yes secure in
    true≢false (sym (ap is_inside slipping_inside) ∙ (done.keeps slipping_phase).0)

-- behind its block the machine that lingers is inside
lingering_inside : phase_of lingering.decls (state_of false false) ≡ Some phase.Inside
lingering_inside = simp expr_layer

pub lingering_breaks : IsSecure lingering → ⊥
lingering_breaks secure =
    let done = does register.Protected [] phase.Inside yes (write mode falsehood) _ _
    (first_once register.Protected [] phase.Inside yes true false)
    (first_once register.Protected [] phase.Inside yes false false) secure in
    let past : 2 < 1 = simp lingering_inside at done.ends in
    omega (arith, past)

-- the change of the machine that exceeds is not true, and its block is left
exceeding_change :
    value_of_expr (between exceeding.decls (state_of true false) (state_of true true)) not_set
    ≡ Some (value.Bool false)
exceeding_change = simp (expr_layer, outs-Bool)

pub exceeding_breaks : IsSecure exceeding → ⊥
exceeding_breaks secure =
    let done = does register.Protected [] phase.Untrusted not_set (write guarded yes) _ _
    (second_once register.Protected [] phase.Untrusted not_set true false)
    (second_once register.Protected [] phase.Untrusted not_set true true) secure in
    let left = simp (block_phase register.Protected [] phase.Untrusted not_set
    (write guarded yes) true) at done.ends in
    differ (sym exceeding_change ∙ left.1)

-- no state boots where every phase is untrusted
pub nothing_boots : (state : MachineState) → Boots unbootable.decls state → ⊥
nothing_boots state boots =
    let no : Some phase.Untrusted ≡ Some (phase.Block boots.name) = boots.phase in cc

pub unbootable_secure : IsSecure unbootable
unbootable_secure start calls events is boots list declared = absurd (nothing_boots start boots)
