-- The small machine that does nothing is secure.
use Rattle.std.proofs.Common.{arith, ◌≡◌, ◌∙◌, ℕ, ◌+◌, zero, suc, true, List, [], ◌∷◌, ◌++◌, Option, Some, refl, sym, ap, subst}
use Rattle.std.specs.Prelude.{option_and_then}
use Rattle.std.specs.List.{AllByRecursion}
use Rattle.std.proofs.lemmas.Bool.{false≢true}
use Rattle.std.proofs.lemmas.Option.{same_Some, slice_get_past}
use Rattle.kat_ast.specs.declared.decl.Block.{Block}
use Rattle.kat_ast.specs.declared.decl.Phase.TheVariants as phase
use Rattle.kat_ast.specs.declared.expr.Expr.TheOpen as expr
use Rattle.kat_syntax.specs.Cycle.{Completed, call_of, cycle_of}
use Rattle.kat_syntax.specs.Machine.{MachineState}
use Rattle.kat_syntax.specs.Phases.{IsCodeThere, block_of, phase_of}
use Rattle.kat_syntax.specs.OutsideWrites.{poked, poked_at, target_in}
use Rattle.kat_syntax.specs.declared.places.OutsidePlace.{OutsidePlace}
use Rattle.kat_syntax.specs.declared.places.Poke.{Poke}
use Rattle.kat_syntax.specs.Run.{Cycle, Event, OutsideWrite, Run, run_from, state_behind, run_of}
use Rattle.kat_syntax.specs.Secure.{IsBlockRun, IsNoFailure, IsSecure, IsSecureRun, between, exit_of, is_inside}
use Rattle.kat_claims.specs.Machines.{anything, block, resting, yes}
use Rattle.kat_syntax.specs.Tables.{Name}
use Rattle.kat_claims.proofs.Steps.{ends_as, expr_layer, stm_layer}

-- a cycle of the machine that rests leaves the state as it is
rests_on :
    (state : MachineState) (left : ℕ) →
    cycle_of resting (suc left) state
    ≡ Completed (record { state = state; left = left; stores = [] })
rests_on state left =
    ap (ends_as resting.decls state left) (stm_layer resting.decls (call_of resting.decls left) _)
    ∙ simp expr_layer

-- a write from outside finds no place
write_finds_nothing :
    (poke : Poke) (state : MachineState) →
    state_behind state (poked resting poke state) ≡ state
write_finds_nothing poke state =
    ap (λ (place : Option OutsidePlace). state_behind state (poked_at
    (option_and_then (target_in resting.decls poke.offset) place) poke.bits state))
    (slice_get_past {X = OutsidePlace} [] poke.ordinal (omega arith))

-- a state is in the block
abbrev InBlock : MachineState → Type 0
InBlock state = phase_of resting.decls state ≡ Some (phase.Block block)

-- each boundary of a run is in the block, and the run does not fail
record Rests (run : Run) : Type 0 where
  all : AllByRecursion InBlock run.boundaries
  ends : IsNoFailure run.end

-- the run of the machine that rests
resting_run :
    (n k : ℕ) (state : MachineState) (events : List Event) → InBlock state →
    Rests (run_from resting n k state events)
resting_run n k state [] is = record { all = (is, tt); ends = tt }
resting_run zero k state (Cycle ∷ events) is = record { all = (is, tt); ends = tt }
resting_run (suc left) k state (Cycle ∷ events) is =
    let more = resting_run (suc left) (k + 1) state events is in
    simp (rests_on state left) (record { all = (is, more.all); ends = more.ends })
resting_run n k state (OutsideWrite poke ∷ events) is =
    simp (write_finds_nothing poke state) (resting_run n k state events is)

-- what holds of all holds of one among them, and of those behind it
of_split :
    (P : MachineState → Type 0) (before after : List MachineState) (state : MachineState) →
    AllByRecursion P (before ++ state ∷ after) → P state × AllByRecursion P after
of_split P [] after state all = all
of_split P (s ∷ before) after state all = of_split P before after state all.1

-- the block of the machine
abbrev the_block : Block
the_block = record { name = block; entry = anything; within = 1; change = yes }

-- its run ends at the next boundary, and its change is always allowed
block_ends :
    (state : MachineState) (after : List MachineState) → AllByRecursion InBlock after →
    IsBlockRun resting.decls the_block state (exit_of resting.decls after)
block_ends state [] all = omega arith
block_ends state (next ∷ later) all =
    simp all.0 (omega arith, expr_layer (between resting.decls state next) (expr.Truth true))

-- no code cell is declared
no_code : (states : List MachineState) → AllByRecursion (IsCodeThere resting.decls) states
no_code [] = tt
no_code (state ∷ states) = (tt, no_code states)

-- a run that rests does what one of a secure specification does
secure_run : (run : Run) → Rests run → IsSecureRun resting.decls run
secure_run run rests = record {
  never_fails = rests.ends;
  untrusted_keeps = λ before after state next cut untrusted.
      let here = at before (next ∷ after) state cut in
      absurd (let no : Some (phase.Block block) ≡ Some phase.Untrusted =
      sym here.0 ∙ untrusted in cc);
  blocks_end = λ before after state cut x at_block.
      let here = at before after state cut in
      let found : Some (phase.Block block) ≡ Some (phase.Block x) = sym here.0 ∙ at_block in
      let same : block ≡ x = cc in (
        the_block,
        subst (λ (y : Name). block_of resting.decls y ≡ Some the_block) same refl,
        block_ends state after here.1,
      );
  inside_behind_block = λ before after state cut inside.
      let here = at before after state cut in
      absurd (false≢true (sym (ap is_inside here.0) ∙ inside));
  code_stays = no_code run.boundaries;
}
  where
    at :
        (before after : List MachineState) (state : MachineState) →
        run.boundaries ≡ before ++ state ∷ after → InBlock state × AllByRecursion InBlock after
    at before after state cut =
        of_split InBlock before after state (subst (AllByRecursion InBlock) cut rests.all)

-- the machine that rests is secure
pub resting_secure : IsSecure resting
resting_secure start calls events is_state boots is_list declared =
    let named : Some block ≡ Some boots.name = boots.declared in
    secure_run (run_of resting calls start events) (resting_run calls 0 start events
    (subst (λ (x : Name). phase_of resting.decls start ≡ Some (phase.Block x))
    (sym (same_Some block boots.name named)) boots.phase))
