-- One step of a path: the first of its jobs is done.
use Rattle.std.specs.Prelude.{ℕ, zero, suc, ◌++◌, if◌then◌else◌, List, [], ◌∷◌, map}
use Rattle.std.specs.Option.{option_map}
use Rattle.kat_value.specs.Signatures.{same_type}
use Rattle.kat_value.specs.declared.types.Ty.TheVariants as ty
use Rattle.kat_ast.specs.declared.assertion.Assertion.{Assertion}
use Rattle.kat_ast.specs.declared.decl.Block.{Block}
use Rattle.kat_ast.specs.declared.decl.DeclForm.{DeclForm}
use Rattle.kat_ast.specs.declared.decl.Phase.{Phase}
use Rattle.kat_ast.specs.declared.decl.Phase.TheVariants as phase
use Rattle.kat_ast.specs.declared.decl.When.{When}
use Rattle.kat_syntax.specs.Holds.{index_width}
use Rattle.kat_syntax.specs.States.{KeptPlace, KeptCell, KeptRegister, kept_places, register_position}
use Rattle.kat_syntax.specs.Tables.{Function, Name, step_function_of}
use Rattle.kat_term.specs.Views.{bits}
use Rattle.kat_term.specs.declared.term.Term.{Term}
use Rattle.kat_chunk.specs.declared.chunk.Chunk.{Chunk}
use Rattle.kat_heap.specs.declared.mode.Mode.{Mode}
use Rattle.kat_heap.specs.Asking.{Answers, branch, known, owe, owe_false, with_term}
use Rattle.kat_heap.specs.Consuming.{consume, fill, match, take_cell, take_register, yield}
use Rattle.kat_heap.specs.Havoc.{havoc}
use Rattle.kat_heap.specs.Items.{CodeCell, DispatchOf, code_cells, dispatch_of, guard_of, registers_kept, same_phase}
use Rattle.kat_heap.specs.Moves.{bind, bound_all, compare, folded, fresh, leave, restore, return}
use Rattle.kat_heap.specs.Places.{RegisterChunk, register_chunk_of}
use Rattle.kat_heap.specs.Producing.{produce}
use Rattle.kat_heap.specs.Terms.{Sources, plainly, sources_of}
use Rattle.kat_heap.specs.Walks.{Job, Run, Produce, Consume, Owe, Match, Bind, Fresh, Return, Bound, Leave, Yield, Fold, Fill, Havoc, Compare, Restore, Decide, Exit, Chosen, OnlyIn, BehindUntrusted, BehindCycle, AtBothEnds, Kept, Moved, Closed, Ended, On, Walk, and_jobs, with_jobs}
use Rattle.kat_exec.specs.Statements.{run}

-- what the conditions of the dispatch read: the value of the first Reg chunk of a register
abbrev pub in_dispatch : List DeclForm → List Chunk → Sources
in_dispatch decls chunks = record (plainly []) {
  register = λ r. option_map (λ (found : RegisterChunk). found.value)
      (register_chunk_of decls r chunks);
}

-- the job of finding the phase by a dispatch
abbrev pub deciding : Chosen Term → DispatchOf → Job Term
deciding chosen dispatch = Decide dispatch.cases dispatch.otherwise chosen

-- the code cells are compared with their stated values
abbrev pub comparing : CodeCell → Job Term
comparing cell = Compare cell.index cell.number

-- the cell of code is taken
abbrev pub taking : List DeclForm → CodeCell → Job Term
taking decls cell = Fill (bits (index_width decls) cell.index)

-- the jobs of one more cycle of a block, up to its phase
abbrev pub cycle_jobs : List DeclForm → Chosen Term → Function → DispatchOf → List (Job Term)
cycle_jobs decls chosen step dispatch =
    Run step.body ∷ Havoc ∷ map comparing (code_cells decls) ++ deciding chosen dispatch ∷ []

module _ (answers : Answers) (decls : List DeclForm) where
  -- one more cycle
  abbrev pub cycle_again : Chosen Term → Walk → Moved
  cycle_again chosen w =
      known answers decls (step_function_of decls) w (λ (step : Function).
      known answers decls (dispatch_of decls) w (λ dispatch.
      On (and_jobs (cycle_jobs decls chosen step dispatch) w)))

  -- inside a block the next cycle follows while there are some left
  abbrev pub stay_inside : Block → List Term → ℕ → Walk → Moved
  stay_inside block before zero w = owe_false answers decls w
  stay_inside block before (suc left) w = cycle_again (BehindCycle block before left) w

  -- a block is left: the code cells are taken, then the kept places; then come its change and what
  -- the phase asks for
  abbrev pub leave_block : Block → List Term → Phase → Walk → Moved
  leave_block block before reached w =
      known answers decls (guard_of decls reached) w (λ guard.
      On (and_jobs
      (map (taking decls) (code_cells decls)
      ++ Exit (kept_places decls) [] block before guard ∷ []) w))

  -- behind a cycle of a block
  abbrev pub behind_cycle : Block → List Term → ℕ → Phase → Walk → Moved
  behind_cycle block before left phase.Inside w = stay_inside block before left w
  behind_cycle block before left phase.Untrusted w = leave_block block before phase.Untrusted w
  behind_cycle block before left (phase.Block x) w = leave_block block before (phase.Block x) w

  -- behind an untrusted cycle: the protected registers have their first values, and what the phase
  -- asks for is consumed; inside a block it asks for `false`
  abbrev pub behind_untrusted : List Term → Phase → Walk → Moved
  behind_untrusted first reached w =
      known answers decls (guard_of decls reached) w (λ guard.
      On (and_jobs
      (map (λ (pair : Name × Term). Restore pair.0 pair.1)
      (registers_kept (kept_places decls) first)
      ++ Consume (Kept first) guard ∷ []) w))

  -- the phase is known
  abbrev pub reach : Chosen Term → Phase → Walk → Moved
  reach (OnlyIn wanted) reached w = if same_phase reached wanted then On w else Closed
  reach (BehindUntrusted first) reached w = behind_untrusted first reached w
  reach (BehindCycle block before left) reached w = behind_cycle block before left reached w

  -- the phase is that of the first true condition, each being a choice where it is no literal
  abbrev pub decide : List When → Phase → Chosen Term → Walk → Moved
  decide [] otherwise chosen w = reach chosen otherwise w
  decide (case ∷ cases) otherwise chosen w =
      with_term answers decls (in_dispatch decls w.chunks) case.test (same_type ty.Bool) w
      (λ condition. branch answers decls condition w
      (and_jobs (Decide [] case.phase chosen ∷ []) w)
      (and_jobs (Decide cases otherwise chosen ∷ []) w))

  -- a kept place is taken
  abbrev pub take_place : KeptPlace → Walk → (Term → Walk → Moved) → Moved
  take_place (KeptRegister r) w go =
      known answers decls (register_position decls r) w (λ at.
      take_register answers decls at w go)
  take_place (KeptCell i) w go = take_cell answers decls (bits (index_width decls) i) w go

  -- the kept places are taken one by one; then the change is owed, and then the guard is consumed
  abbrev pub exit :
      List KeptPlace → List Term → Block → List Term → Assertion → Walk → Moved
  exit [] taken block before guard w =
      with_term answers decls
      (sources_of decls w.point.names (AtBothEnds before taken)) block.change
      (same_type ty.Bool) w (λ goal.
      owe answers decls w goal (On (and_jobs (Consume (Kept taken) guard ∷ []) w)))
  exit (place ∷ places) taken block before guard w =
      take_place place w (λ value left.
      On (and_jobs (Exit places (taken ++ value ∷ []) block before guard ∷ []) left))

  -- one job
  abbrev pub do_job : Mode → Job Term → Walk → Moved
  do_job mode (Run stm) w = run answers decls mode stm w
  do_job mode (Produce reading assertion) w = produce answers decls mode reading assertion w
  do_job mode (Consume reading assertion) w = consume answers decls reading assertion w
  do_job mode (Owe goal) w = owe answers decls w goal (On w)
  do_job mode (Match value reading e) w = match answers decls value reading e w
  do_job mode (Bind x) w = bind answers decls x w
  do_job mode (Fresh type) w = fresh answers decls type w
  do_job mode (Return of kept) w = return answers decls kept w
  do_job mode (Bound params) w = bound_all answers decls params w
  do_job mode (Leave x type old) w = leave answers decls x type old w
  do_job mode (Yield outputs reading kept) w = yield answers decls outputs reading kept w
  do_job mode (Fold pred inputs outputs kept) w =
      folded answers decls pred inputs outputs kept w
  do_job mode (Fill key) w = fill answers decls key w
  do_job mode Havoc w = havoc answers decls w
  do_job mode (Compare index number) w = compare answers decls index number w
  do_job mode (Restore r value) w = restore answers decls r value w
  do_job mode (Decide cases otherwise chosen) w = decide cases otherwise chosen w
  do_job mode (Exit places taken block before guard) w = exit places taken block before guard w

  -- the first job, with the others behind it
  abbrev pub step_of : Mode → List (Job Term) → Walk → Moved
  step_of mode [] w = Ended
  step_of mode (job ∷ jobs) w = do_job mode job (with_jobs jobs w)

  -- one step
  abbrev pub step : Mode → Walk → Moved
  step mode w = step_of mode w.point.jobs w
