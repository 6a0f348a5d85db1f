-- When a specification is secure: what every run from a state that boots does.
use Rattle.std.specs.Prelude.{◌≡◌, ◌≤◌, ◌<◌, ℕ, suc, Bool, true, false, if◌then◌else◌, List, [], ◌∷◌, ◌++◌, Option, Some, IsTrue}
use Rattle.std.specs.List.{AllByRecursion}
use Rattle.kat_value.specs.declared.value.Value.TheVariants.{Bool as Truth}
use Rattle.kat_ast.specs.declared.decl.Block.{Block}
use Rattle.kat_ast.specs.declared.decl.DeclForm.{DeclForm}
use Rattle.kat_ast.specs.declared.decl.Phase.{Phase}
use Rattle.kat_ast.specs.declared.decl.Phase.TheVariants as phase
use Rattle.kat_ast.specs.Spec.{Spec}
use Rattle.kat_syntax.specs.Evaluation.{BothEnds, Environment, value_of_expr}
use Rattle.kat_syntax.specs.Machine.{MachineState}
use Rattle.kat_syntax.specs.Phases.{Boots, IsCodeThere, block_of, phase_of}
use Rattle.kat_syntax.specs.Run.{Event, IsEventList, Run, RunEnd, Ended, OutIn, FailedIn, is_declared_event, run_of}
use Rattle.kat_syntax.specs.States.{IsState, kept_of}
use Rattle.kat_syntax.specs.Tables.{Name}

-- whether a phase is `inside`
abbrev pub is_inside : Option Phase → Bool
is_inside (Some phase.Inside) = true
is_inside _ = false

-- an end is no failure
abbrev pub IsNoFailure : RunEnd → Type 0
IsNoFailure Ended = Unit {0}
IsNoFailure (OutIn cycle) = Unit {0}
IsNoFailure (FailedIn cycle place) = ⊥

-- where the change of a block is read: the kept values at its entry and behind it
abbrev pub between : List DeclForm → MachineState → MachineState → Environment
between decls entry exit =
    let ends = BothEnds (kept_of decls entry) (kept_of decls exit) in
    record { decls = decls; reads = ends; locals = [] }

-- the change of a block is true of the kept values at its entry and its exit
abbrev pub IsAllowedChange : List DeclForm → Block → MachineState → MachineState → Type 0
IsAllowedChange decls block entry exit =
    value_of_expr (between decls entry exit) block.change ≡ Some (Truth true)

-- the first of the boundaries behind one that is not inside, and how many cycles it comes later
pub data Exit : Type 0 where
  Left : (state : MachineState) (cycles : ℕ) → Exit
  -- all are inside
  Stays : (cycles : ℕ) → Exit

-- the exit seen from one cycle earlier
abbrev pub one_later : Exit → Exit
one_later (Left state cycles) = Left state (suc cycles)
one_later (Stays cycles) = Stays (suc cycles)

-- the exit among the boundaries behind one
abbrev pub exit_of : List DeclForm → List MachineState → Exit
exit_of decls [] = Stays 0
exit_of decls (state ∷ later) =
    if is_inside (phase_of decls state) then one_later (exit_of decls later) else Left state 1

-- a block left at this exit: at most `within` cycles later, with an allowed change; or, while it
-- runs, fewer than `within` cycles were completed
abbrev pub IsBlockRun : List DeclForm → Block → MachineState → Exit → Type 0
IsBlockRun decls block entry (Left exit cycles) =
    (cycles ≤ block.within) × IsAllowedChange decls block entry exit
IsBlockRun decls block entry (Stays cycles) = cycles < block.within

-- what each two boundaries that follow one another do
abbrev pub EachStep : (MachineState → MachineState → Type 0) → List MachineState → Type 0
EachStep P boundaries =
    (before after : List MachineState) (state next : MachineState) →
    boundaries ≡ before ++ state ∷ next ∷ after → P state next

-- what each boundary does, with those before it and those behind it
abbrev pub EachBoundary :
    (List MachineState → MachineState → List MachineState → Type 0) → List MachineState → Type 0
EachBoundary P boundaries =
    (before after : List MachineState) (state : MachineState) →
    boundaries ≡ before ++ state ∷ after → P before state after

-- an untrusted cycle leaves the kept values as they were, and does not lead inside
abbrev pub KeepsWhereUntrusted : List DeclForm → MachineState → MachineState → Type 0
KeepsWhereUntrusted decls state next =
    phase_of decls state ≡ Some phase.Untrusted →
    (is_inside (phase_of decls next) ≡ false) × (kept_of decls next ≡ kept_of decls state)

-- from the entry of a block on, which is declared, its run is within its cycles and its change
abbrev pub RunsWhereBlock :
    List DeclForm → List MachineState → MachineState → List MachineState → Type 0
RunsWhereBlock decls before state after =
    (x : Name) → phase_of decls state ≡ Some (phase.Block x) →
    (block : Block) × (block_of decls x ≡ Some block)
    × IsBlockRun decls block state (exit_of decls after)

-- the phase of a state is a block
abbrev pub IsBlock : List DeclForm → MachineState → Type 0
IsBlock decls state = (x : Name) × (phase_of decls state ≡ Some (phase.Block x))

-- behind a block and boundaries that are inside
abbrev pub IsWithinBlock : List DeclForm → List MachineState → Type 0
IsWithinBlock decls before =
    (earlier : List MachineState) × (entry : MachineState) × (inside : List MachineState)
    × (before ≡ earlier ++ entry ∷ inside)
    × IsBlock decls entry
    × AllByRecursion (λ state. IsTrue (is_inside (phase_of decls state))) inside

-- a boundary is inside only behind a block, with nothing but boundaries that are inside between
abbrev pub InsideBehindBlock :
    List DeclForm → List MachineState → MachineState → List MachineState → Type 0
InsideBehindBlock decls before state after =
    IsTrue (is_inside (phase_of decls state)) → IsWithinBlock decls before

-- what a run of a secure specification does
pub record IsSecureRun (decls : List DeclForm) (run : Run) : Type 0 where
  pub never_fails : IsNoFailure run.end
  pub untrusted_keeps : EachStep (KeepsWhereUntrusted decls) run.boundaries
  pub blocks_end : EachBoundary (RunsWhereBlock decls) run.boundaries
  pub inside_behind_block : EachBoundary (InsideBehindBlock decls) run.boundaries
  pub code_stays : AllByRecursion (IsCodeThere decls) run.boundaries

-- a specification is secure: every run does so that begins at a state of the machine that boots,
-- with any number of calls for each cycle, over every list of cycles and of outside writes of
-- numbers that fit to declared places
abbrev pub IsSecure : Spec → Type 0
IsSecure spec =
    (start : MachineState) (calls : ℕ) (events : List Event) →
    IsState spec.decls start → Boots spec.decls start →
    IsEventList events → AllByRecursion (λ event. IsTrue (is_declared_event spec event)) events →
    IsSecureRun spec.decls (run_of spec calls start events)
