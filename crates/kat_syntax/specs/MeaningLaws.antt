-- What holds of the meaning of every machine, typed or not.
use Rattle.std.specs.Prelude.{◌≡◌, ◌≢◌, ◌↔◌, ◌<◌, ◌≤◌, ◌==◌, ◌+◌, ℕ, Bool, false, not, IsTrue, List, [], ◌∷◌, ◌++◌, map, filter, length, Option, Some, None, slice_get}
use Rattle.std.specs.List.{AllByRecursion, list_any}
use Rattle.kat_value.specs.declared.types.TypeDecl.{TypeDecl}
use Rattle.kat_value.specs.declared.value.Value.{Value}
use Rattle.kat_value.specs.Shown.{IsValue, AreValues}
use Rattle.kat_value.specs.Widths.{is_number}
use Rattle.kat_ast.specs.Spec.{Spec}
use Rattle.kat_ast.specs.declared.place.Place.{Place}
use Rattle.kat_ast.specs.declared.decl.DeclForm.{DeclForm}
use Rattle.kat_ast.specs.declared.decl.DeclForm.TheVariants as d
use Rattle.kat_ast.specs.declared.expr.Expr.{Expr}
use Rattle.kat_ast.specs.declared.stm.Stm.{Stm}
use Rattle.kat_ast.specs.declared.stm.CaseArm.{CaseArm}
use Rattle.kat_ast.specs.declared.stm.MatchArm.{MatchArm}
use Rattle.kat_ast.specs.declared.stm.Stm.TheOpen.{Stm-F, Let, Seq, If, Case, Match, Write}
use Rattle.kat_ast.specs.declared.stm.Stm.TheViews.{out-Stm}
use Rattle.kat_ast.specs.declared.stm.Stm.TheFolds.{map-Stm, fold-Stm}
use Rattle.kat_ast.specs.Declarations.{IsDecl}
use Rattle.kat_ast.specs.Limits.{decl_trees_bound}
use Rattle.kat_ast.specs.Statements.{trees_of_stm}
use Rattle.kat_syntax.specs.Tables.{Name}
use Rattle.kat_syntax.specs.Machine.{MachineState, Progress}
use Rattle.kat_syntax.specs.States.{IsState, register_position, cell_at, cell_width}
use Rattle.kat_syntax.specs.TypeTable.{types_of_decls}
use Rattle.kat_syntax.specs.Evaluation.{Locals, Reads, Nothing, Registers, KeptValues, BothEnds, Environment, value_of_expr}
use Rattle.kat_syntax.specs.Outcomes.{Outcome, Done, Out, Fail, Stuck}
use Rattle.kat_syntax.specs.Meaning.{Calls, Part, part_of, part_of_stm, meaning}
use Rattle.kat_syntax.specs.Cycle.{Completed, FailedAt, call_of, step_call, cycle_of}
use Rattle.kat_syntax.specs.declared.places.Poke.{Poke}
use Rattle.kat_syntax.specs.OutsideWrites.{Target, OneRegister, OneCell, target_of, Wrote, poked}
use Rattle.kat_syntax.specs.Run.{Event, is_declared_event, run_of}

-- a statement does what its layer does of its parts, and has as many trees for its meaning as it
-- has
pub record StatementsByParts : Type 0 where
  pub layer :
      (decls : List DeclForm) (calls : Calls) (stm : Stm) →
      part_of_stm decls calls stm
      ≡ part_of decls calls (map-Stm Stm Part (part_of_stm decls calls) (out-Stm stm))
  pub count :
      (decls : List DeclForm) (calls : Calls) (stm : Stm) →
      (part_of_stm decls calls stm).trees ≡ trees_of_stm stm

-- calls that may stand deeper in one another than calls are left change nothing
pub record DepthIsEnough : Type 0 where
  pub call :
      (decls : List DeclForm) (depth : ℕ) (f : Name) (args : List Value) (p : Progress) →
      p.left ≤ depth → call_of decls depth f args p ≡ call_of decls p.left f args p
  pub statement :
      (decls : List DeclForm) (depth : ℕ) (stm : Stm) (locals : Locals) (p : Progress) →
      p.left ≤ depth →
      meaning decls (call_of decls depth) stm locals p
      ≡ meaning decls (call_of decls p.left) stm locals p

-- behind a call fewer calls are left, and behind a statement no more
pub record LeftNeverRises : Type 0 where
  pub call :
      (decls : List DeclForm) (depth : ℕ) (f : Name) (args : List Value) →
      (p q : Progress) (v : Value) → call_of decls depth f args p ≡ Done v q → q.left < p.left
  pub statement :
      (decls : List DeclForm) (depth : ℕ) (stm : Stm) (locals : Locals) →
      (p q : Progress) (v : Value) →
      meaning decls (call_of decls depth) stm locals p ≡ Done v q → q.left ≤ p.left

-- lists of names one after another
abbrev pub joined : List (List Name) → List Name
joined [] = []
joined (names ∷ more) = names ++ joined more

-- what is in the arms of a `case`
abbrev pub in_case_arms : List (CaseArm (List Name)) → List Name
in_case_arms arms = joined (map (λ (arm : CaseArm (List Name)). arm.body) arms)

-- what is in the arms of a `match`
abbrev pub in_match_arms : List (MatchArm (List Name)) → List Name
in_match_arms arms = joined (map (λ (arm : MatchArm (List Name)). arm.body) arms)

-- the registers that one layer of a statement writes
abbrev pub layer_writes : Stm-F (List Name) → List Name
layer_writes (Write r e) = r ∷ []
layer_writes (Let x first second) = first ++ second
layer_writes (Seq parts) = joined parts
layer_writes (If test first second) = first ++ second
layer_writes (Case e arms) = in_case_arms arms
layer_writes (Match e arms) = in_match_arms arms
layer_writes _ = []

-- the registers that a statement itself writes
abbrev pub written_by_stm : Stm → List Name
written_by_stm = fold-Stm (List Name) layer_writes

-- the registers that the bodies of functions write
abbrev pub written_by_decls : List DeclForm → List Name
written_by_decls [] = []
written_by_decls (d.Fun f params result body ∷ decls) =
    written_by_stm body ++ written_by_decls decls
written_by_decls (_ ∷ decls) = written_by_decls decls

-- whether a position that there may be is this one
abbrev pub is_position : ℕ → Option ℕ → Bool
is_position at None = false
is_position at (Some k) = k == at

-- whether the register of a name has this position
abbrev pub is_at : List DeclForm → ℕ → Name → Bool
is_at decls at r = is_position at (register_position decls r)

-- from one progress to another all is as before but for registers of these names and for cells of
-- these indices, which are what was stored
pub record ChangesOnly
    (decls : List DeclForm) (names : List Name) (indices : List ℕ) (p q : Progress) : Type 0 where
  pub stores : q.stores ≡ p.stores ++ indices
  pub first : q.state.lo ≡ p.state.lo
  pub registers : length q.state.registers ≡ length p.state.registers
  pub cells : length q.state.cells ≡ length p.state.cells
  pub other_registers :
      (at : ℕ) → IsTrue (not (list_any (is_at decls at) names)) →
      slice_get q.state.registers at ≡ slice_get p.state.registers at
  pub other_cells :
      (i : ℕ) → IsTrue (not (list_any (λ j. i == j) indices)) →
      cell_at q.state i ≡ cell_at p.state i

-- a statement changes nothing but registers that it or a function writes, and the cells that it
-- stored
abbrev pub StatementsChangeWhatTheyWrite : Type 0
StatementsChangeWhatTheyWrite =
    (decls : List DeclForm) (depth : ℕ) (stm : Stm) (locals : Locals) →
    (p q : Progress) (v : Value) → meaning decls (call_of decls depth) stm locals p ≡ Done v q →
    (indices : List ℕ)
    × ChangesOnly decls (written_by_stm stm ++ written_by_decls decls) indices p q

-- whether a target is the register at this position
abbrev pub is_target_register : ℕ → Target → Bool
is_target_register k (OneRegister at width) = at == k
is_target_register k (OneCell index width) = false

-- whether a target is the cell of this index
abbrev pub is_target_cell : ℕ → Target → Bool
is_target_cell i (OneRegister at width) = false
is_target_cell i (OneCell index width) = index == i

-- from one state to another all is as before but for one place
pub record ChangesOnePlace (target : Target) (before after : MachineState) : Type 0 where
  pub first : after.lo ≡ before.lo
  pub registers : length after.registers ≡ length before.registers
  pub cells : length after.cells ≡ length before.cells
  pub other_registers :
      (at : ℕ) → IsTrue (not (is_target_register at target)) →
      slice_get after.registers at ≡ slice_get before.registers at
  pub other_cells :
      (i : ℕ) → IsTrue (not (is_target_cell i target)) → cell_at after i ≡ cell_at before i

-- an outside write changes no other place than its own
abbrev pub OutsideWritesChangeOnePlace : Type 0
OutsideWritesChangeOnePlace =
    (spec : Spec) (poke : Poke) (before after : MachineState) →
    poked spec poke before ≡ Wrote after →
    (target : Target) × (target_of spec.decls poke ≡ Some target)
    × ChangesOnePlace target before after

-- the same with more calls left
abbrev pub with_more : ℕ → Progress → Progress
with_more k p = record p { left = p.left + k }

-- an outcome whose progress has more calls left
abbrev pub outcome_with_more : {S : Type 0} → ℕ → Outcome S → Outcome S
outcome_with_more k (Done v p) = Done v (with_more k p)
outcome_with_more k Out = Out
outcome_with_more k (Fail site) = Fail site
outcome_with_more k Stuck = Stuck

-- with more calls allowed an outcome that is not Out stays, and as many more calls are left
abbrev pub MoreCallsChangeNoOutcome : Type 0
MoreCallsChangeNoOutcome =
    (decls : List DeclForm) (depth k : ℕ) (stm : Stm) (locals : Locals) (p : Progress) →
    p.left ≤ depth → meaning decls (call_of decls depth) stm locals p ≢ Out →
    meaning decls (call_of decls (depth + k)) stm locals (with_more k p)
    ≡ outcome_with_more k (meaning decls (call_of decls depth) stm locals p)

-- a cycle fails at tree 0 of a declaration exactly where it is stuck
abbrev pub StuckCyclesFailAtADeclaration : Type 0
StuckCyclesFailAtADeclaration =
    (spec : Spec) (n : ℕ) (state : MachineState) (place : Place) →
    cycle_of spec n state ≡ FailedAt place →
    (place.tree ≡ 0) ↔ (step_call spec n state ≡ Stuck)

-- the values of locals are of the types that they show
abbrev pub AreShownLocals : List TypeDecl → Locals → Type 0
AreShownLocals types locals = AreValues types (map (λ (local : Name × Value). local.1) locals)

-- what an expression may read is of the types that it shows
abbrev pub AreShownReads : List TypeDecl → Reads → Type 0
AreShownReads types Nothing = Unit {0}
AreShownReads types (Registers registers) = AreValues types registers
AreShownReads types (KeptValues kept) = AreValues types kept
AreShownReads types (BothEnds before after) = AreValues types before × AreValues types after

-- the value of each register is of the type that it shows, and each cell has a number that fits
pub record IsShownState (decls : List DeclForm) (state : MachineState) : Type 0 where
  pub registers : AreValues (types_of_decls decls) state.registers
  pub cells : AllByRecursion (λ n. IsTrue (is_number (cell_width decls) n)) state.cells

-- among values that are of the types that they show, expressions and statements give such values,
-- and statements leave such states, typed or not: the test of a type is then that of the type shown
pub record ValuesStayShown : Type 0 where
  pub expression :
      (env : Environment) (e : Expr) (v : Value) →
      AreShownLocals (types_of_decls env.decls) env.locals →
      AreShownReads (types_of_decls env.decls) env.reads →
      value_of_expr env e ≡ Some v → IsValue (types_of_decls env.decls) v
  pub statement :
      (decls : List DeclForm) (depth : ℕ) (stm : Stm) (locals : Locals) →
      (p q : Progress) (v : Value) →
      AreShownLocals (types_of_decls decls) locals → IsShownState decls p.state →
      meaning decls (call_of decls depth) stm locals p ≡ Done v q →
      IsValue (types_of_decls decls) v × IsShownState decls q.state

-- writes that are refused change nothing: without them the run is the same
abbrev pub RefusedWritesChangeNothing : Type 0
RefusedWritesChangeNothing =
    (spec : Spec) (n : ℕ) (start : MachineState) (events : List Event) →
    run_of spec n start events ≡ run_of spec n start (filter (is_declared_event spec) events)

-- a state of the machine stays one, typed or not: a write to a register asks for a value of its
-- type, a write to a cell for a number that fits
pub record StatesStay : Type 0 where
  pub statement :
      (decls : List DeclForm) (depth : ℕ) (stm : Stm) (locals : Locals) →
      (p q : Progress) (v : Value) → IsState decls p.state →
      meaning decls (call_of decls depth) stm locals p ≡ Done v q → IsState decls q.state
  pub cycle :
      (spec : Spec) (n : ℕ) (state : MachineState) (p : Progress) → IsState spec.decls state →
      cycle_of spec n state ≡ Completed p → IsState spec.decls p.state
  pub outside_write :
      (spec : Spec) (poke : Poke) (before after : MachineState) → IsState spec.decls before →
      poked spec poke before ≡ Wrote after → IsState spec.decls after

-- a cycle fails at a declaration, or behind the last one, and at a tree that a declaration of the
-- language's text may have
abbrev pub CyclesFailAtTrees : Type 0
CyclesFailAtTrees =
    (spec : Spec) (n : ℕ) (state : MachineState) (place : Place) →
    AllByRecursion IsDecl spec.decls → cycle_of spec n state ≡ FailedAt place →
    (place.decl ≤ length spec.decls) × (place.tree < decl_trees_bound)
