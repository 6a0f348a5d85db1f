-- When jobs are met, on concrete states: what a walk's jobs mean once its terms have values.
use Rattle.std.specs.Prelude.{◌≡◌, ◌++◌, ℕ, zero, suc, Bool, true, false, List, [], ◌∷◌, is_some, map, zip, IsSome, Option, None, Some, nat_le, nat_lt, ◌&&◌, slice_get, Contains}
use Rattle.std.specs.List.{AllByRecursion, list_any}
use Rattle.kat_value.specs.Making.{all_there}
use Rattle.kat_value.specs.declared.value.Value.{Value}
use Rattle.kat_value.specs.declared.value.Value.TheVariants.{Bool as Truth, Bits as Number}
use Rattle.kat_value.specs.Typing.{HasType}
use Rattle.kat_ast.specs.Spec.{Spec}
use Rattle.kat_ast.specs.declared.assertion.Assertion.{Assertion}
use Rattle.kat_ast.specs.declared.decl.Block.{Block}
use Rattle.kat_ast.specs.declared.decl.DeclForm.{DeclForm}
use Rattle.kat_ast.specs.declared.decl.Phase.{Phase}
use Rattle.kat_ast.specs.declared.decl.Phase.TheVariants as phase
use Rattle.kat_ast.specs.declared.decl.When.{When}
use Rattle.kat_ast.specs.declared.expr.Expr.{Expr}
use Rattle.kat_ast.specs.declared.expr.Expr.TheOpen.{Expr-F, Register, Make, Rec, Apply, Get}
use Rattle.kat_ast.specs.declared.expr.Expr.TheFolds.{fold-Expr}
use Rattle.kat_ast.specs.declared.stm.Stm.{Stm}
use Rattle.kat_ast.specs.declared.type_name.Param.{Param}
use Rattle.kat_syntax.specs.Cycle.{eval_of}
use Rattle.kat_syntax.specs.Evaluation.{BothEnds, Environment, KeptValues, Locals, Nothing, Reads, value_of_expr}
use Rattle.kat_syntax.specs.Fragments.{Fragment, IsOfMemory, IsOfType, Join, one_cell, one_register, whole}
use Rattle.kat_syntax.specs.Holds.{Holds, IfTrue, IsOfWritten, index_width, predicates_of}
use Rattle.kat_syntax.specs.MeaningLaws.{joined}
use Rattle.kat_syntax.specs.Meets.{AreArguments}
use Rattle.kat_syntax.specs.Machine.{MachineState, Progress}
use Rattle.kat_syntax.specs.Outcomes.{Outcome, Done, Out, Fail, Stuck}
use Rattle.kat_syntax.specs.OutsideWrites.{outside_places}
use Rattle.kat_syntax.specs.Phases.{in_dispatch}
use Rattle.kat_syntax.specs.States.{IsState, KeptPlace, KeptCell, KeptRegister, cell_width, kept_places, memory_of, register_position, register_types}
use Rattle.kat_syntax.specs.Tables.{Function, Name, step_function_of}
use Rattle.kat_syntax.specs.TypeTable.{types_of_decls}
use Rattle.kat_syntax.specs.declared.places.OutsidePlace.{OutsidePlace}
use Rattle.kat_syntax.specs.declared.places.OutsidePlace.TheVariants.{Register as OutsideRegister, Cells as OutsideCells}
use Rattle.kat_claims.specs.Names.{names_of_assertion, names_of_expr}
use Rattle.kat_chunk.specs.Chunks.{predicate_names}
use Rattle.kat_heap.specs.Havoc.{is_outside_at}
use Rattle.kat_heap.specs.Items.{CodeCell, DispatchOf, code_cells, dispatch_of, guard_of, registers_kept, same_phase}
use Rattle.kat_heap.specs.Walks.{Job, Run, Produce, Consume, Owe, Match, Bind, Fresh, Return, Bound, Leave, Yield, Fold, Fill, Havoc, Compare, Restore, Decide, Exit, Chosen, OnlyIn, BehindUntrusted, BehindCycle, Names, Point, Reading, Plain, Kept, AtBothEnds, named, naming, naming_again}

-- what is asked behind a job: of the names, the last value, what is owned, and the calls left
abbrev pub Rest : Type 1
Rest = Locals → Value → Fragment → ℕ → Type 0

-- it does not fail and is not stuck, and where it is done this holds
abbrev pub After : {S : Type 0} → Outcome S → (Value → Progress → Type 0) → Type 0
After (Done value progress) P = P value progress
After Out P = Unit {0}
After (Fail site) P = ⊥
After Stuck P = ⊥

-- the second gives each name that stands for a value in the first the same value, and of the other
-- names a value to some of these alone
pub record Carries (names more : Locals) (bound : List Name) : Type 0 where
  pub at : (x : Name) (v : Value) → named names x ≡ Some v → named more x ≡ Some v
  pub only :
      (x : Name) (v : Value) → named names x ≡ None → named more x ≡ Some v → Contains bound x

-- what an assertion or a change reads beside names
abbrev pub reads_of : Reading Value → Reads
reads_of Plain = Nothing
reads_of (Kept kept) = KeptValues kept
reads_of (AtBothEnds before after) = BothEnds before after

-- where it is read
abbrev pub read_in : List DeclForm → Reading Value → Locals → Environment
read_in decls reading names =
    record { decls = decls; reads = reads_of reading; locals = names }

-- whether an index is one of the cells of an outside place
abbrev pub has_index : ℕ → OutsidePlace → Bool
has_index i (OutsideRegister at width) = false
has_index i (OutsideCells lo hi) = nat_le lo i && nat_lt i hi

-- whether the cell at an index is written from outside
abbrev pub is_outside_cell : List DeclForm → ℕ → Bool
is_outside_cell decls i = list_any (has_index i) (outside_places decls)

-- q has the places of p; in those that are written from outside any values that fit, and in the
-- others those of p
pub record IsWrittenOver (decls : List DeclForm) (p q : Fragment) : Type 0 where
  pub registers : (at : ℕ) → is_outside_at decls at ≡ false → q.registers at ≡ p.registers at
  pub has_registers : (at : ℕ) → is_some (q.registers at) ≡ is_some (p.registers at)
  pub fit : (at : ℕ) (v : Value) → is_outside_at decls at ≡ true → q.registers at ≡ Some v →
      IsOfType decls (slice_get (register_types decls) at) v
  pub cells : (i : ℕ) → is_outside_cell decls i ≡ false → q.cells i ≡ p.cells i
  pub has_cells : (i : ℕ) → is_some (q.cells i) ≡ is_some (p.cells i)
  pub cells_fit : (i n : ℕ) → is_outside_cell decls i ≡ true → q.cells i ≡ Some n →
      IsOfMemory (memory_of decls) i n

-- the registers that one layer of an expression reads
abbrev pub expr_registers : Expr-F (List Name) → List Name
expr_registers (Register r) = r ∷ []
expr_registers (Make k payload) = payload
expr_registers (Rec r fields) = joined fields
expr_registers (Apply op args) = joined args
expr_registers (Get r f part) = part
expr_registers _ = []

-- the registers that an expression reads
abbrev pub registers_of_expr : Expr → List Name
registers_of_expr = fold-Expr (List Name) expr_registers

-- a fragment has the register of a name
abbrev pub HasRegister : List DeclForm → Fragment → Name → Type 0
HasRegister decls p r =
    (at : ℕ) × (register_position decls r ≡ Some at) × IsSome (p.registers at)

-- a fragment has each register that an expression reads
abbrev pub HasRegisters : List DeclForm → Fragment → Expr → Type 0
HasRegisters decls p e = AllByRecursion (HasRegister decls p) (registers_of_expr e)

-- what a fragment of one kept place with a value is
abbrev pub IsPlace : List DeclForm → KeptPlace → Value → Fragment → Type 0
IsPlace decls (KeptRegister r) v f =
    (at : ℕ) × (register_position decls r ≡ Some at) × (f ≡ one_register at v)
IsPlace decls (KeptCell i) v f =
    (n : ℕ) × (v ≡ Number (cell_width decls) n) × (f ≡ one_cell i n)

module _ (spec : Spec) where
  -- a statement: on every state that what is owned is a part of, it does not fail; where it is
  -- done, the rest is as it was, and what follows is met with what then is owned
  abbrev pub MetRun : Stm → Rest → Rest
  MetRun stm then_ names last p n =
      (state : MachineState) (rest : Fragment) →
      IsState spec.decls state → Join (whole state) p rest →
      After (eval_of spec n stm names state) (λ v progress.
      (q : Fragment) × Join (whole progress.state) q rest × then_ names v q progress.left)

  -- to produce: whatever disjoint fragment holds the assertion is owned from here on
  abbrev pub MetProduce : Reading Value → Assertion → Rest → Rest
  MetProduce reading assertion then_ names last p n =
      (f q : Fragment) → Join q p f → Holds assertion (read_in spec.decls reading names) f →
      then_ names last q n

  -- to consume: a part of what is owned holds the assertion, with the names that it binds; the
  -- other part is owned from here on
  abbrev pub MetConsume : Reading Value → Assertion → Rest → Rest
  MetConsume reading assertion then_ names last p n =
      (more : Locals) × (f : Fragment) × (q : Fragment)
      × Carries names more (names_of_assertion assertion) × Join p f q
      × Holds assertion (read_in spec.decls reading more) f × then_ more last q n

  -- to match: the expression has the value, with the name that it binds
  abbrev pub MetMatch : Value → Reading Value → Expr → Rest → Rest
  MetMatch value reading e then_ names last p n =
      (more : Locals) × Carries names more (names_of_expr e)
      × (value_of_expr (read_in spec.decls reading more) e ≡ Some value) × then_ more last p n

  -- to match values with expressions, one by one
  abbrev pub MetMatches : List (Value × (Name × Expr)) → Reading Value → Rest → Rest
  MetMatches [] reading then_ = then_
  MetMatches (pair ∷ pairs) reading then_ =
      MetMatch pair.0 reading pair.1.1 (MetMatches pairs reading then_)

  -- to yield: each output of the definition has a value, and is matched where the names are these
  -- again
  abbrev pub MetYield : Names Expr → Reading Value → Locals → Rest → Rest
  MetYield outputs reading kept then_ names last p n =
      (values : List Value)
      × (all_there (map (λ (output : Name × Expr). named names output.0) outputs) ≡ Some values)
      × MetMatches (zip values outputs) reading then_ kept last p n

  -- to fold: whatever holds the predicate is owned from here on
  abbrev pub MetFold : ℕ → List Value → List Name → Locals → Rest → Rest
  MetFold pred inputs outputs kept then_ names last p n =
      (values : List Value) × (x : Name) × (all_there (map (named names) outputs) ≡ Some values)
      × (slice_get (predicate_names spec.decls) pred ≡ Some x)
      × ((f q : Fragment) → Join q p f → predicates_of spec.decls x (inputs ++ values) f →
      then_ kept last q n)

  -- to fill: what is owned has the cell, which is not owned from here on
  abbrev pub MetFill : Value → Rest → Rest
  MetFill key then_ names last p n =
      (i : ℕ) × (number : ℕ) × (q : Fragment) × (key ≡ Number (index_width spec.decls) i)
      × IsOfMemory (memory_of spec.decls) i number × Join p (one_cell i number) q
      × then_ names last q n

  -- the outside writes: for all fitting values of the outside places that are owned
  abbrev pub MetHavoc : Rest → Rest
  MetHavoc then_ names last p n =
      (q : Fragment) → IsWrittenOver spec.decls p q → then_ names last q n

  -- to compare: what is owned has the cell, with its stated value
  abbrev pub MetCompare : ℕ → ℕ → Rest → Rest
  MetCompare index number then_ names last p n =
      (p.cells index ≡ Some number) × then_ names last p n

  -- to restore: what is owned has the register with this value, and is not owned from here on
  abbrev pub MetRestore : Name → Value → Rest → Rest
  MetRestore r value then_ names last p n =
      (q : Fragment) × (f : Fragment) × IsPlace spec.decls (KeptRegister r) value f
      × Join p f q × then_ names last q n

  -- to restore registers, one by one
  abbrev pub MetRestores : List (Name × Value) → Rest → Rest
  MetRestores [] then_ = then_
  MetRestores (pair ∷ pairs) then_ = MetRestore pair.0 pair.1 (MetRestores pairs then_)

  -- to find the phase: what is owned has the registers that each condition reads, up to the one
  -- that decides, and tells whether it is true
  abbrev pub MetDecide : List When → Phase → (Phase → Rest) → Rest
  MetDecide [] otherwise chosen names last p n = chosen otherwise names last p n
  MetDecide (case ∷ cases) otherwise chosen names last p n =
      HasRegisters spec.decls p case.test × (b : Bool)
      × ((state : MachineState) (rest : Fragment) →
      IsState spec.decls state → Join (whole state) p rest →
      value_of_expr (in_dispatch spec.decls state) case.test ≡ Some (Truth b))
      × IfTrue b (chosen case.phase names last p n)
      (MetDecide cases otherwise chosen names last p n)

  -- to consume what a phase asks for, with these kept values; nothing does where it asks for
  -- nothing
  abbrev pub MetGuard : Option Assertion → List Value → Rest → Rest
  MetGuard None kept then_ names last p n = ⊥
  MetGuard (Some guard) kept then_ names last p n =
      MetConsume (Kept kept) guard then_ names last p n

  -- to leave a block: kept places are taken one by one; then its change is true of the kept values
  -- before and behind, and the guard holds with those behind
  abbrev pub MetExit :
      List KeptPlace → List Value → Block → List Value → Assertion → Rest → Rest
  MetExit [] taken block before guard then_ names last p n =
      (value_of_expr (read_in spec.decls (AtBothEnds before taken) names) block.change
      ≡ Some (Truth true))
      × MetConsume (Kept taken) guard then_ names last p n
  MetExit (place ∷ places) taken block before guard then_ names last p n =
      (v : Value) × (f : Fragment) × (q : Fragment) × IsPlace spec.decls place v f × Join p f q
      × MetExit places (taken ++ v ∷ []) block before guard then_ names last q n

  -- to take the code cells, and then to leave a block
  abbrev pub MetLeaving : List CodeCell → Block → List Value → Option Assertion → Rest → Rest
  MetLeaving cells block before None then_ names last p n = ⊥
  MetLeaving [] block before (Some guard) then_ names last p n =
      MetExit (kept_places spec.decls) [] block before guard then_ names last p n
  MetLeaving (cell ∷ cells) block before (Some guard) then_ names last p n =
      MetFill (Number (index_width spec.decls) cell.index)
      (MetLeaving cells block before (Some guard) then_) names last p n

  -- the code cells have their stated values
  abbrev pub MetCode : List CodeCell → Rest → Rest
  MetCode [] then_ = then_
  MetCode (cell ∷ cells) then_ = MetCompare cell.index cell.number (MetCode cells then_)

  -- one more cycle, up to its phase
  abbrev pub MetCycle : Option Function → Option DispatchOf → (Phase → Rest) → Rest
  MetCycle None dispatch chosen names last p n = ⊥
  MetCycle (Some step) None chosen names last p n = ⊥
  MetCycle (Some step) (Some dispatch) chosen names last p n =
      MetRun step.body (MetHavoc (MetCode (code_cells spec.decls)
      (MetDecide dispatch.cases dispatch.otherwise chosen))) names last p n

  -- what follows a cycle of a block: inside it this, and else its exit
  abbrev pub MetBehind : Block → List Value → Rest → Rest → Phase → Rest
  MetBehind block before inside then_ phase.Inside names last p n = inside names last p n
  MetBehind block before inside then_ phase.Untrusted names last p n =
      MetLeaving (code_cells spec.decls) block before (guard_of spec.decls phase.Untrusted) then_
      names last p n
  MetBehind block before inside then_ (phase.Block x) names last p n =
      MetLeaving (code_cells spec.decls) block before (guard_of spec.decls (phase.Block x)) then_
      names last p n

  -- inside a block: the next cycle and what follows it, while there are some left
  abbrev pub MetInside : Block → List Value → ℕ → Rest → Rest
  MetInside block before zero then_ names last p n = ⊥
  MetInside block before (suc left) then_ names last p n =
      MetCycle (step_function_of spec.decls) (dispatch_of spec.decls)
      (MetBehind block before (MetInside block before left then_) then_) names last p n

  -- what follows once the phase is known
  abbrev pub MetChosen : Chosen Value → Rest → Phase → Rest
  MetChosen (OnlyIn wanted) then_ reached names last p n =
      IfTrue (same_phase reached wanted) (then_ names last p n) (Unit {0})
  MetChosen (BehindUntrusted first) then_ reached names last p n =
      MetRestores (registers_kept (kept_places spec.decls) first)
      (MetGuard (guard_of spec.decls reached) first then_) names last p n
  MetChosen (BehindCycle block before left) then_ reached names last p n =
      MetBehind block before (MetInside block before left then_) then_ reached names last p n

  -- one job, with what is asked behind it
  abbrev pub MetJob : Job Value → Rest → Rest
  MetJob (Run stm) then_ names last p n = MetRun stm then_ names last p n
  MetJob (Produce reading assertion) then_ names last p n =
      MetProduce reading assertion then_ names last p n
  MetJob (Consume reading assertion) then_ names last p n =
      MetConsume reading assertion then_ names last p n
  MetJob (Owe goal) then_ names last p n = (goal ≡ Truth true) × then_ names last p n
  MetJob (Match value reading e) then_ names last p n =
      MetMatch value reading e then_ names last p n
  MetJob (Bind x) then_ names last p n = then_ (naming x last names) last p n
  MetJob (Fresh type) then_ names last p n =
      (v : Value) → HasType (types_of_decls spec.decls) type v → then_ names v p n
  MetJob (Return of kept) then_ names last p n = then_ kept last p n
  MetJob (Bound params) then_ names last p n =
      (values : List Value)
      × (all_there (map (λ (param : Param). named names param.name) params) ≡ Some values)
      × AreArguments spec.decls params values × then_ names last p n
  MetJob (Leave x type old) then_ names last p n =
      (v : Value) × (named names x ≡ Some v) × IsOfWritten spec.decls type v
      × then_ (naming_again x old names) last p n
  MetJob (Yield outputs reading kept) then_ names last p n =
      MetYield outputs reading kept then_ names last p n
  MetJob (Fold pred inputs outputs kept) then_ names last p n =
      MetFold pred inputs outputs kept then_ names last p n
  MetJob (Fill key) then_ names last p n = MetFill key then_ names last p n
  MetJob Havoc then_ names last p n = MetHavoc then_ names last p n
  MetJob (Compare index number) then_ names last p n =
      MetCompare index number then_ names last p n
  MetJob (Restore r value) then_ names last p n = MetRestore r value then_ names last p n
  MetJob (Decide cases otherwise chosen) then_ names last p n =
      MetDecide cases otherwise (MetChosen chosen then_) names last p n
  MetJob (Exit places taken block before guard) then_ names last p n =
      MetExit places taken block before guard then_ names last p n

  -- jobs over what is owned, with these names, this last value and n calls left
  abbrev pub Met : List (Job Value) → Rest
  Met [] names last p n = Unit {0}
  Met (job ∷ jobs) names last p n = MetJob job (Met jobs) names last p n

  -- the jobs of a point are met at what is owned
  abbrev pub MetAt : Point Value → Fragment → ℕ → Type 0
  MetAt point p n = Met point.jobs point.names point.last p n
