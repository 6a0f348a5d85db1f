-- Walks: what a path of symbolic execution has, and what it has still to do.
use Rattle.std.specs.Prelude.{ℕ, ◌+◌, ◌++◌, if◌then◌else◌, List, [], ◌∷◌, Option, None, Some}
use Rattle.std.specs.Str.{bytes_eq}
use Rattle.kat_value.specs.declared.types.Ty.{Ty}
use Rattle.kat_ast.specs.declared.assertion.Assertion.{Assertion}
use Rattle.kat_ast.specs.declared.decl.Block.{Block}
use Rattle.kat_ast.specs.declared.decl.Phase.{Phase}
use Rattle.kat_ast.specs.declared.decl.When.{When}
use Rattle.kat_ast.specs.declared.expr.Expr.{Expr}
use Rattle.kat_ast.specs.declared.stm.Stm.{Stm}
use Rattle.kat_ast.specs.declared.type_name.Param.{Param}
use Rattle.kat_ast.specs.declared.type_name.TypeName.{TypeName}
use Rattle.kat_syntax.specs.States.{KeptPlace}
use Rattle.kat_syntax.specs.Tables.{Name}
use Rattle.kat_term.specs.declared.kind.Kind.{Kind}
use Rattle.kat_term.specs.declared.term.Term.{Term}
use Rattle.kat_term.specs.Worlds.{World}
use Rattle.kat_chunk.specs.declared.chunk.Chunk.{Chunk}

-- names with what they stand for, terms in a walk, and values where it is read under a valuation
abbrev pub Names : Type 0 → Type 0
Names T = List (Name × T)

-- what a name stands for, none where it is unbound
abbrev pub named : {T : Type 0} → Names T → Name → Option T
named [] x = None
named (name ∷ names) x = if bytes_eq name.0 x then Some name.1 else named names x

-- names without one of them
abbrev pub unnamed : {T : Type 0} → Name → Names T → Names T
unnamed x [] = []
unnamed x (name ∷ names) =
    if bytes_eq name.0 x then unnamed x names else name ∷ unnamed x names

-- names with one bound to this, and no name twice
abbrev pub naming : {T : Type 0} → Name → T → Names T → Names T
naming x t names = (x, t) ∷ unnamed x names

-- names where one stands again for what it stood for, or is unbound again
abbrev pub naming_again : {T : Type 0} → Name → Option T → Names T → Names T
naming_again x None names = unnamed x names
naming_again x (Some t) names = naming x t names

-- what an assertion or a change may read beside names
pub data Reading (T : Type 0) : Type 0 where
  -- in a contract, a lemma or a definition
  Plain : Reading T
  -- in the untrusted assertion and in entries: the kept values
  Kept : (kept : List T) → Reading T
  -- in a change: the kept values before a block and behind it
  AtBothEnds : (before after : List T) → Reading T

-- what a return ends
pub data Returns : Type 0 where
  -- the body of a function that runs in place: these alone are counted as depth of calls
  OfCall : Returns
  -- a call by contract
  OfContract : Returns
  -- a lemma
  OfLemma : Returns
  -- the definition of a predicate that is produced
  OfDefinition : Returns
  -- the scope of a local or of a produced `exists`
  OfScope : Returns

-- what follows once the phase of a state is known
pub data Chosen (T : Type 0) : Type 0 where
  -- a path in another phase closes
  OnlyIn : (phase : Phase) → Chosen T
  -- what an untrusted cycle owes, the kept values having been these before it
  BehindUntrusted : (first : List T) → Chosen T
  -- what a cycle of a block owes, the kept values having been these at its entry, with so many
  -- cycles that it may still take
  BehindCycle : (block : Block) (before : List T) (left : ℕ) → Chosen T

-- what a path has still to do, one kind of job each
pub data Job (T : Type 0) : Type 0 where
  -- to run a statement
  Run : (stm : Stm) → Job T
  Produce : (reading : Reading T) (assertion : Assertion) → Job T
  Consume : (reading : Reading T) (assertion : Assertion) → Job T
  -- to owe a goal
  Owe : (goal : T) → Job T
  -- to bind an expression to a value where it is an unbound name, and else to owe that it has it
  Match : (value : T) (reading : Reading T) (e : Expr) → Job T
  -- to let a name stand for the last value
  Bind : (x : Name) → Job T
  -- to make the last value a fresh one of this type
  Fresh : (type : Ty) → Job T
  -- to have these names again
  Return : (of : Returns) (kept : Names T) → Job T
  -- to owe `false` where one of these names is unbound or is of another type
  Bound : (params : List Param) → Job T
  -- to owe `false` where the name is unbound or is of another type, and then to let it stand again
  -- for what it stood for, behind an `exists` that is consumed
  Leave : (x : Name) (type : TypeName) (old : Option T) → Job T
  -- to have these names again behind a definition that is consumed, and to match each of its
  -- outputs with its expression
  Yield : (outputs : Names Expr) (reading : Reading T) (kept : Names T) → Job T
  -- to have these names again behind a definition that is consumed, and to add the chunk of the
  -- predicate at this position with these inputs and the definition's outputs
  Fold : (pred : ℕ) (inputs : List T) (outputs : List Name) (kept : Names T) → Job T
  -- to take the cell at a key, whatever it holds
  Fill : (key : T) → Job T
  -- to let the outside write
  Havoc : Job T
  -- to find the cell at an index and to owe that it has a number
  Compare : (index number : ℕ) → Job T
  -- to take the chunk of a register and to owe that it has this value
  Restore : (register : Name) (value : T) → Job T
  -- to find the phase by these conditions
  Decide : (cases : List When) (otherwise : Phase) (chosen : Chosen T) → Job T
  -- to take kept places one by one, those already taken having these values; then to owe the change
  -- of a block and to consume what the phase asks for
  Exit : (places : List KeptPlace) (taken : List T) (block : Block) (before : List T)
      (guard : Assertion) → Job T

-- what a walk has beside its world, its chunks and its steps: names, the last value and jobs
pub record Point (T : Type 0) : Type 0 where
  pub names : Names T
  pub last : T
  pub jobs : List (Job T)

-- a walk
pub record Walk : Type 0 where
  pub world : World
  pub chunks : List Chunk
  pub point : Point Term
  pub steps : ℕ

-- what an option of a choice comes to
pub data Taken : Type 0 where
  -- it is not walked
  Pruned : Taken
  -- the path with this choice closes
  Shut : Taken
  -- the path with this choice goes on
  Goes : (walk : Walk) → Taken
  -- the path with this choice is at a limit
  Past : (kind : Kind) → Taken

-- what one step of a path comes to
pub data Moved : Type 0 where
  -- there is nothing left to do
  Ended : Moved
  On : (walk : Walk) → Moved
  Closed : Moved
  -- a choice among these options, in order
  Choose : (options : List Taken) → Moved
  -- what is owed and does not hold, with what is left of it, in the world in which it was owed
  Owed : (world : World) (residue : Term) → Moved
  Limit : (kind : Kind) → Moved

-- a walk with other names
abbrev pub with_names : Names Term → Walk → Walk
with_names names w = record w { point = record (w.point) { names = names } }

-- a walk with another last value
abbrev pub with_last : Term → Walk → Walk
with_last last w = record w { point = record (w.point) { last = last } }

-- a walk with these jobs alone
abbrev pub with_jobs : List (Job Term) → Walk → Walk
with_jobs jobs w = record w { point = record (w.point) { jobs = jobs } }

-- a walk with these jobs before its own
abbrev pub and_jobs : List (Job Term) → Walk → Walk
and_jobs jobs w = record w { point = record (w.point) { jobs = jobs ++ w.point.jobs } }

-- a walk with other chunks
abbrev pub with_chunks : List Chunk → Walk → Walk
with_chunks chunks w = record w { chunks = chunks }

-- a walk in another world
abbrev pub in_world : World → Walk → Walk
in_world world w = record w { world = world }

-- the returns of calls among jobs: the body that the item runs has depth 1
abbrev pub returns_of_calls : {T : Type 0} → List (Job T) → ℕ
returns_of_calls [] = 0
returns_of_calls (Return OfCall kept ∷ jobs) = 1 + returns_of_calls jobs
returns_of_calls (_ ∷ jobs) = returns_of_calls jobs
