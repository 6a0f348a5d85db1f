-- Small walks, and what a step of them comes to, worked out by hand.
use Rattle.std.specs.Prelude.{◌≡◌, true, false, ℕ, List, [], ◌∷◌, length, Some, Ok}
use Rattle.kat_value.specs.declared.op.Op.TheVariants.{And, Eq, Not, Or, Ule}
use Rattle.kat_value.specs.declared.types.Ty.TheVariants as ty
use Rattle.kat_value.specs.declared.value.Value.{Value}
use Rattle.kat_ast.specs.declared.assertion.Assertion.{Assertion}
use Rattle.kat_ast.specs.declared.assertion.Assertion.TheOpen as assertion
use Rattle.kat_ast.specs.declared.assertion.Assertion.TheViews.{roll-Assertion}
use Rattle.kat_ast.specs.declared.decl.Block.{Block}
use Rattle.kat_ast.specs.declared.decl.DeclForm.{DeclForm}
use Rattle.kat_ast.specs.declared.decl.DeclForm.TheVariants as d
use Rattle.kat_ast.specs.declared.decl.Phase.TheVariants as phase
use Rattle.kat_ast.specs.declared.decl.RegisterKind.TheVariants as register
use Rattle.kat_ast.specs.declared.expr.Expr.{Expr}
use Rattle.kat_ast.specs.declared.expr.Expr.TheOpen as expr
use Rattle.kat_ast.specs.declared.expr.Expr.TheViews.{roll-Expr}
use Rattle.kat_ast.specs.declared.stm.Stm.{Stm}
use Rattle.kat_ast.specs.declared.stm.Stm.TheOpen as stm
use Rattle.kat_ast.specs.declared.stm.Stm.TheViews.{roll-Stm}
use Rattle.kat_ast.specs.declared.type_name.TypeName.TheVariants as type
use Rattle.kat_syntax.specs.Fragments.{one_register}
use Rattle.kat_syntax.specs.Tables.{Name}
use Rattle.kat_claims.specs.Names.{names_of_assertion}
use Rattle.kat_term.specs.Provers.{Left}
use Rattle.kat_term.specs.Views.{bits, one, truth, two, unit}
use Rattle.kat_term.specs.Worlds.{World, with_formula}
use Rattle.kat_term.specs.declared.kind.Kind.TheVariants as kind
use Rattle.kat_term.specs.declared.prover.Answer.TheVariants.{Proved, Contradiction, Residue}
use Rattle.kat_term.specs.declared.term.Term.{Term}
use Rattle.kat_term.specs.declared.term.Term.TheVariants.{Make, Var}
use Rattle.kat_chunk.specs.declared.chunk.Chunk.{Chunk}
use Rattle.kat_chunk.specs.declared.chunk.Chunk.TheVariants as chunk
use Rattle.kat_heap.specs.declared.mode.Mode.TheVariants.{ByContract, Inline}
use Rattle.kat_heap.specs.Asking.{Answers}
use Rattle.kat_heap.specs.Met.{Carries, HasRegisters, registers_of_expr}
use Rattle.kat_heap.specs.Walks.{Bind, Bound, Consume, Fresh, Havoc, Match, Owe, Produce, Return, Run, Yield, OfCall, OfContract, OfScope, Plain, Job, Names, Choose, Limit, On, Owed, Goes, Pruned, Walk, Closed, Decide, BehindCycle, OnlyIn}
use Rattle.kat_exec.specs.Items.{OfFunction, start_of}
use Rattle.kat_exec.specs.Lemmas.{JobsUse}
use Rattle.kat_exec.specs.Outcome.{Asks, Ends, NoOption, Owes, outcome_in}
use Rattle.kat_exec.specs.Steps.{step}

-- names: a register, a region, a predicate, a function, and locals
abbrev pub r : Name
r = 114 ∷ []

abbrev pub g : Name
g = 103 ∷ []

abbrev pub p : Name
p = 112 ∷ []

abbrev pub f : Name
f = 102 ∷ []

abbrev pub x : Name
x = 120 ∷ []

abbrev pub y : Name
y = 121 ∷ []

-- names of parameters, of a result, of a union and of its constructors
abbrev pub a : Name
a = 97 ∷ []

abbrev pub b : Name
b = 98 ∷ []

abbrev pub o : Name
o = 111 ∷ []

abbrev pub u : Name
u = 117 ∷ []

abbrev pub k : Name
k = 107 ∷ []

abbrev pub l : Name
l = 108 ∷ []

-- an expression that is a name
abbrev pub the : Name → Expr
the name = roll-Expr (expr.Name name)

-- `(star)`, which says nothing, and `(ret x)`
abbrev pub anything : Assertion
anything = roll-Assertion (assertion.Star [])

abbrev pub gives : Name → Stm
gives name = roll-Stm (stm.Ret (the name))

-- `(ule (bits 8 4) y)`: the guard of the region
abbrev pub from_four : Expr
from_four =
    roll-Expr (expr.Apply Ule (roll-Expr (expr.Bits 8 4) ∷ the y ∷ []))

-- the contract of the function
abbrev pub precondition : Assertion
precondition = roll-Assertion (assertion.Pure (roll-Expr (expr.Apply Eq (the b ∷ the a ∷ []))))

abbrev pub postcondition : Assertion
postcondition = roll-Assertion (assertion.Pure (roll-Expr (expr.Apply Eq (the o ∷ the b ∷ []))))

-- the definition of the predicate
abbrev pub definition : Assertion
definition = roll-Assertion (assertion.Register r (the b))

-- a machine of two registers, the second an outside one, a memory of the indices 0 to 15, a union,
-- a region of the cells from 4 on, a predicate of an input and an output, and a function with a
-- contract that has one name
abbrev pub machine : List DeclForm
machine =
    d.Register r (type.Bits 8) register.Plain
    ∷ d.Register o (type.Bits 8) register.Outside
    ∷ d.Memory 8 8 0 16
    ∷ d.Union u (record { name = k; ty = type.Bits 8 } ∷ record { name = l; ty = type.Unit } ∷ [])
    ∷ d.Region g [] y from_four
    ∷ d.Predicate p (record { name = a; ty = type.Bits 8 } ∷ [])
    (record { name = b; ty = type.Bits 8 } ∷ []) definition
    ∷ d.Fun f (record { name = a; ty = type.Bits 8 } ∷ []) (type.Bits 8) (gives a)
    ∷ d.Contract f (record { name = b; ty = type.Bits 8 } ∷ []) precondition o postcondition
    ∷ []

-- a prover that leaves terms as they are, and answers goals so
abbrev pub answering : Left → Answers
answering left = record { normal = λ world term. Ok term; left = left }

-- a prover to which every goal is a residue
abbrev pub knowing_nothing : Answers
knowing_nothing = answering (λ world goal. Residue goal)

-- two variables of 8 bits, a truth, and a value of the union
abbrev pub four : World
four = record { vars = ty.Bits 8 ∷ ty.Bits 8 ∷ ty.Bool ∷ ty.Union 0 ∷ []; formulas = [] }

-- the same with one variable more, of 8 bits
abbrev pub five : World
five = record {
  vars = ty.Bits 8 ∷ ty.Bits 8 ∷ ty.Bool ∷ ty.Union 0 ∷ ty.Bits 8 ∷ [];
  formulas = [];
}

-- a walk in a world, with these chunks, names, last value and jobs, behind so many steps
abbrev pub in_a : World → List Chunk → Names Term → Term → List (Job Term) → ℕ → Walk
in_a world chunks names last jobs steps = record {
  world = world;
  chunks = chunks;
  point = record { names = names; last = last; jobs = jobs };
  steps = steps;
}

-- the same among the four variables
abbrev pub walking : List Chunk → Names Term → Term → List (Job Term) → ℕ → Walk
walking chunks names last jobs steps = in_a four chunks names last jobs steps

-- a world of a formula more
abbrev pub assuming : Term → World
assuming formula = with_formula four formula

-- two cells and a region with a hole
abbrev pub cells : List Chunk
cells =
    chunk.Cell (Var 1) (Var 0) ∷ chunk.Cell (bits 8 3) (Var 0)
    ∷ chunk.Region 0 [] (Var 1 ∷ []) ∷ []

-- the goals by which they are asked for the cell at the first variable
abbrev pub first_goal : Term
first_goal = two Eq (Var 1) (Var 0)

abbrev pub second_goal : Term
second_goal = two Eq (bits 8 3) (Var 0)

abbrev pub region_goal : Term
region_goal =
    two And (two Ule (bits 8 0) (Var 0))
    (two And (two Ule (Var 0) (bits 8 15))
    (two And (two Ule (bits 8 4) (Var 0)) (one Not (two Eq (Var 1) (Var 0)))))

-- `(load x)`, and `(if y (ret x) (ret x))`
abbrev pub loads : Stm
loads = roll-Stm (stm.Load (the x))

abbrev pub decides : Stm
decides = roll-Stm (stm.If (the y) (gives x) (gives y))

-- x is the first variable, and y the truth
abbrev pub two_names : Names Term
two_names = (x, Var 0) ∷ (y, Var 2) ∷ []

-- registers: a write puts the value into the chunk, a read gives it, and without a chunk a read
-- owes `false`
pub record RegistersComeOut : Type 0 where
  pub written :
      (left : Left) →
      step (answering left) machine ByContract
      (walking (chunk.Reg 0 (Var 1) ∷ []) ((x, Var 0) ∷ []) (Var 1)
      (Run (roll-Stm (stm.Write r (the x))) ∷ []) 0)
      ≡ On (walking (chunk.Reg 0 (Var 0) ∷ []) ((x, Var 0) ∷ []) unit [] 1)
  pub read :
      (left : Left) →
      step (answering left) machine Inline
      (walking (chunk.Reg 0 (Var 1) ∷ chunk.Reg 0 (Var 0) ∷ []) [] unit
      (Run (roll-Stm (stm.Read r)) ∷ []) 0)
      ≡ On (walking (chunk.Reg 0 (Var 1) ∷ chunk.Reg 0 (Var 0) ∷ []) [] (Var 1) [] 1)
  pub not_owned :
      (left : Left) (term : Term) → left four (truth false) ≡ Residue term →
      step (answering left) machine ByContract
      (walking [] [] unit (Run (roll-Stm (stm.Read r)) ∷ []) 0)
      ≡ Owed four term
  pub outside_written :
      (left : Left) →
      step (answering left) machine ByContract
      (walking (chunk.Reg 0 (Var 0) ∷ chunk.Reg 1 (Var 1) ∷ []) [] unit (Havoc ∷ []) 0)
      ≡ On (in_a five (chunk.Reg 0 (Var 0) ∷ chunk.Reg 1 (Var 4) ∷ []) [] unit [] 0)

-- choices: both options in order, one that is pruned, and the options of a union with their
-- payloads
pub record ChoicesComeOut : Type 0 where
  pub two_paths :
      step knowing_nothing machine Inline (walking [] two_names unit (Run decides ∷ []) 0)
      ≡ Choose
      (Goes (in_a (assuming (Var 2)) [] two_names unit (Run (gives x) ∷ []) 1)
      ∷ Goes (in_a (assuming (one Not (Var 2))) [] two_names unit (Run (gives y) ∷ []) 1) ∷ [])
  pub pruned :
      (left : Left) (s t : Term) →
      left four (one Not (Var 2)) ≡ Proved →
      left four (one Not (one Not (Var 2))) ≡ Residue s →
      left (assuming (one Not (Var 2))) (truth true) ≡ Residue t →
      step (answering left) machine Inline (walking [] two_names unit (Run decides ∷ []) 0)
      ≡ Choose
      (Pruned
      ∷ Goes (in_a (assuming (one Not (Var 2))) [] two_names unit (Run (gives y) ∷ []) 1) ∷ [])
  pub payloads :
      (left : Left) (t : Term) →
      left (with_formula five (two Eq (Var 3) (Make 0 0 (Var 4)))) (truth true) ≡ Residue t →
      left (with_formula four (two Eq (Var 3) (Make 0 1 unit))) (truth true) ≡ Contradiction →
      step (answering left) machine Inline
      (walking [] ((x, Var 3) ∷ []) unit
      (Run (roll-Stm (stm.Match (the x)
      (record { ctor = l; payload = y; body = gives x }
      ∷ record { ctor = k; payload = y; body = gives y } ∷ []))) ∷ []) 0)
      ≡ Choose
      (Goes (in_a (with_formula five (two Eq (Var 3) (Make 0 0 (Var 4)))) []
      ((y, Var 4) ∷ (x, Var 3) ∷ []) unit
      (Run (gives y) ∷ Return OfScope ((x, Var 3) ∷ []) ∷ []) 1)
      ∷ Pruned ∷ [])

-- calls: by contract, and in place
pub record CallsComeOut : Type 0 where
  pub by_contract :
      (left : Left) →
      step (answering left) machine ByContract
      (walking [] ((x, Var 0) ∷ []) unit (Run (roll-Stm (stm.Call f (the x ∷ []))) ∷ []) 0)
      ≡ On (walking [] ((a, Var 0) ∷ []) unit
      (Consume Plain precondition ∷ Bound (record { name = b; ty = type.Bits 8 } ∷ [])
      ∷ Fresh (ty.Bits 8) ∷ Bind o ∷ Produce Plain postcondition
      ∷ Return OfContract ((x, Var 0) ∷ []) ∷ []) 1)
  pub in_place :
      (left : Left) →
      step (answering left) machine Inline
      (walking [] ((x, Var 0) ∷ []) unit (Run (roll-Stm (stm.Call f (the x ∷ []))) ∷ []) 0)
      ≡ On (walking [] ((a, Var 0) ∷ []) unit
      (Run (gives a) ∷ Return OfCall ((x, Var 0) ∷ []) ∷ []) 1)

-- searches: past two cells into a region with a hole, whose cell has any value; one that finds
-- nothing, which owes the `or` of what was left; and a cell that comes out of a region
pub record SearchesComeOut : Type 0 where
  pub into_region :
      (left : Left) (s t : Term) →
      left four first_goal ≡ Residue s → left four second_goal ≡ Residue t →
      left four region_goal ≡ Proved →
      step (answering left) machine Inline (walking cells two_names unit (Run loads ∷ []) 0)
      ≡ On (in_a five cells two_names (Var 4) [] 1)
  pub nothing_found :
      step knowing_nothing machine Inline (walking cells two_names unit (Run loads ∷ []) 0)
      ≡ Owed four (two Or first_goal (two Or second_goal region_goal))
  pub out_of_region :
      (left : Left) (s t : Term) →
      left four first_goal ≡ Residue s → left four second_goal ≡ Residue t →
      left four region_goal ≡ Proved →
      step (answering left) machine Inline
      (walking cells two_names unit
      (Consume Plain (roll-Assertion (assertion.Cell (the x) (the a))) ∷ []) 0)
      ≡ On (in_a five
      (chunk.Cell (Var 1) (Var 0) ∷ chunk.Cell (bits 8 3) (Var 0)
      ∷ chunk.Region 0 [] (Var 1 ∷ Var 0 ∷ []) ∷ [])
      ((a, Var 4) ∷ two_names) unit [] 1)

-- predicates: one that is consumed by its definition, and one that is a chunk
pub record PredicatesComeOut : Type 0 where
  pub by_definition :
      (left : Left) →
      step (answering left) machine ByContract
      (walking [] ((x, Var 0) ∷ []) unit
      (Consume Plain (roll-Assertion (assertion.Predicate p (the x ∷ the y ∷ []))) ∷ []) 0)
      ≡ On (walking [] ((a, Var 0) ∷ []) unit
      (Consume Plain definition ∷ Yield ((b, the y) ∷ []) Plain ((x, Var 0) ∷ []) ∷ []) 1)
  pub by_chunk :
      (left : Left) → left four (two Eq (Var 1) (Var 0)) ≡ Proved →
      step (answering left) machine ByContract
      (walking (chunk.Pred 0 (Var 1 ∷ Var 0 ∷ []) ∷ []) ((x, Var 0) ∷ []) unit
      (Consume Plain (roll-Assertion (assertion.Predicate p (the x ∷ the y ∷ []))) ∷ []) 0)
      ≡ On (walking [] ((x, Var 0) ∷ []) unit (Match (Var 0) Plain (the y) ∷ []) 1)

-- limits: steps, and chunks
pub record LimitsComeOut : Type 0 where
  pub of_steps :
      (left : Left) →
      step (answering left) machine Inline
      (walking [] [] unit (Run (roll-Stm (stm.Read r)) ∷ []) 1000000)
      ≡ Limit kind.Steps
  pub of_chunks :
      (left : Left) (chunks : List Chunk) → length chunks ≡ 1024 →
      step (answering left) machine Inline
      (walking chunks ((x, Var 0) ∷ []) unit
      (Produce Plain (roll-Assertion (assertion.Register r (the x))) ∷ []) 0)
      ≡ Limit kind.Chunks

-- paths: what is owed with its formulas, by the list of choices; a choice that is asked for; one
-- that is not; an end
pub record PathsComeOut : Type 0 where
  pub owes :
      (left : Left) (t : Term) → left (assuming (Var 2)) (Var 2) ≡ Residue t →
      outcome_in (answering left) machine Inline 1
      (in_a (assuming (Var 2)) [] two_names unit (Run (roll-Stm (stm.Check (the y))) ∷ []) 0) 0 []
      ≡ Some (Owes (assuming (Var 2)) t)
  pub asks :
      outcome_in knowing_nothing machine Inline 1
      (walking [] two_names unit (Run decides ∷ []) 0) 0 []
      ≡ Some Asks
  pub no_option :
      outcome_in knowing_nothing machine Inline 1
      (walking [] two_names unit (Run decides ∷ []) 0) 0 (2 ∷ [])
      ≡ Some (NoOption 0)
  pub ends :
      outcome_in knowing_nothing machine Inline 3
      (walking [] two_names unit (Run decides ∷ []) 0) 0 (1 ∷ [])
      ≡ Some Ends
  pub too_long :
      outcome_in knowing_nothing machine Inline 3
      (walking [] two_names unit (Run decides ∷ []) 0) 0 (1 ∷ 0 ∷ [])
      ≡ Some (NoOption 1)

-- `(eq (reg r) (bits 8 0))`, and the choice that it is
abbrev pub at_zero : Expr
at_zero =
    roll-Expr
    (expr.Apply Eq (roll-Expr (expr.Register r) ∷ roll-Expr (expr.Bits 8 0) ∷ []))

abbrev pub zero_goal : Term
zero_goal = two Eq (Var 1) (bits 8 0)

-- the chunk of the first register
abbrev pub owned : List Chunk
owned = chunk.Reg 0 (Var 1) ∷ []

-- phases: a condition of the dispatch is a choice, in which a register is that of its first chunk;
-- where the phase is known, another than the one that is kept closes
pub record PhasesComeOut : Type 0 where
  pub asked :
      step knowing_nothing machine Inline
      (walking owned [] unit
      (Decide (record { test = at_zero; phase = phase.Untrusted } ∷ []) phase.Inside
      (OnlyIn phase.Untrusted) ∷ []) 0)
      ≡ Choose
      (Goes (in_a (assuming zero_goal) owned [] unit
      (Decide [] phase.Untrusted (OnlyIn phase.Untrusted) ∷ []) 0)
      ∷ Goes (in_a (assuming (one Not zero_goal)) owned [] unit
      (Decide [] phase.Inside (OnlyIn phase.Untrusted) ∷ []) 0) ∷ [])
  pub closes :
      (left : Left) →
      step (answering left) machine Inline
      (walking owned [] unit (Decide [] phase.Inside (OnlyIn phase.Untrusted) ∷ []) 0)
      ≡ Closed
  pub stays :
      (left : Left) →
      step (answering left) machine Inline
      (walking owned [] unit (Decide [] phase.Untrusted (OnlyIn phase.Untrusted) ∷ []) 0)
      ≡ On (walking owned [] unit [] 0)

-- items: where that of the function starts
pub record ItemsComeOut : Type 0 where
  pub of_function :
      start_of machine (OfFunction (record {
        function = f;
        names = record { name = b; ty = type.Bits 8 } ∷ [];
        pre = precondition;
        result = o;
        post = postcondition;
      }))
      ≡ Ok (in_a (record { vars = ty.Bits 8 ∷ ty.Bits 8 ∷ []; formulas = [] }) []
      ((b, Var 1) ∷ (a, Var 0) ∷ []) unit
      (Produce Plain precondition ∷ Return OfScope ((a, Var 0) ∷ []) ∷ Run (gives a)
      ∷ Return OfScope ((b, Var 1) ∷ (a, Var 0) ∷ []) ∷ Bind o ∷ Consume Plain postcondition
      ∷ []) 0)

-- `(lemma l)`, and `(seq (ret x) (lemma l))`
abbrev pub says : Stm
says = roll-Stm (stm.Lemma l [])

abbrev pub then_says : Stm
then_says = roll-Stm (stm.Seq (gives x ∷ says ∷ []))

-- a function without a contract whose body is `(lemma l)`, and a call of it
abbrev pub sayer : List DeclForm
sayer = d.Fun g [] type.Unit says ∷ []

abbrev pub asks_it : Stm
asks_it = roll-Stm (stm.Call g [])

-- declarations whose step function is that function, and a job behind a cycle of a block that may
-- have so many more
abbrev pub stepper : List DeclForm
stepper = d.Step g ∷ sayer

abbrev pub behind_cycle : Block → ℕ → Job Term
behind_cycle block left = Decide [] phase.Inside (BehindCycle block [] left)

-- lemmas that are used: by a proof statement, by one that stands in a statement, and none beside
-- it; by the body of a function, but not where it has a contract; none in place; and by the step
-- function behind a cycle of a block, where one more may follow
pub record LemmasComeOut : Type 0 where
  pub said : JobsUse machine l ByContract (Owe unit ∷ Run says ∷ [])
  pub in_part : JobsUse machine l ByContract (Owe unit ∷ Run then_says ∷ [])
  pub no_other :
      (m : Name) → JobsUse machine m ByContract (Owe unit ∷ Run then_says ∷ []) → m ≡ l
  pub in_body : JobsUse sayer l ByContract (Owe unit ∷ Run asks_it ∷ [])
  pub by_contract :
      (m : Name) →
      JobsUse (d.Contract g [] anything o anything ∷ sayer) m ByContract
      (Owe unit ∷ Run asks_it ∷ []) → ⊥
  pub in_place : (m : Name) → JobsUse sayer m Inline (Owe unit ∷ Run asks_it ∷ []) → ⊥
  pub behind : (block : Block) → JobsUse stepper l ByContract (behind_cycle block 1 ∷ [])
  pub none_behind : (block : Block) → JobsUse stepper l ByContract (behind_cycle block 0 ∷ []) → ⊥

-- `(make x (get x x (rec x (reg r) (reg o))))`
abbrev pub nested : Expr
nested =
    roll-Expr (expr.Make x (roll-Expr (expr.Get x x
    (roll-Expr (expr.Rec x (roll-Expr (expr.Register r) ∷ roll-Expr (expr.Register o) ∷ []))))))

-- the registers that a condition of the dispatch reads, in its parts too: a fragment has them, and
-- another has not
pub record RegistersAreRead : Type 0 where
  pub are_read : registers_of_expr at_zero ≡ r ∷ []
  pub in_parts : registers_of_expr nested ≡ r ∷ o ∷ []
  pub are_there : (v : Value) → HasRegisters machine (one_register 0 v) at_zero
  pub are_not_there : (v : Value) → HasRegisters machine (one_register 1 v) at_zero → ⊥

-- `(reg r x)`, which may bind x and no other name
abbrev pub of_register : Assertion
of_register = roll-Assertion (assertion.Register r (the x))

pub record NamesComeOut : Type 0 where
  pub bound :
      (v w : Value) →
      Carries ((y, w) ∷ []) ((x, v) ∷ (y, w) ∷ []) (names_of_assertion of_register)
  pub not_bound :
      (v w : Value) →
      Carries ((y, w) ∷ []) ((a, v) ∷ (y, w) ∷ []) (names_of_assertion of_register) → ⊥

-- what small walks and paths come to
pub record ExamplesComeOut : Type 0 where
  pub registers : RegistersComeOut
  pub choices : ChoicesComeOut
  pub calls : CallsComeOut
  pub searches : SearchesComeOut
  pub predicates : PredicatesComeOut
  pub limits : LimitsComeOut
  pub paths : PathsComeOut
  pub phases : PhasesComeOut
  pub items : ItemsComeOut
  pub lemmas : LemmasComeOut
  pub registers_read : RegistersAreRead
  pub names : NamesComeOut
