-- What every step asks: the types and normal forms of terms, goals, and whether a world closes.
use Rattle.std.specs.Prelude.{◌+◌, ◌++◌, not, Bool, true, false, nat_lt, if◌then◌else◌, List, [], ◌∷◌, length, Option, None, Some, Result, Ok, Err}
use Rattle.kat_value.specs.Signatures.{same_type}
use Rattle.kat_value.specs.declared.op.Op.TheVariants.{Not}
use Rattle.kat_value.specs.declared.types.Ty.{Ty}
use Rattle.kat_value.specs.declared.types.Ty.TheVariants as ty
use Rattle.kat_ast.specs.declared.decl.DeclForm.{DeclForm}
use Rattle.kat_ast.specs.declared.expr.Expr.{Expr}
use Rattle.kat_syntax.specs.TypeTable.{types_of_decls}
use Rattle.kat_term.specs.declared.kind.Kind.{Kind}
use Rattle.kat_term.specs.declared.kind.Kind.TheVariants as kind
use Rattle.kat_term.specs.declared.prover.Answer.{Answer}
use Rattle.kat_term.specs.declared.prover.Answer.TheVariants.{Proved, Contradiction, Residue}
use Rattle.kat_term.specs.declared.term.Term.{Term}
use Rattle.kat_term.specs.Fresh.{Fresh, fresh_of}
use Rattle.kat_term.specs.Growth.{with_fresh}
use Rattle.kat_term.specs.Limits.{max_vars}
use Rattle.kat_term.specs.Provers.{Left, Normal}
use Rattle.kat_term.specs.Types.{type_of}
use Rattle.kat_term.specs.Views.{one, truth, truth_of}
use Rattle.kat_term.specs.Worlds.{World, with_formula}
use Rattle.kat_chunk.specs.declared.chunk.Chunk.{Chunk}
use Rattle.kat_chunk.specs.Limits.{max_chunks}
use Rattle.kat_heap.specs.Limits.{max_steps}
use Rattle.kat_heap.specs.Terms.{Sources, term_of_expr}
use Rattle.kat_heap.specs.Walks.{Moved, Closed, Choose, Limit, On, Owed, Taken, Goes, Pruned, Shut, Walk, in_world, with_chunks}

-- what a prover answers: the normal form of a term, and what is left of a goal
pub record Answers : Type 0 where
  pub normal : Normal
  pub left : Left

-- which types are wanted of a term
abbrev pub Wanted : Type 0
Wanted = Ty → Bool

-- whether there is a type that is wanted
abbrev pub is_wanted : Wanted → Option Ty → Bool
is_wanted wanted None = false
is_wanted wanted (Some t) = wanted t

-- any type
abbrev pub any_type : Wanted
any_type t = true

-- whether a term is the literal `false`
abbrev pub is_false_in : Option Bool → Bool
is_false_in (Some false) = true
is_false_in _ = false

-- goes on with a normal form
abbrev pub normed : Result Term Kind → (Term → Moved) → Moved
normed (Ok term) go = go term
normed (Err limit) go = Limit limit

-- what an answer to an owed goal comes to: a residue is owed, and the path closes where the
-- formulas contradict one another or what is proved is `false`
abbrev pub answered : World → Answer → Bool → Moved → Moved
answered world (Residue term) literal next = Owed world term
answered world Contradiction literal next = Closed
answered world Proved true next = Closed
answered world Proved false next = next

-- a walk goes on, unless its world closes
abbrev pub unless_closed : Answer → Walk → Moved
unless_closed Contradiction w = Closed
unless_closed _ w = On w

-- an option that is taken goes on, unless its world closes
abbrev pub unless_shut : Answer → Walk → Taken
unless_shut Contradiction w = Shut
unless_shut _ w = Goes w

-- an option is pruned where something but a residue is left of its formula's negation
abbrev pub unless_pruned : Answer → Taken → Taken
unless_pruned (Residue term) taken = taken
unless_pruned _ taken = Pruned

-- options with one more before them
abbrev pub option_before : Taken → Result (List Taken) Kind → Result (List Taken) Kind
option_before taken (Ok options) = Ok (taken ∷ options)
option_before taken (Err limit) = Err limit

-- an option whose negation has this normal form, before others
abbrev pub option_by :
    Result Term Kind → Taken → Result (List Taken) Kind → Result (List Taken) Kind
option_by (Ok normal) taken options = option_before taken options
option_by (Err limit) taken options = Err limit

-- a choice among options, or the limit that the negation of a formula passes
abbrev pub chosen_among : Result (List Taken) Kind → Moved
chosen_among (Ok options) = Choose options
chosen_among (Err limit) = Limit limit

-- an option of a choice: its formula, and the walk that it leads to beside the formula
pub record Possible : Type 0 where
  pub formula : Term
  pub walk : Walk

-- a step is counted
abbrev pub counted : Walk → (Walk → Moved) → Moved
counted w go =
    if nat_lt w.steps max_steps then go (record w { steps = w.steps + 1 }) else Limit kind.Steps

-- a chunk is added at the end
abbrev pub adding : Chunk → Walk → (Walk → Moved) → Moved
adding chunk w go =
    if nat_lt (length w.chunks) max_chunks
    then go (with_chunks (w.chunks ++ chunk ∷ []) w)
    else Limit kind.Chunks

-- whether a world has room for the variables of a fresh value
abbrev pub has_room : World → Fresh → Bool
has_room world fresh = not (nat_lt max_vars (length world.vars + length fresh.vars))

-- a fresh value of a type in a world
abbrev pub fresh_in : List DeclForm → Ty → World → Fresh
fresh_in decls t world = fresh_of (types_of_decls decls) t (length world.vars)

-- goes on with a fresh value of a type
abbrev pub growing : List DeclForm → Ty → Walk → (Term → Walk → Moved) → Moved
growing decls t w go =
    if has_room w.world (fresh_in decls t w.world)
    then go (fresh_in decls t w.world).term
    (in_world (with_fresh w.world (fresh_in decls t w.world)) w)
    else Limit kind.Vars

-- what is asked of a prover, among the declarations of a specification
module _ (answers : Answers) (decls : List DeclForm) where
  -- the type of a term in the world of a walk
  abbrev pub type_in : Walk → Term → Option Ty
  type_in w term = type_of (types_of_decls decls) w.world.vars term

  -- whether a term is a formula of the world of a walk
  abbrev pub is_formula : Walk → Term → Bool
  is_formula w term = is_wanted (same_type ty.Bool) (type_in w term)

  -- asks a formula as a goal: its normal form first, then what is left of it
  abbrev pub asked : Walk → Term → Moved → Moved
  asked w goal next =
      normed (answers.normal w.world goal)
      (λ normal. answered w.world (answers.left w.world goal) (is_false_in (truth_of normal)) next)

  -- owes `false`
  abbrev pub owe_false : Walk → Moved
  owe_false w = asked w (truth false) Closed

  -- goes on with what there is; where there is nothing, the path owes `false`
  abbrev pub known : {A : Type 0} → Option A → Walk → (A → Moved) → Moved
  known None w go = owe_false w
  known (Some a) w go = go a

  -- owes a goal and goes on; what is no formula owes `false`
  abbrev pub owe : Walk → Term → Moved → Moved
  owe w goal next = if is_formula w goal then asked w goal next else owe_false w

  -- goes on with the normal form of a term of a wanted type; what has no such type owes `false`
  abbrev pub termed : Option Term → Wanted → Walk → (Term → Moved) → Moved
  termed None wanted w go = owe_false w
  termed (Some term) wanted w go =
      if is_wanted wanted (type_in w term)
      then normed (answers.normal w.world term) go
      else owe_false w

  -- goes on with the term of an expression
  abbrev pub with_term : Sources → Expr → Wanted → Walk → (Term → Moved) → Moved
  with_term sources e wanted w go = termed (term_of_expr decls sources e) wanted w go

  -- goes on with the terms of expressions, one of each wanted type, from left to right
  abbrev pub with_terms : Sources → List Expr → List Wanted → Walk → (List Term → Moved) → Moved
  with_terms sources [] [] w go = go []
  with_terms sources [] (wanted ∷ more) w go = owe_false w
  with_terms sources (e ∷ es) [] w go = owe_false w
  with_terms sources (e ∷ es) (wanted ∷ more) w go =
      with_term sources e wanted w (λ term.
      with_terms sources es more w (λ terms. go (term ∷ terms)))

  -- assumes a formula: the path closes where the world then closes
  abbrev pub assumed : Term → Walk → Moved
  assumed formula w =
      unless_closed (answers.left (with_formula w.world formula) (truth true))
      (in_world (with_formula w.world formula) w)

  -- an option with its formula assumed
  abbrev pub taken_of : World → Possible → Taken
  taken_of world possible =
      unless_pruned (answers.left world (one Not possible.formula))
      (unless_shut (answers.left (with_formula world possible.formula) (truth true))
      (in_world (with_formula world possible.formula) possible.walk))

  -- the options of a choice: the negations of all formulas are asked in order
  abbrev pub options_of : World → List Possible → Result (List Taken) Kind
  options_of world [] = Ok []
  options_of world (possible ∷ more) =
      option_by (answers.normal world (one Not possible.formula)) (taken_of world possible)
      (options_of world more)

  -- a choice
  abbrev pub choose : World → List Possible → Moved
  choose world possible = chosen_among (options_of world possible)

  -- a condition decides where it is a literal, and else is a choice
  abbrev pub branch_by : Option Bool → Term → Walk → Walk → Walk → Moved
  branch_by (Some true) test w first second = On first
  branch_by (Some false) test w first second = On second
  branch_by None test w first second =
      choose w.world
      (record { formula = test; walk = first }
      ∷ record { formula = one Not test; walk = second } ∷ [])

  -- a condition with what follows where it is true, and where it is false
  abbrev pub branch : Term → Walk → Walk → Walk → Moved
  branch test w first second = branch_by (truth_of test) test w first second
