-- How the small machines boot, and what their statements do.
use Rattle.std.proofs.Common.{◌≡◌, ◌∙◌, ℕ, Bool, true, List, [], ◌∷◌, Option, Some, refl, sym, ap, subst}
use Rattle.kat_value.specs.declared.types.Ty.{Ty}
use Rattle.kat_value.specs.declared.types.Ty.TheVariants as ty
use Rattle.kat_value.specs.declared.types.TypeDecl.{TypeDecl}
use Rattle.kat_value.specs.declared.value.Value.{Value, fold-roll-Value, map-Value, roll-Value}
use Rattle.kat_value.specs.declared.value.Value.TheOpen as layer
use Rattle.kat_value.specs.declared.value.Value.TheVariants as value
use Rattle.kat_value.specs.declared.value.Value.TheVariants.{rolls-Bool}
use Rattle.kat_value.specs.Typing.{has_type, layer_has_type}
use Rattle.kat_ast.specs.Spec.{Spec}
use Rattle.kat_ast.specs.declared.assertion.Assertion.TheOpen as assertion
use Rattle.kat_ast.specs.declared.decl.DeclForm.{DeclForm}
use Rattle.kat_ast.specs.declared.decl.Phase.{Phase}
use Rattle.kat_ast.specs.declared.decl.Phase.TheVariants as phase
use Rattle.kat_ast.specs.declared.decl.RegisterKind.{RegisterKind}
use Rattle.kat_ast.specs.declared.decl.When.{When}
use Rattle.kat_ast.specs.declared.expr.Expr.{Expr}
use Rattle.kat_ast.specs.declared.expr.Expr.TheOpen as expr
use Rattle.kat_ast.specs.declared.expr.Expr.TheFolds.{map-Expr, fold-roll-Expr}
use Rattle.kat_ast.specs.declared.expr.Expr.TheViews.{roll-Expr}
use Rattle.kat_ast.specs.declared.stm.Stm.{Stm}
use Rattle.kat_ast.specs.declared.stm.Stm.TheOpen as stm
use Rattle.kat_ast.specs.declared.stm.Stm.TheFolds.{map-Stm, fold-roll-Stm}
use Rattle.kat_ast.specs.declared.stm.Stm.TheViews.{roll-Stm}
use Rattle.kat_syntax.specs.Cycle.{CycleOutcome, Completed, as_cycle, cycle_of, stuck_place}
use Rattle.kat_syntax.specs.Evaluation.{Environment, expr_value, value_of_expr}
use Rattle.kat_syntax.specs.Fragments.{nothing, whole}
use Rattle.kat_syntax.specs.Holds.{predicates_of}
use Rattle.kat_syntax.specs.Machine.{MachineState}
use Rattle.kat_syntax.specs.Meaning.{Calls, Part, part_of, part_of_stm}
use Rattle.kat_syntax.specs.Outcomes.{at_site, inside, place_in}
use Rattle.kat_syntax.specs.Phases.{Boots, IsGuardedAt, IsWithoutAll, in_dispatch, phase_of, with_kept}
use Rattle.kat_syntax.specs.Run.{Cycle, Ended, run_of}
use Rattle.kat_syntax.specs.States.{IsState, KeptPlace, KeptRegister, KeptCell, kept_places}
use Rattle.kat_claims.specs.Machines.{block, machine_of, mode, state_of, when_block}
use Rattle.kat_claims.proofs.Layers.{closed}

-- one layer of an expression
pub expr_layer :
    (env : Environment) (layer : expr.Expr-F Expr) →
    value_of_expr env (roll-Expr layer)
    ≡ expr_value env (map-Expr Expr (Option Value) (value_of_expr env) layer)
expr_layer env layer = fold-roll-Expr (Option Value) (expr_value env) layer

-- one layer of a statement
pub stm_layer :
    (decls : List DeclForm) (calls : Calls) (layer : stm.Stm-F Stm) →
    part_of_stm decls calls (roll-Stm layer)
    ≡ part_of decls calls (map-Stm Stm Part (part_of_stm decls calls) layer)
stm_layer decls calls layer = fold-roll-Stm Part (part_of decls calls) layer

-- how a cycle ends whose body does this, with so many calls left in it
abbrev pub ends_as : List DeclForm → MachineState → ℕ → Part → CycleOutcome
ends_as decls state left part =
    as_cycle (stuck_place decls)
    (at_site (place_in 2)
    (inside 5 (part.does [] (record { state = state; left = left; stores = [] }))))

-- a cycle that leaves this state
abbrev pub leaves : MachineState → ℕ → CycleOutcome
leaves state left = Completed (record { state = state; left = left; stores = [] })

-- whether a value is of a type goes by its layer
pub typed_by_layer :
    (types : List TypeDecl) (one : layer.Value-F Value) (x : Value) (t : Ty) → roll-Value one ≡ x →
    has_type types x t ≡ layer_has_type types (map-Value Value (Ty → Bool) (has_type types) one) t
typed_by_layer types one x t is =
    ap (λ (v : Value). has_type types v t) (sym is)
    ∙ ap (λ (test : Ty → Bool). test t)
    (fold-roll-Value (Ty → Bool) (layer_has_type types) one)

-- truths are of their type
pub truth_has_type :
    (types : List TypeDecl) (b : Bool) → has_type types (value.Bool b) ty.Bool ≡ true
truth_has_type types b = typed_by_layer types (layer.Bool b) _ ty.Bool (rolls-Bool b)

-- the fragment of no place has no kept place
without_all :
    (decls : List DeclForm) (places : List KeptPlace) → IsWithoutAll decls nothing places
without_all decls [] = tt
without_all decls (KeptRegister r ∷ places) = (λ at e. refl, without_all decls places)
without_all decls (KeptCell i ∷ places) = (refl, without_all decls places)

module _ (kind : RegisterKind) (cases : List When) (otherwise : Phase) (change : Expr)
    (body : Stm) where
  -- its declarations, where the first case of the dispatch is the block
  abbrev pub of_block : List DeclForm
  of_block = machine_of kind (when_block ∷ cases) otherwise change body

  -- two truths are a state of it
  pub state_there : (a b : Bool) → IsState of_block (state_of a b)
  state_there a b = record {
    registers = simp (truth_has_type [] a, truth_has_type [] b);
    first = refl;
    count = refl;
    fitting = tt;
  }

  -- where the first is true its phase is the block
  pub block_phase : (b : Bool) → phase_of of_block (state_of true b) ≡ Some (phase.Block block)
  block_phase b = simp (expr_layer (in_dispatch of_block (state_of true b)) (expr.Register mode))

  -- it boots there
  pub boots_there : (b : Bool) → Boots of_block (state_of true b)
  boots_there b = record {
    name = block;
    declared = refl;
    phase = block_phase b;
    guarded = subst (IsGuardedAt of_block (state_of true b)) (sym (block_phase b)) (record {
      code = tt;
      owned = nothing;
      rest = whole (state_of true b);
      part = record { registers = λ at. refl; cells = λ index. refl };
      without_kept = without_all of_block (kept_places of_block);
      without_code = tt;
      holds = closed (predicates_of of_block) (assertion.Star [])
          (with_kept of_block (state_of true b)) nothing refl;
    });
  }

-- a run over two cycles that are completed
pub two_cycles :
    (spec : Spec) (s t u : MachineState) → cycle_of spec 1 s ≡ leaves t 0 →
    cycle_of spec 1 t ≡ leaves u 0 →
    run_of spec 1 s (Cycle ∷ Cycle ∷ []) ≡ record { boundaries = s ∷ t ∷ u ∷ []; end = Ended }
two_cycles spec s t u first second = simp (first, second)
