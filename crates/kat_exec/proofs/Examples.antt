-- Small walks, computed.
use Rattle.std.proofs.Common.{◌≡◌, ℕ, refl, List, Option, map, slice_get}
use Rattle.std.specs.Prelude.{option_and_then}
use Rattle.std.specs.Option.{option_map}
use Rattle.kat_value.specs.Making.{all_there}
use Rattle.kat_value.specs.OperationTypes.{type_of_application}
use Rattle.kat_value.specs.Shown.{type_of_value}
use Rattle.kat_value.specs.declared.op.Op.{Op}
use Rattle.kat_value.specs.declared.value.Value.{Value}
use Rattle.kat_value.specs.declared.value.Value.TheViews.{outs-Bits}
use Rattle.kat_ast.specs.declared.assertion.Assertion.TheViews.{out-roll-Assertion}
use Rattle.kat_value.specs.declared.types.Ty.{Ty}
use Rattle.kat_value.specs.declared.types.TypeDecl.{TypeDecl}
use Rattle.kat_ast.specs.declared.decl.DeclForm.{DeclForm}
use Rattle.kat_ast.specs.declared.expr.Expr.{Expr}
use Rattle.kat_ast.specs.declared.expr.Expr.TheOpen as expr
use Rattle.kat_ast.specs.declared.expr.Expr.TheViews.{roll-Expr, out-roll-Expr}
use Rattle.kat_ast.specs.declared.expr.Expr.TheFolds.{map-Expr, fold-roll-Expr}
use Rattle.kat_ast.specs.declared.stm.Stm.TheViews.{out-roll-Stm}
use Rattle.kat_term.specs.Parts.{TermsByParts}
use Rattle.kat_term.specs.Limits.{max_vars}
use Rattle.kat_term.specs.Types.{type_of}
use Rattle.kat_term.specs.Values.{literal_value}
use Rattle.kat_term.specs.declared.term.Term.{Term}
use Rattle.kat_term.specs.declared.term.Term.TheVariants.{Apply, Lit, Var}
use Rattle.kat_term.specs.declared.term.Term.TheViews.{outs-Apply, outs-Var}
use Rattle.kat_chunk.specs.Limits.{max_chunks}
use Rattle.kat_heap.specs.Limits.{max_steps}
use Rattle.kat_heap.specs.Terms.{Sources, expr_term, term_of_expr}
use Rattle.kat_exec.specs.Examples.{CallsComeOut, ChoicesComeOut, ExamplesComeOut, ItemsComeOut, LimitsComeOut, PathsComeOut, PhasesComeOut, PredicatesComeOut, RegistersComeOut, SearchesComeOut}
use Rattle.kat_exec.specs.Limits.{max_depth_of_calls}
use Rattle.kat_exec.proofs.Used.{lemmas, names, registers_read}

-- one layer of an expression
expr_layer :
    (decls : List DeclForm) (sources : Sources) (layer : expr.Expr-F Expr) →
    term_of_expr decls sources (roll-Expr layer)
    ≡ expr_term decls sources (map-Expr Expr (Option Term) (term_of_expr decls sources) layer)
expr_layer decls sources layer = fold-roll-Expr (Option Term) (expr_term decls sources) layer

module _ (parts : TermsByParts) where
  -- the type of a variable, of a literal, of an operation and of a constructor
  typed_var :
      (types : List TypeDecl) (vars : List Ty) (i : ℕ) →
      type_of types vars (Var i) ≡ slice_get vars i
  typed_var types vars i = (parts.1 types vars).variable i

  typed_lit :
      (types : List TypeDecl) (vars : List Ty) (v : Value) →
      type_of types vars (Lit v) ≡ option_map type_of_value (literal_value types v)
  typed_lit types vars v = (parts.1 types vars).literal v

  typed_apply :
      (types : List TypeDecl) (vars : List Ty) (op : Op) (ts : List Term) →
      type_of types vars (Apply op ts)
      ≡ option_and_then (type_of_application types op) (all_there (map (type_of types vars) ts))
  typed_apply types vars op ts = (parts.1 types vars).application op ts

  registers : RegistersComeOut
  unfolding max_steps max_vars
  registers = record {
    written = λ left. simp (out-roll-Stm, expr_layer, typed_var);
    read = λ left. simp (out-roll-Stm);
    not_owned = λ left term e. simp (out-roll-Stm, e);
    outside_written = λ left. refl;
  }

  choices : ChoicesComeOut
  unfolding max_steps max_vars
  choices = record {
    two_paths = simp (out-roll-Stm, expr_layer, typed_var, outs-Var);
    pruned = λ left s t e h i. simp (out-roll-Stm, expr_layer, typed_var, outs-Var, e, h, i);
    payloads = λ left t e h. simp (out-roll-Stm, expr_layer, typed_var, outs-Var, e, h);
  }

  calls : CallsComeOut
  unfolding max_steps max_depth_of_calls
  calls = record {
    by_contract = λ left. simp (out-roll-Stm, expr_layer, typed_var);
    in_place = λ left. simp (out-roll-Stm, expr_layer, typed_var);
  }

  searches : SearchesComeOut
  unfolding max_steps max_vars
  searches = record {
    into_region = λ left s t e h i.
        simp (out-roll-Stm, expr_layer, typed_var, typed_lit, typed_apply, outs-Bits, e, h, i);
    nothing_found =
        simp (out-roll-Stm, expr_layer, typed_var, typed_lit, typed_apply, outs-Bits);
    out_of_region = λ left s t e h i.
        simp (
          out-roll-Assertion,
          out-roll-Expr,
          expr_layer,
          typed_var,
          typed_lit,
          typed_apply,
          outs-Bits,
          e,
          h,
          i,
        );
  }

  predicates : PredicatesComeOut
  unfolding max_steps
  predicates = record {
    by_definition = λ left. simp (out-roll-Assertion, expr_layer, typed_var);
    by_chunk = λ left e. simp (out-roll-Assertion, expr_layer, typed_var, typed_apply, e);
  }

  limits : LimitsComeOut
  unfolding max_steps max_chunks
  limits = record {
    of_steps = λ left. refl;
    of_chunks = λ left chunks e. simp (out-roll-Assertion, expr_layer, typed_var, e);
  }

  paths : PathsComeOut
  unfolding max_steps
  paths = record {
    owes = λ left t e. simp (out-roll-Stm, expr_layer, typed_var, e);
    asks = simp (out-roll-Stm, expr_layer, typed_var, outs-Var);
    no_option = simp (out-roll-Stm, expr_layer, typed_var, outs-Var);
    ends = simp (out-roll-Stm, expr_layer, typed_var, outs-Var);
    too_long = simp (out-roll-Stm, expr_layer, typed_var, outs-Var);
  }

  phases : PhasesComeOut
  phases = record {
    asked = simp (expr_layer, typed_var, typed_lit, typed_apply, outs-Bits, outs-Apply);
    closes = λ left. refl;
    stays = λ left. refl;
  }

  items : ItemsComeOut
  unfolding max_vars
  items = record { of_function = refl }

  -- all of them
  pub examples : ExamplesComeOut
  examples = record {
    registers = registers;
    choices = choices;
    calls = calls;
    searches = searches;
    predicates = predicates;
    limits = limits;
    paths = paths;
    phases = phases;
    items = items;
    lemmas = lemmas;
    registers_read = registers_read;
    names = names;
  }
