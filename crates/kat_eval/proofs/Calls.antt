-- How a call runs the body of a function.
use Rattle.std.proofs.Common.{◌≡◌, ◌∙◌, ℕ, zero, suc, ◌+◌, ◌≤◌, List, [], ◌∷◌, Option, Some, None, IfSome, refl, ap, sym, subst, arith}
use Rattle.kat_value.specs.declared.value.Value.{Value}
use Rattle.kat_ast.specs.Spec.{Spec}
use Rattle.kat_ast.specs.declared.expr.Expr.{Expr}
use Rattle.kat_ast.specs.declared.place.Place.{Place}
use Rattle.kat_ast.specs.declared.stm.Stm.{Stm}
use Rattle.kat_ast.specs.declared.stm.Stm.TheOpen.{Call}
use Rattle.kat_ast.specs.declared.stm.Stm.TheVariants.{Call as CallStm}
use Rattle.kat_ast.specs.declared.stm.Stm.TheViews.{outs-Call}
use Rattle.kat_ast.specs.declared.type_name.Param.{Param}
use Rattle.kat_syntax.specs.Tables.{Name, Function, function_from}
use Rattle.kat_syntax.specs.Machine.{Progress}
use Rattle.kat_syntax.specs.Evaluation.{Locals, values_of_exprs}
use Rattle.kat_syntax.specs.Outcomes.{Outcome, Done, Out, Stuck, StmSite, There, given, at_site, inside, place_in}
use Rattle.kat_syntax.specs.Meaning.{Calls, plainly, meaning}
use Rattle.kat_syntax.specs.Cycle.{bound, body_of, call_of, spend_one}
use Rattle.kat_syntax.specs.Functions.{IsCallable, IsFunctionSeen}
use Rattle.kat_syntax.specs.declared.checked.FunctionSeen.{FunctionSeen}
use Rattle.kat_ast.specs.Statements.{trees_of_stm}
use Rattle.kat_ast.specs.Types.{trees_of_type, trees_of_params}
use Rattle.kat_eval.specs.declared.running.Running.{Running}
use Rattle.kat_eval.specs.declared.running.StmEnd.{StmEnd}
use Rattle.kat_eval.specs.declared.running.StmEnd.TheVariants as stm
use Rattle.kat_eval.specs.declared.running.CallEnd.{CallEnd}
use Rattle.kat_eval.specs.declared.running.CallEnd.TheVariants as call
use Rattle.kat_eval.specs.Running.{progress_of, as_outcome, as_call_outcome, IsBelow, HasRun, HasCalled}
use Rattle.kat_eval.proofs.Parts.{meaning_of_layer, has_trees, below_more}

-- a function that was seen can be called
pub callable_of : (o : Option FunctionSeen) (seen : FunctionSeen) → o ≡ Some seen → IfSome o IsCallable →
    IsCallable seen
callable_of o seen is callable = subst (λ x. IfSome x IsCallable) is callable

module _ (spec : Spec) (old : Running) where
  -- what follows where a call was spent
  abbrev go : Option Function → List Value → ℕ → Progress → Outcome Place
  go function args depth next = given function (body_of spec.decls (call_of spec.decls depth) args next)

  -- no call was left
  pub called_out : (function : Option Function) (args : List Value) → old.left ≡ 0 → HasCalled spec function args old old call.Out
  called_out function args none = record {
    meaning = λ depth enough. ap (λ n. spend_one n (progress_of old) (go function args depth)) none;
    left = omega arith;
  }

  module _ (left : ℕ) (some : old.left ≡ suc left) (next : Running) (next_is : progress_of next ≡ record (progress_of old) { left = left }) where
    spent : (function : Option Function) (args : List Value) (depth : ℕ) →
        spend_one old.left (progress_of old) (go function args depth) ≡ go function args depth (progress_of next)
    spent function args depth =
        ap (λ n. spend_one n (progress_of old) (go function args depth)) some ∙ ap (go function args depth) (sym next_is)

    fewer : next.left ≤ old.left
    fewer = let e : next.left ≡ left = ap (λ (p : Progress). p.left) next_is in omega (arith, e, some)

    -- there is no such function
    pub called_unknown : (args : List Value) → HasCalled spec None args old next call.Stuck
    called_unknown args = record { meaning = λ depth enough. spent None args depth; left = fewer }

    -- there is another number of arguments
    pub called_otherwise : (function : Function) (args : List Value) → None ≡ bound function.params args → HasCalled spec (Some function) args old next call.Stuck
    called_otherwise function args unbound = record {
      meaning = λ depth enough.
          spent (Some function) args depth
          ∙ ap (λ o. given o (λ locals. at_site (place_in function.decl) (inside function.body_at (meaning spec.decls (call_of spec.decls depth) function.body locals (progress_of next))))) (sym unbound);
      left = fewer;
    }

    -- its body has run
    pub called : (function : Function) (args : List Value) (locals : Locals) (new : Running) (end : StmEnd) (result : CallEnd) →
        Some locals ≡ bound function.params args → HasRun spec function.body locals next new end →
        ((p : Progress) → as_call_outcome result p ≡ at_site (place_in function.decl) (inside function.body_at (as_outcome end p))) →
        HasCalled spec (Some function) args old new result
    called function args locals new end result bound_is ran moved = record {
      meaning = λ depth enough.
          let enough_left : next.left ≤ depth = let e : next.left ≡ left = ap (λ (p : Progress). p.left) next_is in omega (arith, e, some, enough) in
          spent (Some function) args depth
          ∙ ap (λ o. given o (λ ls. at_site (place_in function.decl) (inside function.body_at (meaning spec.decls (call_of spec.decls depth) function.body ls (progress_of next))))) (sym bound_is)
          ∙ ap (λ o. at_site (place_in function.decl) (inside function.body_at o)) (ran.meaning depth enough_left)
          ∙ sym (moved (progress_of new));
      left = omega (arith, ran.left, fewer);
    }

    -- there is no such function, as it was seen
    pub unseen_called : (found : Option Function) (args : List Value) → IsFunctionSeen None found →
        HasCalled spec found args old next call.Stuck
    unseen_called None args is = called_unknown args
    unseen_called (Some function) args is = absurd is

    -- there is another number of arguments than the function that was seen has
    pub seen_otherwise : (seen : FunctionSeen) (found : Option Function) (args : List Value) →
        IsFunctionSeen (Some seen) found → None ≡ bound seen.params.now args →
        HasCalled spec found args old next call.Stuck
    seen_otherwise seen None args is unbound = absurd is
    seen_otherwise seen (Some function) args is unbound =
        called_otherwise function args (unbound ∙ ap (λ ps. bound ps args) (sym is.params))

    -- the body of the function that was seen has run
    pub seen_called : (seen : FunctionSeen) (found : Option Function) (args : List Value)
        (locals : Locals) (new : Running) (end : StmEnd) (result : CallEnd) →
        IsFunctionSeen (Some seen) found → Some locals ≡ bound seen.params.now args →
        HasRun spec seen.body.now locals next new end →
        ((p : Progress) → as_call_outcome result p
        ≡ at_site (place_in seen.decl)
        (inside (3 + trees_of_params seen.params.now + trees_of_type seen.result.now) (as_outcome end p))) →
        HasCalled spec found args old new result
    seen_called seen None args locals new end result is bound_is ran moved = absurd is
    seen_called seen (Some function) args locals new end result is bound_is ran moved =
        called function args locals new end result
        (bound_is ∙ ap (λ ps. bound ps args) (sym is.params))
        (subst (λ body. HasRun spec body locals next new end) (sym is.body) ran)
        (λ p. moved p
        ∙ ap (λ k. at_site (place_in k) (inside (3 + trees_of_params seen.params.now + trees_of_type seen.result.now) (as_outcome end p))) (sym is.decl)
        ∙ ap (λ at. at_site (place_in function.decl) (inside at (as_outcome end p))) (sym is.body_at))

  -- a call as a statement
  module _ (locals : Locals) (f : Name) (args : List Expr) where
    call_meaning : (depth : ℕ) →
        meaning spec.decls (call_of spec.decls depth) (CallStm f args) locals (progress_of old)
        ≡ given (values_of_exprs (plainly spec.decls locals) args) (λ values. at_site There (call_of spec.decls depth f values (progress_of old)))
    call_meaning depth = meaning_of_layer spec.decls (call_of spec.decls depth) (CallStm f args) (Call f args) (outs-Call f args) locals (progress_of old)

    pub call_is : (values : List Value) (new : Running) (end : CallEnd) → HasCalled spec (function_from 0 spec.decls f) values old new end →
        (depth : ℕ) → old.left ≤ depth → call_of spec.decls depth f values (progress_of old) ≡ as_call_outcome end (progress_of new)
    call_is values new end has zero enough =
        let none : old.left ≡ 0 = omega (arith, enough) in
        sym (ap (λ n. spend_one n (progress_of old) (go (function_from 0 spec.decls f) values 0)) none) ∙ has.meaning 0 (omega (arith, enough))
    call_is values new end has (suc depth) enough = has.meaning depth enough

    pub call_ran : (values : List Value) (new : Running) (end : CallEnd) (result : StmEnd) → Some values ≡ values_of_exprs (plainly spec.decls locals) args →
        HasCalled spec (function_from 0 spec.decls f) values old new end → ((p : Progress) → as_outcome result p ≡ at_site There (as_call_outcome end p)) →
        IsBelow 1 0 result → HasRun spec (CallStm f args) locals old new result
    call_ran values new end result values_are has moved within = record {
      meaning = λ depth enough.
          call_meaning depth
          ∙ ap (λ o. given o (λ vs. at_site There (call_of spec.decls depth f vs (progress_of old)))) (sym values_are)
          ∙ ap (at_site There) (call_is values new end has depth enough)
          ∙ sym (moved (progress_of new));
      left = has.left;
      within = below_more 1 (trees_of_stm (CallStm f args)) 0 result (has_trees (CallStm f args)) within;
    }

    pub call_stuck : None ≡ values_of_exprs (plainly spec.decls locals) args → HasRun spec (CallStm f args) locals old old stm.Stuck
    call_stuck none = record {
      meaning = λ depth enough. call_meaning depth ∙ ap (λ o. given o (λ vs. at_site There (call_of spec.decls depth f vs (progress_of old)))) (sym none);
      left = omega arith;
      within = tt;
    }
