-- How a `case` and a `match` run the arm that is for their value.
use Rattle.std.proofs.Common.{◌≡◌, ◌∙◌, ℕ, ◌+◌, ◌≤◌, List, [], ◌∷◌, take, slice_get, Option, Some, None, option_and_then, refl, ap, sym, arith}
use Rattle.kat_value.specs.declared.types.TypeDecl.{TypeDecl}
use Rattle.kat_value.specs.declared.value.Value.{Value, out-Value}
use Rattle.kat_ast.specs.Spec.{Spec}
use Rattle.kat_ast.specs.declared.expr.Expr.{Expr}
use Rattle.kat_ast.specs.declared.stm.Stm.{Stm}
use Rattle.kat_ast.specs.declared.stm.CaseArm.{CaseArm}
use Rattle.kat_ast.specs.declared.stm.MatchArm.{MatchArm}
use Rattle.kat_ast.specs.declared.stm.Stm.TheOpen.{Case, Match}
use Rattle.kat_ast.specs.declared.stm.Stm.TheVariants.{Case as CaseStm, Match as MatchStm}
use Rattle.kat_ast.specs.declared.stm.Stm.TheViews.{outs-Case, outs-Match}
use Rattle.kat_ast.specs.Expressions.{trees_of_expr}
use Rattle.kat_ast.specs.Statements.{trees_of_stm, trees_of_case_arms, trees_of_match_arms}
use Rattle.kat_syntax.specs.Tables.{Name}
use Rattle.kat_syntax.specs.TypeTable.{types_of_decls}
use Rattle.kat_syntax.specs.Evaluation.{Locals, value_of_expr}
use Rattle.kat_syntax.specs.Outcomes.{Outcome, StmSite, given, inside}
use Rattle.kat_syntax.specs.Meaning as meant
use Rattle.kat_syntax.specs.Meaning.{MadeWith, member_of_layer, made_of_layer, plainly, meaning}
use Rattle.kat_syntax.specs.MeaningLaws.{StatementsByParts}
use Rattle.kat_syntax.specs.Cycle.{call_of}
use Rattle.kat_eval.specs.Arms.{case_from, match_from}
use Rattle.kat_eval.specs.declared.running.Running.{Running}
use Rattle.kat_eval.specs.declared.running.StmEnd.{StmEnd}
use Rattle.kat_eval.specs.declared.running.StmEnd.TheVariants.{Stuck as StuckEnd}
use Rattle.kat_eval.specs.Running.{progress_of, as_outcome, IsBelow, HasRun, IsInside}
use Rattle.kat_eval.proofs.Parts.{meaning_of_layer, below_more}
use Rattle.kat_eval.proofs.ArmsTaken.{case_trees, match_trees, case_parts, match_parts, case_runs, match_runs, case_missed, match_missed}

module _ (law : StatementsByParts) (spec : Spec) (locals : Locals) (old : Running) where
  abbrev value_is : Expr → Option Value → Type 0
  value_is e v = v ≡ value_of_expr (plainly spec.decls locals) e

  -- what a `case` does by what its value is
  abbrev case_does : ℕ → Expr → List (CaseArm Stm) → Option Name → Outcome StmSite
  case_does depth e arms wanted =
      given wanted (λ w. meant.case_arm w (2 + trees_of_expr e)
      (case_parts law spec depth locals (progress_of old) arms) locals (progress_of old))

  abbrev case_wanted : Option Value → Option Name
  case_wanted v = option_and_then (λ x. member_of_layer (types_of_decls spec.decls) (out-Value x)) v

  case_meaning : (depth : ℕ) (e : Expr) (arms : List (CaseArm Stm)) (v : Option Value) → value_is e v →
      meaning spec.decls (call_of spec.decls depth) (CaseStm e arms) locals (progress_of old)
      ≡ case_does depth e arms (case_wanted v)
  case_meaning depth e arms v is =
      meaning_of_layer spec.decls (call_of spec.decls depth) (CaseStm e arms) (Case e arms) (outs-Case e arms)
      locals (progress_of old)
      ∙ ap (λ o. case_does depth e arms (case_wanted o)) (sym is)

  case_of : (depth : ℕ) (e : Expr) (arms : List (CaseArm Stm)) (v : Value) (types : List TypeDecl)
      (wanted : Option Name) → value_is e (Some v) → types ≡ types_of_decls spec.decls →
      wanted ≡ member_of_layer types (out-Value v) →
      meaning spec.decls (call_of spec.decls depth) (CaseStm e arms) locals (progress_of old)
      ≡ case_does depth e arms wanted
  case_of depth e arms v types wanted is table wanted_is =
      case_meaning depth e arms (Some v) is
      ∙ ap (case_does depth e arms)
      (sym (wanted_is ∙ ap (λ t. member_of_layer t (out-Value v)) table))

  -- the value has no value
  pub case_valueless : (e : Expr) (arms : List (CaseArm Stm)) → value_is e None →
      HasRun spec (CaseStm e arms) locals old old StuckEnd
  case_valueless e arms is = record {
    meaning = λ depth enough. case_meaning depth e arms None is;
    left = omega arith;
    within = tt;
  }

  -- the value is none that an arm may be for
  pub case_other : (e : Expr) (arms : List (CaseArm Stm)) (v : Value) (types : List TypeDecl) →
      value_is e (Some v) → types ≡ types_of_decls spec.decls →
      None ≡ member_of_layer types (out-Value v) → HasRun spec (CaseStm e arms) locals old old StuckEnd
  case_other e arms v types is table none = record {
    meaning = λ depth enough. case_of depth e arms v types None is table none;
    left = omega arith;
    within = tt;
  }

  -- no arm is for the value
  pub case_armless : (e : Expr) (arms : List (CaseArm Stm)) (v : Value) (types : List TypeDecl)
      (wanted : Name) → value_is e (Some v) → types ≡ types_of_decls spec.decls →
      Some wanted ≡ member_of_layer types (out-Value v) → None ≡ case_from 0 arms wanted →
      HasRun spec (CaseStm e arms) locals old old StuckEnd
  case_armless e arms v types wanted is table wanted_is none = record {
    meaning = λ depth enough.
        case_of depth e arms v types (Some wanted) is table wanted_is
        ∙ case_missed law spec depth locals (progress_of old) wanted (2 + trees_of_expr e) 0 arms
        (sym none);
    left = omega arith;
    within = tt;
  }

  -- the arm that is for the value has run
  pub case_ran : (e : Expr) (arms : List (CaseArm Stm)) (v : Value) (types : List TypeDecl)
      (wanted : Name) (at : ℕ) (arm : CaseArm Stm) (new : Running) (end result : StmEnd) →
      value_is e (Some v) → types ≡ types_of_decls spec.decls →
      Some wanted ≡ member_of_layer types (out-Value v) → Some at ≡ case_from 0 arms wanted →
      slice_get arms at ≡ Some arm → HasRun spec arm.body locals old new end →
      IsInside (4 + trees_of_expr e + trees_of_case_arms (take at arms)) end result →
      HasRun spec (CaseStm e arms) locals old new result
  case_ran e arms v types wanted at arm new end result is table wanted_is found there ran inside_at = record {
    meaning = λ depth enough.
        case_of depth e arms v types (Some wanted) is table wanted_is
        ∙ case_runs law spec depth locals (progress_of old) wanted e arms at arm (sym found) there
        ∙ ap (inside (4 + trees_of_expr e + trees_of_case_arms (take at arms)))
        (ran.meaning depth enough)
        ∙ sym (inside_at.outcome (progress_of new));
    left = ran.left;
    within = below_more
        (4 + trees_of_expr e + trees_of_case_arms (take at arms) + trees_of_stm arm.body)
        (trees_of_stm (CaseStm e arms)) 0 result (case_trees e arms at arm there)
        (inside_at.within (trees_of_stm arm.body) ran.within);
  }

  -- what a `match` does by what its value is
  abbrev match_does : ℕ → Expr → List (MatchArm Stm) → Option MadeWith → Outcome StmSite
  match_does depth e arms wanted =
      given wanted (λ w. meant.match_arm w (2 + trees_of_expr e)
      (match_parts law spec depth locals (progress_of old) arms) locals (progress_of old))

  abbrev match_wanted : Option Value → Option MadeWith
  match_wanted v = option_and_then (λ x. made_of_layer (types_of_decls spec.decls) (out-Value x)) v

  match_meaning : (depth : ℕ) (e : Expr) (arms : List (MatchArm Stm)) (v : Option Value) → value_is e v →
      meaning spec.decls (call_of spec.decls depth) (MatchStm e arms) locals (progress_of old)
      ≡ match_does depth e arms (match_wanted v)
  match_meaning depth e arms v is =
      meaning_of_layer spec.decls (call_of spec.decls depth) (MatchStm e arms) (Match e arms) (outs-Match e arms)
      locals (progress_of old)
      ∙ ap (λ o. match_does depth e arms (match_wanted o)) (sym is)

  match_of : (depth : ℕ) (e : Expr) (arms : List (MatchArm Stm)) (v : Value) (types : List TypeDecl)
      (wanted : Option MadeWith) → value_is e (Some v) → types ≡ types_of_decls spec.decls →
      wanted ≡ made_of_layer types (out-Value v) →
      meaning spec.decls (call_of spec.decls depth) (MatchStm e arms) locals (progress_of old)
      ≡ match_does depth e arms wanted
  match_of depth e arms v types wanted is table wanted_is =
      match_meaning depth e arms (Some v) is
      ∙ ap (match_does depth e arms)
      (sym (wanted_is ∙ ap (λ t. made_of_layer t (out-Value v)) table))

  -- the value has no value
  pub match_valueless : (e : Expr) (arms : List (MatchArm Stm)) → value_is e None →
      HasRun spec (MatchStm e arms) locals old old StuckEnd
  match_valueless e arms is = record {
    meaning = λ depth enough. match_meaning depth e arms None is;
    left = omega arith;
    within = tt;
  }

  -- the value is none that an arm may be for
  pub match_other : (e : Expr) (arms : List (MatchArm Stm)) (v : Value) (types : List TypeDecl) →
      value_is e (Some v) → types ≡ types_of_decls spec.decls →
      None ≡ made_of_layer types (out-Value v) → HasRun spec (MatchStm e arms) locals old old StuckEnd
  match_other e arms v types is table none = record {
    meaning = λ depth enough. match_of depth e arms v types None is table none;
    left = omega arith;
    within = tt;
  }

  -- no arm is for the value
  pub match_armless : (e : Expr) (arms : List (MatchArm Stm)) (v : Value) (types : List TypeDecl)
      (wanted : MadeWith) → value_is e (Some v) → types ≡ types_of_decls spec.decls →
      Some wanted ≡ made_of_layer types (out-Value v) → None ≡ match_from 0 arms wanted.ctor →
      HasRun spec (MatchStm e arms) locals old old StuckEnd
  match_armless e arms v types wanted is table wanted_is none = record {
    meaning = λ depth enough.
        match_of depth e arms v types (Some wanted) is table wanted_is
        ∙ match_missed law spec depth locals (progress_of old) wanted (2 + trees_of_expr e) 0 arms
        (sym none);
    left = omega arith;
    within = tt;
  }

  -- the arm that is for the value has run
  pub match_ran : (e : Expr) (arms : List (MatchArm Stm)) (v : Value) (types : List TypeDecl)
      (wanted : MadeWith) (at : ℕ) (arm : MatchArm Stm) (new : Running) (end result : StmEnd) →
      value_is e (Some v) → types ≡ types_of_decls spec.decls →
      Some wanted ≡ made_of_layer types (out-Value v) → Some at ≡ match_from 0 arms wanted.ctor →
      slice_get arms at ≡ Some arm → HasRun spec arm.body ((arm.payload, wanted.payload) ∷ locals) old new end →
      IsInside (5 + trees_of_expr e + trees_of_match_arms (take at arms)) end result →
      HasRun spec (MatchStm e arms) locals old new result
  match_ran e arms v types wanted at arm new end result is table wanted_is found there ran inside_at = record {
    meaning = λ depth enough.
        match_of depth e arms v types (Some wanted) is table wanted_is
        ∙ match_runs law spec depth locals (progress_of old) wanted e arms at arm (sym found) there
        ∙ ap (inside (5 + trees_of_expr e + trees_of_match_arms (take at arms)))
        (ran.meaning depth enough)
        ∙ sym (inside_at.outcome (progress_of new));
    left = ran.left;
    within = below_more
        (5 + trees_of_expr e + trees_of_match_arms (take at arms) + trees_of_stm arm.body)
        (trees_of_stm (MatchStm e arms)) 0 result (match_trees e arms at arm there)
        (inside_at.within (trees_of_stm arm.body) ran.within);
  }
