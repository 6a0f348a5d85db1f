-- How the parts of a statement make the whole.
use Rattle.std.proofs.Common.{◌≡◌, ◌∙◌, ℕ, suc, ◌+◌, ◌<◌, ◌≤◌, Bool, true, false, List, [], ◌∷◌, Option, Some, None, refl, ap, sym, subst, arith, if◌then◌else◌, Result, Ok, Err, IfOk}
use Rattle.kat_value.specs.declared.value.Value.{Value}
use Rattle.kat_ast.specs.Spec.{Spec}
use Rattle.kat_ast.specs.declared.decl.DeclForm.{DeclForm}
use Rattle.kat_ast.specs.declared.place.Place.{Place}
use Rattle.kat_ast.specs.declared.stm.Stm.{Stm}
use Rattle.kat_ast.specs.declared.stm.Stm.TheOpen.{Stm-F, Ret, Let, Seq, If, Case, Match, Read, Write, Load, Store, Call, Check, Fail as FailLayer, Open, Close, Lemma}
use Rattle.kat_ast.specs.declared.expr.Expr.{Expr}
use Rattle.kat_ast.specs.declared.stm.Stm.TheVariants.{Let as LetStm, If as IfStm, Call as CallStm}
use Rattle.kat_ast.specs.declared.stm.Stm.TheViews.{out-Stm, outs-Let, outs-If, outs-Call}
use Rattle.kat_ast.specs.Expressions.{trees_of_expr}
use Rattle.kat_ast.specs.declared.stm.Stm.TheFolds.{map-Stm, fold_out-Stm}
use Rattle.kat_ast.specs.Statements.{stm_trees, trees_of_stm}
use Rattle.kat_syntax.specs.Tables.{Name}
use Rattle.kat_syntax.specs.Machine.{Progress}
use Rattle.kat_syntax.specs.Evaluation.{Locals}
use Rattle.kat_syntax.specs.Outcomes.{Outcome, Done, Out, Fail, Stuck, StmSite, Here, There, then_do, given, at_site, inside}
use Rattle.kat_syntax.specs.Meaning.{Calls, Part, part_of, part_of_stm, does_of, truth_for, meaning}
use Rattle.kat_syntax.specs.MeaningLaws.{StatementsByParts}
use Rattle.kat_syntax.specs.Cycle.{call_of}
use Rattle.kat_eval.specs.declared.running.Running.{Running}
use Rattle.kat_eval.specs.declared.running.StmEnd.{StmEnd}
use Rattle.kat_eval.specs.declared.running.StmEnd.TheVariants.{Done as DoneEnd, Out as OutEnd, Fail as FailEnd, Stuck as StuckEnd}
use Rattle.kat_eval.specs.declared.running.Site.TheVariants.{Here as HereEnd, There as ThereEnd}
use Rattle.kat_eval.specs.Running.{progress_of, as_outcome, IsBelow, HasActed, HasRun, IsInside}

-- a statement does what its layer does
pub meaning_of_layer : (decls : List DeclForm) (calls : Calls) (s : Stm) (y : Stm-F Stm) → out-Stm s ≡ y → (locals : Locals) (p : Progress) →
    meaning decls calls s locals p ≡ does_of decls calls (map-Stm Stm Part (part_of_stm decls calls) y) locals p
meaning_of_layer decls calls s y is locals p =
    ap (λ (d : Part). d.does locals p) (fold_out-Stm Part (part_of decls calls) s)
    ∙ ap (λ z. does_of decls calls (map-Stm Stm Part (part_of_stm decls calls) z) locals p) is

-- and has as many trees
pub trees_of_layer : (s : Stm) (y : Stm-F Stm) → out-Stm s ≡ y → trees_of_stm s ≡ stm_trees (map-Stm Stm ℕ trees_of_stm y)
trees_of_layer s y is = fold_out-Stm ℕ stm_trees s ∙ ap (λ z. stm_trees (map-Stm Stm ℕ trees_of_stm z)) is

some_trees : (y : Stm-F ℕ) → 1 ≤ stm_trees y
some_trees (Ret e) = omega arith
some_trees (Let x a b) = omega arith
some_trees (Seq parts) = omega arith
some_trees (If test a b) = omega arith
some_trees (Case e arms) = omega arith
some_trees (Match e arms) = omega arith
some_trees (Read r) = omega arith
some_trees (Write r e) = omega arith
some_trees (Load e) = omega arith
some_trees (Store e f) = omega arith
some_trees (Call f args) = omega arith
some_trees (Check e) = omega arith
some_trees FailLayer = omega arith
some_trees (Open p inputs) = omega arith
some_trees (Close p inputs) = omega arith
some_trees (Lemma l args) = omega arith

pub has_trees : (s : Stm) → 1 ≤ trees_of_stm s
has_trees s = subst (λ n. 1 ≤ n) (sym (fold_out-Stm ℕ stm_trees s)) (some_trees (map-Stm Stm ℕ trees_of_stm (out-Stm s)))

-- a bound on a failure's tree may be raised
pub below_more : (m n at : ℕ) (end : StmEnd) → m ≤ n → IsBelow m at end → IsBelow n at end
below_more m n at (DoneEnd value) le h = tt
below_more m n at OutEnd le h = tt
below_more m n at (FailEnd (HereEnd tree)) le h = omega (arith, le, h)
below_more m n at (FailEnd (ThereEnd place)) le h = tt
below_more m n at StuckEnd le h = tt

-- a failure below a bound stays below it further on
pub below_at : (m n at : ℕ) (end : StmEnd) → at + n ≤ m → IsBelow n 0 end → IsBelow m at end
below_at m n at (DoneEnd value) le h = tt
below_at m n at OutEnd le h = tt
below_at m n at (FailEnd (HereEnd tree)) le h = omega (arith, le, h)
below_at m n at (FailEnd (ThereEnd place)) le h = tt
below_at m n at StuckEnd le h = tt

-- a statement without parts has run
pub run_of_act : (spec : Spec) (s : Stm) (y : Stm-F Stm) (locals : Locals) (old new : Running) (end : StmEnd) → out-Stm s ≡ y →
    ((calls : Calls) → does_of spec.decls calls (map-Stm Stm Part (part_of_stm spec.decls calls) y) locals (progress_of old) ≡ as_outcome end (progress_of new)) →
    new.left ≡ old.left → IsBelow 1 0 end → HasRun spec s locals old new end
run_of_act spec s y locals old new end is acted left within = record {
  meaning = λ depth enough. meaning_of_layer spec.decls (call_of spec.decls depth) s y is locals (progress_of old) ∙ acted (call_of spec.decls depth);
  left = omega (arith, left);
  within = below_more 1 (trees_of_stm s) 0 end (has_trees s) within;
}

-- the same of what may want memory
pub result_of_act : (spec : Spec) (s : Stm) (y : Stm-F Stm) (layer : Stm-F Part) (locals : Locals)
    (old new : Running) (E : Type 0) (result : Result StmEnd E) → out-Stm s ≡ y →
    ((calls : Calls) → map-Stm Stm Part (part_of_stm spec.decls calls) y ≡ layer) →
    IfOk result (HasActed spec layer locals old new) → IfOk result (HasRun spec s locals old new)
result_of_act spec s y layer locals old new E (Ok end) is same acted =
    run_of_act spec s y locals old new end is
    (λ calls. ap (λ l. does_of spec.decls calls l locals (progress_of old)) (same calls)
    ∙ acted.meaning calls)
    acted.left acted.within
result_of_act spec s y layer locals old new E (Err error) is same acted = tt

-- the same of what acts alike among all locals
pub result_of_any_act : (spec : Spec) (s : Stm) (y : Stm-F Stm) (layer : Stm-F Part) (locals : Locals)
    (old new : Running) (E : Type 0) (result : Result StmEnd E) → out-Stm s ≡ y →
    ((calls : Calls) → map-Stm Stm Part (part_of_stm spec.decls calls) y ≡ layer) →
    IfOk result (λ end. (all : Locals) → HasActed spec layer all old new end) →
    IfOk result (HasRun spec s locals old new)
result_of_any_act spec s y layer locals old new E (Ok end) is same acted =
    result_of_act spec s y layer locals old new E (Ok end) is same (acted locals)
result_of_any_act spec s y layer locals old new E (Err error) is same acted = tt

-- the same run, its parts named otherwise
pub run_as : (spec : Spec) (s t : Stm) (l m : Locals) (old new : Running) (e f : StmEnd) → t ≡ s → m ≡ l → f ≡ e →
    HasRun spec t m old new f → HasRun spec s l old new e
run_as spec s t l m old new e f stm_is locals_are end_is ran =
    subst (λ x. HasRun spec x l old new e) stm_is
    (subst (λ x. HasRun spec t x old new e) locals_are
    (subst (λ x. HasRun spec t m old new x) end_is ran))

-- the same place, counted otherwise
pub inside_as : (at from : ℕ) (e f : StmEnd) → from ≡ at → IsInside from e f → IsInside at e f
inside_as at from e f is inside_from = subst (λ n. IsInside n e f) is inside_from

-- an end that is not Done
abbrev pub IsNotDone : StmEnd → Type 0
IsNotDone (DoneEnd value) = ⊥
IsNotDone _ = Unit {0}

pub not_done_of : (end : StmEnd) → ((value : Value) → end ≡ DoneEnd value → ⊥) → IsNotDone end
not_done_of (DoneEnd value) other = absurd (other value refl)
not_done_of OutEnd other = tt
not_done_of (FailEnd site) other = tt
not_done_of StuckEnd other = tt

-- an end that has no place is in every place
pub out_inside : (at : ℕ) → IsInside at OutEnd OutEnd
out_inside at = record { outcome = λ p. refl; within = λ n h. tt }

pub stuck_inside : (at : ℕ) → IsInside at StuckEnd StuckEnd
stuck_inside at = record { outcome = λ p. refl; within = λ n h. tt }

-- the trees of a `let` and of an `if`
pub let_trees : (x : Name) (a b : Stm) →
    trees_of_stm (LetStm x a b) ≡ 3 + trees_of_stm a + trees_of_stm b
let_trees x a b = trees_of_layer (LetStm x a b) (Let x a b) (outs-Let x a b)

pub if_trees : (test : Expr) (a b : Stm) →
    trees_of_stm (IfStm test a b) ≡ 2 + trees_of_expr test + trees_of_stm a + trees_of_stm b
if_trees test a b = trees_of_layer (IfStm test a b) (If test a b) (outs-If test a b)

pub stopped : (end : StmEnd) (p : Progress) (at : ℕ) (go : Value → Progress → Outcome StmSite) → IsNotDone end →
    then_do (inside at (as_outcome end p)) go ≡ inside at (as_outcome end p)
stopped (DoneEnd value) p at go not_done = absurd not_done
stopped OutEnd p at go not_done = refl
stopped (FailEnd (HereEnd tree)) p at go not_done = refl
stopped (FailEnd (ThereEnd place)) p at go not_done = refl
stopped StuckEnd p at go not_done = refl

module _ (law : StatementsByParts) (spec : Spec) (locals : Locals) (old : Running) where
  abbrev Ran : Stm → Running → StmEnd → Type 0
  Ran s new end = HasRun spec s locals old new end

  abbrev does : ℕ → Stm → Locals → Progress → Outcome StmSite
  does depth s = meaning spec.decls (call_of spec.decls depth) s

  abbrev trees : ℕ → Stm → ℕ
  trees depth s = (part_of_stm spec.decls (call_of spec.decls depth) s).trees

  count : (depth : ℕ) (s : Stm) → trees depth s ≡ trees_of_stm s
  count depth s = law.count spec.decls (call_of spec.decls depth) s

  -- what a `let` does behind its first part
  abbrev behind_let : ℕ → Name → Stm → ℕ → Value → Progress → Outcome StmSite
  behind_let depth x b n v next = inside (3 + n) (does depth b ((x, v) ∷ locals) next)

  let_meaning : (depth : ℕ) (x : Name) (a b : Stm) →
      does depth (LetStm x a b) locals (progress_of old)
      ≡ then_do (inside 3 (does depth a locals (progress_of old))) (behind_let depth x b (trees depth a))
  let_meaning depth x a b = meaning_of_layer spec.decls (call_of spec.decls depth) (LetStm x a b) (Let x a b) (outs-Let x a b) locals (progress_of old)

  -- a `let` whose first part is done
  pub let_done : (x : Name) (a b : Stm) (v : Value) (mid new : Running) (end result : StmEnd) →
      Ran a mid (DoneEnd v) → HasRun spec b ((x, v) ∷ locals) mid new end → IsInside (3 + trees_of_stm a) end result →
      Ran (LetStm x a b) new result
  let_done x a b v mid new end result first second at = record {
    meaning = λ depth enough.
        let fewer : mid.left ≤ depth = omega (arith, first.left, enough) in
        let_meaning depth x a b
        ∙ ap (λ o. then_do (inside 3 o) (behind_let depth x b (trees depth a))) (first.meaning depth enough)
        ∙ ap (λ n. behind_let depth x b n v (progress_of mid)) (count depth a)
        ∙ ap (inside (3 + trees_of_stm a)) (second.meaning depth fewer)
        ∙ sym (at.outcome (progress_of new));
    left = omega (arith, first.left, second.left);
    within = below_more (3 + trees_of_stm a + trees_of_stm b) (trees_of_stm (LetStm x a b)) 0 result
        (omega (arith, trees_of_layer (LetStm x a b) (Let x a b) (outs-Let x a b)))
        (at.within (trees_of_stm b) second.within);
  }

  -- a `let` whose first part is not done
  pub let_stopped : (x : Name) (a b : Stm) (new : Running) (end result : StmEnd) →
      Ran a new end → IsNotDone end → IsInside 3 end result → Ran (LetStm x a b) new result
  let_stopped x a b new end result first not_done at = record {
    meaning = λ depth enough.
        let_meaning depth x a b
        ∙ ap (λ o. then_do (inside 3 o) (behind_let depth x b (trees depth a))) (first.meaning depth enough)
        ∙ stopped end (progress_of new) 3 (behind_let depth x b (trees depth a)) not_done
        ∙ sym (at.outcome (progress_of new));
    left = first.left;
    within = below_more (3 + trees_of_stm a) (trees_of_stm (LetStm x a b)) 0 result
        (omega (arith, trees_of_layer (LetStm x a b) (Let x a b) (outs-Let x a b)))
        (at.within (trees_of_stm a) first.within);
  }

  -- what an `if` does, by its condition
  abbrev branches : ℕ → Expr → Stm → Stm → ℕ → Option Bool → Outcome StmSite
  branches depth test a b n truth =
      given truth
      (λ holds.
      if holds
      then inside (2 + trees_of_expr test) (does depth a locals (progress_of old))
      else inside (2 + trees_of_expr test + n) (does depth b locals (progress_of old)))

  if_meaning : (depth : ℕ) (test : Expr) (a b : Stm) (truth : Option Bool) → truth ≡ truth_for spec.decls locals test →
      does depth (IfStm test a b) locals (progress_of old) ≡ branches depth test a b (trees depth a) truth
  if_meaning depth test a b truth is =
      meaning_of_layer spec.decls (call_of spec.decls depth) (IfStm test a b) (If test a b) (outs-If test a b) locals (progress_of old)
      ∙ ap (branches depth test a b (trees depth a)) (sym is)

  pub if_first : (test : Expr) (a b : Stm) (new : Running) (end result : StmEnd) → Some true ≡ truth_for spec.decls locals test →
      Ran a new end → IsInside (2 + trees_of_expr test) end result → Ran (IfStm test a b) new result
  if_first test a b new end result truth ran at = record {
    meaning = λ depth enough.
        if_meaning depth test a b (Some true) truth
        ∙ ap (inside (2 + trees_of_expr test)) (ran.meaning depth enough)
        ∙ sym (at.outcome (progress_of new));
    left = ran.left;
    within = below_more (2 + trees_of_expr test + trees_of_stm a) (trees_of_stm (IfStm test a b)) 0 result
        (omega (arith, trees_of_layer (IfStm test a b) (If test a b) (outs-If test a b)))
        (at.within (trees_of_stm a) ran.within);
  }

  pub if_second : (test : Expr) (a b : Stm) (new : Running) (end result : StmEnd) → Some false ≡ truth_for spec.decls locals test →
      Ran b new end → IsInside (2 + trees_of_expr test + trees_of_stm a) end result → Ran (IfStm test a b) new result
  if_second test a b new end result truth ran at = record {
    meaning = λ depth enough.
        if_meaning depth test a b (Some false) truth
        ∙ ap (λ n. branches depth test a b n (Some false)) (count depth a)
        ∙ ap (inside (2 + trees_of_expr test + trees_of_stm a)) (ran.meaning depth enough)
        ∙ sym (at.outcome (progress_of new));
    left = ran.left;
    within = below_more (2 + trees_of_expr test + trees_of_stm a + trees_of_stm b) (trees_of_stm (IfStm test a b)) 0 result
        (omega (arith, trees_of_layer (IfStm test a b) (If test a b) (outs-If test a b)))
        (at.within (trees_of_stm b) ran.within);
  }

  pub if_stuck : (test : Expr) (a b : Stm) → None ≡ truth_for spec.decls locals test → Ran (IfStm test a b) old StuckEnd
  if_stuck test a b truth = record {
    meaning = λ depth enough. if_meaning depth test a b None truth;
    left = omega arith;
    within = tt;
  }
