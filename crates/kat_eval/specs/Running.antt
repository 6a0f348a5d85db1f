-- What the interpreter keeps, seen as the meaning sees it.
use Rattle.std.specs.Prelude.{◌≡◌, ℕ, suc, ◌+◌, ◌*◌, ◌<◌, ◌≤◌, List, Option}
use Rattle.kat_value.specs.declared.value.Value.{Value}
use Rattle.kat_ast.specs.Spec.{Spec}
use Rattle.kat_ast.specs.declared.place.Place.{Place}
use Rattle.kat_ast.specs.declared.stm.Stm.{Stm}
use Rattle.kat_ast.specs.declared.stm.Stm.TheOpen.{Stm-F}
use Rattle.kat_ast.specs.Limits.{decl_trees_bound}
use Rattle.kat_ast.specs.Statements.{trees_of_stm}
use Rattle.kat_syntax.specs.Machine.{Progress}
use Rattle.kat_syntax.specs.Evaluation.{Locals}
use Rattle.kat_syntax.specs.Outcomes.{Outcome, Done, Out, Fail, Stuck, StmSite, Here, There, given, inside}
use Rattle.kat_syntax.specs.Meaning.{Calls, Part, does_of, meaning}
use Rattle.kat_syntax.specs.Cycle.{body_of, call_of, spend_one}
use Rattle.kat_syntax.specs.Tables.{Function}
use Rattle.kat_eval.specs.declared.running.Running.{Running}
use Rattle.kat_eval.specs.declared.running.Site.TheVariants.{Here as HereEnd, There as ThereEnd}
use Rattle.kat_eval.specs.declared.running.StmEnd.{StmEnd}
use Rattle.kat_eval.specs.declared.running.StmEnd.TheVariants.{Done as DoneEnd, Out as OutEnd, Fail as FailEnd, Stuck as StuckEnd}
use Rattle.kat_eval.specs.declared.running.CallEnd.{CallEnd}
use Rattle.kat_eval.specs.declared.running.CallEnd.TheVariants as call

-- what is running, as the meaning sees it
abbrev pub progress_of : Running → Progress
progress_of r = record { state = r.state; left = r.left; stores = r.stores }

-- how a statement ended, as the outcome that the meaning has
abbrev pub as_outcome : StmEnd → Progress → Outcome StmSite
as_outcome (DoneEnd value) progress = Done value progress
as_outcome OutEnd progress = Out
as_outcome (FailEnd (HereEnd tree)) progress = Fail (Here tree)
as_outcome (FailEnd (ThereEnd place)) progress = Fail (There place)
as_outcome StuckEnd progress = Stuck

-- how a call ended, as the outcome that the meaning has
abbrev pub as_call_outcome : CallEnd → Progress → Outcome Place
as_call_outcome (call.Done value) progress = Done value progress
as_call_outcome call.Out progress = Out
as_call_outcome (call.Fail place) progress = Fail place
as_call_outcome call.Stuck progress = Stuck

-- a failure of the form itself, moved by at, stays below a bound
abbrev pub IsBelow : ℕ → ℕ → StmEnd → Type 0
IsBelow bound at (FailEnd (HereEnd tree)) = at + tree < bound
IsBelow bound at _ = Unit {0}

-- a statement without parts ended as its layer does, calls are not spent, and a failure stands at the
-- statement
pub record HasActed
    (spec : Spec) (layer : Stm-F Part) (locals : Locals) (old new : Running) (end : StmEnd) :
    Type 0 where
  pub meaning :
      (calls : Calls) →
      does_of spec.decls calls layer locals (progress_of old) ≡ as_outcome end (progress_of new)
  pub left : new.left ≡ old.left
  pub within : IsBelow 1 0 end

-- a statement ended as it does where calls may stand as deep in one another as calls were left, or
-- deeper, and no more calls are left than before
pub record HasRun
    (spec : Spec) (stm : Stm) (locals : Locals) (old new : Running) (end : StmEnd) : Type 0 where
  pub meaning :
      (depth : ℕ) → old.left ≤ depth →
      meaning spec.decls (call_of spec.decls depth) stm locals (progress_of old)
      ≡ as_outcome end (progress_of new)
  pub left : new.left ≤ old.left
  pub within : IsBelow (trees_of_stm stm) 0 end

-- what a statement is measured by: a call spends more than any statement has
abbrev pub measure : Running → ℕ → ℕ
measure running size = running.left * (2 * decl_trees_bound + 4) + size

-- an end of a part, seen from the form in which the part has the tree of this number
pub record IsInside (at : ℕ) (part whole : StmEnd) : Type 0 where
  pub outcome : (p : Progress) → as_outcome whole p ≡ inside at (as_outcome part p)
  pub within : (n : ℕ) → IsBelow n 0 part → IsBelow (at + n) 0 whole

-- a call ended as it does where calls may stand as deep in one another as calls were left, or
-- deeper, and no more calls are left than before
pub record HasCalled
    (spec : Spec) (function : Option Function) (args : List Value)
    (old new : Running) (end : CallEnd) : Type 0 where
  pub meaning :
      (depth : ℕ) → old.left ≤ suc depth →
      spend_one old.left (progress_of old)
      (λ next. given function (body_of spec.decls (call_of spec.decls depth) args next))
      ≡ as_call_outcome end (progress_of new)
  pub left : new.left ≤ old.left
