-- What acts keep, calls keep at every depth; and calls are spent.
use Rattle.std.proofs.Common.{◌≡◌, ℕ, zero, suc, ◌+◌, ◌<◌, ◌≤◌, List, [], ◌∷◌, ◌++◌, Some, refl, arith}
use Rattle.std.specs.List.{AllByRecursion}
use Rattle.kat_value.specs.declared.value.Value.{Value}
use Rattle.kat_ast.specs.declared.decl.DeclForm.{DeclForm}
use Rattle.kat_ast.specs.declared.stm.Stm.{Stm}
use Rattle.kat_syntax.specs.Tables.{Name, Function, function_from}
use Rattle.kat_syntax.specs.Machine.{MachineState, Progress}
use Rattle.kat_syntax.specs.States.{cell_at, with_cell, written}
use Rattle.kat_syntax.specs.Evaluation.{Locals}
use Rattle.kat_syntax.specs.Outcomes.{Done, given, place_in}
use Rattle.kat_syntax.specs.Meaning.{meaning}
use Rattle.kat_syntax.specs.Cycle.{bound, body_of, call_of, spend_one}
use Rattle.kat_syntax.specs.MeaningLaws.{LeftNeverRises, written_by_stm}
use Rattle.kat_syntax.proofs.KeptRelations.{KeptByActs, statements_keep, done_at, done_given}

-- what the acts of statements keep, and what spending a call keeps
pub record KeptWithin (decls : List DeclForm) (Allowed : Name → Type 0) (R : Progress → Progress →
    Type 0) : Type 0 where
  pub same : (p : Progress) → R p p
  pub behind : (p q r : Progress) → R p q → R q r → R p r
  pub write : (r : Name) (v : Value) (p : Progress) (state : MachineState) → Allowed r →
      written decls r v p.state ≡ Some state → R p (record p { state = state })
  pub store : (i n before : ℕ) (p : Progress) → cell_at p.state i ≡ Some before →
      R p (record p { state = with_cell i n p.state; stores = p.stores ++ i ∷ [] })
  pub spend : (p : Progress) (left : ℕ) → p.left ≡ suc left → R p (record p { left = left })
  pub bodies : (f : Name) (function : Function) → function_from 0 decls f ≡ Some function →
      AllByRecursion Allowed (written_by_stm function.body)

module _ (decls : List DeclForm) (Allowed : Name → Type 0) (R : Progress → Progress → Type 0)
    (within : KeptWithin decls Allowed R) where
  abbrev CallsKeep : ℕ → Type 0
  CallsKeep depth = (f : Name) (args : List Value) (p q : Progress) (v : Value) →
      call_of decls depth f args p ≡ Done v q → R p q

  acts_at : (depth : ℕ) → CallsKeep depth → KeptByActs decls (call_of decls depth) Allowed R
  acts_at depth calls = record {
    same = within.same;
    behind = within.behind;
    write = within.write;
    store = within.store;
    call = calls;
  }

  -- the body of a function that was found
  body_keeps : (depth : ℕ) → CallsKeep depth →
      (f : Name) (args : List Value) (p q : Progress) (v : Value) →
      given (function_from 0 decls f) (body_of decls (call_of decls depth) args p) ≡ Done v q →
      R p q
  body_keeps depth calls f args p q v e =
      let found = done_given (function_from 0 decls f) (body_of decls (call_of decls depth) args p)
      v q e in
      let locals = done_given (bound found.0.params args) _ v q found.2 in
      statements_keep decls (call_of decls depth) Allowed R (acts_at depth calls) found.0.body
      (within.bodies f found.0 found.1) locals.0 p q v
      (done_at _ _ v q (done_at (place_in found.0.decl) _ v q locals.2))

  calls_keep : (depth : ℕ) → CallsKeep depth
  calls_keep zero f args p q v e = cc
  calls_keep (suc depth) f args p q v e = spent (calls_keep depth) p.left refl e where
    spent : CallsKeep depth → (left : ℕ) → p.left ≡ left →
        spend_one left p (λ next.
        given (function_from 0 decls f) (body_of decls (call_of decls depth) args next))
        ≡ Done v q → R p q
    spent calls zero is h = cc
    spent calls (suc left) is h =
        within.behind p (record p { left = left }) q (within.spend p left is)
        (body_keeps depth calls f args (record p { left = left }) q v h)

  pub all_keep : (depth : ℕ) (s : Stm) → AllByRecursion Allowed (written_by_stm s) →
      (locals : Locals) (p q : Progress) (v : Value) →
      meaning decls (call_of decls depth) s locals p ≡ Done v q → R p q
  all_keep depth s allowed locals p q v e =
      statements_keep decls (call_of decls depth) Allowed R (acts_at depth (calls_keep depth)) s
      allowed locals p q v e

  pub bodies_keep : (depth : ℕ) (f : Name) (args : List Value) (p q : Progress) (v : Value) →
      given (function_from 0 decls f) (body_of decls (call_of decls depth) args p) ≡ Done v q →
      R p q
  bodies_keep depth f args p q v e = body_keeps depth (calls_keep depth) f args p q v e

-- every name may be written
abbrev Any : Name → Type 0
Any r = Unit {0}

all_any : (names : List Name) → AllByRecursion Any names
all_any [] = tt
all_any (x ∷ names) = (tt, all_any names)

-- no more calls are left
abbrev NoMore : Progress → Progress → Type 0
NoMore p q = q.left ≤ p.left

no_more : (decls : List DeclForm) → KeptWithin decls Any NoMore
no_more decls = record {
  same = λ p. omega arith;
  behind = λ p q r first second. omega (arith, first, second);
  write = λ r v p state allowed is. omega arith;
  store = λ i n before p is. omega arith;
  spend = λ p left is. omega (arith, is);
  bodies = λ f function found. all_any (written_by_stm function.body);
}

pub left_never_rises : LeftNeverRises
left_never_rises = record {
  call = call_spends;
  statement = λ decls depth stm locals p q v e. all_keep decls Any NoMore (no_more decls) depth stm
      (all_any (written_by_stm stm)) locals p q v e;
} where
  call_spends : (decls : List DeclForm) (depth : ℕ) (f : Name) (args : List Value) (p q : Progress)
      (v : Value) → call_of decls depth f args p ≡ Done v q → q.left < p.left
  call_spends decls zero f args p q v e = cc
  call_spends decls (suc depth) f args p q v e = spent p.left refl e where
    spent : (left : ℕ) → p.left ≡ left →
        spend_one left p (λ next.
        given (function_from 0 decls f) (body_of decls (call_of decls depth) args next))
        ≡ Done v q → q.left < p.left
    spent zero is h = cc
    spent (suc left) is h =
        let less : q.left ≤ left = bodies_keep decls Any NoMore (no_more decls) depth f args
        (record p { left = left }) q v h in
        omega (arith, is, less)
