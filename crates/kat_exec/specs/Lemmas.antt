-- The lemmas that jobs use: those whose proof statements their paths may come to.
use Rattle.std.specs.Prelude.{◌≡◌, ◌⊎◌, ℕ, zero, suc, List, [], ◌∷◌, map, None, Some, slice_get}
use Rattle.kat_ast.specs.declared.decl.DeclForm.{DeclForm}
use Rattle.kat_ast.specs.declared.expr.Expr.{Expr}
use Rattle.kat_ast.specs.declared.stm.CaseArm.{CaseArm}
use Rattle.kat_ast.specs.declared.stm.MatchArm.{MatchArm}
use Rattle.kat_ast.specs.declared.stm.Stm.{Stm}
use Rattle.kat_ast.specs.declared.stm.Stm.TheOpen.{Stm-F, Let, Seq, If, Case, Match, Call, Lemma}
use Rattle.kat_ast.specs.declared.stm.Stm.TheViews.{out-Stm}
use Rattle.kat_syntax.specs.Tables.{Function, Name, step_function_of}
use Rattle.kat_heap.specs.declared.mode.Mode.{Mode}
use Rattle.kat_heap.specs.declared.mode.Mode.TheVariants.{ByContract, Inline}
use Rattle.kat_heap.specs.Walks.{Job, Run, Produce, Consume, Owe, Match as MatchJob, Bind, Fresh, Return, Bound, Leave, Yield, Fold, Fill, Havoc, Compare, Restore, Decide, Exit, Chosen, OnlyIn, BehindUntrusted, BehindCycle}
use Rattle.kat_exec.specs.Statements.{FunctionOf, contract_of, function_of}

-- the statements that stand right in one
abbrev pub parts_of_stm : Stm-F Stm → List Stm
parts_of_stm (Let x first second) = first ∷ second ∷ []
parts_of_stm (Seq parts) = parts
parts_of_stm (If test first second) = first ∷ second ∷ []
parts_of_stm (Case e arms) = map (λ (arm : CaseArm Stm). arm.body) arms
parts_of_stm (Match e arms) = map (λ (arm : MatchArm Stm). arm.body) arms
parts_of_stm _ = []

-- a statement that is walked by contracts uses a lemma
pub data UsesLemma (decls : List DeclForm) (l : Name) : Stm → Type 0 where
  -- it is the proof statement of the lemma
  ByItself : {stm : Stm} (args : List Expr) → out-Stm stm ≡ Lemma l args → UsesLemma decls l stm
  -- a statement that stands in it does
  ByPart : {stm : Stm} (at : ℕ) (part : Stm) →
      slice_get (parts_of_stm (out-Stm stm)) at ≡ Some part →
      UsesLemma decls l part → UsesLemma decls l stm
  -- it calls in place a function whose body does: one that has no contract
  ByCall : {stm : Stm} (f : Name) (args : List Expr) (function : FunctionOf) →
      out-Stm stm ≡ Call f args → contract_of decls f ≡ None →
      function_of decls f ≡ Some function →
      UsesLemma decls l function.body → UsesLemma decls l stm

module _ {T : Type 0} (decls : List DeclForm) (l : Name) where
  -- what follows a phase uses a lemma: the step function's body does, and a cycle of the block is
  -- left in which it may run
  abbrev pub ChosenUses : Chosen T → Type 0
  ChosenUses (OnlyIn phase) = ⊥
  ChosenUses (BehindUntrusted first) = ⊥
  ChosenUses (BehindCycle block before zero) = ⊥
  ChosenUses (BehindCycle block before (suc left)) =
      (step : Function) × (step_function_of decls ≡ Some step) × UsesLemma decls l step.body

  -- a job uses a lemma: the statement that it runs does, or what follows the phase that it finds
  abbrev pub JobUses : Job T → Type 0
  JobUses (Run stm) = UsesLemma decls l stm
  JobUses (Produce reading assertion) = ⊥
  JobUses (Consume reading assertion) = ⊥
  JobUses (Owe goal) = ⊥
  JobUses (MatchJob value reading e) = ⊥
  JobUses (Bind x) = ⊥
  JobUses (Fresh type) = ⊥
  JobUses (Return of kept) = ⊥
  JobUses (Bound params) = ⊥
  JobUses (Leave x type old) = ⊥
  JobUses (Yield outputs reading kept) = ⊥
  JobUses (Fold pred inputs outputs kept) = ⊥
  JobUses (Fill key) = ⊥
  JobUses Havoc = ⊥
  JobUses (Compare index number) = ⊥
  JobUses (Restore r value) = ⊥
  JobUses (Decide cases otherwise chosen) = ChosenUses chosen
  JobUses (Exit places taken block before guard) = ⊥

  -- one of these jobs uses a lemma
  abbrev pub AnyUses : List (Job T) → Type 0
  AnyUses [] = ⊥
  AnyUses (job ∷ jobs) = JobUses job ⊎ AnyUses jobs

  -- jobs use a lemma in a mode: in mode Inline proof statements are skipped
  abbrev pub JobsUse : Mode → List (Job T) → Type 0
  JobsUse ByContract jobs = AnyUses jobs
  JobsUse Inline jobs = ⊥
