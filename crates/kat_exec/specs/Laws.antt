-- The laws of steps and of all paths. `PathsAreMet` is proved from the two on steps, which are
-- statements, to come.
use Rattle.std.specs.Prelude.{◌≡◌, ◌<◌, ℕ, List, Option, Some, slice_get}
use Rattle.std.specs.List.{AllByRecursion}
use Rattle.std.specs.Option.{option_map}
use Rattle.kat_ast.specs.Spec.{Spec}
use Rattle.kat_ast.specs.declared.decl.DeclForm.{DeclForm}
use Rattle.kat_syntax.specs.FirstTypeFault.{IsTyped}
use Rattle.kat_syntax.specs.Fragments.{Fragment}
use Rattle.kat_syntax.specs.Meets.{ContractOf, LemmaHolds, LemmaOf, MeetsContract}
use Rattle.kat_syntax.specs.Tables.{Function, Name, function_from}
use Rattle.kat_term.specs.Values.{Valuation}
use Rattle.kat_term.specs.declared.kind.Kind.{Kind}
use Rattle.kat_term.specs.declared.term.Term.{Term}
use Rattle.kat_heap.specs.declared.mode.Mode.{Mode}
use Rattle.kat_heap.specs.Asking.{Answers}
use Rattle.kat_heap.specs.Laws.{AreSound, IsMetUnder, Leads}
use Rattle.kat_heap.specs.Met.{MetAt}
use Rattle.kat_heap.specs.Stands.{StandsFor, point_at}
use Rattle.kat_heap.specs.Typed.{IsWalkOf}
use Rattle.kat_heap.specs.Walks.{Job, Moved, Choose, Closed, Ended, Limit, On, Owed, Taken, Goes, Past, Pruned, Shut, Walk}
use Rattle.kat_exec.specs.Lemmas.{JobsUse}
use Rattle.kat_exec.specs.Statements.{ContractDecl, LemmaDecl, contract_of, lemma_of}
use Rattle.kat_exec.specs.Steps.{step}

-- a declared contract with its function
abbrev pub with_function : ContractDecl → Function → ContractOf
with_function contract function = record {
  function = function;
  names = contract.names;
  pre = contract.pre;
  result = contract.result;
  post = contract.post;
}

-- the contract of a function that has one
abbrev pub contract_with : List DeclForm → ContractDecl → Option ContractOf
contract_with decls contract =
    option_map (with_function contract) (function_from 0 decls contract.function)

-- every contract is met with each number of calls below n
abbrev pub ContractsMetBelow : Spec → ℕ → Type 0
ContractsMetBelow spec n =
    (k : ℕ) → k < n → (f : Name) (declared : ContractDecl) (contract : ContractOf) →
    contract_of spec.decls f ≡ Some declared → contract_with spec.decls declared ≡ Some contract →
    MeetsContract spec contract k

-- what a lemma claims
abbrev pub claim_of : LemmaDecl → LemmaOf
claim_of lemma =
    record { params = lemma.params; names = lemma.names; pre = lemma.pre; post = lemma.post }

-- each lemma that jobs use in a mode holds
abbrev pub LemmasHold : Spec → Mode → List (Job Term) → Type 0
LemmasHold spec mode jobs =
    (l : Name) (lemma : LemmaDecl) → JobsUse spec.decls l mode jobs →
    lemma_of spec.decls l ≡ Some lemma → LemmaHolds spec (claim_of lemma)

-- the walk that an option leads to, if any, is so
abbrev pub PassesBy : (Walk → Type 0) → Taken → Type 0
PassesBy P Pruned = Unit {0}
PassesBy P Shut = Unit {0}
PassesBy P (Goes w) = P w
PassesBy P (Past kind) = Unit {0}

-- every walk that a step leads to is so
abbrev pub Passes : Moved → (Walk → Type 0) → Type 0
Passes Ended P = Unit {0}
Passes (On w) P = P w
Passes Closed P = Unit {0}
Passes (Choose options) P = AllByRecursion (PassesBy P) options
Passes (Owed world residue) P = Unit {0}
Passes (Limit kind) P = Unit {0}

-- a walk that a step leads to from another: all its terms have types, and its jobs use no lemma
-- that those of the other do not use
pub record IsNext (decls : List DeclForm) (mode : Mode) (w next : Walk) : Type 0 where
  pub typed : IsWalkOf decls next
  pub lemmas :
      (l : Name) → JobsUse decls l mode next.point.jobs → JobsUse decls l mode w.point.jobs

-- a step of a typed specification keeps that all terms of a walk have types, and uses no further
-- lemma
abbrev pub WalksStay : Type 0
WalksStay =
    (answers : Answers) → AreSound answers → (spec : Spec) → IsTyped spec →
    (mode : Mode) (w : Walk) →
    IsWalkOf spec.decls w → Passes (step answers spec.decls mode w) (IsNext spec.decls mode w)

-- one step, of a typed specification: where the jobs of each walk that it leads to are met, those
-- before are met
abbrev pub StepsAreMet : Type 0
StepsAreMet =
    (answers : Answers) → AreSound answers → (spec : Spec) → IsTyped spec →
    (mode : Mode) (w : Walk) (ρ : Valuation) (p : Fragment) (n : ℕ) →
    ContractsMetBelow spec n → LemmasHold spec mode w.point.jobs → IsWalkOf spec.decls w →
    StandsFor spec.decls w ρ p →
    Leads (step answers spec.decls mode w) (IsMetUnder spec n ρ) →
    MetAt spec (point_at spec.decls ρ w.point) p n

-- every path of a walk ends or closes
pub data AllEnd (answers : Answers) (decls : List DeclForm) (mode : Mode) : Walk → Type 0 where
  AtEnd : {w : Walk} → step answers decls mode w ≡ Ended → AllEnd answers decls mode w
  AtClose : {w : Walk} → step answers decls mode w ≡ Closed → AllEnd answers decls mode w
  GoesOn : {w : Walk} (next : Walk) → step answers decls mode w ≡ On next →
      AllEnd answers decls mode next → AllEnd answers decls mode w
  -- no option is at a limit, and of each that goes on every path ends
  Chooses : {w : Walk} (options : List Taken) →
      step answers decls mode w ≡ Choose options →
      ((k : ℕ) (kind : Kind) → slice_get options k ≡ Some (Past kind) → ⊥) →
      ((k : ℕ) (next : Walk) → slice_get options k ≡ Some (Goes next) →
      AllEnd answers decls mode next) → AllEnd answers decls mode w

-- where every path of a walk ends or closes, its jobs are met at each fragment that it stands for
abbrev pub PathsAreMet : Type 0
PathsAreMet =
    StepsAreMet → WalksStay → (answers : Answers) → AreSound answers → (spec : Spec) →
    IsTyped spec → (mode : Mode) (w : Walk) → AllEnd answers spec.decls mode w →
    (ρ : Valuation) (p : Fragment) (n : ℕ) →
    ContractsMetBelow spec n → LemmasHold spec mode w.point.jobs → IsWalkOf spec.decls w →
    StandsFor spec.decls w ρ p → MetAt spec (point_at spec.decls ρ w.point) p n
