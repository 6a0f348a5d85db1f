-- What contracts and lemmas claim.
use Rattle.std.specs.Prelude.{◌≡◌, ℕ, List, [], ◌∷◌, ◌++◌, Some}
use Rattle.kat_value.specs.declared.value.Value.{Value}
use Rattle.kat_ast.specs.declared.assertion.Assertion.{Assertion}
use Rattle.kat_ast.specs.declared.decl.DeclForm.{DeclForm}
use Rattle.kat_ast.specs.declared.place.Place.{Place}
use Rattle.kat_ast.specs.declared.type_name.Param.{Param}
use Rattle.kat_ast.specs.Spec.{Spec}
use Rattle.kat_syntax.specs.Cycle.{body_of, bound, call_of, progress_at}
use Rattle.kat_syntax.specs.Evaluation.{Environment, Locals}
use Rattle.kat_syntax.specs.Fragments.{Fragment, Join, IsFragment, whole}
use Rattle.kat_syntax.specs.Holds.{Holds, IsOfWritten}
use Rattle.kat_syntax.specs.Machine.{MachineState}
use Rattle.kat_syntax.specs.Meaning.{plainly}
use Rattle.kat_syntax.specs.Outcomes.{Outcome, Done, Out, Fail, Stuck}
use Rattle.kat_syntax.specs.States.{IsState}
use Rattle.kat_syntax.specs.Tables.{Name, Function}

-- a contract: the function, its names, its precondition, the result's name and the postcondition
pub record ContractOf : Type 0 where
  pub function : Function
  pub names : List Param
  pub pre : Assertion
  pub result : Name
  pub post : Assertion

-- values of the types of parameters, one for each
abbrev pub AreArguments : List DeclForm → List Param → List Value → Type 0
AreArguments decls [] [] = Unit {0}
AreArguments decls [] (v ∷ vs) = ⊥
AreArguments decls (param ∷ params) [] = ⊥
AreArguments decls (param ∷ params) (v ∷ vs) =
    IsOfWritten decls param.ty v × AreArguments decls params vs

-- a part of a fragment holds an assertion
abbrev pub HasPart : Assertion → Environment → Fragment → Type 0
HasPart assertion env owned =
    (f : Fragment) × (left : Fragment) × Join owned f left × Holds assertion env f

-- a fragment of the state that shares no place with the rest holds an assertion, and the places of
-- the rest are as they were
abbrev pub LeavesRest : Assertion → Environment → Fragment → MachineState → Type 0
LeavesRest post env rest state =
    (owned : Fragment) × Join (whole state) owned rest × HasPart post env owned

-- it does not fail and is not stuck, and where it is done this holds
abbrev pub Ends : {S : Type 0} → Outcome S → (Value → MachineState → Type 0) → Type 0
Ends (Done value progress) P = P value progress.state
Ends Out P = Unit {0}
Ends (Fail site) P = ⊥
Ends Stuck P = ⊥

-- what the body of a function does with these arguments, with n calls
abbrev pub body_with : List DeclForm → ℕ → Function → List Value → MachineState → Outcome Place
body_with decls n function args state =
    body_of decls (call_of decls n) args (progress_at n state) function

-- where a call of a function leaves off: the postcondition holds with the result
abbrev pub LeavesPost :
    Spec → ContractOf → Locals → Fragment → Value → MachineState → Type 0
LeavesPost spec contract locals rest result next =
    LeavesRest contract.post (plainly spec.decls ((contract.result, result) ∷ locals)) rest next

-- a function meets its contract with n calls: for all values of its parameters and of the names,
-- each state, each fragment of it that holds the precondition, and the rest of the state
abbrev pub MeetsContract : Spec → ContractOf → ℕ → Type 0
MeetsContract spec contract n =
    (args values : List Value) (params names : Locals) →
    AreArguments spec.decls contract.function.params args →
    AreArguments spec.decls contract.names values →
    bound contract.function.params args ≡ Some params →
    bound contract.names values ≡ Some names →
    (state : MachineState) (owned rest : Fragment) →
    IsState spec.decls state → Join (whole state) owned rest →
    Holds contract.pre (plainly spec.decls (names ++ params)) owned →
    Ends (body_with spec.decls n contract.function args state)
    (LeavesPost spec contract (names ++ params) rest)

-- a lemma: its parameters, its names, its precondition and its postcondition
pub record LemmaOf : Type 0 where
  pub params : List Param
  pub names : List Param
  pub pre : Assertion
  pub post : Assertion

-- a lemma holds: each fragment that holds its precondition has a part that holds its postcondition
abbrev pub LemmaHolds : Spec → LemmaOf → Type 0
LemmaHolds spec lemma_of =
    (args values : List Value) (params names : Locals) →
    AreArguments spec.decls lemma_of.params args →
    AreArguments spec.decls lemma_of.names values →
    bound lemma_of.params args ≡ Some params →
    bound lemma_of.names values ≡ Some names →
    (owned : Fragment) → IsFragment spec.decls owned →
    Holds lemma_of.pre (plainly spec.decls (names ++ params)) owned →
    HasPart lemma_of.post (plainly spec.decls (names ++ params)) owned
