-- To run a statement: one step of each form, in both modes.
use Rattle.std.specs.Prelude.{ℕ, ◌+◌, true, false, nat_lt, if◌then◌else◌, List, [], ◌∷◌, map, Option, None, Some, option_and_then, slice_get, slice_set}
use Rattle.std.specs.List.{range_with_len}
use Rattle.std.specs.Str.{bytes_eq}
use Rattle.kat_value.specs.Signatures.{same_type}
use Rattle.kat_value.specs.Typing.{member_count}
use Rattle.kat_value.specs.declared.op.Op.TheVariants.{Eq}
use Rattle.kat_value.specs.declared.types.Field.{Field}
use Rattle.kat_value.specs.declared.types.Ty.{Ty}
use Rattle.kat_value.specs.declared.types.Ty.TheVariants as ty
use Rattle.kat_value.specs.declared.types.TypeDecl.{TypeDecl}
use Rattle.kat_value.specs.declared.types.TypeDecl.TheVariants as type
use Rattle.kat_value.specs.declared.value.Value.{Value, out-Value}
use Rattle.kat_value.specs.declared.value.Value.TheOpen as layer
use Rattle.kat_ast.specs.declared.assertion.Assertion.{Assertion}
use Rattle.kat_ast.specs.declared.decl.DeclForm.{DeclForm}
use Rattle.kat_ast.specs.declared.decl.DeclForm.TheVariants as d
use Rattle.kat_ast.specs.declared.stm.CaseArm.{CaseArm}
use Rattle.kat_ast.specs.declared.stm.MatchArm.{MatchArm}
use Rattle.kat_ast.specs.declared.stm.Stm.{Stm}
use Rattle.kat_ast.specs.declared.stm.Stm.TheOpen.{Stm-F, Ret, Let, Seq, If, Case, Match, Read, Write, Load, Store, Call, Check, Fail, Open, Close, Lemma}
use Rattle.kat_ast.specs.declared.stm.Stm.TheViews.{out-Stm}
use Rattle.kat_ast.specs.declared.type_name.Param.{Param}
use Rattle.kat_ast.specs.declared.type_name.TypeName.{TypeName}
use Rattle.kat_syntax.specs.NamedValues.{ctor_name, member_name}
use Rattle.kat_syntax.specs.Tables.{Name}
use Rattle.kat_syntax.specs.TypeTable.{types_of_decls}
use Rattle.kat_term.specs.Fresh.{Fresh}
use Rattle.kat_term.specs.Growth.{with_fresh}
use Rattle.kat_term.specs.Views.{MadeTerm, literal_of, made_of, member, truth, two, unit}
use Rattle.kat_term.specs.Worlds.{with_formula}
use Rattle.kat_term.specs.declared.kind.Kind.TheVariants as kind
use Rattle.kat_term.specs.declared.prover.Answer.{Answer}
use Rattle.kat_term.specs.declared.prover.Answer.TheVariants.{Proved, Contradiction, Residue}
use Rattle.kat_term.specs.declared.term.Term.{Term}
use Rattle.kat_term.specs.declared.term.Term.TheVariants.{Make as MakeTerm}
use Rattle.kat_chunk.specs.declared.chunk.Chunk.{Chunk}
use Rattle.kat_chunk.specs.declared.chunk.Chunk.TheVariants as chunk
use Rattle.kat_heap.specs.declared.mode.Mode.{Mode}
use Rattle.kat_heap.specs.declared.mode.Mode.TheVariants.{ByContract, Inline}
use Rattle.kat_heap.specs.Asking.{Answers, Possible, any_type, branch, choose, counted, fresh_in, has_room, known, owe, owe_false, type_in, with_term, with_terms}
use Rattle.kat_heap.specs.Moves.{fold_up, read_cell, unfolded}
use Rattle.kat_heap.specs.Places.{PredicateAt, RegisterAt, RegisterChunk, cell_type, index_wanted, predicate_found, register_chunk, register_found, type_written, wanted_of}
use Rattle.kat_heap.specs.Searches.{cell_goals, found, search}
use Rattle.kat_heap.specs.Terms.{binding, plainly}
use Rattle.kat_heap.specs.Walks as walk
use Rattle.kat_heap.specs.Walks.{Job, Moved, Choose, Limit, On, Taken, Goes, Past, Pruned, Run, Bind, Bound, Return, Owe, OfCall, OfContract, OfLemma, OfScope, Plain, Names, Walk, and_jobs, in_world, naming, returns_of_calls, with_chunks, with_last, with_names}
use Rattle.kat_exec.specs.Limits.{max_depth_of_calls}

-- a function: its parameters, the type of its result, and its body
pub record FunctionOf : Type 0 where
  pub params : List Param
  pub result : TypeName
  pub body : Stm

-- the first function of a name
abbrev pub function_of : List DeclForm → Name → Option FunctionOf
function_of [] f = None
function_of (d.Fun x params result body ∷ decls) f =
    if bytes_eq x f
    then Some (record { params = params; result = result; body = body })
    else function_of decls f
function_of (_ ∷ decls) f = function_of decls f

-- a contract as it is declared
pub record ContractDecl : Type 0 where
  pub function : Name
  pub names : List Param
  pub pre : Assertion
  pub result : Name
  pub post : Assertion

-- the first contract of a function
abbrev pub contract_of : List DeclForm → Name → Option ContractDecl
contract_of [] f = None
contract_of (d.Contract g names pre result post ∷ decls) f =
    if bytes_eq g f
    then Some (record { function = g; names = names; pre = pre; result = result; post = post })
    else contract_of decls f
contract_of (_ ∷ decls) f = contract_of decls f

-- a lemma as it is declared
pub record LemmaDecl : Type 0 where
  pub name : Name
  pub params : List Param
  pub names : List Param
  pub pre : Assertion
  pub post : Assertion
  pub steps : List Stm

-- the first lemma of a name
abbrev pub lemma_of : List DeclForm → Name → Option LemmaDecl
lemma_of [] l = None
lemma_of (d.Lemma x params names pre post steps ∷ decls) l =
    if bytes_eq x l
    then Some (record {
      name = x;
      params = params;
      names = names;
      pre = pre;
      post = post;
      steps = steps;
    })
    else lemma_of decls l
lemma_of (_ ∷ decls) l = lemma_of decls l

-- the enum that a type is
abbrev pub enum_in : Option Ty → Option ℕ
enum_in (Some (ty.Enum of)) = Some of
enum_in _ = None

-- the union that a type is
abbrev pub union_in : Option Ty → Option ℕ
union_in (Some (ty.Union of)) = Some of
union_in _ = None

-- the constructors of a declared type that is a union
abbrev pub ctors_in : Option TypeDecl → Option (List Field)
ctors_in (Some (type.Union x ctors)) = Some ctors
ctors_in _ = None

-- the position of the member that one layer of a value is
abbrev pub member_layer : layer.Value-F Value → Option ℕ
member_layer (layer.Member of index) = Some index
member_layer _ = None

-- the position of the member that a literal is
abbrev pub member_in : Term → Option ℕ
member_in term = option_and_then (λ v. member_layer (out-Value v)) (literal_of term)

-- the statement of the first arm of a member
abbrev pub case_arm : List (CaseArm Stm) → Name → Option Stm
case_arm [] x = None
case_arm (arm ∷ arms) x = if bytes_eq arm.member x then Some arm.body else case_arm arms x

-- the first arm of a constructor
abbrev pub match_arm : List (MatchArm Stm) → Name → Option (MatchArm Stm)
match_arm [] x = None
match_arm (arm ∷ arms) x = if bytes_eq arm.ctor x then Some arm else match_arm arms x

-- what is to do for an arm; where there is none, `false` is owed
abbrev pub jobs_of_arm : Option Stm → List (Job Term)
jobs_of_arm None = Owe (truth false) ∷ []
jobs_of_arm (Some stm) = Run stm ∷ []

module _ (answers : Answers) (decls : List DeclForm) where
  -- the walk of the arm of a member
  abbrev pub arm_walk : ℕ → List (CaseArm Stm) → ℕ → Walk → Walk
  arm_walk of arms index w =
      and_jobs (jobs_of_arm
      (option_and_then (case_arm arms) (member_name (types_of_decls decls) of index))) w

  -- the options of a `case`, one for each member in order of declaration
  abbrev pub case_options : Term → ℕ → List (CaseArm Stm) → Walk → List Possible
  case_options term of arms w =
      map (λ index. record {
        formula = two Eq term (member of index);
        walk = arm_walk of arms index w;
      }) (range_with_len 0 (member_count (types_of_decls decls) of))

  -- a literal makes no choice; any other term one among all members
  abbrev pub case_by : Option ℕ → Term → ℕ → List (CaseArm Stm) → Walk → Moved
  case_by (Some index) term of arms w = On (arm_walk of arms index w)
  case_by None term of arms w = choose answers decls w.world (case_options term of arms w)

  -- what is to do for the arm of a constructor, with its payload
  abbrev pub payload_walk : Option (MatchArm Stm) → Term → Walk → Walk
  payload_walk None payload w = and_jobs (Owe (truth false) ∷ []) w
  payload_walk (Some arm) payload w =
      and_jobs (Run arm.body ∷ Return OfScope w.point.names ∷ [])
      (with_names (naming arm.payload payload w.point.names) w)

  -- an option of a `match` is pruned exactly where its formula closes the world
  abbrev pub unless_closes : Answer → Walk → Taken
  unless_closes Contradiction w = Pruned
  unless_closes Proved w = Goes w
  unless_closes (Residue residue) w = Goes w

  -- the walk of an option, in a world with the payload and the formula
  abbrev pub made_walk : Term → ℕ → ℕ → List (MatchArm Stm) → Fresh → Walk → Walk
  made_walk term of ctor arms fresh w =
      payload_walk
      (option_and_then (match_arm arms) (ctor_name (types_of_decls decls) of ctor)) fresh.term
      (in_world (with_formula (with_fresh w.world fresh)
      (two Eq term (MakeTerm of ctor fresh.term))) w)

  -- the option of one constructor: its payload is fresh in it alone
  abbrev pub match_option : Term → ℕ → ℕ → Ty → List (MatchArm Stm) → Walk → Taken
  match_option term of ctor payload arms w =
      if has_room w.world (fresh_in decls payload w.world)
      then unless_closes
      (answers.left
      (made_walk term of ctor arms (fresh_in decls payload w.world) w).world (truth true))
      (made_walk term of ctor arms (fresh_in decls payload w.world) w)
      else Past kind.Vars

  -- the options of a `match`, one for each constructor in order, the first having this position
  abbrev pub match_options : Term → ℕ → ℕ → List Field → List (MatchArm Stm) → Walk → List Taken
  match_options term of ctor [] arms w = []
  match_options term of ctor (field ∷ fields) arms w =
      match_option term of ctor field.ty arms w
      ∷ match_options term of (ctor + 1) fields arms w

  -- a term that is made makes no choice; any other one among all constructors
  abbrev pub match_by : Option MadeTerm → Term → ℕ → List (MatchArm Stm) → Walk → Moved
  match_by (Some made) term of arms w =
      On (payload_walk
      (option_and_then (match_arm arms) (ctor_name (types_of_decls decls) of made.ctor))
      made.inner w)
  match_by None term of arms w =
      known answers decls (ctors_in (slice_get (types_of_decls decls) of)) w (λ ctors.
      Choose (match_options term of 0 ctors arms w))

  -- the first Reg chunk of a register has another value
  abbrev pub write_register : RegisterAt → Term → Walk → Moved
  write_register register value w =
      known answers decls (register_chunk register.at w.chunks) w (λ (found : RegisterChunk).
      On (with_last unit (with_chunks
      (slice_set w.chunks found.place (chunk.Reg register.at value)) w)))

  -- the chunk that was searched has another value, where it is a cell; a region stays
  abbrev pub store_in : Option Chunk → ℕ → Term → Walk → Moved
  store_in (Some (chunk.Cell key old)) place value w =
      On (with_last unit (with_chunks (slice_set w.chunks place (chunk.Cell key value)) w))
  store_in (Some (chunk.Region region args holes)) place value w = On (with_last unit w)
  store_in (Some (chunk.Reg at old)) place value w = owe_false answers decls w
  store_in (Some (chunk.Pred at args)) place value w = owe_false answers decls w
  store_in None place value w = owe_false answers decls w

  -- a call by contract: the precondition is consumed with the contract's names unbound, and the
  -- postcondition is produced with a fresh result
  abbrev pub call_by_contract : ContractDecl → FunctionOf → List Term → Walk → Moved
  call_by_contract contract function args w =
      known answers decls (binding function.params args) w (λ names.
      On (and_jobs
      (walk.Consume Plain contract.pre ∷ Bound contract.names
      ∷ walk.Fresh (type_written decls function.result)
      ∷ Bind contract.result
      ∷ walk.Produce Plain contract.post
      ∷ Return OfContract w.point.names ∷ [])
      (with_names names w)))

  -- a call in place: the body runs one call deeper
  abbrev pub call_in_place : FunctionOf → List Term → Walk → Moved
  call_in_place function args w =
      known answers decls (binding function.params args) w (λ names.
      if nat_lt (1 + returns_of_calls w.point.jobs) max_depth_of_calls
      then On (and_jobs (Run function.body ∷ Return OfCall w.point.names ∷ [])
      (with_names names w))
      else Limit kind.Inline)

  -- a call goes by the contract, in mode ByContract and where there is one
  abbrev pub call : Mode → Option ContractDecl → FunctionOf → List Term → Walk → Moved
  call ByContract (Some contract) function args w =
      call_by_contract contract function args w
  call ByContract None function args w = call_in_place function args w
  call Inline contract function args w = call_in_place function args w

  -- `open`, `close` and `lemma` are skipped in mode Inline
  abbrev pub proof : Mode → Walk → Moved → Moved
  proof ByContract w moved = moved
  proof Inline w moved = On (with_last unit w)

  -- by cases on the form
  abbrev pub run_layer : Mode → Stm-F Stm → Walk → Moved
  run_layer mode (Ret e) w =
      with_term answers decls (plainly w.point.names) e any_type w
      (λ term. On (with_last term w))
  run_layer mode (Let x first second) w =
      On (and_jobs (Run first ∷ Bind x ∷ Run second ∷ Return OfScope w.point.names ∷ []) w)
  run_layer mode (Seq []) w = owe_false answers decls w
  run_layer mode (Seq (part ∷ parts)) w = On (and_jobs (map Run (part ∷ parts)) w)
  run_layer mode (If test first second) w =
      with_term answers decls (plainly w.point.names) test (same_type ty.Bool) w
      (λ condition. branch answers decls condition w
      (and_jobs (Run first ∷ []) w) (and_jobs (Run second ∷ []) w))
  run_layer mode (Case e arms) w =
      with_term answers decls (plainly w.point.names) e any_type w (λ term.
      known answers decls (enum_in (type_in answers decls w term)) w (λ of.
      case_by (member_in term) term of arms w))
  run_layer mode (Match e arms) w =
      with_term answers decls (plainly w.point.names) e any_type w (λ term.
      known answers decls (union_in (type_in answers decls w term)) w (λ of.
      match_by (made_of term) term of arms w))
  run_layer mode (Read r) w =
      known answers decls (register_found decls r) w (λ (register : RegisterAt).
      known answers decls (register_chunk register.at w.chunks) w (λ (found : RegisterChunk).
      On (with_last found.value w)))
  run_layer mode (Write r e) w =
      known answers decls (register_found decls r) w (λ (register : RegisterAt).
      with_term answers decls (plainly w.point.names) e (same_type register.type) w
      (λ value. write_register register value w))
  run_layer mode (Load index) w =
      with_term answers decls (plainly w.point.names) index (index_wanted decls) w (λ key.
      read_cell answers decls key w (λ value read. On (with_last value read)))
  run_layer mode (Store index e) w =
      with_term answers decls (plainly w.point.names) index (index_wanted decls) w (λ key.
      with_term answers decls (plainly w.point.names) e (same_type (cell_type decls)) w (λ value.
      found answers decls w (search answers decls w (cell_goals decls key w.chunks)) (λ place.
      store_in (slice_get w.chunks place) place value w)))
  run_layer mode (Call f args) w =
      known answers decls (function_of decls f) w (λ (function : FunctionOf).
      with_terms answers decls (plainly w.point.names) args
      (wanted_of decls function.params) w
      (λ terms. call mode (contract_of decls f) function terms w))
  run_layer mode (Check e) w =
      with_term answers decls (plainly w.point.names) e (same_type ty.Bool) w
      (λ goal. owe answers decls w goal (On (with_last unit w)))
  run_layer mode Fail w = owe_false answers decls w
  run_layer mode (Open p inputs) w =
      proof mode w
      (known answers decls (predicate_found decls p) w (λ (pred : PredicateAt).
      with_terms answers decls (plainly w.point.names) inputs (wanted_of decls pred.inputs) w
      (λ terms. unfolded answers decls pred terms (with_last unit w))))
  run_layer mode (Close p inputs) w =
      proof mode w
      (known answers decls (predicate_found decls p) w (λ (pred : PredicateAt).
      with_terms answers decls (plainly w.point.names) inputs (wanted_of decls pred.inputs) w
      (λ terms. fold_up answers decls pred terms (with_last unit w))))
  run_layer mode (Lemma l args) w =
      proof mode w
      (known answers decls (lemma_of decls l) w (λ (lemma : LemmaDecl).
      with_terms answers decls (plainly w.point.names) args (wanted_of decls lemma.params) w
      (λ terms. known answers decls (binding lemma.params terms) w (λ names.
      On (and_jobs
      (walk.Consume Plain lemma.pre ∷ Bound lemma.names ∷ walk.Produce Plain lemma.post
      ∷ Return OfLemma w.point.names ∷ [])
      (with_names names (with_last unit w)))))))

  -- one step
  abbrev pub run : Mode → Stm → Walk → Moved
  run mode stm w = counted w (run_layer mode (out-Stm stm))
