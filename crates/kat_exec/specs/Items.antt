-- Where each item starts: its fresh values, its chunks and its jobs.
use Rattle.std.specs.Prelude.{◌-◌, ◌++◌, false, if◌then◌else◌, List, [], ◌∷◌, map, Option, None, Some, Result, Ok, Err}
use Rattle.kat_value.specs.declared.types.Ty.{Ty}
use Rattle.kat_ast.specs.declared.assertion.Assertion.{Assertion}
use Rattle.kat_ast.specs.declared.decl.Block.{Block}
use Rattle.kat_ast.specs.declared.decl.DeclForm.{DeclForm}
use Rattle.kat_ast.specs.declared.decl.DeclForm.TheVariants as d
use Rattle.kat_ast.specs.declared.decl.Phase.TheVariants as phase
use Rattle.kat_ast.specs.declared.type_name.Param.{Param}
use Rattle.kat_syntax.specs.Holds.{index_width}
use Rattle.kat_syntax.specs.Phases.{untrusted_of}
use Rattle.kat_syntax.specs.States.{KeptPlace, KeptCell, KeptRegister, cell_width, kept_places}
use Rattle.kat_syntax.specs.Tables.{Function, step_function_of}
use Rattle.kat_syntax.specs.TypeTable.{no_type}
use Rattle.kat_term.specs.Growth.{with_fresh}
use Rattle.kat_term.specs.Views.{bits, truth, unit}
use Rattle.kat_term.specs.Worlds.{World, empty_world}
use Rattle.kat_term.specs.declared.kind.Kind.{Kind}
use Rattle.kat_term.specs.declared.kind.Kind.TheVariants as kind
use Rattle.kat_term.specs.declared.term.Term.{Term}
use Rattle.kat_chunk.specs.declared.chunk.Chunk.{Chunk}
use Rattle.kat_chunk.specs.declared.chunk.Chunk.TheVariants as chunk
use Rattle.kat_heap.specs.declared.mode.Mode.{Mode}
use Rattle.kat_heap.specs.declared.mode.Mode.TheVariants.{ByContract, Inline}
use Rattle.kat_heap.specs.Asking.{fresh_in, has_room}
use Rattle.kat_heap.specs.Items.{CodeCell, DispatchOf, code_cells, dispatch_of}
use Rattle.kat_heap.specs.Places.{RegisterAt, cell_type, register_found, type_written}
use Rattle.kat_heap.specs.Walks.{Job, Run, Produce, Consume, Owe, Bind, Return, Decide, Havoc, BehindCycle, BehindUntrusted, OfScope, OnlyIn, Kept, Plain, Names, Walk}
use Rattle.kat_exec.specs.Statements.{ContractDecl, FunctionOf, LemmaDecl, function_of}
use Rattle.kat_exec.specs.Steps.{cycle_jobs}

-- an item of a specification
pub data Item : Type 0 where
  OfFunction : (contract : ContractDecl) → Item
  OfLemma : (lemma : LemmaDecl) → Item
  OfUntrusted : Item
  OfBlock : (block : Block) → Item

-- the contracts and the lemmas, in order of declaration
abbrev pub declared_items : List DeclForm → List Item
declared_items [] = []
declared_items (d.Contract f names pre result post ∷ decls) =
    OfFunction (record { function = f; names = names; pre = pre; result = result; post = post })
    ∷ declared_items decls
declared_items (d.Lemma x params names pre post steps ∷ decls) =
    OfLemma (record {
      name = x;
      params = params;
      names = names;
      pre = pre;
      post = post;
      steps = steps;
    }) ∷ declared_items decls
declared_items (_ ∷ decls) = declared_items decls

-- the blocks, in order of declaration
abbrev pub block_items : List DeclForm → List Item
block_items [] = []
block_items (d.Block block ∷ decls) = OfBlock block ∷ block_items decls
block_items (_ ∷ decls) = block_items decls

-- the items in order: contracts and lemmas, `untrusted`, blocks
abbrev pub items_of : List DeclForm → List Item
items_of decls = declared_items decls ++ OfUntrusted ∷ block_items decls

-- the mode in which an item is walked
abbrev pub mode_of : Item → Mode
mode_of (OfFunction contract) = ByContract
mode_of (OfLemma lemma) = ByContract
mode_of OfUntrusted = ByContract
mode_of (OfBlock block) = Inline

-- a world with fresh values in order
pub record Made : Type 0 where
  pub world : World
  pub terms : List Term

-- fresh values with one more before them
abbrev pub made_before : Term → Result Made Kind → Result Made Kind
made_before term (Ok made) = Ok (record made { terms = term ∷ made.terms })
made_before term (Err limit) = Err limit

-- fresh values of types, in order
abbrev pub made_of_types : List DeclForm → List Ty → World → Result Made Kind
made_of_types decls [] world = Ok (record { world = world; terms = [] })
made_of_types decls (t ∷ types) world =
    if has_room world (fresh_in decls t world)
    then made_before (fresh_in decls t world).term
    (made_of_types decls types (with_fresh world (fresh_in decls t world)))
    else Err kind.Vars

-- the types of parameters
abbrev pub types_of_params : List DeclForm → List Param → List Ty
types_of_params decls params = map (λ (param : Param). type_written decls param.ty) params

-- parameters with terms, as many as there are of both
abbrev pub names_with : List Param → List Term → Names Term
names_with [] terms = []
names_with (param ∷ params) [] = []
names_with (param ∷ params) (t ∷ terms) = (param.name, t) ∷ names_with params terms

-- the type of a register that is found
abbrev pub type_of_found : Option RegisterAt → Ty
type_of_found None = no_type
type_of_found (Some register) = register.type

-- the type of a kept place
abbrev pub type_of_place : List DeclForm → KeptPlace → Ty
type_of_place decls (KeptRegister r) = type_of_found (register_found decls r)
type_of_place decls (KeptCell i) = cell_type decls

-- the chunk of a kept place that is a register, with a term
abbrev pub register_chunk_for : Option RegisterAt → Term → List Chunk
register_chunk_for None term = []
register_chunk_for (Some register) term = chunk.Reg register.at term ∷ []

-- the Reg chunks of kept places
abbrev pub register_chunks : List DeclForm → List KeptPlace → List Term → List Chunk
register_chunks decls [] terms = []
register_chunks decls (place ∷ places) [] = []
register_chunks decls (KeptRegister r ∷ places) (t ∷ terms) =
    register_chunk_for (register_found decls r) t ++ register_chunks decls places terms
register_chunks decls (KeptCell i ∷ places) (t ∷ terms) = register_chunks decls places terms

-- the Cell chunks of kept places
abbrev pub cell_chunks : List DeclForm → List KeptPlace → List Term → List Chunk
cell_chunks decls [] terms = []
cell_chunks decls (place ∷ places) [] = []
cell_chunks decls (KeptRegister r ∷ places) (t ∷ terms) = cell_chunks decls places terms
cell_chunks decls (KeptCell i ∷ places) (t ∷ terms) =
    chunk.Cell (bits (index_width decls) i) t ∷ cell_chunks decls places terms

-- the Cell chunk of a code cell
abbrev pub code_chunk : List DeclForm → CodeCell → Chunk
code_chunk decls cell =
    chunk.Cell (bits (index_width decls) cell.index) (bits (cell_width decls) cell.number)

-- a walk that starts with these
abbrev pub starting : World → List Chunk → Names Term → List (Job Term) → Walk
starting world chunks names jobs = record {
  world = world;
  chunks = chunks;
  point = record { names = names; last = unit; jobs = jobs };
  steps = 0;
}

-- the jobs of the item of a function: its precondition is produced; its body runs among its
-- parameters alone; its postcondition is consumed with all names and the result
abbrev pub function_jobs : ContractDecl → FunctionOf → Names Term → Names Term → List (Job Term)
function_jobs contract function params all =
    Produce Plain contract.pre ∷ Return OfScope params ∷ Run function.body
    ∷ Return OfScope all ∷ Bind contract.result ∷ Consume Plain contract.post ∷ []

-- the start of the item of a function, its parameters and the contract's names being fresh
abbrev pub function_start : List DeclForm → ContractDecl → FunctionOf → Made → Made → Walk
function_start decls contract function params names =
    starting names.world []
    (names_with contract.names names.terms ++ names_with function.params params.terms)
    (function_jobs contract function (names_with function.params params.terms)
    (names_with contract.names names.terms ++ names_with function.params params.terms))

-- the jobs of the item of a lemma, its steps in place of a body
abbrev pub lemma_jobs : LemmaDecl → List (Job Term)
lemma_jobs lemma =
    Produce Plain lemma.pre ∷ map Run lemma.steps ++ Consume Plain lemma.post ∷ []

-- the jobs of the item `untrusted`
abbrev pub untrusted_jobs : Assertion → Function → DispatchOf → List Term → List (Job Term)
untrusted_jobs guard step dispatch first =
    Produce (Kept first) guard
    ∷ Decide dispatch.cases dispatch.otherwise (OnlyIn phase.Untrusted)
    ∷ Run step.body ∷ Havoc
    ∷ Decide dispatch.cases dispatch.otherwise (BehindUntrusted first) ∷ []

-- the jobs of the item of a block: its entry, its phase, and its first cycle
abbrev pub block_jobs :
    List DeclForm → Block → Function → DispatchOf → List Term → List (Job Term)
block_jobs decls block step dispatch first =
    Produce (Kept first) block.entry
    ∷ Decide dispatch.cases dispatch.otherwise (OnlyIn (phase.Block block.name))
    ∷ cycle_jobs decls (BehindCycle block first (block.within - 1)) step dispatch

-- a start that owes `false`: what the item needs is not declared
abbrev pub no_start : Walk
no_start = starting empty_world [] [] (Owe (truth false) ∷ [])

-- goes on with fresh values, or is at the limit
abbrev pub after_made : Result Made Kind → (Made → Result Walk Kind) → Result Walk Kind
after_made (Ok made) go = go made
after_made (Err limit) go = Err limit

-- where a kind of item starts, what it needs being declared
module _ (decls : List DeclForm) where
  -- a function
  abbrev pub start_of_function : ContractDecl → Option FunctionOf → Result Walk Kind
  start_of_function contract None = Ok no_start
  start_of_function contract (Some function) =
      after_made
      (made_of_types decls (types_of_params decls function.params) empty_world) (λ params.
      after_made (made_of_types decls (types_of_params decls contract.names) params.world)
      (λ names. Ok (function_start decls contract function params names)))

  -- a lemma
  abbrev pub start_of_lemma : LemmaDecl → Result Walk Kind
  start_of_lemma lemma =
      after_made (made_of_types decls (types_of_params decls lemma.params) empty_world) (λ params.
      after_made (made_of_types decls (types_of_params decls lemma.names) params.world) (λ names.
      Ok (starting names.world []
      (names_with lemma.names names.terms ++ names_with lemma.params params.terms)
      (lemma_jobs lemma))))

  -- `untrusted`
  abbrev pub start_of_untrusted :
      Option Assertion → Option Function → Option DispatchOf → Result Walk Kind
  start_of_untrusted (Some guard) (Some step) (Some dispatch) =
      after_made (made_of_types decls (map (type_of_place decls) (kept_places decls)) empty_world)
      (λ first. Ok (starting first.world
      (register_chunks decls (kept_places decls) first.terms) []
      (untrusted_jobs guard step dispatch first.terms)))
  start_of_untrusted _ _ _ = Ok no_start

  -- a block
  abbrev pub start_of_block :
      Block → Option Function → Option DispatchOf → Result Walk Kind
  start_of_block block (Some step) (Some dispatch) =
      after_made (made_of_types decls (map (type_of_place decls) (kept_places decls)) empty_world)
      (λ first. Ok (starting first.world
      (register_chunks decls (kept_places decls) first.terms
      ++ cell_chunks decls (kept_places decls) first.terms
      ++ map (code_chunk decls) (code_cells decls)) []
      (block_jobs decls block step dispatch first.terms)))
  start_of_block block _ _ = Ok no_start

  -- where an item starts, or the limit that its fresh values pass
  abbrev pub start_of : Item → Result Walk Kind
  start_of (OfFunction contract) =
      start_of_function contract (function_of decls contract.function)
  start_of (OfLemma lemma) = start_of_lemma lemma
  start_of OfUntrusted =
      start_of_untrusted (untrusted_of decls) (step_function_of decls) (dispatch_of decls)
  start_of (OfBlock block) =
      start_of_block block (step_function_of decls) (dispatch_of decls)
