-- Typing of declarations: the faults of each, among all of them.
use Rattle.std.specs.Prelude.{ℕ, ◌+◌, ◌==◌, ◌&&◌, not, nat_le, Bool, true, false, List, [], ◌∷◌, ◌++◌, length, take, Option, None, Some, is_some, option_and_then}
use Rattle.std.specs.List.{list_any, list_all}
use Rattle.std.specs.Str.{bytes_eq}
use Rattle.kat_value.specs.declared.types.Ty.{Ty}
use Rattle.kat_value.specs.declared.types.Ty.TheVariants as ty
use Rattle.kat_value.specs.Signatures.{agree, may_be_bits}
use Rattle.kat_value.specs.Widths.{is_width}
use Rattle.kat_ast.specs.declared.type_name.TypeName.{TypeName}
use Rattle.kat_ast.specs.declared.type_name.Param.{Param}
use Rattle.kat_ast.specs.declared.expr.Expr.{Expr}
use Rattle.kat_ast.specs.declared.assertion.Assertion.{Assertion}
use Rattle.kat_ast.specs.declared.stm.Stm.{Stm}
use Rattle.kat_ast.specs.declared.stm.Stm.TheOpen.{Stm-F, Open, Close, Lemma}
use Rattle.kat_ast.specs.declared.stm.Stm.TheFolds.{fold-Stm}
use Rattle.kat_ast.specs.declared.decl.RegisterKind.{RegisterKind}
use Rattle.kat_ast.specs.declared.decl.RegisterKind.TheVariants as register
use Rattle.kat_ast.specs.declared.decl.Phase.{Phase}
use Rattle.kat_ast.specs.declared.decl.Phase.TheVariants as phase
use Rattle.kat_ast.specs.declared.decl.When.{When}
use Rattle.kat_ast.specs.declared.decl.Block.{Block}
use Rattle.kat_ast.specs.declared.decl.DeclForm.{DeclForm}
use Rattle.kat_ast.specs.declared.decl.DeclForm.TheVariants as d
use Rattle.kat_ast.specs.Expressions.{trees_of_expr}
use Rattle.kat_ast.specs.Statements.{trees_of_stm}
use Rattle.kat_ast.specs.Assertions.{trees_of_assertion}
use Rattle.kat_ast.specs.Types.{trees_of_type, trees_of_param, trees_of_params}
use Rattle.kat_ast.specs.Declarations.{trees_of_when}
use Rattle.kat_syntax.specs.Tables.{Name}
use Rattle.kat_syntax.specs.Limits.{most_declarations, most_protected, most_code, most_fields, greatest_size, most_within}
use Rattle.kat_syntax.specs.declared.type_rule.TypeRule.TheVariants.{NameTaken, NoWidth, BodyOther, MemoryMissing, MemoryBounds, RangeOutside, CellTaken, OutsideNotBits, NotProof, NotOnce, WithinOutside, TooMany, ContractTwice}
use Rattle.kat_syntax.specs.TypeRules.{Fault, unless}
use Rattle.kat_syntax.specs.Declares.{Declared, declared_by, declared_in}
use Rattle.kat_syntax.specs.Around.{Around, FunctionSeen, a_function, a_block, meant, first_named}
use Rattle.kat_syntax.specs.Memories.{Range, range_of_cells, range_of_code, memory_before, index_type, is_cell_value, has_bounds, is_within, is_taken, passes, protected_by, code_of_decl}
use Rattle.kat_syntax.specs.TypesWritten.{Scope, hiding, type_faults_at, type_here, param_faults, with_params, size_here}
use Rattle.kat_syntax.specs.TypingExpressions.{Standing, Plain, InDispatch, WithKept, InChange, unknown, known_of_expr}
use Rattle.kat_syntax.specs.TypingStatements.{condition_faults, without_memory, known_of_stm}
use Rattle.kat_syntax.specs.TypingAssertions.{judged_assertion}

-- whether a declared name is the one that stands at these places
abbrev pub stands_at : ℕ → ℕ → Option Declared → Bool
stands_at decl tree None = false
stands_at decl tree (Some one) = (one.decl == decl) && (one.tree == tree)

-- the faults of names that a declaration declares, of which each has to be the first of its name
abbrev pub taken_names : Around → List Declared → List Fault
taken_names around [] = []
taken_names around (one ∷ more) =
    unless (stands_at one.decl one.tree (first_named (declared_by around.decls) one.name))
    one.tree NameTaken
    ++ taken_names around more

-- the names that a declaration declares, whatever they mean
abbrev pub own_names : Around → DeclForm → List Declared
own_names around decl = declared_in around.decls around.number 0 decl

-- how many fields a record type has
abbrev pub fields_of_decl : DeclForm → ℕ
fields_of_decl (d.Record x fields) = length fields
fields_of_decl _ = 0

-- whether no count passes its limit with this declaration
abbrev pub is_in_limits : Around → DeclForm → Bool
is_in_limits around decl =
    not (around.number == most_declarations)
    && (not (passes protected_by most_protected around decl)
    && (not (passes code_of_decl most_code around decl)
    && (nat_le (fields_of_decl decl) most_fields
    && nat_le (size_here around decl) greatest_size)))

-- the faults of constructors, the list of the first standing at this tree: of their types
abbrev pub ctor_faults : Around → ℕ → List Param → List Fault
ctor_faults around at [] = []
ctor_faults around at (ctor ∷ ctors) =
    type_faults_at around (at + 2) ctor.ty ++ ctor_faults around (at + trees_of_param ctor) ctors

-- the faults of fields behind names of fields, the list of the first standing at this tree
abbrev pub field_faults : Around → List Name → ℕ → List Param → List Fault
field_faults around names at [] = []
field_faults around names at (field ∷ fields) =
    unless (not (list_any (bytes_eq field.name) names)) (at + 1) NameTaken
    ++ (type_faults_at around (at + 2) field.ty
    ++ field_faults around (names ++ field.name ∷ []) (at + trees_of_param field) fields)

-- whether a register of this kind may be of this type, where it is known: an outside one of bits
abbrev pub may_be_of : RegisterKind → Option Ty → Bool
may_be_of register.Outside type = may_be_bits type
may_be_of _ type = true

-- the faults of a range of cells at tree 0: it needs a memory, is inside, and no cell is taken
abbrev pub range_faults : Around → Range → List Fault
range_faults around range =
    without_memory around 0
    ++ (unless (is_within range (memory_before around)) 0 RangeOutside
    ++ unless (not (is_taken around range)) 0 CellTaken)

-- whether each value is one of the cells of the memory before
abbrev pub are_cell_values : Around → List ℕ → Bool
are_cell_values around values =
    list_all (λ n. is_cell_value n (memory_before around)) values

-- whether a declaration is a contract of this function
abbrev pub is_contract : Name → DeclForm → Bool
is_contract f (d.Contract g names pre x post) = bytes_eq f g
is_contract f _ = false

-- whether an earlier declaration is of this kind
abbrev pub is_second : (DeclForm → Bool) → Around → Bool
is_second kind around = list_any kind (take around.number around.decls)

-- whether a declaration is a `step`
abbrev pub is_step : DeclForm → Bool
is_step (d.Step f) = true
is_step _ = false

-- whether a declaration is the `dispatch`
abbrev pub is_dispatch : DeclForm → Bool
is_dispatch (d.Dispatch cases otherwise) = true
is_dispatch _ = false

-- whether a declaration is the untrusted assertion
abbrev pub is_untrusted : DeclForm → Bool
is_untrusted (d.Untrusted holds) = true
is_untrusted _ = false

-- whether a declaration names the boot block
abbrev pub is_boot : DeclForm → Bool
is_boot (d.Boot x) = true
is_boot _ = false

-- whether a function that is known may be the step function: it has no parameters and is unit
abbrev pub may_step : Option FunctionSeen → Bool
may_step None = true
may_step (Some seen) = (length seen.params == 0) && agree (Some ty.Unit) seen.result

-- the parameters of a function that is known
abbrev pub params_seen : Option FunctionSeen → Scope
params_seen None = []
params_seen (Some seen) = seen.params

-- the type of a function that is known
abbrev pub result_seen : Option FunctionSeen → Option Ty
result_seen seen = option_and_then (λ (one : FunctionSeen). one.result) seen

-- the faults of an assertion at this tree
abbrev pub assertion_at : Around → Standing → Scope → ℕ → Assertion → List Fault
assertion_at around standing scope at a = (judged_assertion around standing a scope).faults at

-- the faults of a condition at this tree
abbrev pub truth_at : Around → Standing → Scope → ℕ → Expr → List Fault
truth_at around standing scope at e =
    condition_faults (agree (Some ty.Bool)) at (known_of_expr around standing scope e)

-- whether one layer of a statement is a proof statement
abbrev pub proof_layer : Stm-F Bool → Bool
proof_layer (Open p inputs) = true
proof_layer (Close p inputs) = true
proof_layer (Lemma l args) = true
proof_layer _ = false

-- whether a statement is a proof statement itself
abbrev pub is_proof : Stm → Bool
is_proof = fold-Stm Bool proof_layer

-- the faults of the steps of a lemma, the first standing at this tree
abbrev pub proof_step_faults : Around → Scope → ℕ → List Stm → List Fault
proof_step_faults around scope at [] = []
proof_step_faults around scope at (step ∷ steps) =
    unless (is_proof step) at NotProof
    ++ ((known_of_stm around step scope).faults at
    ++ proof_step_faults around scope (at + trees_of_stm step) steps)

-- the faults of a phase at this tree
abbrev pub phase_faults : Around → ℕ → Phase → List Fault
phase_faults around at (phase.Block x) = unknown (at + 2) (meant a_block around x)
phase_faults around at _ = []

-- the faults of the cases of the dispatch and of the phase behind them, the first standing at this
-- tree
abbrev pub when_faults : Around → ℕ → List When → Phase → List Fault
when_faults around at [] otherwise = phase_faults around (at + 2) otherwise
when_faults around at (case ∷ cases) otherwise =
    truth_at around InDispatch [] (at + 2) case.test
    ++ (phase_faults around (at + 2 + trees_of_expr case.test) case.phase
    ++ when_faults around (at + trees_of_when case) cases otherwise)

-- the faults of a contract: its function, its names, and both assertions, with the result's name in
-- the second alone
abbrev pub contract_faults :
    Around → Name → List Param → Assertion → Name → Assertion → List Fault
contract_faults around f names pre x post =
    let seen = meant a_function around f in
    let scope = with_params around (params_seen seen) names in
    let pre_at = 3 + trees_of_params names in
    let res_at = pre_at + 2 + trees_of_assertion pre in
    unknown 2 seen
    ++ (unless (not (is_some seen && is_second (is_contract f) around)) 0 ContractTwice
    ++ (param_faults around (params_seen seen) 4 names
    ++ (assertion_at around Plain scope (pre_at + 2) pre
    ++ (hiding around scope (res_at + 2) x
    ++ assertion_at around Plain (record { name = x; type = result_seen seen } ∷ scope)
    (res_at + 5) post))))

-- the faults of a lemma: its parameters and names, both assertions, and its steps
abbrev pub lemma_faults :
    Around → List Param → List Param → Assertion → Assertion → List Stm → List Fault
lemma_faults around params names pre post steps =
    let inner = with_params around [] params in
    let scope = with_params around inner names in
    let names_at = 3 + trees_of_params params in
    let pre_at = names_at + trees_of_params names in
    let post_at = pre_at + 2 + trees_of_assertion pre in
    param_faults around [] 4 params
    ++ (param_faults around inner (names_at + 1) names
    ++ (assertion_at around Plain scope (pre_at + 2) pre
    ++ (assertion_at around Plain scope (post_at + 2) post
    ++ proof_step_faults around scope (post_at + 4 + trees_of_assertion post) steps)))

-- the faults of a function: its parameters, the type of its result, and its body, which is of it
abbrev pub function_faults : Around → List Param → TypeName → Stm → List Fault
function_faults around params result body =
    let known = known_of_stm around body (with_params around [] params) in
    let result_at = 3 + trees_of_params params in
    let body_at = result_at + trees_of_type result in
    param_faults around [] 4 params
    ++ (type_faults_at around result_at result
    ++ (known.faults body_at
    ++ unless (agree (type_here around result) known.type) body_at BodyOther))

-- the faults of a predicate: its inputs and outputs, and its definition
abbrev pub predicate_faults : Around → List Param → List Param → Assertion → List Fault
predicate_faults around inputs outputs definition =
    let inner = with_params around [] inputs in
    let outputs_at = 3 + trees_of_params inputs in
    param_faults around [] 4 inputs
    ++ (param_faults around inner (outputs_at + 1) outputs
    ++ assertion_at around Plain (with_params around inner outputs)
    (outputs_at + trees_of_params outputs) definition)

-- the faults of a region: it needs a memory; its parameters, its index and its guard
abbrev pub region_faults : Around → List Param → Name → Expr → List Fault
region_faults around params i guard =
    let scope = with_params around [] params in
    let index_at = 3 + trees_of_params params in
    without_memory around 0
    ++ (param_faults around [] 4 params
    ++ (hiding around scope index_at i
    ++ truth_at around Plain (record { name = i; type = index_type around } ∷ scope)
    (index_at + 1) guard))

-- the faults of a block: what holds at its entry, its cycles, and its change
abbrev pub block_faults : Around → Block → List Fault
block_faults around block =
    let within_at = 5 + trees_of_assertion block.entry in
    assertion_at around WithKept [] 5 block.entry
    ++ (unless (nat_le 1 block.within && nat_le block.within most_within) (within_at + 2)
    WithinOutside
    ++ truth_at around InChange [] (within_at + 5) block.change)

-- the faults of a declaration beside those of its own names and of the limits
abbrev pub inner_faults : Around → DeclForm → List Fault
inner_faults around (d.Enum x members) = []
inner_faults around (d.Union x ctors) = ctor_faults around 4 ctors
inner_faults around (d.Record x fields) = field_faults around [] 4 fields
inner_faults around (d.Register x type kind) =
    type_faults_at around 3 type ++ unless (may_be_of kind (type_here around type)) 3 OutsideNotBits
inner_faults around (d.Memory a c lo hi) =
    unless (not (is_some (memory_before around))) 0 MemoryMissing
    ++ (unless (is_width a) 2 NoWidth
    ++ (unless (is_width c) 3 NoWidth ++ unless (has_bounds a lo hi) 0 MemoryBounds))
inner_faults around (d.Cells kind lo hi) = range_faults around (range_of_cells kind lo hi)
inner_faults around (d.Code lo values) =
    range_faults around (range_of_code lo values)
    ++ unless (are_cell_values around values) 0 RangeOutside
inner_faults around (d.Region x params i guard) = region_faults around params i guard
inner_faults around (d.Predicate x inputs outputs definition) =
    predicate_faults around inputs outputs definition
inner_faults around (d.Fun x params result body) = function_faults around params result body
inner_faults around (d.Contract f names pre x post) = contract_faults around f names pre x post
inner_faults around (d.Lemma x params names pre post steps) =
    lemma_faults around params names pre post steps
inner_faults around (d.Step f) =
    unknown 2 (meant a_function around f)
    ++ (unless (may_step (meant a_function around f)) 2 NotOnce
    ++ unless (not (is_second is_step around)) 0 NotOnce)
inner_faults around (d.Dispatch cases otherwise) =
    when_faults around 2 cases otherwise ++ unless (not (is_second is_dispatch around)) 0 NotOnce
inner_faults around (d.Untrusted holds) =
    assertion_at around WithKept [] 2 holds
    ++ unless (not (is_second is_untrusted around)) 0 NotOnce
inner_faults around (d.Block block) = block_faults around block
inner_faults around (d.Boot x) =
    unknown 2 (meant a_block around x) ++ unless (not (is_second is_boot around)) 0 NotOnce

-- all faults of a declaration
abbrev pub decl_faults : Around → DeclForm → List Fault
decl_faults around decl =
    taken_names around (own_names around decl)
    ++ (unless (is_in_limits around decl) 0 TooMany ++ inner_faults around decl)
