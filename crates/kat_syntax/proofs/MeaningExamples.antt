-- Small machines, computed: what each statement and operation gives is what it says.
use Rattle.std.proofs.Common.{◌≡◌, ℕ, suc, List, [], ◌∷◌, Option, Some, None, ap, ◌∙◌, refl}
use Rattle.std.specs.Prelude.{◌^◌, true}
use Rattle.kat_value.specs.declared.op.Op.TheVariants as op
use Rattle.kat_value.specs.declared.types.Ty.TheVariants as ty
use Rattle.kat_value.specs.declared.value.Value.{Value}
use Rattle.kat_value.specs.declared.value.Value.TheVariants as value
use Rattle.kat_value.specs.declared.value.Value.TheViews.{outs-Bits, outs-Member, outs-Made}
use Rattle.kat_value.specs.Operations.{value_of_op}
use Rattle.kat_ast.specs.Spec.{Spec}
use Rattle.kat_ast.specs.declared.type_name.TypeName.TheVariants as t
use Rattle.kat_ast.specs.declared.decl.RegisterKind.TheVariants as r
use Rattle.kat_ast.specs.declared.decl.CellsKind.TheVariants as c
use Rattle.kat_ast.specs.declared.decl.DeclForm.{DeclForm}
use Rattle.kat_ast.specs.declared.decl.DeclForm.TheVariants as d
use Rattle.kat_ast.specs.declared.expr.Expr.{Expr}
use Rattle.kat_ast.specs.declared.expr.Expr.TheOpen as e
use Rattle.kat_ast.specs.declared.expr.Expr.TheViews.{roll-Expr}
use Rattle.kat_ast.specs.declared.expr.Expr.TheFolds.{map-Expr, fold-roll-Expr}
use Rattle.kat_ast.specs.declared.stm.Stm.{Stm}
use Rattle.kat_ast.specs.declared.stm.CaseArm.{CaseArm}
use Rattle.kat_ast.specs.declared.stm.MatchArm.{MatchArm}
use Rattle.kat_ast.specs.declared.stm.Stm.TheOpen as s
use Rattle.kat_ast.specs.declared.stm.Stm.TheViews.{roll-Stm}
use Rattle.kat_ast.specs.declared.stm.Stm.TheFolds.{map-Stm, fold-roll-Stm}
use Rattle.kat_ast.specs.Expressions.{expr_trees, trees_of_expr}
use Rattle.kat_syntax.specs.FirstValues.{first_value}
use Rattle.kat_syntax.specs.TypeTable.{types_of_decls}
use Rattle.kat_syntax.specs.Machine.{MachineState, Progress}
use Rattle.kat_syntax.specs.States.{kept_places, KeptRegister, KeptCell}
use Rattle.kat_syntax.specs.Start.{start_of}
use Rattle.kat_syntax.specs.Evaluation.{Environment, BothEnds, Nothing, expr_value, value_of_expr}
use Rattle.kat_syntax.specs.Outcomes.{Done, Out, Fail, Here, There, at_site, inside, place_in}
use Rattle.kat_syntax.specs.Meaning.{Calls, Part, part_of, part_of_stm, meaning}
use Rattle.kat_syntax.specs.Cycle.{CycleOutcome, OutOfCalls, FailedAt, Completed, as_cycle, stuck_place, bound, call_of, cycle_of}
use Rattle.kat_syntax.specs.OutsideWrites.{poked, Wrote, NoPlace, NoFit}
use Rattle.kat_syntax.specs.Run.{Cycle, OutsideWrite, Ended, OutIn, run_of}

-- operations: at the width's end, past it, on both signs, and on values of two types
sum_is_modulo :
    value_of_op op.Add (value.Bits 8 250 ∷ value.Bits 8 10 ∷ []) ≡ Some (value.Bits 8 4)
sum_is_modulo = simp (outs-Bits)

shift_past_the_width :
    value_of_op op.Sar (value.Bits 8 129 ∷ value.Bits 8 200 ∷ []) ≡ Some (value.Bits 8 255)
shift_past_the_width = simp (outs-Bits)

comparison_is_signed :
    value_of_op op.Slt (value.Bits 64 (2 ^ 63) ∷ value.Bits 64 0 ∷ []) ≡ Some (value.Bool true)
comparison_is_signed = simp (outs-Bits)

first_is_high :
    value_of_op op.Cat (value.Bits 8 171 ∷ value.Bits 4 1 ∷ []) ≡ Some (value.Bits 12 2737)
first_is_high = simp (outs-Bits)

two_types_are_not_compared : value_of_op op.Eq (value.Bits 8 1 ∷ value.Bits 4 1 ∷ []) ≡ None
two_types_are_not_compared = simp (outs-Bits)

-- the names of a small machine
abbrev n : List ℕ
n = 110 ∷ []

abbrev f : List ℕ
f = 102 ∷ []

abbrev x : List ℕ
x = 120 ∷ []

abbrev u : List ℕ
u = 117 ∷ []

abbrev v : List ℕ
v = 118 ∷ []

abbrev k : List ℕ
k = 107 ∷ []

-- types and first values: the first constructor, with the first record of the first member
abbrev with_types : List DeclForm
with_types =
    d.Enum u (x ∷ n ∷ [])
    ∷ d.Step f
    ∷ d.Record v (record { name = x; ty = t.Bits 8 } ∷ record { name = n; ty = t.Named u } ∷ [])
    ∷ d.Union k (record { name = f; ty = t.Named v } ∷ record { name = n; ty = t.Unit } ∷ [])
    ∷ []

first_of_union :
    first_value (types_of_decls with_types) (ty.Union 2)
    ≡ Some (value.Made 2 0 (value.Rec 1 (value.Bits 8 0 ∷ value.Member 0 0 ∷ [])))
first_of_union = refl

-- a machine with a memory from 4 to 7, whose step function has this body
abbrev machine : Stm → List DeclForm
machine body =
    d.Memory 8 8 4 8
    ∷ d.Cells c.Protected 6 8
    ∷ d.Cells c.Outside 4 5
    ∷ d.Register n (t.Bits 8) r.Protected
    ∷ d.Register x (t.Bits 4) r.Outside
    ∷ d.Fun f [] t.Unit body
    ∷ d.Step f
    ∷ []

abbrev as_spec : List DeclForm → Spec
as_spec decls = record { version = 1; decls = decls }

abbrev stop : Stm
stop = roll-Stm s.Fail

abbrev fresh : MachineState
fresh = record {
  registers = value.Bits 8 0 ∷ value.Bits 4 0 ∷ [];
  lo = 4;
  cells = 0 ∷ 0 ∷ 0 ∷ 0 ∷ [];
}

start_is_fresh : start_of (as_spec (machine stop)) ≡ fresh
start_is_fresh = refl

kept_in_order : kept_places (machine stop) ≡ KeptRegister n ∷ KeptCell 6 ∷ KeptCell 7 ∷ []
kept_in_order = refl

-- outside writes: the range comes first, then the register
outside_cell :
    poked (as_spec (machine stop)) (record { ordinal = 0; offset = 0; bits = 9 }) fresh
    ≡ Wrote (record fresh { cells = 9 ∷ 0 ∷ 0 ∷ 0 ∷ [] })
outside_cell = refl

outside_register :
    poked (as_spec (machine stop)) (record { ordinal = 1; offset = 0; bits = 15 }) fresh
    ≡ Wrote (record fresh { registers = value.Bits 8 0 ∷ value.Bits 4 15 ∷ [] })
outside_register = refl

bits_past_the_width :
    poked (as_spec (machine stop)) (record { ordinal = 1; offset = 0; bits = 16 }) fresh ≡ NoFit
bits_past_the_width = refl

offset_past_the_end :
    poked (as_spec (machine stop)) (record { ordinal = 0; offset = 1; bits = 300 }) fresh ≡ NoPlace
offset_past_the_end = refl

-- a cycle without a call left
out_at_once : (body : Stm) → cycle_of (as_spec (machine body)) 0 fresh ≡ OutOfCalls
out_at_once body = refl

-- one layer each
expr_layer : (env : Environment) (layer : e.Expr-F Expr) →
    value_of_expr env (roll-Expr layer)
    ≡ expr_value env (map-Expr Expr (Option Value) (value_of_expr env) layer)
expr_layer env layer = fold-roll-Expr (Option Value) (expr_value env) layer

stm_layer : (decls : List DeclForm) (calls : Calls) (layer : s.Stm-F Stm) →
    part_of_stm decls calls (roll-Stm layer)
    ≡ part_of decls calls (map-Stm Stm Part (part_of_stm decls calls) layer)
stm_layer decls calls layer = fold-roll-Stm Part (part_of decls calls) layer

abbrev begun : ℕ → Progress
begun left = record { state = fresh; left = left; stores = [] }

-- a cycle with a call left, by what the body of the step function does
abbrev ends_as : Stm → ℕ → Part → CycleOutcome
ends_as body left part = as_cycle (stuck_place (machine body))
    (at_site (place_in 5) (inside 5 (part.does [] (begun left))))

cycle_by_part : (body : Stm) (left : ℕ) →
    cycle_of (as_spec (machine body)) (suc left) fresh
    ≡ ends_as body left (part_of_stm (machine body) (call_of (machine body) left) body)
cycle_by_part body left = refl

-- a failure stands at the body's tree in the declaration of the step function
fails_at_its_tree : cycle_of (as_spec (machine stop)) 1 fresh
    ≡ FailedAt (record { decl = 5; tree = 5 })
fails_at_its_tree = cycle_by_part stop 0
    ∙ ap (ends_as stop 0) (stm_layer (machine stop) (call_of (machine stop) 0) s.Fail)

-- an unbound name has no value, and a cycle that comes to it fails at the declaration of the step
-- function
abbrev unbound : Expr
unbound = roll-Expr (e.Name x)

unbound_has_no_value : (decls : List DeclForm) →
    value_of_expr (record { decls = decls; reads = Nothing; locals = [] }) unbound ≡ None
unbound_has_no_value decls = expr_layer (record { decls = decls; reads = Nothing; locals = [] })
    (e.Name x)

abbrev gives_unbound : Stm
gives_unbound = roll-Stm (s.Ret unbound)

stuck_is_a_failure : cycle_of (as_spec (machine gives_unbound)) 1 fresh
    ≡ FailedAt (record { decl = 5; tree = 0 })
stuck_is_a_failure =
    cycle_by_part gives_unbound 0
    ∙ ap (ends_as gives_unbound 0)
    (stm_layer (machine gives_unbound) (call_of (machine gives_unbound) 0) (s.Ret unbound))
    ∙ simp (unbound_has_no_value (machine gives_unbound))

-- `(store (bits 8 5) (bits 8 9))`
abbrev literal : ℕ → Expr
literal number = roll-Expr (e.Bits 8 number)

abbrev stores_nine : Stm
stores_nine = roll-Stm (s.Store (literal 5) (literal 9))

five : (decls : List DeclForm) →
    value_of_expr (record { decls = decls; reads = Nothing; locals = [] }) (literal 5)
    ≡ Some (value.Bits 8 5)
five decls = expr_layer (record { decls = decls; reads = Nothing; locals = [] }) (e.Bits 8 5)

nine : (decls : List DeclForm) →
    value_of_expr (record { decls = decls; reads = Nothing; locals = [] }) (literal 9)
    ≡ Some (value.Bits 8 9)
nine decls = expr_layer (record { decls = decls; reads = Nothing; locals = [] }) (e.Bits 8 9)

stores_a_cell :
    cycle_of (as_spec (machine stores_nine)) 3 fresh
    ≡ Completed (record {
      state = record fresh { cells = 0 ∷ 9 ∷ 0 ∷ 0 ∷ [] };
      left = 2;
      stores = 5 ∷ [];
    })
stores_a_cell =
    cycle_by_part stores_nine 2
    ∙ ap (ends_as stores_nine 2)
    (stm_layer (machine stores_nine) (call_of (machine stores_nine) 2)
    (s.Store (literal 5) (literal 9)))
    ∙ simp (five (machine stores_nine), nine (machine stores_nine))

-- `(case (of u n) (x (fail)) (n (fail)))` among the types above: the second arm, behind the first
abbrev of_n : Expr
of_n = roll-Expr (e.Of u n)

abbrev plain : Environment
plain = record { decls = with_types; reads = Nothing; locals = [] }

of_n_value : value_of_expr plain of_n ≡ Some (value.Member 0 1)
of_n_value = expr_layer plain (e.Of u n)

abbrev no_calls : Calls
no_calls = λ g args progress. Out

abbrev arms : List (CaseArm Stm)
arms = record { member = x; body = stop } ∷ record { member = n; body = stop } ∷ []

fail_part : part_of_stm with_types no_calls stop ≡ part_of with_types no_calls s.Fail
fail_part = stm_layer with_types no_calls s.Fail

of_n_trees : trees_of_expr of_n ≡ 4
of_n_trees = fold-roll-Expr ℕ expr_trees (e.Of u n)

case_takes_the_arm_of_the_member :
    meaning with_types no_calls (roll-Stm (s.Case of_n arms)) [] (begun 0) ≡ Fail (Here 12)
case_takes_the_arm_of_the_member =
    ap (λ (part : Part). part.does [] (begun 0)) (stm_layer with_types no_calls (s.Case of_n arms))
    ∙ simp (of_n_value, outs-Member, fail_part, of_n_trees)

-- `(eq (after n) (before n))` over the kept values before and behind a block
abbrev after_n : Expr
after_n = roll-Expr (e.After n)

abbrev before_n : Expr
before_n = roll-Expr (e.Before n)

abbrev at_both_ends : Environment
at_both_ends = record {
  decls = machine stop;
  reads = BothEnds (value.Bits 8 1 ∷ value.Bits 8 7 ∷ value.Bits 8 8 ∷ [])
      (value.Bits 8 2 ∷ value.Bits 8 7 ∷ value.Bits 8 9 ∷ []);
  locals = [];
}

value_behind : value_of_expr at_both_ends after_n ≡ Some (value.Bits 8 2)
value_behind = expr_layer at_both_ends (e.After n)

cell_behind : value_of_expr at_both_ends (roll-Expr (e.AfterCell 7)) ≡ Some (value.Bits 8 9)
cell_behind = expr_layer at_both_ends (e.AfterCell 7)

kept_may_not_stand_there : value_of_expr at_both_ends (roll-Expr (e.Kept n)) ≡ None
kept_may_not_stand_there = expr_layer at_both_ends (e.Kept n)

-- parameters take their arguments in order
bound_in_order :
    bound (record { name = x; ty = t.Bits 8 } ∷ record { name = n; ty = t.Bool } ∷ [])
    (value.Bits 8 7 ∷ value.Bool true ∷ [])
    ≡ Some ((x, value.Bits 8 7) ∷ (n, value.Bool true) ∷ [])
bound_in_order = refl

-- `(match y (f x (fail)) (n v (ret v)))` where y is made with n: the payload is bound
abbrev y : List ℕ
y = 121 ∷ []

abbrev name_y : Expr
name_y = roll-Expr (e.Name y)

abbrev name_v : Expr
name_v = roll-Expr (e.Name v)

abbrev payload_arms : List (MatchArm Stm)
payload_arms =
    record { ctor = f; payload = x; body = stop }
    ∷ record { ctor = n; payload = v; body = roll-Stm (s.Ret name_v) }
    ∷ []

abbrev with_y : List (List ℕ × Value)
with_y = (y, value.Made 2 1 (value.Bits 8 5)) ∷ []

y_value :
    value_of_expr (record { decls = with_types; reads = Nothing; locals = with_y }) name_y
    ≡ Some (value.Made 2 1 (value.Bits 8 5))
y_value = expr_layer (record { decls = with_types; reads = Nothing; locals = with_y }) (e.Name y)

abbrev with_v : List (List ℕ × Value)
with_v = (v, value.Bits 8 5) ∷ with_y

v_value :
    value_of_expr (record { decls = with_types; reads = Nothing; locals = with_v }) name_v
    ≡ Some (value.Bits 8 5)
v_value = expr_layer (record { decls = with_types; reads = Nothing; locals = with_v }) (e.Name v)

ret_v_part :
    part_of_stm with_types no_calls (roll-Stm (s.Ret name_v))
    ≡ part_of with_types no_calls (s.Ret name_v)
ret_v_part = stm_layer with_types no_calls (s.Ret name_v)

match_binds_the_payload :
    meaning with_types no_calls (roll-Stm (s.Match name_y payload_arms)) with_y (begun 0)
    ≡ Done (value.Bits 8 5) (begun 0)
match_binds_the_payload =
    ap (λ (part : Part). part.does with_y (begun 0))
    (stm_layer with_types no_calls (s.Match name_y payload_arms))
    ∙ simp (y_value, outs-Made, fail_part, ret_v_part, v_value)

-- a machine whose step function calls another
abbrev calling : Stm → List DeclForm
calling body =
    d.Fun k [] t.Unit body
    ∷ d.Fun f [] t.Unit (roll-Stm (s.Call k []))
    ∷ d.Step f
    ∷ []

abbrev call_part : Stm → ℕ → Part
call_part body left = part_of (calling body) (call_of (calling body) left) (s.Call k [])

call_layer : (body : Stm) (left : ℕ) →
    part_of_stm (calling body) (call_of (calling body) left) (roll-Stm (s.Call k []))
    ≡ call_part body left
call_layer body left = stm_layer (calling body) (call_of (calling body) left) (s.Call k [])

abbrev calling_ends_as : Stm → ℕ → Part → CycleOutcome
calling_ends_as body left part =
    as_cycle (stuck_place (calling body))
    (at_site (place_in 1) (inside 5 (part.does [] (begun left))))

calling_by_part : (body : Stm) (left : ℕ) →
    cycle_of (as_spec (calling body)) (suc left) fresh
    ≡ calling_ends_as body left
    (part_of_stm (calling body) (call_of (calling body) left) (roll-Stm (s.Call k [])))
calling_by_part body left = refl

-- a call spends one: with one allowed the step function has none for its own call
a_call_spends : (body : Stm) → cycle_of (as_spec (calling body)) 1 fresh ≡ OutOfCalls
a_call_spends body =
    calling_by_part body 0 ∙ ap (calling_ends_as body 0) (call_layer body 0)

-- a failure in a callee stands in the callee
abbrev callee_ends_as : Part → CycleOutcome
callee_ends_as part =
    as_cycle (stuck_place (calling stop))
    (at_site (place_in 1)
    (inside 5 (at_site There (at_site (place_in 0) (inside 5 (part.does [] (begun 0)))))))

callee_by_part :
    calling_ends_as stop 1 (call_part stop 1)
    ≡ callee_ends_as (part_of_stm (calling stop) (call_of (calling stop) 0) stop)
callee_by_part = refl

callee_fails : cycle_of (as_spec (calling stop)) 2 fresh ≡ FailedAt (record { decl = 0; tree = 5 })
callee_fails =
    calling_by_part stop 1
    ∙ ap (calling_ends_as stop 1) (call_layer stop 1)
    ∙ callee_by_part
    ∙ ap callee_ends_as (stm_layer (calling stop) (call_of (calling stop) 0) s.Fail)

-- a run of an event list: a boundary for the start, and none for a cycle that is out of calls
out_in_the_first : (body : Stm) →
    run_of (as_spec (machine body)) 0 fresh (Cycle ∷ Cycle ∷ [])
    ≡ record { boundaries = fresh ∷ []; end = OutIn 1 }
out_in_the_first body = refl

-- `(ret unit)` in the step function, and an outside write behind the first cycle
abbrev unit : Expr
unit = roll-Expr e.Unit

abbrev rests : Stm
rests = roll-Stm (s.Ret unit)

unit_value : (decls : List DeclForm) →
    value_of_expr (record { decls = decls; reads = Nothing; locals = [] }) unit ≡ Some value.Unit
unit_value decls = expr_layer (record { decls = decls; reads = Nothing; locals = [] }) e.Unit

rest_completes : (state : MachineState) →
    cycle_of (as_spec (machine rests)) 1 state
    ≡ Completed (record { state = state; left = 0; stores = [] })
rest_completes state =
    ap
    (λ (part : Part).
    as_cycle (stuck_place (machine rests))
    (at_site (place_in 5)
    (inside 5 (part.does [] (record { state = state; left = 0; stores = [] })))))
    (stm_layer (machine rests) (call_of (machine rests) 0) (s.Ret unit))
    ∙ simp (unit_value (machine rests))

abbrev written_line : MachineState
written_line = record fresh { registers = value.Bits 8 0 ∷ value.Bits 4 9 ∷ [] }

write_between_cycles :
    run_of (as_spec (machine rests)) 1 fresh
    (Cycle ∷ OutsideWrite (record { ordinal = 1; offset = 0; bits = 9 }) ∷ Cycle ∷ [])
    ≡ record { boundaries = fresh ∷ written_line ∷ written_line ∷ []; end = Ended }
write_between_cycles = simp (rest_completes fresh, rest_completes written_line)

-- a load of the index before the first and of the one behind the last fails, of the last does not
abbrev loads : ℕ → Stm
loads index = roll-Stm (s.Load (literal index))

load_part : (index : ℕ) →
    part_of_stm (machine stop) no_calls (loads index)
    ≡ part_of (machine stop) no_calls (s.Load (literal index))
load_part index = stm_layer (machine stop) no_calls (s.Load (literal index))

index_value : (index : ℕ) →
    value_of_expr (record { decls = machine stop; reads = Nothing; locals = [] }) (literal index)
    ≡ expr_value (record { decls = machine stop; reads = Nothing; locals = [] }) (e.Bits 8 index)
index_value index =
    expr_layer (record { decls = machine stop; reads = Nothing; locals = [] }) (e.Bits 8 index)

load_before_the_first : meaning (machine stop) no_calls (loads 3) [] (begun 0) ≡ Fail (Here 0)
load_before_the_first =
    ap (λ (part : Part). part.does [] (begun 0)) (load_part 3) ∙ simp (index_value 3)

load_behind_the_last : meaning (machine stop) no_calls (loads 8) [] (begun 0) ≡ Fail (Here 0)
load_behind_the_last =
    ap (λ (part : Part). part.does [] (begun 0)) (load_part 8) ∙ simp (index_value 8)

load_of_the_last :
    meaning (machine stop) no_calls (loads 7) [] (begun 0) ≡ Done (value.Bits 8 0) (begun 0)
load_of_the_last =
    ap (λ (part : Part). part.does [] (begun 0)) (load_part 7) ∙ simp (index_value 7)
