-- A state of the machine stays one behind statements, cycles and outside writes.
use Rattle.std.proofs.Common.{◌≡◌, ◌∙◌, ℕ, zero, suc, ◌+◌, ◌-◌, Bool, true, false, nat_le, List, [], ◌∷◌, ◌++◌, length, map, slice_get, Option, Some, None, refl, ap, sym, subst, if◌then◌else◌, arith}
use Rattle.std.specs.Prelude.{◌==◌, ◌&&◌, option_and_then, unwrap_or, slice_set}
use Rattle.std.specs.List.{AllByRecursion}
use Rattle.std.specs.Option.{option_map}
use Rattle.std.specs.Str.{bytes_eq}
use Rattle.std.proofs.lemmas.Bool.{and_parts, and_from, eqb-true, eq-eqb, false≢true}
use Rattle.std.proofs.lemmas.List.{length-set}
use Rattle.kat_value.specs.declared.types.Ty.{Ty}
use Rattle.kat_value.specs.declared.types.Ty.TheVariants as ty
use Rattle.kat_value.specs.declared.types.TypeDecl.{TypeDecl}
use Rattle.kat_value.specs.declared.value.Value.{Value, out-Value, fold-roll-Value}
use Rattle.kat_value.specs.declared.value.Value.TheVariants.{Unit as UnitValue, Bits as Number, rolls-Bits}
use Rattle.kat_value.specs.declared.value.Value.TheOpen.{Bits as NumberLayer}
use Rattle.kat_value.specs.Typing.{has_type, layer_has_type}
use Rattle.kat_value.specs.Widths.{is_number, is_width}
use Rattle.kat_ast.specs.declared.decl.CellsKind.TheVariants as cells
use Rattle.kat_ast.specs.declared.decl.RegisterKind.{RegisterKind}
use Rattle.kat_ast.specs.declared.decl.RegisterKind.TheVariants as register
use Rattle.kat_ast.specs.declared.decl.DeclForm.{DeclForm}
use Rattle.kat_ast.specs.declared.decl.DeclForm.TheVariants as d
use Rattle.kat_ast.specs.declared.place.Place.{Place}
use Rattle.kat_ast.specs.declared.expr.Expr.{Expr}
use Rattle.kat_ast.specs.declared.stm.Stm.{Stm}
use Rattle.kat_ast.specs.declared.stm.CaseArm.{CaseArm}
use Rattle.kat_ast.specs.declared.stm.MatchArm.{MatchArm}
use Rattle.kat_ast.specs.declared.stm.Stm.TheOpen.{Stm-F, Ret, Let, Seq, If, Case, Match, Read, Write, Load, Store, Call, Check, Fail as FailStm, Open, Close, Lemma}
use Rattle.kat_ast.specs.declared.stm.Stm.TheFolds.{map-Stm, fold-roll-Stm, ind-Stm}
use Rattle.kat_ast.specs.declared.stm.Stm.TheShapes.{former-Stm-Case-1-at-2 as case_arm, former-Stm-Match-1-at-3 as match_arm}
use Rattle.kat_ast.specs.declared.type_name.TypeName.{TypeName}
use Rattle.kat_ast.specs.declared.type_name.TypeName.TheVariants.{Unit as UnitName, Bool as BoolName, Bits as BitsName, Named}
use Rattle.kat_ast.specs.Expressions.{trees_of_expr}
use Rattle.kat_ast.specs.Spec.{Spec}
use Rattle.kat_syntax.specs.declared.places.OutsidePlace.{OutsidePlace}
use Rattle.kat_syntax.specs.declared.places.OutsidePlace.TheVariants.{Register as OutsideRegister, Cells as OutsideCells}
use Rattle.kat_syntax.specs.declared.places.Poke.{Poke}
use Rattle.kat_syntax.specs.Tables.{Name, Function, function_from, step_of}
use Rattle.kat_syntax.specs.TypeTable.{named_type, no_type, types_of_decls}
use Rattle.kat_syntax.specs.Memories.{Memory}
use Rattle.kat_syntax.specs.Machine.{MachineState, Progress}
use Rattle.kat_syntax.specs.States.{IsState, are_of_types, register_value, register_position, register_types, register_types_from, cell_at, with_cell, with_register, cell_width, memory_of, written, written_at}
use Rattle.kat_syntax.specs.Evaluation.{Locals, value_of_expr, values_of_exprs}
use Rattle.kat_syntax.specs.Outcomes.{Outcome, Done, Out, Fail, Stuck, StmSite, Here, There, then_do, given, at_site, inside, place_in}
use Rattle.kat_syntax.specs.Meaning as meant
use Rattle.kat_syntax.specs.Meaning.{Calls, Part, MadeWith, number_of, plainly, truth_for, number_for, member_of_layer, made_of_layer, part_of, part_of_stm, does_of, in_sequence, loaded, stored, done_in, meaning}
use Rattle.kat_syntax.specs.Cycle.{Completed, as_cycle, bound, body_of, call_of, progress_at, spend_one, step_call, stuck_place, cycle_of}
use Rattle.kat_syntax.specs.OutsideWrites.{Target, OneRegister, OneCell, outside_from, outside_places, target_in, target_of, takes_bits, with_target, with_outside, width_of, Poked, Wrote, NoPlace, NoFit, poked, poked_at}
use Rattle.kat_syntax.specs.MeaningLaws.{StatesStay}
use Rattle.kat_syntax.proofs.KeptRelations.{done_at, done_given, done_then, some_then}

-- a failure is not done
not_done : (site : StmSite) (v : Value) (q : Progress) → ◌≡◌ {A = Outcome StmSite} (Fail site)
    (Done v q) → ⊥
not_done site v q e = absurd (cc)

-- a value of a type is set among values of types
types_set : (types : List TypeDecl) (tys : List Ty) (xs : List Value) (at : ℕ) (t : Ty)
    (v : Value) → are_of_types types tys xs ≡ true →
    slice_get tys at ≡ Some t → has_type types v t ≡ true → are_of_types types tys
    (slice_set xs at v) ≡ true
types_set types [] [] at t v are there is = refl
types_set types [] (x ∷ xs) at t v are there is = absurd (false≢true are)
types_set types (u ∷ tys) [] at t v are there is = absurd (false≢true are)
types_set types (u ∷ tys) (x ∷ xs) zero t v are there is =
    let same : t ≡ u = cc in
    and_from (has_type types v u) (are_of_types types tys xs)
    (subst (λ w. has_type types v w ≡ true) same is)
    (and_parts (has_type types x u) (are_of_types types tys xs) are).1
types_set types (u ∷ tys) (x ∷ xs) (suc at) t v are there is =
    let parts = and_parts (has_type types x u) (are_of_types types tys xs) are in
    and_from (has_type types x u) (are_of_types types tys (slice_set xs at v)) parts.0
    (types_set types tys xs at t v parts.1 there is)

-- a number that passes is set among others
numbers_set : (P : ℕ → Type 0) (xs : List ℕ) (at n : ℕ) → AllByRecursion P xs → P n → AllByRecursion
    P (slice_set xs at n)
numbers_set P [] at n are is = tt
numbers_set P (x ∷ xs) zero n are is = (is, are.1)
numbers_set P (x ∷ xs) (suc at) n are is = (are.0, numbers_set P xs at n are.1 is)

-- a register of the machine is set to a value of its type
register_put : (decls : List DeclForm) (s : MachineState) (at : ℕ) (t : Ty) (v : Value) →
    IsState decls s →
    slice_get (register_types decls) at ≡ Some t → has_type (types_of_decls decls) v t ≡ true →
    IsState decls (with_register at v s)
register_put decls s at t v is there typed = record {
  registers = types_set (types_of_decls decls) (register_types decls) s.registers at t v
      is.registers there typed;
  first = is.first;
  count = is.count;
  fitting = is.fitting;
}

-- a number that fits is put into a cell
cell_put : (decls : List DeclForm) (s : MachineState) (i n : ℕ) → IsState decls s →
    is_number (cell_width decls) n ≡ true → IsState decls (with_cell i n s)
cell_put decls s i n is fits = by (nat_le s.lo i) where
  by : (b : Bool) → IsState decls (if b then record s { cells = slice_set s.cells (i - s.lo) n }
      else s)
  by true = record {
    registers = is.registers;
    first = is.first;
    count = length-set s.cells (i - s.lo) n ∙ is.count;
    fitting = numbers_set (λ m. is_number (cell_width decls) m ≡ true) s.cells (i - s.lo) n
        is.fitting fits;
  }
  by false = is

-- a write asks for a value of the register's type
written_stays : (decls : List DeclForm) (r : Name) (v : Value) (s state : MachineState) →
    IsState decls s → written decls r v s ≡ Some state → IsState decls state
written_stays decls r v s state is e =
    let place = some_then (λ at. written_at decls at v s) (register_position decls r) state e in
    let type = some_then (λ (type : Ty).
    if has_type (types_of_decls decls) v type then Some (with_register place.0 v s) else None)
    (slice_get (register_types decls) place.0) state place.2 in
    by place.0 type.0 type.1 (has_type (types_of_decls decls) v type.0) refl type.2 where
      by : (at : ℕ) (t : Ty) → slice_get (register_types decls) at ≡ Some t → (b : Bool) →
          has_type (types_of_decls decls) v t ≡ b →
          (if b then Some (with_register at v s) else None) ≡ Some state → IsState decls state
      by at t there false typed same = absurd (cc)
      by at t there true typed same =
          subst (IsState decls) (let whole : with_register at v s ≡ state = cc in whole)
          (register_put decls s at t v is there typed)

-- the number that a value of bits is fits
number_fits : (w : ℕ) (x : Value) (n : ℕ) → number_of w x ≡ Some n → is_number w n ≡ true
number_fits w (Number v m) n e = by (w == v) (is_number v m) refl refl e where
  by : (a b : Bool) → (w == v) ≡ a → is_number v m ≡ b → (if a && b then Some m else None) ≡ Some
      n → is_number w n ≡ true
  by true true same fits is =
      let number : m ≡ n = cc in
      ap (λ u. is_number u n) (eqb-true w v same) ∙ ap (is_number v) (sym number) ∙ fits
  by true false same fits is = absurd (cc)
  by false b same fits is = absurd (cc)
number_fits w _ n e = absurd (cc)

module _ (decls : List DeclForm) (calls : Calls)
    (calls_stay : (f : Name) (args : List Value) (p q : Progress) (v : Value) → IsState decls
    p.state → calls f args p ≡ Done v q → IsState decls q.state) where
  -- what ends in a state of the machine where it begins in one
  abbrev Stays : (Locals → Progress → Outcome StmSite) → Type 0
  Stays does = (locals : Locals) (p q : Progress) (v : Value) → IsState decls p.state →
      does locals p ≡ Done v q → IsState decls q.state

  abbrev part : Stm → Part
  part = part_of_stm decls calls

  abbrev StaysStm : Type 0
  StaysStm = (s : Stm) × Stays (part s).does

  abbrev stms : List StaysStm → List Stm
  stms ss = map (λ (s : StaysStm). s.0) ss

  -- where nothing changes
  ended : (p q : Progress) (u v : Value) → IsState decls p.state → ◌≡◌ {A = Outcome StmSite}
      (Done u p) (Done v q) → IsState decls q.state
  ended p q u v is e = let same : p ≡ q = cc in subst (λ (r : Progress). IsState decls r.state) same
      is

  let_stays : (x : Name) (a b : StaysStm) → Stays (does_of decls calls
      (Let x (part a.0) (part b.0)))
  let_stays x a b locals p q v is e =
      let first = done_then (inside 3 ((part a.0).does locals p)) _ v q e in
      b.1 ((x, first.0) ∷ locals) first.1 q v
      (a.1 locals p first.1 first.0 is (done_at _ _ first.0 first.1 first.2))
      (done_at _ _ v q first.3)

  sequence_stays : (at : ℕ) (ss : List StaysStm) → Stays (in_sequence at (map part (stms ss)))
  sequence_stays at [] locals p q v is e = absurd (cc)
  sequence_stays at (s ∷ []) locals p q v is e = s.1 locals p q v is (done_at _ _ v q e)
  sequence_stays at (s ∷ t ∷ ss) locals p q v is e =
      let first = done_then (inside at ((part s.0).does locals p)) _ v q e in
      sequence_stays (at + (part s.0).trees) (t ∷ ss) locals first.1 q v
      (s.1 locals p first.1 first.0 is (done_at _ _ first.0 first.1 first.2)) first.3

  either : (b : Bool) (o u : Outcome StmSite) (q : Progress) (v : Value) →
      (o ≡ Done v q → IsState decls q.state) → (u ≡ Done v q → IsState decls q.state) →
      (if b then o else u) ≡ Done v q → IsState decls q.state
  either true o u q v first second e = first e
  either false o u q v first second e = second e

  abbrev case_stms : List (CaseArm StaysStm) → List (CaseArm Stm)
  case_stms arms = map (case_arm.map StaysStm Stm (λ s. s.0)) arms

  case_stays : (member : Name) (at : ℕ) (arms : List (CaseArm StaysStm)) →
      Stays (meant.case_arm member at (map (case_arm.map Stm Part part) (case_stms arms)))
  case_stays member at [] locals p q v is e = absurd (cc)
  case_stays member at (arm ∷ arms) locals p q v is e =
      either (bytes_eq arm.member member) _ _ q v
      (λ h. arm.body.1 locals p q v is (done_at _ _ v q h))
      (λ h. case_stays member (at + 2 + (part arm.body.0).trees) arms locals p q v is h) e

  abbrev match_stms : List (MatchArm StaysStm) → List (MatchArm Stm)
  match_stms arms = map (match_arm.map StaysStm Stm (λ s. s.0)) arms

  match_stays : (made : MadeWith) (at : ℕ) (arms : List (MatchArm StaysStm)) →
      Stays (meant.match_arm made at (map (match_arm.map Stm Part part) (match_stms arms)))
  match_stays made at [] locals p q v is e = absurd (cc)
  match_stays made at (arm ∷ arms) locals p q v is e =
      either (bytes_eq arm.ctor made.ctor) _ _ q v
      (λ h. arm.body.1 ((arm.payload, made.payload) ∷ locals) p q v is (done_at _ _ v q h))
      (λ h. match_stays made (at + 3 + (part arm.body.0).trees) arms locals p q v is h) e

  loaded_stays : (width : ℕ) (cell : Option ℕ) (p q : Progress) (v : Value) → IsState decls
      p.state → loaded width cell p ≡ Done v q → IsState decls q.state
  loaded_stays width None p q v is e = absurd (cc)
  loaded_stays width (Some n) p q v is e = ended p q (Number width n) v is e

  -- the width of cells is that of the memory
  width_is : (memory : Memory) → memory_of decls ≡ Some memory → cell_width decls ≡
      memory.cell_width
  width_is memory there = ap (λ o. unwrap_or (option_map (λ (one : Memory). one.cell_width) o) 0)
      there

  stored_stays : (memory : Memory) (i n : ℕ) (cell : Option ℕ) (p q : Progress) (v : Value) →
      memory_of decls ≡ Some memory → is_number memory.cell_width n ≡ true →
      IsState decls p.state → stored i n cell p ≡ Done v q → IsState decls q.state
  stored_stays memory i n None p q v there fits is e = absurd (cc)
  stored_stays memory i n (Some before) p q v there fits is e =
      ended (record p { state = with_cell i n p.state; stores = p.stores ++ i ∷ [] }) q UnitValue v
      (cell_put decls p.state i n is (ap (λ w. is_number w n) (width_is memory there) ∙ fits)) e

  abbrev first : Stm-F StaysStm → Stm-F Stm
  first = map-Stm StaysStm Stm (λ s. s.0)

  layer_stays : (y : Stm-F StaysStm) → Stays (does_of decls calls (map-Stm Stm Part part (first y)))
  layer_stays (Ret e) locals p q v is h =
      let x = done_given (value_of_expr (plainly decls locals) e) (λ x. Done x p) v q h in
      ended p q x.0 v is x.2
  layer_stays (Let x a b) locals p q v is h = let_stays x a b locals p q v is h
  layer_stays (Seq ss) locals p q v is h = sequence_stays 2 ss locals p q v is h
  layer_stays (If test a b) locals p q v is h =
      let first = inside (2 + trees_of_expr test) ((part a.0).does locals p) in
      let second = inside (2 + trees_of_expr test + (part a.0).trees) ((part b.0).does locals p) in
      let truth = done_given (truth_for decls locals test)
      (λ holds. if holds then first else second) v q h in
      either truth.0 first second q v
      (λ k. a.1 locals p q v is (done_at _ _ v q k))
      (λ k. b.1 locals p q v is (done_at _ _ v q k)) truth.2
  layer_stays (Case e arms) locals p q v is h =
      let x = done_given
      (option_and_then (λ x. member_of_layer (types_of_decls decls) (out-Value x))
      (value_of_expr (plainly decls locals) e))
      (λ member. meant.case_arm member (2 + trees_of_expr e)
      (map (case_arm.map Stm Part part) (case_stms arms)) locals p) v q h in
      case_stays x.0 (2 + trees_of_expr e) arms locals p q v is x.2
  layer_stays (Match e arms) locals p q v is h =
      let x = done_given
      (option_and_then (λ x. made_of_layer (types_of_decls decls) (out-Value x))
      (value_of_expr (plainly decls locals) e))
      (λ made. meant.match_arm made (2 + trees_of_expr e)
      (map (match_arm.map Stm Part part) (match_stms arms)) locals p) v q h in
      match_stays x.0 (2 + trees_of_expr e) arms locals p q v is x.2
  layer_stays (Read r) locals p q v is h =
      let x = done_given (register_value decls r p.state.registers) (λ x. Done x p) v q h in
      ended p q x.0 v is x.2
  layer_stays (Write r e) locals p q v is h =
      let next = done_given
      (option_and_then (λ x. written decls r x p.state) (value_of_expr (plainly decls locals) e))
      (λ state. done_in state p) v q h in
      let value = some_then (λ x. written decls r x p.state)
      (value_of_expr (plainly decls locals) e) next.0 next.1 in
      ended (record p { state = next.0 }) q UnitValue v
      (written_stays decls r value.0 p.state next.0 is value.2) next.2
  layer_stays (Load index) locals p q v is h =
      let memory = done_given (memory_of decls) (λ (memory : Memory).
      given (number_for decls memory.index_width locals index)
      (λ i. loaded memory.cell_width (cell_at p.state i) p)) v q h in
      let i = done_given (number_for decls memory.0.index_width locals index)
      (λ i. loaded memory.0.cell_width (cell_at p.state i) p) v q memory.2 in
      loaded_stays memory.0.cell_width (cell_at p.state i.0) p q v is i.2
  layer_stays (Store index e) locals p q v is h =
      let memory = done_given (memory_of decls) (λ (memory : Memory).
      given (number_for decls memory.index_width locals index) (λ i.
      given (number_for decls memory.cell_width locals e) (λ n. stored i n (cell_at p.state i) p)))
      v q h in
      let i = done_given (number_for decls memory.0.index_width locals index) (λ i.
      given (number_for decls memory.0.cell_width locals e) (λ n. stored i n (cell_at p.state i) p))
      v q memory.2 in
      let n = done_given (number_for decls memory.0.cell_width locals e)
      (λ n. stored i.0 n (cell_at p.state i.0) p) v q i.2 in
      let value = some_then (number_of memory.0.cell_width) (value_of_expr (plainly decls locals) e)
      n.0 n.1 in
      stored_stays memory.0 i.0 n.0 (cell_at p.state i.0) p q v memory.1
      (number_fits memory.0.cell_width value.0 n.0 value.2) is n.2
  layer_stays (Call f args) locals p q v is h =
      let values = done_given (values_of_exprs (plainly decls locals) args)
      (λ values. at_site There (calls f values p)) v q h in
      calls_stay f values.0 p q v is (done_at There (calls f values.0 p) v q values.2)
  layer_stays (Check e) locals p q v is h =
      let truth = done_given (truth_for decls locals e)
      (λ holds. if holds then Done UnitValue p else Fail (Here 0)) v q h in
      either truth.0 (Done UnitValue p) (Fail (Here 0)) q v (λ k. ended p q UnitValue v is k)
      (λ k. absurd (not_done (Here 0) v q k)) truth.2
  layer_stays FailStm locals p q v is h = absurd (not_done (Here 0) v q h)
  layer_stays (Open name inputs) locals p q v is h = ended p q UnitValue v is h
  layer_stays (Close name inputs) locals p q v is h = ended p q UnitValue v is h
  layer_stays (Lemma name args) locals p q v is h = ended p q UnitValue v is h

  pub statements_stay : (s : Stm) → Stays (part_of_stm decls calls s).does
  statements_stay = ind-Stm (λ s. Stays (part s).does) (λ x y is.
      subst (λ (d : Part). Stays d.does) (sym (fold-roll-Stm Part (part_of decls calls) x))
      (subst (λ z. Stays (does_of decls calls (map-Stm Stm Part part z))) is (layer_stays y)))

module _ (decls : List DeclForm) where
  abbrev CallsStay : ℕ → Type 0
  CallsStay depth = (f : Name) (args : List Value) (p q : Progress) (v : Value) → IsState decls
      p.state → call_of decls depth f args p ≡ Done v q → IsState decls q.state

  body_stays : (depth : ℕ) → CallsStay depth → (f : Name) (args : List Value) (p q : Progress)
      (v : Value) → IsState decls p.state →
      given (function_from 0 decls f) (body_of decls (call_of decls depth) args p) ≡ Done v q →
      IsState decls q.state
  body_stays depth calls f args p q v is e =
      let found = done_given (function_from 0 decls f) (body_of decls (call_of decls depth) args p)
      v q e in
      let locals = done_given (bound found.0.params args) _ v q found.2 in
      statements_stay decls (call_of decls depth) calls found.0.body locals.0 p q v is
      (done_at _ _ v q (done_at (place_in found.0.decl) _ v q locals.2))

  calls_stay : (depth : ℕ) → CallsStay depth
  calls_stay zero f args p q v is e = absurd (cc)
  calls_stay (suc depth) f args p q v is e = spent (calls_stay depth) p.left e where
    spent : CallsStay depth → (left : ℕ) → spend_one left p (λ next. given (function_from 0 decls f)
        (body_of decls (call_of decls depth) args next)) ≡ Done v q →
        IsState decls q.state
    spent calls zero same = absurd (cc)
    spent calls (suc left) same = body_stays depth calls f args (record p { left = left }) q v is
        same

-- a cycle that completes has done the call of its step function
completed : (place : Place) (o : Outcome Place) (p : Progress) → as_cycle place o ≡ Completed p →
    (v : Value) × (o ≡ Done v p)
completed place (Done v q) p e = (v, let same : q ≡ p = cc in ap (Done v) same)
completed place Out p e = absurd (cc)
completed place (Fail site) p e = absurd (cc)
completed place Stuck p e = absurd (cc)

cycle_stays : (spec : Spec) (n : ℕ) (state : MachineState) (p : Progress) → IsState spec.decls
    state → cycle_of spec n state ≡ Completed p → IsState spec.decls p.state
cycle_stays spec n state p is e =
    let done = completed (stuck_place spec.decls) (step_call spec n state) p e in
    let step = done_given (step_of spec.decls) (λ f. call_of spec.decls n f []
    (progress_at n state)) done.0 p done.1 in
    calls_stay spec.decls n step.0 [] (progress_at n state) p done.0 is step.2

-- an outside register is one of bits of its width
bits_at : (all : List DeclForm) (k : ℕ) (type : TypeName) → is_width (width_of type) ≡ true →
    named_type all k type ≡ ty.Bits (width_of type)
bits_at all k (BitsName w) wide = ap (λ b. unwrap_or (if b then Some (ty.Bits w) else None) no_type)
    wide
bits_at all k UnitName wide = absurd (false≢true wide)
bits_at all k BoolName wide = absurd (false≢true wide)
bits_at all k (Named x) wide = absurd (false≢true wide)

-- a place among those of registers from the position p on
abbrev IsPlaced : List DeclForm → ℕ → ℕ → List DeclForm → OutsidePlace → Type 0
IsPlaced all k p decls (OutsideRegister at width) =
    is_width width ≡ true → (j : ℕ) × (at ≡ p + j) × (slice_get (register_types_from all k decls)
    j ≡ Some (ty.Bits width))
IsPlaced all k p decls (OutsideCells lo hi) = Unit {0}

one_behind : (all : List DeclForm) (k p : ℕ) (x : Name) (type : TypeName) (kind : RegisterKind)
    (decls : List DeclForm) (place : OutsidePlace) →
    IsPlaced all (k + 1) (p + 1) decls place → IsPlaced all k p (d.Register x type kind ∷ decls)
    place
one_behind all k p x type kind decls (OutsideRegister at width) placed = λ wide.
    let there = placed wide in (suc there.0, omega (arith, there.1), there.2)
one_behind all k p x type kind decls (OutsideCells lo hi) placed = tt

with_register_placed : (all : List DeclForm) (k p : ℕ) (x : Name) (type : TypeName)
    (kind : RegisterKind) (decls : List DeclForm) (i : ℕ) (place : OutsidePlace) →
    ((j : ℕ) → slice_get (outside_from (p + 1) decls) j ≡ Some place → IsPlaced all (k + 1) (p + 1)
    decls place) →
    slice_get (with_outside p kind type (outside_from (p + 1) decls)) i ≡ Some place → IsPlaced all
    k p (d.Register x type kind ∷ decls) place
with_register_placed all k p x type register.Outside decls zero place later e =
    let same : OutsideRegister p (width_of type) ≡ place = cc in
    subst (IsPlaced all k p (d.Register x type register.Outside ∷ decls)) same
    (λ wide. (0, omega arith, ap Some (bits_at all k type wide)))
with_register_placed all k p x type register.Outside decls (suc i) place later e = one_behind all k
    p x type register.Outside decls place (later i e)
with_register_placed all k p x type kind decls i place later e = one_behind all k p x type kind
    decls place (later i e)

same_places : (all : List DeclForm) (k l p : ℕ) (decl : DeclForm) (decls : List DeclForm)
    (place : OutsidePlace) →
    register_types_from all k (decl ∷ decls) ≡ register_types_from all l decls → IsPlaced all l p
    decls place → IsPlaced all k p (decl ∷ decls) place
same_places all k l p decl decls (OutsideRegister at width) same placed = λ wide.
    let there = placed wide in (there.0, there.1, ap (λ tys. slice_get tys there.0) same ∙ there.2)
same_places all k l p decl decls (OutsideCells lo hi) same placed = tt

placed_from : (all : List DeclForm) (k p : ℕ) (decls : List DeclForm) (i : ℕ)
    (place : OutsidePlace) → slice_get (outside_from p decls) i ≡ Some place → IsPlaced all k p
    decls place
placed_from all k p [] i place e = absurd (let f : None ≡ Some place = e in cc)
placed_from all k p (d.Register x type kind ∷ decls) i place e =
    with_register_placed all k p x type kind decls i place (λ j. placed_from all (k + 1) (p + 1)
    decls j place) e
placed_from all k p (d.Cells cells.Outside lo hi ∷ decls) zero place e =
    let same : OutsideCells lo hi ≡ place = cc in subst
    (IsPlaced all k p (d.Cells cells.Outside lo hi ∷ decls)) same tt
placed_from all k p (d.Cells cells.Outside lo hi ∷ decls) (suc i) place e =
    same_places all k (k + 1) p (d.Cells cells.Outside lo hi) decls place refl
    (placed_from all (k + 1) p decls i place e)
placed_from all k p (decl ∷ decls) i place e = same_places all k (k + 1) p decl decls place refl
    (placed_from all (k + 1) p decls i place e)

number_has_type : (types : List TypeDecl) (w n : ℕ) → is_number w n ≡ true → has_type types
    (Number w n) (ty.Bits w) ≡ true
number_has_type types w n number =
    ap (λ (v : Value). has_type types v (ty.Bits w)) (sym (rolls-Bits w n))
    ∙ ap (λ (test : Ty → Bool). test (ty.Bits w)) (fold-roll-Value (Ty → Bool)
    (layer_has_type types) (NumberLayer w n))
    ∙ and_from (w == w) (is_number w n) (eq-eqb w w refl) number

-- a write to a target that there is, of a number that it takes
abbrev TargetStays : List DeclForm → Target → Type 0
TargetStays decls target = (bits : ℕ) (s : MachineState) → IsState decls s → takes_bits bits
    target ≡ true → IsState decls (with_target target bits s)

register_stays : (decls : List DeclForm) (at width : ℕ) →
    (is_width width ≡ true → slice_get (register_types decls) at ≡ Some (ty.Bits width)) →
    TargetStays decls (OneRegister at width)
register_stays decls at width there = λ bits s is fits.
    register_put decls s at (ty.Bits width) (Number width bits) is (there (and_parts _ _ fits).0)
    (number_has_type (types_of_decls decls) width bits fits)

target_in_stays : (decls : List DeclForm) (offset : ℕ) (place : OutsidePlace) (target : Target) →
    IsPlaced decls 0 0 decls place → target_in decls offset place ≡ Some target → TargetStays decls
    target
target_in_stays decls offset (OutsideRegister at width) target placed e = by (offset == 0) e where
  there : is_width width ≡ true → slice_get (register_types decls) at ≡ Some (ty.Bits width)
  there wide =
      let found = placed wide in
      let same : at ≡ found.0 = omega (arith, found.1) in
      ap (slice_get (register_types decls)) same ∙ found.2

  by : (b : Bool) → (if b then Some (OneRegister at width) else None) ≡ Some target →
      TargetStays decls target
  by true is = let same : OneRegister at width ≡ target = cc in subst (TargetStays decls) same
      (register_stays decls at width there)
  by false is = absurd (cc)
target_in_stays decls offset (OutsideCells lo hi) target placed e = by _ e where
  by : (b : Bool) → (if b then Some (OneCell (lo + offset) (cell_width decls)) else None) ≡ Some
      target → TargetStays decls target
  by true is =
      let same : OneCell (lo + offset) (cell_width decls) ≡ target = cc in
      subst (TargetStays decls) same (λ bits s state fits. cell_put decls s (lo + offset) bits state
      fits)
  by false is = absurd (cc)

outside_stays : (spec : Spec) (poke : Poke) (before after : MachineState) → IsState spec.decls
    before → poked spec poke before ≡ Wrote after → IsState spec.decls after
outside_stays spec poke before after is e = by (target_of spec.decls poke) refl e where
  stays : (target : Target) → target_of spec.decls poke ≡ Some target → TargetStays spec.decls
      target
  stays target there =
      let place = some_then (target_in spec.decls poke.offset)
      (slice_get (outside_places spec.decls) poke.ordinal) target there in
      target_in_stays spec.decls poke.offset place.0 target (placed_from spec.decls 0 0 spec.decls
      poke.ordinal place.0 place.1) place.2

  put : (target : Target) → TargetStays spec.decls target → (b : Bool) → takes_bits poke.bits
      target ≡ b →
      (if b then Wrote (with_target target poke.bits before) else NoFit) ≡ Wrote after →
      IsState spec.decls after
  put target kept true fits same =
      subst (IsState spec.decls) (let whole : with_target target poke.bits before ≡ after = cc in
      whole) (kept poke.bits before is fits)
  put target kept false fits same = absurd (cc)

  by : (o : Option Target) → target_of spec.decls poke ≡ o → poked_at o poke.bits before ≡ Wrote
      after → IsState spec.decls after
  by None there same = absurd (cc)
  by (Some target) there same = put target (stays target there) (takes_bits poke.bits target) refl
      same

pub states_stay : StatesStay
states_stay = record {
  statement = λ decls depth stm locals p q v is e. statements_stay decls (call_of decls depth)
      (calls_stay decls depth) stm locals p q v is e;
  cycle = cycle_stays;
  outside_write = outside_stays;
}
