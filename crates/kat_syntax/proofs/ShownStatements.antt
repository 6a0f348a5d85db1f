-- Statements give values that are of the types that they show, and leave states of such values.
use Rattle.std.proofs.Common.{◌≡◌, ◌∙◌, ℕ, zero, suc, ◌+◌, ◌-◌, Bool, true, false, nat_le, List, [], ◌∷◌, map, slice_get, Option, Some, None, refl, ap, sym, subst, if◌then◌else◌}
use Rattle.std.specs.Prelude.{◌==◌, ◌&&◌, option_and_then, unwrap_or, slice_set}
use Rattle.std.specs.List.{AllByRecursion}
use Rattle.std.specs.Option.{option_map}
use Rattle.std.specs.Str.{bytes_eq}
use Rattle.std.proofs.lemmas.Bool.{and_parts, eqb-true}
use Rattle.kat_value.specs.declared.types.Field.{Field}
use Rattle.kat_value.specs.declared.types.Ty.{Ty}
use Rattle.kat_value.specs.declared.types.TypeDecl.{TypeDecl}
use Rattle.kat_value.specs.declared.value.Value.{Value, out-Value, map-Value, fold_out-Value}
use Rattle.kat_value.specs.declared.value.Value.TheVariants.{Unit as UnitValue, Bits as Number}
use Rattle.kat_value.specs.declared.value.Value.TheOpen as layer
use Rattle.kat_value.specs.Shown.{IsValue, AreValues, type_of_layer, type_of_value}
use Rattle.kat_value.specs.Typing.{has_type, layer_has_type, ctor_at, passes_ctor}
use Rattle.kat_value.specs.Widths.{is_number}
use Rattle.kat_ast.specs.declared.decl.DeclForm.{DeclForm}
use Rattle.kat_ast.specs.declared.type_name.Param.{Param}
use Rattle.kat_ast.specs.declared.expr.Expr.{Expr}
use Rattle.kat_ast.specs.declared.stm.Stm.{Stm}
use Rattle.kat_ast.specs.declared.stm.CaseArm.{CaseArm}
use Rattle.kat_ast.specs.declared.stm.MatchArm.{MatchArm}
use Rattle.kat_ast.specs.declared.stm.Stm.TheOpen.{Stm-F, Ret, Let, Seq, If, Case, Match, Read, Write, Load, Store, Call, Check, Fail as FailStm, Open, Close, Lemma}
use Rattle.kat_ast.specs.declared.stm.Stm.TheFolds.{map-Stm, fold-roll-Stm, ind-Stm}
use Rattle.kat_ast.specs.declared.stm.Stm.TheShapes.{former-Stm-Case-1-at-2 as case_arm, former-Stm-Match-1-at-3 as match_arm}
use Rattle.kat_ast.specs.Expressions.{trees_of_expr}
use Rattle.kat_syntax.specs.Tables.{Name, function_from}
use Rattle.kat_syntax.specs.TypeTable.{types_of_decls}
use Rattle.kat_syntax.specs.Memories.{Memory}
use Rattle.kat_syntax.specs.Machine.{MachineState, Progress}
use Rattle.kat_syntax.specs.NamedValues.{ctor_name}
use Rattle.kat_syntax.specs.States.{register_position, register_types, cell_at, with_cell, with_register, cell_width, memory_of, register_value, written, written_at}
use Rattle.kat_syntax.specs.Evaluation.{Locals, value_of_expr, values_of_exprs}
use Rattle.kat_syntax.specs.Outcomes.{Outcome, Done, Fail, StmSite, Here, There, given, at_site, inside, place_in}
use Rattle.kat_syntax.specs.Meaning as meant
use Rattle.kat_syntax.specs.Meaning.{Calls, Part, MadeWith, made_of_layer, number_of, plainly, truth_for, number_for, member_of_layer, done_in, part_of, part_of_stm, does_of, in_sequence, loaded, stored}
use Rattle.kat_syntax.specs.Cycle.{bound, body_of, call_of, spend_one}
use Rattle.kat_syntax.specs.MeaningLaws.{AreShownLocals, IsShownState, ValuesStayShown}
use Rattle.kat_syntax.proofs.KeptRelations.{done_at, done_given, done_then, some_then}
use Rattle.kat_syntax.proofs.ShownExpressions.{ValueLaws, value_there, value_at_shown, unit_shown, number_shown, expression_shown}

-- a value that is of the type that it shows, and a state of such values
pub record ShownEnd (decls : List DeclForm) (v : Value) (q : Progress) : Type 0 where
  pub value : IsValue (types_of_decls decls) v
  pub state : IsShownState decls q.state

-- one value is set among others
values_set : (types : List TypeDecl) (xs : List Value) (at : ℕ) (v : Value) → AreValues types xs →
    IsValue types v → AreValues types (slice_set xs at v)
values_set types [] at v are is = tt
values_set types (x ∷ xs) zero v are is = (is, are.1)
values_set types (x ∷ xs) (suc at) v are is = (are.0, values_set types xs at v are.1 is)

-- one number is set among others
numbers_set : (P : ℕ → Type 0) (xs : List ℕ) (at n : ℕ) → AllByRecursion P xs → P n →
    AllByRecursion P (slice_set xs at n)
numbers_set P [] at n are is = tt
numbers_set P (x ∷ xs) zero n are is = (is, are.1)
numbers_set P (x ∷ xs) (suc at) n are is = (are.0, numbers_set P xs at n are.1 is)

-- a cell has a number that fits
cell_fits : (decls : List DeclForm) (s : MachineState) (i n : ℕ) → IsShownState decls s →
    cell_at s i ≡ Some n → is_number (cell_width decls) n ≡ true
cell_fits decls s i n shown e = by (nat_le s.lo i) e where
  at : (xs : List ℕ) (k : ℕ) → AllByRecursion (λ m. is_number (cell_width decls) m ≡ true) xs →
      slice_get xs k ≡ Some n → is_number (cell_width decls) n ≡ true
  at [] k are is = absurd (cc)
  at (x ∷ xs) zero are is =
      let same : x ≡ n = cc in subst (λ m. is_number (cell_width decls) m ≡ true) same are.0
  at (x ∷ xs) (suc k) are is = at xs k are.1 is

  by : (b : Bool) → (if b then slice_get s.cells (i - s.lo) else None) ≡ Some n →
      is_number (cell_width decls) n ≡ true
  by true is = at s.cells (i - s.lo) shown.cells is
  by false is = cc

-- a number that fits is put into a cell
cell_put : (decls : List DeclForm) (s : MachineState) (i n : ℕ) → IsShownState decls s →
    is_number (cell_width decls) n ≡ true → IsShownState decls (with_cell i n s)
cell_put decls s i n shown fits = by (nat_le s.lo i) where
  by : (b : Bool) → IsShownState decls
      (if b then record s { cells = slice_set s.cells (i - s.lo) n } else s)
  by true = record {
    registers = shown.registers;
    cells = numbers_set (λ m. is_number (cell_width decls) m ≡ true) s.cells (i - s.lo) n
        shown.cells fits;
  }
  by false = shown

-- a value is written to a register
register_put : (decls : List DeclForm) (r : Name) (v : Value) (s state : MachineState) →
    IsShownState decls s → IsValue (types_of_decls decls) v → written decls r v s ≡ Some state →
    IsShownState decls state
register_put decls r v s state shown is e =
    let place = some_then (λ at. written_at decls at v s) (register_position decls r) state e in
    let type = some_then (λ (type : Ty).
    if has_type (types_of_decls decls) v type then Some (with_register place.0 v s) else None)
    (slice_get (register_types decls) place.0) state place.2 in
    by place.0 (has_type (types_of_decls decls) v type.0) type.2 where
      by : (at : ℕ) (b : Bool) → (if b then Some (with_register at v s) else None) ≡ Some state →
          IsShownState decls state
      by at false same = absurd (cc)
      by at true same =
          subst (IsShownState decls) (let whole : with_register at v s ≡ state = cc in whole)
          (record {
            registers = values_set (types_of_decls decls) s.registers at v shown.registers is;
            cells = shown.cells;
          })

-- the number that a value of bits is
number_fits : (w : ℕ) (x : Value) (n : ℕ) → number_of w x ≡ Some n → is_number w n ≡ true
number_fits w (Number v m) n e = by (w == v) (is_number v m) refl refl e where
  by : (a b : Bool) → (w == v) ≡ a → is_number v m ≡ b →
      (if a && b then Some m else None) ≡ Some n → is_number w n ≡ true
  by true true same fits is =
      let number : m ≡ n = cc in
      ap (λ u. is_number u n) (eqb-true w v same) ∙ ap (is_number v) (sym number) ∙ fits
  by true false same fits is = cc
  by false b same fits is = cc
number_fits w _ n e = cc

-- a constructor of this name, with this payload
abbrev made_with : Value → Name → MadeWith
made_with inner k = record { ctor = k; payload = inner }

-- the payload of a value of a union
payload_shown : (laws : ValueLaws) (types : List TypeDecl) (x : Value) (made : MadeWith) →
    IsValue types x → made_of_layer types (out-Value x) ≡ Some made → IsValue types made.payload
payload_shown laws types x made is e =
    by (out-Value x)
    (sym (ap (λ (test : Ty → Bool). test (type_of_value x))
    (fold_out-Value (Ty → Bool) (layer_has_type types) x)) ∙ is) e where
      named : (of : ℕ) (inner : Value) (o : Option Name) → IsValue types inner →
          option_map (made_with inner) o ≡ Some made →
          IsValue types made.payload
      named of inner None shown same = absurd (cc)
      named of inner (Some k) shown same =
          let whole : made_with inner k ≡ made = cc in
          subst (IsValue types) (ap (λ (m : MadeWith). m.payload) whole) shown

      passed : (inner : Value) (ctor : Option Field) → passes_ctor (has_type types inner) ctor ≡ true →
          IsValue types inner
      passed inner None fits = absurd (cc)
      passed inner (Some ctor) fits = laws.shown.value types ctor.ty inner fits

      by : (y : layer.Value-F Value) →
          layer_has_type types (map-Value Value (Ty → Bool) (has_type types) y) (type_of_layer y)
          ≡ true →
          made_of_layer types y ≡ Some made → IsValue types made.payload
      by (layer.Made of ctor inner) fits same =
          named of inner (ctor_name types of ctor)
          (passed inner (ctor_at types of ctor)
          (and_parts (of == of) (passes_ctor (has_type types inner) (ctor_at types of ctor)) fits).1)
          same
      by _ fits same = absurd (cc)

module _ (laws : ValueLaws) (decls : List DeclForm) (calls : Calls)
    (calls_shown : (f : Name) (args : List Value) (p q : Progress) (v : Value) →
    AreValues (types_of_decls decls) args → IsShownState decls p.state →
    calls f args p ≡ Done v q → ShownEnd decls v q) where
  abbrev types : List TypeDecl
  types = types_of_decls decls

  -- what ends with shown values where it begins among such
  abbrev Shows : (Locals → Progress → Outcome StmSite) → Type 0
  Shows does = (locals : Locals) (p q : Progress) (v : Value) → AreShownLocals types locals →
      IsShownState decls p.state → does locals p ≡ Done v q → ShownEnd decls v q

  abbrev part : Stm → Part
  part = part_of_stm decls calls

  abbrev ShowsStm : Type 0
  ShowsStm = (s : Stm) × Shows (part s).does

  abbrev stms : List ShowsStm → List Stm
  stms ss = map (λ (s : ShowsStm). s.0) ss

  -- an expression of a statement
  value_shown : (locals : Locals) (e : Expr) (x : Value) → AreShownLocals types locals →
      value_of_expr (plainly decls locals) e ≡ Some x → IsValue types x
  value_shown locals e x are is =
      value_there types (value_of_expr (plainly decls locals) e) x is
      (expression_shown laws (plainly decls locals) are tt e)

  -- expressions of a statement
  values_shown : (locals : Locals) (es : List Expr) (xs : List Value) →
      AreShownLocals types locals →
      values_of_exprs (plainly decls locals) es ≡ Some xs → AreValues types xs
  values_shown locals [] xs are is = subst (AreValues types) (let same : [] ≡ xs = cc in same) tt
  values_shown locals (e ∷ es) xs are is =
      let head = some_then
      (λ x. option_map (λ xs. x ∷ xs) (values_of_exprs (plainly decls locals) es))
      (value_of_expr (plainly decls locals) e) xs is in
      by head.0 (value_shown locals e head.0 are head.1) (values_of_exprs (plainly decls locals) es)
      (λ ys whole. values_shown locals es ys are whole) head.2 where
        by : (x : Value) → IsValue types x → (o : Option (List Value)) →
            ((ys : List Value) → o ≡ Some ys → AreValues types ys) →
            option_map (λ xs. x ∷ xs) o ≡ Some xs → AreValues types xs
        by x shown None later same = absurd (cc)
        by x shown (Some ys) later same =
            subst (AreValues types) (let whole : x ∷ ys ≡ xs = cc in whole) (shown, later ys refl)

  -- where nothing changes
  ended : (p q : Progress) (u v : Value) → IsValue types u → IsShownState decls p.state →
      ◌≡◌ {A = Outcome StmSite} (Done u p) (Done v q) → ShownEnd decls v q
  ended p q u v value state e =
      let same_value : u ≡ v = cc in
      let same : p ≡ q = cc in
      record {
        value = subst (IsValue types) same_value value;
        state = subst (λ (r : Progress). IsShownState decls r.state) same state;
      }

  -- unit, in a state of shown values
  ended_in : (state : MachineState) (stores : List ℕ) (p q : Progress) (v : Value) →
      IsShownState decls state →
      ◌≡◌ {A = Outcome StmSite} (Done UnitValue (record p { state = state; stores = stores }))
      (Done v q) →
      ShownEnd decls v q
  ended_in state stores p q v shown e =
      ended (record p { state = state; stores = stores }) q UnitValue v (unit_shown laws types)
      shown e

  let_shows : (x : Name) (a b : ShowsStm) →
      Shows (does_of decls calls (Let x (part a.0) (part b.0)))
  let_shows x a b locals p q v are state e =
      let first = done_then (inside 3 ((part a.0).does locals p)) _ v q e in
      let end : ShownEnd decls first.0 first.1 =
      a.1 locals p first.1 first.0 are state (done_at _ _ first.0 first.1 first.2) in
      b.1 ((x, first.0) ∷ locals) first.1 q v (end.value, are) end.state (done_at _ _ v q first.3)

  sequence_shows : (at : ℕ) (ss : List ShowsStm) → Shows (in_sequence at (map part (stms ss)))
  sequence_shows at [] locals p q v are state e = absurd (cc)
  sequence_shows at (s ∷ []) locals p q v are state e =
      s.1 locals p q v are state (done_at _ _ v q e)
  sequence_shows at (s ∷ t ∷ ss) locals p q v are state e =
      let first = done_then (inside at ((part s.0).does locals p)) _ v q e in
      let end : ShownEnd decls first.0 first.1 =
      s.1 locals p first.1 first.0 are state (done_at _ _ first.0 first.1 first.2) in
      sequence_shows (at + (part s.0).trees) (t ∷ ss) locals first.1 q v are end.state first.3

  either : (b : Bool) (o u : Outcome StmSite) (q : Progress) (v : Value) →
      (o ≡ Done v q → ShownEnd decls v q) → (u ≡ Done v q → ShownEnd decls v q) →
      (if b then o else u) ≡ Done v q → ShownEnd decls v q
  either true o u q v first second e = first e
  either false o u q v first second e = second e

  abbrev case_stms : List (CaseArm ShowsStm) → List (CaseArm Stm)
  case_stms arms = map (case_arm.map ShowsStm Stm (λ s. s.0)) arms

  case_shows : (member : Name) (at : ℕ) (arms : List (CaseArm ShowsStm)) →
      Shows (meant.case_arm member at (map (case_arm.map Stm Part part) (case_stms arms)))
  case_shows member at [] locals p q v are state e = absurd (cc)
  case_shows member at (arm ∷ arms) locals p q v are state e =
      either (bytes_eq arm.member member) _ _ q v
      (λ h. arm.body.1 locals p q v are state (done_at _ _ v q h))
      (λ h. case_shows member (at + 2 + (part arm.body.0).trees) arms locals p q v are state h) e

  abbrev match_stms : List (MatchArm ShowsStm) → List (MatchArm Stm)
  match_stms arms = map (match_arm.map ShowsStm Stm (λ s. s.0)) arms

  match_shows : (made : MadeWith) (at : ℕ) (arms : List (MatchArm ShowsStm)) →
      IsValue types made.payload →
      Shows (meant.match_arm made at (map (match_arm.map Stm Part part) (match_stms arms)))
  match_shows made at [] payload locals p q v are state e = absurd (cc)
  match_shows made at (arm ∷ arms) payload locals p q v are state e =
      either (bytes_eq arm.ctor made.ctor) _ _ q v
      (λ h. arm.body.1 ((arm.payload, made.payload) ∷ locals) p q v (payload, are) state
      (done_at _ _ v q h))
      (λ h. match_shows made (at + 3 + (part arm.body.0).trees) arms payload locals p q v are state
      h) e

  -- the width of cells is that of the memory
  width_is : (memory : Memory) → memory_of decls ≡ Some memory →
      cell_width decls ≡ memory.cell_width
  width_is memory is =
      ap (λ o. unwrap_or (option_map (λ (one : Memory). one.cell_width) o) 0) is

  loaded_shows : (memory : Memory) (i : ℕ) (cell : Option ℕ) (p q : Progress) (v : Value) →
      memory_of decls ≡ Some memory → cell_at p.state i ≡ cell → IsShownState decls p.state →
      loaded memory.cell_width cell p ≡ Done v q → ShownEnd decls v q
  loaded_shows memory i None p q v there at state e = absurd (cc)
  loaded_shows memory i (Some n) p q v there at state e =
      ended p q (Number memory.cell_width n) v
      (number_shown laws types memory.cell_width n
      (ap (λ w. is_number w n) (sym (width_is memory there))
      ∙ cell_fits decls p.state i n state at))
      state e

  stored_shows : (memory : Memory) (i n : ℕ) (cell : Option ℕ) (p q : Progress) (v : Value) →
      memory_of decls ≡ Some memory → is_number memory.cell_width n ≡ true →
      IsShownState decls p.state → stored i n cell p ≡ Done v q → ShownEnd decls v q
  stored_shows memory i n None p q v there fits state e = absurd (cc)
  stored_shows memory i n (Some before) p q v there fits state e =
      ended_in (with_cell i n p.state) _ p q v
      (cell_put decls p.state i n state (ap (λ w. is_number w n) (width_is memory there) ∙ fits)) e

  abbrev first : Stm-F ShowsStm → Stm-F Stm
  first = map-Stm ShowsStm Stm (λ s. s.0)

  layer_shows : (y : Stm-F ShowsStm) → Shows (does_of decls calls (map-Stm Stm Part part (first y)))
  layer_shows (Ret e) locals p q v are state h =
      let x = done_given (value_of_expr (plainly decls locals) e) (λ x. Done x p) v q h in
      ended p q x.0 v (value_shown locals e x.0 are x.1) state x.2
  layer_shows (Let x a b) locals p q v are state h = let_shows x a b locals p q v are state h
  layer_shows (Seq ss) locals p q v are state h = sequence_shows 2 ss locals p q v are state h
  layer_shows (If test a b) locals p q v are state h =
      let one = inside (2 + trees_of_expr test) ((part a.0).does locals p) in
      let other = inside (2 + trees_of_expr test + (part a.0).trees) ((part b.0).does locals p) in
      let truth = done_given (truth_for decls locals test)
      (λ holds. if holds then one else other) v q h in
      either truth.0 one other q v
      (λ k. a.1 locals p q v are state (done_at _ _ v q k))
      (λ k. b.1 locals p q v are state (done_at _ _ v q k)) truth.2
  layer_shows (Case e arms) locals p q v are state h =
      let x = done_given
      (option_and_then (λ x. member_of_layer (types_of_decls decls) (out-Value x))
      (value_of_expr (plainly decls locals) e))
      (λ member. meant.case_arm member (2 + trees_of_expr e)
      (map (case_arm.map Stm Part part) (case_stms arms)) locals p) v q h in
      case_shows x.0 (2 + trees_of_expr e) arms locals p q v are state x.2
  layer_shows (Match e arms) locals p q v are state h =
      let made = done_given
      (option_and_then (λ x. made_of_layer (types_of_decls decls) (out-Value x))
      (value_of_expr (plainly decls locals) e))
      (λ made. meant.match_arm made (2 + trees_of_expr e)
      (map (match_arm.map Stm Part part) (match_stms arms)) locals p) v q h in
      let value = some_then (λ x. made_of_layer types (out-Value x))
      (value_of_expr (plainly decls locals) e) made.0 made.1 in
      match_shows made.0 (2 + trees_of_expr e) arms
      (payload_shown laws types value.0 made.0 (value_shown locals e value.0 are value.1) value.2)
      locals p q v are state made.2
  layer_shows (Read r) locals p q v are state h =
      let x = done_given (register_value decls r p.state.registers) (λ x. Done x p) v q h in
      ended p q x.0 v
      (value_there types (register_value decls r p.state.registers) x.0 x.1
      (value_at_shown types p.state.registers (register_position decls r) state.registers)) state
      x.2
  layer_shows (Write r e) locals p q v are state h =
      let next = done_given
      (option_and_then (λ x. written decls r x p.state) (value_of_expr (plainly decls locals) e))
      (λ state. done_in state p) v q h in
      let value = some_then (λ x. written decls r x p.state)
      (value_of_expr (plainly decls locals) e) next.0 next.1 in
      ended_in next.0 p.stores p q v
      (register_put decls r value.0 p.state next.0 state (value_shown locals e value.0 are value.1)
      value.2) next.2
  layer_shows (Load index) locals p q v are state h =
      let memory = done_given (memory_of decls) (λ (memory : Memory).
      given (number_for decls memory.index_width locals index)
      (λ i. loaded memory.cell_width (cell_at p.state i) p)) v q h in
      let i = done_given (number_for decls memory.0.index_width locals index)
      (λ i. loaded memory.0.cell_width (cell_at p.state i) p) v q memory.2 in
      loaded_shows memory.0 i.0 (cell_at p.state i.0) p q v memory.1 refl state i.2
  layer_shows (Store index e) locals p q v are state h =
      let memory = done_given (memory_of decls) (λ (memory : Memory).
      given (number_for decls memory.index_width locals index) (λ i.
      given (number_for decls memory.cell_width locals e) (λ n. stored i n (cell_at p.state i) p)))
      v q h in
      let i = done_given (number_for decls memory.0.index_width locals index) (λ i.
      given (number_for decls memory.0.cell_width locals e) (λ n. stored i n (cell_at p.state i) p))
      v q memory.2 in
      let n = done_given (number_for decls memory.0.cell_width locals e)
      (λ n. stored i.0 n (cell_at p.state i.0) p) v q i.2 in
      let value = some_then (number_of memory.0.cell_width) (value_of_expr (plainly decls locals) e)
      n.0 n.1 in
      stored_shows memory.0 i.0 n.0 (cell_at p.state i.0) p q v memory.1
      (number_fits memory.0.cell_width value.0 n.0 value.2) state n.2
  layer_shows (Call f args) locals p q v are state h =
      let values = done_given (values_of_exprs (plainly decls locals) args)
      (λ values. at_site There (calls f values p)) v q h in
      calls_shown f values.0 p q v (values_shown locals args values.0 are values.1) state
      (done_at There (calls f values.0 p) v q values.2)
  layer_shows (Check e) locals p q v are state h =
      let truth = done_given (truth_for decls locals e)
      (λ holds. if holds then Done UnitValue p else Fail (Here 0)) v q h in
      either truth.0 (Done UnitValue p) (Fail (Here 0)) q v
      (λ k. ended p q UnitValue v (unit_shown laws types) state k) (λ k. absurd (cc)) truth.2
  layer_shows FailStm locals p q v are state h = absurd (cc)
  layer_shows (Open name inputs) locals p q v are state h =
      ended p q UnitValue v (unit_shown laws types) state h
  layer_shows (Close name inputs) locals p q v are state h =
      ended p q UnitValue v (unit_shown laws types) state h
  layer_shows (Lemma name args) locals p q v are state h =
      ended p q UnitValue v (unit_shown laws types) state h

  pub statements_show : (s : Stm) → Shows (part_of_stm decls calls s).does
  statements_show = ind-Stm (λ s. Shows (part s).does) (λ x y is.
      subst (λ (d : Part). Shows d.does) (sym (fold-roll-Stm Part (part_of decls calls) x))
      (subst (λ z. Shows (does_of decls calls (map-Stm Stm Part part z))) is (layer_shows y)))

-- parameters bound to arguments
bound_shown : (types : List TypeDecl) (params : List Param) (args : List Value) (locals : Locals) →
    AreValues types args → bound params args ≡ Some locals → AreShownLocals types locals
bound_shown types [] [] locals are e =
    let none : [] ≡ locals = cc in subst (AreShownLocals types) none tt
bound_shown types [] (x ∷ args) locals are e = absurd (cc)
bound_shown types (param ∷ params) [] locals are e = absurd (cc)
bound_shown types (param ∷ params) (x ∷ args) locals are e =
    by (bound params args) (λ more is. bound_shown types params args more are.1 is) e where
      by : (o : Option Locals) → ((more : Locals) → o ≡ Some more → AreShownLocals types more) →
          option_map (λ (more : Locals). (param.name, x) ∷ more) o ≡ Some locals →
          AreShownLocals types locals
      by None later same = absurd (cc)
      by (Some more) later same =
          let whole : (param.name, x) ∷ more ≡ locals = cc in
          subst (AreShownLocals types) whole (are.0, later more refl)

module _ (laws : ValueLaws) (decls : List DeclForm) where
  abbrev CallsShow : ℕ → Type 0
  CallsShow depth = (f : Name) (args : List Value) (p q : Progress) (v : Value) →
      AreValues (types_of_decls decls) args → IsShownState decls p.state →
      call_of decls depth f args p ≡ Done v q → ShownEnd decls v q

  body_shows : (depth : ℕ) → CallsShow depth → (f : Name) (args : List Value) (p q : Progress)
      (v : Value) → AreValues (types_of_decls decls) args → IsShownState decls p.state →
      given (function_from 0 decls f) (body_of decls (call_of decls depth) args p) ≡ Done v q →
      ShownEnd decls v q
  body_shows depth calls f args p q v are state e =
      let found = done_given (function_from 0 decls f) (body_of decls (call_of decls depth) args p)
      v q e in
      let locals = done_given (bound found.0.params args) _ v q found.2 in
      statements_show laws decls (call_of decls depth) calls found.0.body locals.0 p q v
      (bound_shown (types_of_decls decls) found.0.params args locals.0 are locals.1) state
      (done_at _ _ v q (done_at (place_in found.0.decl) _ v q locals.2))

  calls_show : (depth : ℕ) → CallsShow depth
  calls_show zero f args p q v are state e = absurd (cc)
  calls_show (suc depth) f args p q v are state e = spent (calls_show depth) p.left e where
    spent : CallsShow depth → (left : ℕ) → spend_one left p
        (λ next. given (function_from 0 decls f) (body_of decls (call_of decls depth) args next))
        ≡ Done v q → ShownEnd decls v q
    spent calls zero h = absurd (cc)
    spent calls (suc left) h =
        body_shows depth calls f args (record p { left = left }) q v are state h

pub values_stay_shown : ValueLaws → ValuesStayShown
values_stay_shown laws = record {
  expression = λ env e v locals reads is.
      value_there (types_of_decls env.decls) (value_of_expr env e) v is
      (expression_shown laws env locals reads e);
  statement = λ decls depth stm locals p q v are state e.
      let end : ShownEnd decls v q =
      statements_show laws decls (call_of decls depth) (calls_show laws decls depth) stm locals p q
      v
      are state e in
      (end.value, end.state);
}
