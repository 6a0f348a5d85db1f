-- Failures of calls stand at no tree 0, so that those of stuck cycles can be told.
use Rattle.std.proofs.Common.{◌≡◌, ℕ, zero, suc, ◌+◌, ◌<◌, Bool, true, false, List, [], ◌∷◌, map, Option, Some, None, refl, ap, sym, subst, if◌then◌else◌, arith}
use Rattle.std.specs.Prelude.{option_and_then}
use Rattle.std.specs.Str.{bytes_eq}
use Rattle.kat_value.specs.declared.value.Value.{Value, out-Value}
use Rattle.kat_value.specs.declared.value.Value.TheVariants.{Unit as UnitValue}
use Rattle.kat_ast.specs.declared.decl.DeclForm.{DeclForm}
use Rattle.kat_ast.specs.declared.decl.DeclForm.TheVariants as d
use Rattle.kat_ast.specs.declared.place.Place.{Place}
use Rattle.kat_ast.specs.declared.stm.Stm.{Stm}
use Rattle.kat_ast.specs.declared.stm.CaseArm.{CaseArm}
use Rattle.kat_ast.specs.declared.stm.MatchArm.{MatchArm}
use Rattle.kat_ast.specs.declared.stm.Stm.TheOpen.{Stm-F, Ret, Let, Seq, If, Case, Match, Read, Write, Load, Store, Call, Check, Fail as FailStm, Open, Close, Lemma}
use Rattle.kat_ast.specs.declared.stm.Stm.TheFolds.{map-Stm, fold-roll-Stm, ind-Stm}
use Rattle.kat_ast.specs.declared.stm.Stm.TheShapes.{former-Stm-Case-1-at-2 as case_arm, former-Stm-Match-1-at-3 as match_arm}
use Rattle.kat_ast.specs.Expressions.{trees_of_expr}
use Rattle.kat_ast.specs.Types.{trees_of_type, trees_of_params}
use Rattle.kat_syntax.specs.Tables.{Name, Function, function_at, function_from, is_function, step_of}
use Rattle.kat_syntax.specs.Machine.{MachineState, Progress}
use Rattle.kat_syntax.specs.TypeTable.{types_of_decls}
use Rattle.kat_syntax.specs.States.{cell_at, memory_of, register_value, written}
use Rattle.kat_syntax.specs.Memories.{Memory}
use Rattle.kat_syntax.specs.Evaluation.{Locals, value_of_expr, values_of_exprs}
use Rattle.kat_syntax.specs.Outcomes.{Outcome, Done, Out, Fail, Stuck, StmSite, Here, There, then_do, given, at_site, inside, place_in}
use Rattle.kat_syntax.specs.Meaning as meant
use Rattle.kat_syntax.specs.Meaning.{Calls, Part, MadeWith, part_of, part_of_stm, does_of, in_sequence, loaded, stored, done_in, plainly, truth_for, number_for, member_of_layer, made_of_layer, meaning}
use Rattle.kat_syntax.specs.Cycle.{FailedAt, as_cycle, bound, body_of, call_of, spend_one, stuck_place, step_call, progress_at}
use Rattle.kat_syntax.specs.MeaningLaws.{StuckCyclesFailAtADeclaration}

-- a failure of a call stands at no tree 0
abbrev pub IsPlaced : Outcome Place → Type 0
IsPlaced (Done v p) = Unit {0}
IsPlaced Out = Unit {0}
IsPlaced (Fail place) = 0 < place.tree
IsPlaced Stuck = Unit {0}

-- a failure in a function that was called stands at no tree 0
abbrev pub IsBehind : Outcome StmSite → Type 0
IsBehind (Done v p) = Unit {0}
IsBehind Out = Unit {0}
IsBehind (Fail (Here tree)) = Unit {0}
IsBehind (Fail (There place)) = 0 < place.tree
IsBehind Stuck = Unit {0}

behind_inside : (at : ℕ) (o : Outcome StmSite) → IsBehind o → IsBehind (inside at o)
behind_inside at (Done v p) is = tt
behind_inside at Out is = tt
behind_inside at (Fail (Here tree)) is = tt
behind_inside at (Fail (There place)) is = is
behind_inside at Stuck is = tt

behind_then : (o : Outcome StmSite) (go : Value → Progress → Outcome StmSite) → IsBehind o →
    ((v : Value) (p : Progress) → IsBehind (go v p)) → IsBehind (then_do o go)
behind_then (Done v p) go is next = next v p
behind_then Out go is next = tt
behind_then (Fail site) go is next = is
behind_then Stuck go is next = tt

behind_given : {A : Type 0} (a : Option A) (go : A → Outcome StmSite) →
    ((x : A) → IsBehind (go x)) → IsBehind (given a go)
behind_given None go next = tt
behind_given (Some x) go next = next x

behind_either : (b : Bool) (o u : Outcome StmSite) → IsBehind o → IsBehind u →
    IsBehind (if b then o else u)
behind_either true o u first second = first
behind_either false o u first second = second

behind_there : (o : Outcome Place) → IsPlaced o → IsBehind (at_site There o)
behind_there (Done v p) is = tt
behind_there Out is = tt
behind_there (Fail place) is = is
behind_there Stuck is = tt

behind_loaded : (width : ℕ) (cell : Option ℕ) (p : Progress) → IsBehind (loaded width cell p)
behind_loaded width None p = tt
behind_loaded width (Some n) p = tt

behind_stored : (i n : ℕ) (cell : Option ℕ) (p : Progress) → IsBehind (stored i n cell p)
behind_stored i n None p = tt
behind_stored i n (Some before) p = tt

module _ (decls : List DeclForm) (calls : Calls)
    (placed : (f : Name) (args : List Value) (p : Progress) → IsPlaced (calls f args p)) where
  abbrev AreBehind : (Locals → Progress → Outcome StmSite) → Type 0
  AreBehind does = (locals : Locals) (p : Progress) → IsBehind (does locals p)

  abbrev part : Stm → Part
  part = part_of_stm decls calls

  abbrev BehindStm : Type 0
  BehindStm = (s : Stm) × AreBehind (part s).does

  abbrev stms : List BehindStm → List Stm
  stms ss = map (λ (s : BehindStm). s.0) ss

  sequence_behind : (at : ℕ) (ss : List BehindStm) →
      AreBehind (in_sequence at (map part (stms ss)))
  sequence_behind at [] locals p = tt
  sequence_behind at (s ∷ []) locals p =
      behind_inside at ((part s.0).does locals p) (s.1 locals p)
  sequence_behind at (s ∷ t ∷ ss) locals p =
      behind_then (inside at ((part s.0).does locals p))
      (λ v q. in_sequence (at + (part s.0).trees) (map part (stms (t ∷ ss))) locals q)
      (behind_inside at ((part s.0).does locals p) (s.1 locals p))
      (λ v q. sequence_behind (at + (part s.0).trees) (t ∷ ss) locals q)

  abbrev case_stms : List (CaseArm BehindStm) → List (CaseArm Stm)
  case_stms arms = map (case_arm.map BehindStm Stm (λ s. s.0)) arms

  case_behind : (member : Name) (at : ℕ) (arms : List (CaseArm BehindStm)) →
      AreBehind (meant.case_arm member at (map (case_arm.map Stm Part part) (case_stms arms)))
  case_behind member at [] locals p = tt
  case_behind member at (arm ∷ arms) locals p =
      behind_either (bytes_eq arm.member member)
      (inside (at + 2) ((part arm.body.0).does locals p))
      (meant.case_arm member (at + 2 + (part arm.body.0).trees)
      (map (case_arm.map Stm Part part) (case_stms arms)) locals p)
      (behind_inside (at + 2) ((part arm.body.0).does locals p) (arm.body.1 locals p))
      (case_behind member (at + 2 + (part arm.body.0).trees) arms locals p)

  abbrev match_stms : List (MatchArm BehindStm) → List (MatchArm Stm)
  match_stms arms = map (match_arm.map BehindStm Stm (λ s. s.0)) arms

  match_behind : (made : MadeWith) (at : ℕ) (arms : List (MatchArm BehindStm)) →
      AreBehind (meant.match_arm made at (map (match_arm.map Stm Part part) (match_stms arms)))
  match_behind made at [] locals p = tt
  match_behind made at (arm ∷ arms) locals p =
      behind_either (bytes_eq arm.ctor made.ctor)
      (inside (at + 3) ((part arm.body.0).does ((arm.payload, made.payload) ∷ locals) p))
      (meant.match_arm made (at + 3 + (part arm.body.0).trees)
      (map (match_arm.map Stm Part part) (match_stms arms)) locals p)
      (behind_inside (at + 3) ((part arm.body.0).does ((arm.payload, made.payload) ∷ locals) p)
      (arm.body.1 ((arm.payload, made.payload) ∷ locals) p))
      (match_behind made (at + 3 + (part arm.body.0).trees) arms locals p)

  abbrev first : Stm-F BehindStm → Stm-F Stm
  first = map-Stm BehindStm Stm (λ s. s.0)

  layer_behind : (y : Stm-F BehindStm) →
      AreBehind (does_of decls calls (map-Stm Stm Part part (first y)))
  layer_behind (Ret e) locals p =
      behind_given (value_of_expr (plainly decls locals) e) (λ v. Done v p) (λ v. tt)
  layer_behind (Let x a b) locals p =
      behind_then (inside 3 ((part a.0).does locals p))
      (λ v q. inside (3 + (part a.0).trees) ((part b.0).does ((x, v) ∷ locals) q))
      (behind_inside 3 ((part a.0).does locals p) (a.1 locals p))
      (λ v q. behind_inside (3 + (part a.0).trees) ((part b.0).does ((x, v) ∷ locals) q)
      (b.1 ((x, v) ∷ locals) q))
  layer_behind (Seq ss) locals p = sequence_behind 2 ss locals p
  layer_behind (If test a b) locals p =
      let first_at : ℕ = 2 + trees_of_expr test in
      let second_at : ℕ = 2 + trees_of_expr test + (part a.0).trees in
      behind_given (truth_for decls locals test)
      (λ holds. if holds then inside first_at ((part a.0).does locals p)
      else inside second_at ((part b.0).does locals p))
      (λ holds. behind_either holds (inside first_at ((part a.0).does locals p))
      (inside second_at ((part b.0).does locals p))
      (behind_inside first_at ((part a.0).does locals p) (a.1 locals p))
      (behind_inside second_at ((part b.0).does locals p) (b.1 locals p)))
  layer_behind (Case e arms) locals p =
      behind_given (option_and_then (λ v. member_of_layer (types_of_decls decls) (out-Value v))
      (value_of_expr (plainly decls locals) e))
      (λ member. meant.case_arm member (2 + trees_of_expr e)
      (map (case_arm.map Stm Part part) (case_stms arms)) locals p)
      (λ member. case_behind member (2 + trees_of_expr e) arms locals p)
  layer_behind (Match e arms) locals p =
      behind_given (option_and_then (λ v. made_of_layer (types_of_decls decls) (out-Value v))
      (value_of_expr (plainly decls locals) e))
      (λ made. meant.match_arm made (2 + trees_of_expr e)
      (map (match_arm.map Stm Part part) (match_stms arms)) locals p)
      (λ made. match_behind made (2 + trees_of_expr e) arms locals p)
  layer_behind (Read r) locals p =
      behind_given (register_value decls r p.state.registers) (λ v. Done v p) (λ v. tt)
  layer_behind (Write r e) locals p =
      behind_given (option_and_then (λ v. written decls r v p.state)
      (value_of_expr (plainly decls locals) e)) (λ state. done_in state p) (λ state. tt)
  layer_behind (Load index) locals p =
      behind_given (memory_of decls) (λ (memory : Memory).
      given (number_for decls memory.index_width locals index) (λ i.
      loaded memory.cell_width (cell_at p.state i) p)) (λ (memory : Memory).
      behind_given (number_for decls memory.index_width locals index)
      (λ i. loaded memory.cell_width (cell_at p.state i) p)
      (λ i. behind_loaded memory.cell_width (cell_at p.state i) p))
  layer_behind (Store index e) locals p =
      behind_given (memory_of decls) (λ (memory : Memory).
      given (number_for decls memory.index_width locals index) (λ i.
      given (number_for decls memory.cell_width locals e) (λ n.
      stored i n (cell_at p.state i) p))) (λ (memory : Memory).
      behind_given (number_for decls memory.index_width locals index) (λ i.
      given (number_for decls memory.cell_width locals e) (λ n.
      stored i n (cell_at p.state i) p)) (λ i.
      behind_given (number_for decls memory.cell_width locals e)
      (λ n. stored i n (cell_at p.state i) p)
      (λ n. behind_stored i n (cell_at p.state i) p)))
  layer_behind (Call f args) locals p =
      behind_given (values_of_exprs (plainly decls locals) args)
      (λ values. at_site There (calls f values p))
      (λ values. behind_there (calls f values p) (placed f values p))
  layer_behind (Check e) locals p =
      behind_given (truth_for decls locals e)
      (λ holds. if holds then Done UnitValue p else Fail (Here 0))
      (λ holds. behind_either holds (Done UnitValue p) (Fail (Here 0)) tt tt)
  layer_behind FailStm locals p = tt
  layer_behind (Open name inputs) locals p = tt
  layer_behind (Close name inputs) locals p = tt
  layer_behind (Lemma name args) locals p = tt

  pub statements_behind : (s : Stm) → AreBehind (part_of_stm decls calls s).does
  statements_behind = ind-Stm (λ s. AreBehind (part s).does) (λ x y is.
      subst (λ (d : Part). AreBehind d.does) (sym (fold-roll-Stm Part (part_of decls calls) x))
      (subst (λ z. AreBehind (does_of decls calls (map-Stm Stm Part part z))) is (layer_behind y)))

-- where the body of a function that there may be stands
abbrev place_or : Option Function → ℕ
place_or None = 0
place_or (Some function) = function.body_at

-- the body of a function stands behind tree 0 of its declaration
body_behind : (k : ℕ) (decls : List DeclForm) (f : Name) (function : Function) →
    function_from k decls f ≡ Some function → 0 < function.body_at
body_behind k [] f function e = absurd (cc)
body_behind k (decl ∷ decls) f function e =
    by (is_function f decl) (λ same. body_behind (k + 1) decls f function same) e where
      at : (one : DeclForm) → function_at k one ≡ Some function → 0 < function.body_at
      at (d.Fun x params result body) same =
          let is : 3 + trees_of_params params + trees_of_type result ≡ function.body_at =
          ap place_or same in
          omega (arith, is)
      at _ same = absurd (cc)

      by : (b : Bool) → (function_from (k + 1) decls f ≡ Some function → 0 < function.body_at) →
          (if b then function_at k decl else function_from (k + 1) decls f) ≡ Some function →
          0 < function.body_at
      by true later same = at decl same
      by false later same = later same

-- what is behind tree 0 of a declaration stands at no tree 0
placed_in : (decl at : ℕ) (o : Outcome StmSite) → 0 < at → IsBehind o →
    IsPlaced (at_site (place_in decl) (inside at o))
placed_in decl at (Done v p) far is = tt
placed_in decl at Out far is = tt
placed_in decl at (Fail (Here tree)) far is = omega (arith, far)
placed_in decl at (Fail (There place)) far is = is
placed_in decl at Stuck far is = tt

module _ (decls : List DeclForm) where
  abbrev ArePlaced : ℕ → Type 0
  ArePlaced depth = (f : Name) (args : List Value) (p : Progress) →
      IsPlaced (call_of decls depth f args p)

  placed_body : (depth : ℕ) → ArePlaced depth → (args : List Value) (p : Progress)
      (function : Function) → 0 < function.body_at →
      IsPlaced (body_of decls (call_of decls depth) args p function)
  placed_body depth placed args p function far = by (bound function.params args) where
    by : (o : Option Locals) → IsPlaced (given o (λ locals. at_site (place_in function.decl)
        (inside function.body_at (meaning decls (call_of decls depth) function.body locals p))))
    by None = tt
    by (Some locals) =
        placed_in function.decl function.body_at
        (meaning decls (call_of decls depth) function.body locals p) far
        (statements_behind decls (call_of decls depth) placed function.body locals p)

  calls_placed : (depth : ℕ) → ArePlaced depth
  calls_placed zero f args p = tt
  calls_placed (suc depth) f args p = spent (calls_placed depth) p.left where
    found : ArePlaced depth → (next : Progress) (o : Option Function) →
        function_from 0 decls f ≡ o →
        IsPlaced (given o (body_of decls (call_of decls depth) args next))
    found placed next None is = tt
    found placed next (Some function) is =
        placed_body depth placed args next function (body_behind 0 decls f function is)

    spent : ArePlaced depth → (left : ℕ) → IsPlaced (spend_one left p
        (λ next. given (function_from 0 decls f) (body_of decls (call_of decls depth) args next)))
    spent placed zero = tt
    spent placed (suc left) =
        found placed (record p { left = left }) (function_from 0 decls f) refl

  -- the call of the step function
  step_placed : (n : ℕ) (state : MachineState) (o : Option Name) →
      IsPlaced (given o (λ f. call_of decls n f [] (progress_at n state)))
  step_placed n state None = tt
  step_placed n state (Some f) = calls_placed n f [] (progress_at n state)

pub stuck_cycles_fail_at_a_declaration : StuckCyclesFailAtADeclaration
stuck_cycles_fail_at_a_declaration spec n state place e =
    by (step_call spec n state) (step_placed spec.decls n state (step_of spec.decls)) e where
      by : (o : Outcome Place) → IsPlaced o →
          as_cycle (stuck_place spec.decls) o ≡ FailedAt place →
          ((place.tree ≡ 0) → o ≡ Stuck) × (o ≡ Stuck → place.tree ≡ 0)
      by (Done v p) placed same = absurd (cc)
      by Out placed same = absurd (cc)
      by (Fail other) placed same =
          let is : other ≡ place = cc in
          let far : 0 < place.tree = subst (λ (q : Place). 0 < q.tree) is placed in
          ((λ none. absurd (omega (arith, far, none))), (λ stuck. absurd (cc)))
      by Stuck placed same =
          let is : stuck_place spec.decls ≡ place = cc in
          ((λ none. refl), (λ stuck. sym (ap (λ (q : Place). q.tree) is)))
