-- Failures of calls stand at statements that fail of themselves.
use Rattle.std.proofs.Common.{◌≡◌, ℕ, zero, suc, ◌+◌, Bool, true, false, List, [], ◌∷◌, map, slice_get, Option, Some, None, refl, ap, sym, ◌∙◌, subst, if◌then◌else◌, arith}
use Rattle.std.specs.Prelude.{option_and_then}
use Rattle.std.specs.Str.{bytes_eq}
use Rattle.kat_value.specs.declared.value.Value.{Value, out-Value}
use Rattle.kat_value.specs.declared.value.Value.TheVariants.{Unit as UnitValue}
use Rattle.kat_ast.specs.declared.decl.DeclForm.{DeclForm}
use Rattle.kat_ast.specs.declared.decl.DeclForm.TheVariants as d
use Rattle.kat_ast.specs.declared.place.Place.{Place}
use Rattle.kat_ast.specs.declared.type_name.TypeName.{TypeName}
use Rattle.kat_ast.specs.declared.stm.Stm.{Stm}
use Rattle.kat_ast.specs.declared.stm.CaseArm.{CaseArm}
use Rattle.kat_ast.specs.declared.stm.MatchArm.{MatchArm}
use Rattle.kat_ast.specs.declared.stm.Stm.TheOpen.{Stm-F, Ret, Let, Seq, If, Case, Match, Read, Write, Load, Store, Call, Check, Fail as FailStm, Open, Close, Lemma}
use Rattle.kat_ast.specs.declared.stm.Stm.TheViews.{roll-Stm, out-roll-Stm}
use Rattle.kat_ast.specs.declared.stm.Stm.TheFolds.{map-Stm, fold-roll-Stm, ind-Stm}
use Rattle.kat_ast.specs.declared.stm.Stm.TheShapes.{former-Stm-Case-1-at-2 as case_arm, former-Stm-Match-1-at-3 as match_arm}
use Rattle.kat_ast.specs.Expressions.{trees_of_expr}
use Rattle.kat_ast.specs.Statements.{trees_of_stm}
use Rattle.kat_ast.specs.Types.{trees_of_type, trees_of_params}
use Rattle.kat_syntax.specs.Tables.{Name, Function, function_at, function_from, is_function}
use Rattle.kat_syntax.specs.Machine.{Progress}
use Rattle.kat_syntax.specs.TypeTable.{types_of_decls}
use Rattle.kat_syntax.specs.States.{cell_at, memory_of, register_value, written}
use Rattle.kat_syntax.specs.Memories.{Memory}
use Rattle.kat_syntax.specs.Evaluation.{Locals, value_of_expr, values_of_exprs}
use Rattle.kat_syntax.specs.Outcomes.{Outcome, Done, Out, Fail, Stuck, StmSite, Here, There, then_do, given, at_site, inside, place_in}
use Rattle.kat_syntax.specs.Meaning as meant
use Rattle.kat_syntax.specs.Meaning.{Calls, Part, MadeWith, part_of, part_of_stm, does_of, in_sequence, loaded, stored, done_in, plainly, truth_for, number_for, member_of_layer, made_of_layer, meaning}
use Rattle.kat_syntax.specs.Cycle.{bound, body_of, call_of, spend_one}
use Rattle.kat_syntax.specs.MeaningLaws.{StatementsByParts}
use Rattle.kat_safety.specs.Failing.{FailsAt, FailsInBody, case_stms_from, fails_itself, match_stms_from, stms_from, stms_in}

-- at the tree of this number in one of these statements is one that fails of itself
record FailsAmong (stms : List (ℕ × Stm)) (at : ℕ) : Type 0 where
  pub i : ℕ
  pub first : ℕ
  pub inner : ℕ
  pub part : Stm
  pub there : slice_get stms i ≡ Some (first, part)
  pub behind : at ≡ first + inner
  pub fails : FailsAt part inner

-- what fails in a first one fails among all
among_first : (first at inner : ℕ) (part : Stm) (more : List (ℕ × Stm)) → at ≡ first + inner →
    FailsAt part inner → FailsAmong ((first, part) ∷ more) at
among_first first at inner part more behind is = record {
  i = 0;
  first = first;
  inner = inner;
  part = part;
  there = refl;
  behind = behind;
  fails = is;
}

-- so does what fails among those behind it
among_later : (one : ℕ × Stm) (more : List (ℕ × Stm)) (at : ℕ) → FailsAmong more at →
    FailsAmong (one ∷ more) at
among_later one more at is = record {
  i = suc is.i;
  first = is.first;
  inner = is.inner;
  part = is.part;
  there = is.there;
  behind = is.behind;
  fails = is.fails;
}

-- a statement fails where one of its parts does
fails_inside : (y : Stm-F Stm) (at : ℕ) → FailsAmong (stms_in y) at → FailsAt (roll-Stm y) at
fails_inside y at is = record {
  depth = suc is.fails.depth;
  stm = is.fails.stm;
  there = (
    is.i,
    is.first,
    is.inner,
    is.part,
    subst (λ z. slice_get (stms_in z) is.i ≡ Some (is.first, is.part)) (sym (out-roll-Stm y))
        is.there,
    is.behind,
    is.fails.there,
  );
  fails = is.fails.fails;
}

-- a statement that fails of itself does at its own tree
fails_here : (y : Stm-F Stm) → fails_itself y ≡ true → FailsAt (roll-Stm y) 0
fails_here y is = record {
  depth = 0;
  stm = roll-Stm y;
  there = (refl, refl);
  fails = ap fails_itself (out-roll-Stm y) ∙ is;
}

-- a failure of a call stands in a body
abbrev pub IsPlaced : List DeclForm → Outcome Place → Type 0
IsPlaced decls (Done v p) = Unit {0}
IsPlaced decls Out = Unit {0}
IsPlaced decls (Fail place) = FailsInBody decls place
IsPlaced decls Stuck = Unit {0}

-- a failure in a statement stands at one of these trees, or in the body of what was called
abbrev FailsWhere : List DeclForm → (ℕ → Type 0) → Outcome StmSite → Type 0
FailsWhere decls at (Done v p) = Unit {0}
FailsWhere decls at Out = Unit {0}
FailsWhere decls at (Fail (Here tree)) = at tree
FailsWhere decls at (Fail (There place)) = FailsInBody decls place
FailsWhere decls at Stuck = Unit {0}

module _ (decls : List DeclForm) where
  moved : (at to : ℕ → Type 0) (o : Outcome StmSite) → ((n : ℕ) → at n → to n) →
      FailsWhere decls at o → FailsWhere decls to o
  moved at to (Done v p) move is = tt
  moved at to Out move is = tt
  moved at to (Fail (Here tree)) move is = move tree is
  moved at to (Fail (There place)) move is = is
  moved at to Stuck move is = tt

  where_inside : (at to : ℕ → Type 0) (k : ℕ) (o : Outcome StmSite) →
      ((n : ℕ) → at n → to (k + n)) → FailsWhere decls at o → FailsWhere decls to (inside k o)
  where_inside at to k (Done v p) move is = tt
  where_inside at to k Out move is = tt
  where_inside at to k (Fail (Here tree)) move is = move tree is
  where_inside at to k (Fail (There place)) move is = is
  where_inside at to k Stuck move is = tt

  where_then : (at : ℕ → Type 0) (o : Outcome StmSite) (go : Value → Progress → Outcome StmSite) →
      FailsWhere decls at o → ((v : Value) (p : Progress) → FailsWhere decls at (go v p)) →
      FailsWhere decls at (then_do o go)
  where_then at (Done v p) go is next = next v p
  where_then at Out go is next = tt
  where_then at (Fail site) go is next = is
  where_then at Stuck go is next = tt

  where_given : {A : Type 0} (at : ℕ → Type 0) (a : Option A) (go : A → Outcome StmSite) →
      ((x : A) → FailsWhere decls at (go x)) → FailsWhere decls at (given a go)
  where_given at None go next = tt
  where_given at (Some x) go next = next x

  where_either : (at : ℕ → Type 0) (b : Bool) (o u : Outcome StmSite) → FailsWhere decls at o →
      FailsWhere decls at u → FailsWhere decls at (if b then o else u)
  where_either at true o u first second = first
  where_either at false o u first second = second

  where_there : (at : ℕ → Type 0) (o : Outcome Place) → IsPlaced decls o →
      FailsWhere decls at (at_site There o)
  where_there at (Done v p) is = tt
  where_there at Out is = tt
  where_there at (Fail place) is = is
  where_there at Stuck is = tt

  where_loaded : (at : ℕ → Type 0) (width : ℕ) (cell : Option ℕ) (p : Progress) → at 0 →
      FailsWhere decls at (loaded width cell p)
  where_loaded at width None p here = here
  where_loaded at width (Some n) p here = tt

  where_stored : (at : ℕ → Type 0) (i n : ℕ) (cell : Option ℕ) (p : Progress) → at 0 →
      FailsWhere decls at (stored i n cell p)
  where_stored at i n None p here = here
  where_stored at i n (Some before) p here = tt

  module _ (counts : StatementsByParts) (calls : Calls)
      (placed : (f : Name) (args : List Value) (p : Progress) → IsPlaced decls (calls f args p))
    where
      abbrev FailWhere : (ℕ → Type 0) → (Locals → Progress → Outcome StmSite) → Type 0
      FailWhere at does = (locals : Locals) (p : Progress) → FailsWhere decls at (does locals p)

      abbrev part : Stm → Part
      part = part_of_stm decls calls

      abbrev FailingStm : Type 0
      FailingStm = (s : Stm) × FailWhere (FailsAt s) (part s).does

      abbrev stms : List FailingStm → List Stm
      stms ss = map (λ (s : FailingStm). s.0) ss

      -- a part that stands first fails among all
      part_first : (s : FailingStm) (k : ℕ) (more : List (ℕ × Stm)) (locals : Locals)
          (p : Progress) →
          FailsWhere decls (FailsAmong ((k, s.0) ∷ more)) (inside k ((part s.0).does locals p))
      part_first s k more locals p =
          where_inside (FailsAt s.0) (FailsAmong ((k, s.0) ∷ more)) k ((part s.0).does locals p)
          (λ n is. among_first k (k + n) n s.0 more refl is) (s.1 locals p)

      -- numbers by the meaning's count of trees are those of the statement's
      recounted : (s : Stm) (k : ℕ) (stms_at : ℕ → List (ℕ × Stm)) (o : Outcome StmSite) →
          FailsWhere decls (FailsAmong (stms_at (k + (part s).trees))) o →
          FailsWhere decls (FailsAmong (stms_at (k + trees_of_stm s))) o
      recounted s k stms_at o is =
          subst (λ n. FailsWhere decls (FailsAmong (stms_at (k + n))) o)
          (counts.count decls calls s)
          is

      sequence_fails : (at : ℕ) (ss : List FailingStm) →
          FailWhere (FailsAmong (stms_from at (stms ss))) (in_sequence at (map part (stms ss)))
      sequence_fails at [] locals p = tt
      sequence_fails at (s ∷ []) locals p = part_first s at [] locals p
      sequence_fails at (s ∷ t ∷ ss) locals p =
          let more = stms_from (at + trees_of_stm s.0) (stms (t ∷ ss)) in
          where_then (FailsAmong ((at, s.0) ∷ more)) (inside at ((part s.0).does locals p))
          (λ v q. in_sequence (at + (part s.0).trees) (map part (stms (t ∷ ss))) locals q)
          (part_first s at more locals p)
          (λ v q. moved (FailsAmong more) (FailsAmong ((at, s.0) ∷ more))
          (in_sequence (at + (part s.0).trees) (map part (stms (t ∷ ss))) locals q)
          (λ n is. among_later (at, s.0) more n is)
          (recounted s.0 at (λ k. stms_from k (stms (t ∷ ss)))
          (in_sequence (at + (part s.0).trees) (map part (stms (t ∷ ss))) locals q)
          (sequence_fails (at + (part s.0).trees) (t ∷ ss) locals q)))

      abbrev case_stms : List (CaseArm FailingStm) → List (CaseArm Stm)
      case_stms arms = map (case_arm.map FailingStm Stm (λ s. s.0)) arms

      case_fails : (member : Name) (at : ℕ) (arms : List (CaseArm FailingStm)) →
          FailWhere (FailsAmong (case_stms_from at (case_stms arms)))
          (meant.case_arm member at (map (case_arm.map Stm Part part) (case_stms arms)))
      case_fails member at [] locals p = tt
      case_fails member at (arm ∷ arms) locals p =
          let s = arm.body.0 in
          let more = case_stms_from (at + 2 + trees_of_stm s) (case_stms arms) in
          let rest = meant.case_arm member (at + 2 + (part s).trees)
          (map (case_arm.map Stm Part part) (case_stms arms)) locals p in
          where_either (FailsAmong ((at + 2, s) ∷ more)) (bytes_eq arm.member member)
          (inside (at + 2) ((part s).does locals p)) rest
          (part_first arm.body (at + 2) more locals p)
          (moved (FailsAmong more) (FailsAmong ((at + 2, s) ∷ more)) rest
          (λ n is. among_later (at + 2, s) more n is)
          (recounted s (at + 2) (λ k. case_stms_from k (case_stms arms)) rest
          (case_fails member (at + 2 + (part s).trees) arms locals p)))

      abbrev match_stms : List (MatchArm FailingStm) → List (MatchArm Stm)
      match_stms arms = map (match_arm.map FailingStm Stm (λ s. s.0)) arms

      match_fails : (made : MadeWith) (at : ℕ) (arms : List (MatchArm FailingStm)) →
          FailWhere (FailsAmong (match_stms_from at (match_stms arms)))
          (meant.match_arm made at (map (match_arm.map Stm Part part) (match_stms arms)))
      match_fails made at [] locals p = tt
      match_fails made at (arm ∷ arms) locals p =
          let s = arm.body.0 in
          let more = match_stms_from (at + 3 + trees_of_stm s) (match_stms arms) in
          let rest = meant.match_arm made (at + 3 + (part s).trees)
          (map (match_arm.map Stm Part part) (match_stms arms)) locals p in
          where_either (FailsAmong ((at + 3, s) ∷ more)) (bytes_eq arm.ctor made.ctor)
          (inside (at + 3) ((part s).does ((arm.payload, made.payload) ∷ locals) p)) rest
          (part_first arm.body (at + 3) more ((arm.payload, made.payload) ∷ locals) p)
          (moved (FailsAmong more) (FailsAmong ((at + 3, s) ∷ more)) rest
          (λ n is. among_later (at + 3, s) more n is)
          (recounted s (at + 3) (λ k. match_stms_from k (match_stms arms)) rest
          (match_fails made (at + 3 + (part s).trees) arms locals p)))

      abbrev first : Stm-F FailingStm → Stm-F Stm
      first = map-Stm FailingStm Stm (λ s. s.0)

      -- the parts of a layer fail among those that stand in it
      abbrev within : (y : Stm-F FailingStm) (o : Outcome StmSite) → Type 0
      within y o = FailsWhere decls (FailsAmong (stms_in (first y))) o →
          FailsWhere decls (FailsAt (roll-Stm (first y))) o

      whole : (y : Stm-F FailingStm) (o : Outcome StmSite) → within y o
      whole y o is = moved (FailsAmong (stms_in (first y))) (FailsAt (roll-Stm (first y))) o
          (λ n fails. fails_inside (first y) n fails) is

      layer_fails : (y : Stm-F FailingStm) →
          FailWhere (FailsAt (roll-Stm (first y)))
          (does_of decls calls (map-Stm Stm Part part (first y)))
      layer_fails (Ret e) locals p =
          where_given (FailsAt (roll-Stm (Ret e))) (value_of_expr (plainly decls locals) e)
          (λ v. Done v p) (λ v. tt)
      layer_fails (Let x a b) locals p =
          let more = (3 + trees_of_stm a.0, b.0) ∷ [] in
          let at = FailsAmong ((3, a.0) ∷ more) in
          let go : Value → Progress → Outcome StmSite =
          λ v q. inside (3 + (part a.0).trees) ((part b.0).does ((x, v) ∷ locals) q) in
          whole (Let x a b) (then_do (inside 3 ((part a.0).does locals p)) go)
          (where_then at (inside 3 ((part a.0).does locals p)) go (part_first a 3 more locals p)
          (λ v q. moved (FailsAmong more) at (go v q) (λ n is. among_later (3, a.0) more n is)
          (recounted a.0 3 (λ k. (k, b.0) ∷ []) (go v q)
          (part_first b (3 + (part a.0).trees) [] ((x, v) ∷ locals) q))))
      layer_fails (Seq ss) locals p =
          whole (Seq ss) (in_sequence 2 (map part (stms ss)) locals p)
          (sequence_fails 2 ss locals p)
      layer_fails (If test a b) locals p =
          let first_at : ℕ = 2 + trees_of_expr test in
          let second_at : ℕ = 2 + trees_of_expr test + (part a.0).trees in
          let more = (first_at + trees_of_stm a.0, b.0) ∷ [] in
          let at = FailsAmong ((first_at, a.0) ∷ more) in
          let one = inside first_at ((part a.0).does locals p) in
          let other = inside second_at ((part b.0).does locals p) in
          let go : Bool → Outcome StmSite = λ holds. if holds then one else other in
          whole (If test a b) (given (truth_for decls locals test) go)
          (where_given at (truth_for decls locals test) go (λ holds. where_either at holds one other
          (part_first a first_at more locals p)
          (moved (FailsAmong more) at other (λ n is. among_later (first_at, a.0) more n is)
          (recounted a.0 first_at (λ k. (k, b.0) ∷ []) other
          (part_first b second_at [] locals p)))))
      layer_fails (Case e arms) locals p =
          let member : Option Name =
          option_and_then (λ v. member_of_layer (types_of_decls decls) (out-Value v))
          (value_of_expr (plainly decls locals) e) in
          let go : Name → Outcome StmSite = λ m. meant.case_arm m (2 + trees_of_expr e)
          (map (case_arm.map Stm Part part) (case_stms arms)) locals p in
          whole (Case e arms) (given member go)
          (where_given (FailsAmong (case_stms_from (2 + trees_of_expr e) (case_stms arms)))
          member go
          (λ m. case_fails m (2 + trees_of_expr e) arms locals p))
      layer_fails (Match e arms) locals p =
          let made : Option MadeWith =
          option_and_then (λ v. made_of_layer (types_of_decls decls) (out-Value v))
          (value_of_expr (plainly decls locals) e) in
          let go : MadeWith → Outcome StmSite = λ m. meant.match_arm m (2 + trees_of_expr e)
          (map (match_arm.map Stm Part part) (match_stms arms)) locals p in
          whole (Match e arms) (given made go)
          (where_given (FailsAmong (match_stms_from (2 + trees_of_expr e) (match_stms arms)))
          made go
          (λ m. match_fails m (2 + trees_of_expr e) arms locals p))
      layer_fails (Read r) locals p =
          where_given (FailsAt (roll-Stm (Read r))) (register_value decls r p.state.registers)
          (λ v. Done v p) (λ v. tt)
      layer_fails (Write r e) locals p =
          where_given (FailsAt (roll-Stm (Write r e)))
          (option_and_then (λ v. written decls r v p.state)
          (value_of_expr (plainly decls locals) e)) (λ state. done_in state p) (λ state. tt)
      layer_fails (Load index) locals p =
          let at = FailsAt (roll-Stm (Load index)) in
          where_given at (memory_of decls) (λ (memory : Memory).
          given (number_for decls memory.index_width locals index) (λ i.
          loaded memory.cell_width (cell_at p.state i) p)) (λ (memory : Memory).
          where_given at (number_for decls memory.index_width locals index)
          (λ i. loaded memory.cell_width (cell_at p.state i) p)
          (λ i. where_loaded at memory.cell_width (cell_at p.state i) p
          (fails_here (Load index) refl)))
      layer_fails (Store index e) locals p =
          let at = FailsAt (roll-Stm (Store index e)) in
          where_given at (memory_of decls) (λ (memory : Memory).
          given (number_for decls memory.index_width locals index) (λ i.
          given (number_for decls memory.cell_width locals e) (λ n.
          stored i n (cell_at p.state i) p))) (λ (memory : Memory).
          where_given at (number_for decls memory.index_width locals index) (λ i.
          given (number_for decls memory.cell_width locals e) (λ n.
          stored i n (cell_at p.state i) p)) (λ i.
          where_given at (number_for decls memory.cell_width locals e)
          (λ n. stored i n (cell_at p.state i) p)
          (λ n. where_stored at i n (cell_at p.state i) p (fails_here (Store index e) refl))))
      layer_fails (Call f args) locals p =
          let at = FailsAt (roll-Stm (Call f args)) in
          where_given at (values_of_exprs (plainly decls locals) args)
          (λ values. at_site There (calls f values p))
          (λ values. where_there at (calls f values p) (placed f values p))
      layer_fails (Check e) locals p =
          let at = FailsAt (roll-Stm (Check e)) in
          where_given at (truth_for decls locals e)
          (λ holds. if holds then Done UnitValue p else Fail (Here 0))
          (λ holds. where_either at holds (Done UnitValue p) (Fail (Here 0)) tt
          (fails_here (Check e) refl))
      layer_fails FailStm locals p = fails_here FailStm refl
      layer_fails (Open name inputs) locals p = tt
      layer_fails (Close name inputs) locals p = tt
      layer_fails (Lemma name args) locals p = tt

      pub statements_fail : (s : Stm) → FailWhere (FailsAt s) (part_of_stm decls calls s).does
      statements_fail = ind-Stm (λ s. FailWhere (FailsAt s) (part s).does) (λ x y is.
          subst (λ (one : Part). FailWhere (FailsAt (roll-Stm x)) one.does)
          (sym (fold-roll-Stm Part (part_of decls calls) x))
          (subst (λ z. FailWhere (FailsAt (roll-Stm z))
          (does_of decls calls (map-Stm Stm Part part z)))
          is (layer_fails y)))

-- a function that is found is declared so
record IsDeclared (decls : List DeclForm) (k : ℕ) (function : Function) : Type 0 where
  pub i : ℕ
  pub name : Name
  pub result : TypeName
  pub number : function.decl ≡ k + i
  pub declared : slice_get decls i ≡ Some (d.Fun name function.params result function.body)
  pub body_at : function.body_at ≡ 3 + trees_of_params function.params + trees_of_type result

declared_first : (k : ℕ) (decl : DeclForm) (decls : List DeclForm) (function : Function) →
    function_at k decl ≡ Some function → IsDeclared (decl ∷ decls) k function
declared_first k (d.Fun x params result body) decls function e =
    let whole : Function = record {
      decl = k;
      params = params;
      body = body;
      body_at = 3 + trees_of_params params + trees_of_type result;
    } in
    let same : whole ≡ function = cc in
    subst (λ (one : Function). IsDeclared (d.Fun x params result body ∷ decls) k one) same (record {
      i = 0;
      name = x;
      result = result;
      number = omega arith;
      declared = refl;
      body_at = refl;
    })
declared_first k _ decls function e = absurd (cc)

declared_later : (k : ℕ) (decl : DeclForm) (decls : List DeclForm) (function : Function) →
    IsDeclared decls (k + 1) function → IsDeclared (decl ∷ decls) k function
declared_later k decl decls function is = record {
  i = suc is.i;
  name = is.name;
  result = is.result;
  number = omega (arith, is.number);
  declared = is.declared;
  body_at = is.body_at;
}

declared_from : (k : ℕ) (decls : List DeclForm) (f : Name) (function : Function) →
    function_from k decls f ≡ Some function → IsDeclared decls k function
declared_from k [] f function e = absurd (cc)
declared_from k (decl ∷ decls) f function e =
    by (is_function f decl) (λ same. declared_from (k + 1) decls f function same) e where
      by : (b : Bool) →
          (function_from (k + 1) decls f ≡ Some function → IsDeclared decls (k + 1) function) →
          (if b then function_at k decl else function_from (k + 1) decls f) ≡ Some function →
          IsDeclared (decl ∷ decls) k function
      by true later same = declared_first k decl decls function same
      by false later same = declared_later k decl decls function (later same)

-- a failure in a body that is declared stands in it
placed_in : (decls : List DeclForm) (function : Function) (o : Outcome StmSite) →
    IsDeclared decls 0 function → FailsWhere decls (FailsAt function.body) o →
    IsPlaced decls (at_site (place_in function.decl) (inside function.body_at o))
placed_in decls function (Done v p) declared is = tt
placed_in decls function Out declared is = tt
placed_in decls function (Fail (Here tree)) declared is = record {
  name = declared.name;
  params = function.params;
  result = declared.result;
  body = function.body;
  declared = subst
      (λ i. slice_get decls i
      ≡ Some (d.Fun declared.name function.params declared.result function.body))
      (omega (arith, declared.number)) declared.declared;
  at = tree;
  behind = ap (λ n. n + tree) declared.body_at;
  fails = is;
}
placed_in decls function (Fail (There place)) declared is = is
placed_in decls function Stuck declared is = tt

module _ (counts : StatementsByParts) (decls : List DeclForm) where
  abbrev ArePlaced : ℕ → Type 0
  ArePlaced depth = (f : Name) (args : List Value) (p : Progress) →
      IsPlaced decls (call_of decls depth f args p)

  placed_body : (depth : ℕ) → ArePlaced depth → (args : List Value) (p : Progress)
      (function : Function) → IsDeclared decls 0 function →
      IsPlaced decls (body_of decls (call_of decls depth) args p function)
  placed_body depth placed args p function declared = by (bound function.params args) where
    by : (o : Option Locals) → IsPlaced decls (given o (λ locals. at_site (place_in function.decl)
        (inside function.body_at (meaning decls (call_of decls depth) function.body locals p))))
    by None = tt
    by (Some locals) =
        placed_in decls function (meaning decls (call_of decls depth) function.body locals p)
        declared
        (statements_fail decls counts (call_of decls depth) placed function.body locals p)

  pub calls_placed : (depth : ℕ) → ArePlaced depth
  calls_placed zero f args p = tt
  calls_placed (suc depth) f args p = spent (calls_placed depth) p.left where
    found : ArePlaced depth → (next : Progress) (o : Option Function) →
        function_from 0 decls f ≡ o →
        IsPlaced decls (given o (body_of decls (call_of decls depth) args next))
    found placed next None is = tt
    found placed next (Some function) is =
        placed_body depth placed args next function (declared_from 0 decls f function is)

    spent : ArePlaced depth → (left : ℕ) → IsPlaced decls (spend_one left p
        (λ next. given (function_from 0 decls f) (body_of decls (call_of decls depth) args next)))
    spent placed zero = tt
    spent placed (suc left) =
        found placed (record p { left = left }) (function_from 0 decls f) refl
