-- What each act of a statement keeps, every statement keeps.
use Rattle.std.proofs.Common.{◌≡◌, ℕ, ◌+◌, Bool, true, false, List, [], ◌∷◌, ◌++◌, map, Option, Some, None, refl, sym, subst, if◌then◌else◌}
use Rattle.std.specs.Prelude.{option_and_then}
use Rattle.std.specs.List.{AllByRecursion}
use Rattle.std.specs.Str.{bytes_eq}
use Rattle.kat_value.specs.declared.value.Value.{Value, out-Value}
use Rattle.kat_value.specs.declared.value.Value.TheVariants.{Unit as UnitValue, Bits as Number}
use Rattle.kat_ast.specs.declared.decl.DeclForm.{DeclForm}
use Rattle.kat_ast.specs.declared.expr.Expr.{Expr}
use Rattle.kat_ast.specs.declared.stm.Stm.{Stm}
use Rattle.kat_ast.specs.declared.stm.CaseArm.{CaseArm}
use Rattle.kat_ast.specs.declared.stm.MatchArm.{MatchArm}
use Rattle.kat_ast.specs.declared.stm.Stm.TheOpen.{Stm-F, Ret, Let, Seq, If, Case, Match, Read, Write, Load, Store, Call, Check, Fail as FailStm, Open, Close, Lemma}
use Rattle.kat_ast.specs.declared.stm.Stm.TheFolds.{map-Stm, fold-roll-Stm, ind-Stm}
use Rattle.kat_ast.specs.declared.stm.Stm.TheShapes.{former-Stm-Case-1-at-2 as case_arm, former-Stm-Match-1-at-3 as match_arm}
use Rattle.kat_syntax.specs.Tables.{Name}
use Rattle.kat_syntax.specs.Machine.{MachineState, Progress}
use Rattle.kat_syntax.specs.States.{cell_at, with_cell, written, register_value, memory_of}
use Rattle.kat_syntax.specs.TypeTable.{types_of_decls}
use Rattle.kat_syntax.specs.Memories.{Memory}
use Rattle.kat_ast.specs.Expressions.{trees_of_expr}
use Rattle.kat_syntax.specs.Evaluation.{Locals, value_of_expr, values_of_exprs}
use Rattle.kat_syntax.specs.Outcomes.{Outcome, Done, Out, Fail, Stuck, StmSite, Here, There, then_do, given, at_site, inside}
use Rattle.kat_syntax.specs.Meaning as meant
use Rattle.kat_syntax.specs.Meaning.{Calls, Part, MadeWith, part_of, part_of_stm, does_of, in_sequence, loaded, stored, done_in, plainly, truth_for, number_for, member_of_layer, made_of_layer}
use Rattle.kat_syntax.specs.MeaningLaws.{joined, in_case_arms, in_match_arms, layer_writes, written_by_stm}

-- an outcome that is done was so before its site was moved
pub done_at : {S U : Type 0} (move : S → U) (o : Outcome S) (v : Value) (q : Progress) →
    at_site move o ≡ Done v q → o ≡ Done v q
done_at move (Done u p) v q e = cc
done_at move Out v q e = cc
done_at move (Fail site) v q e = cc
done_at move Stuck v q e = cc

-- and what was given was there
pub done_given : {A S : Type 0} (a : Option A) (go : A → Outcome S) (v : Value) (q : Progress) →
    given a go ≡ Done v q → (x : A) × (a ≡ Some x) × (go x ≡ Done v q)
done_given None go v q e = cc
done_given (Some x) go v q e = (x, refl, e)

-- and what came first was done
pub done_then : {S : Type 0} (o : Outcome S) (go : Value → Progress → Outcome S) (v : Value)
    (q : Progress) → then_do o go ≡ Done v q →
    (u : Value) × (r : Progress) × (o ≡ Done u r) × (go u r ≡ Done v q)
done_then (Done u r) go v q e = (u, r, refl, e)
done_then Out go v q e = cc
done_then (Fail site) go v q e = cc
done_then Stuck go v q e = cc

-- what is there of what is there
pub some_then : {A B : Type 0} (f : A → Option B) (o : Option A) (y : B) →
    option_and_then f o ≡ Some y → (x : A) × (o ≡ Some x) × (f x ≡ Some y)
some_then f None y e = cc
some_then f (Some x) y e = (x, refl, e)

-- all of two lists
pub all_first : (P : Name → Type 0) (xs ys : List Name) → AllByRecursion P (xs ++ ys) →
    AllByRecursion P xs
all_first P [] ys all = tt
all_first P (x ∷ xs) ys all = (all.0, all_first P xs ys all.1)

pub all_second : (P : Name → Type 0) (xs ys : List Name) → AllByRecursion P (xs ++ ys) →
    AllByRecursion P ys
all_second P [] ys all = all
all_second P (x ∷ xs) ys all = all_second P xs ys all.1

-- what the acts of statements keep, where registers are written that may be
pub record KeptByActs (decls : List DeclForm) (calls : Calls) (Allowed : Name → Type 0)
    (R : Progress → Progress → Type 0) : Type 0 where
  pub same : (p : Progress) → R p p
  pub behind : (p q r : Progress) → R p q → R q r → R p r
  pub write : (r : Name) (v : Value) (p : Progress) (state : MachineState) → Allowed r →
      written decls r v p.state ≡ Some state → R p (record p { state = state })
  pub store : (i n before : ℕ) (p : Progress) → cell_at p.state i ≡ Some before →
      R p (record p { state = with_cell i n p.state; stores = p.stores ++ i ∷ [] })
  pub call : (f : Name) (args : List Value) (p q : Progress) (v : Value) →
      calls f args p ≡ Done v q → R p q

module _ (decls : List DeclForm) (calls : Calls) (Allowed : Name → Type 0)
    (R : Progress → Progress → Type 0) (acts : KeptByActs decls calls Allowed R) where
  -- what a statement does keeps the relation
  abbrev Keeps : (Locals → Progress → Outcome StmSite) → Type 0
  Keeps does = (locals : Locals) (p q : Progress) (v : Value) → does locals p ≡ Done v q → R p q

  abbrev IsKept : Stm → Type 0
  IsKept s = AllByRecursion Allowed (written_by_stm s) → Keeps (part_of_stm decls calls s).does

  abbrev KeptStm : Type 0
  KeptStm = (s : Stm) × IsKept s

  abbrev part : Stm → Part
  part = part_of_stm decls calls

  abbrev stms : List KeptStm → List Stm
  stms ss = map (λ (s : KeptStm). s.0) ss

  -- where nothing changes
  ended : (p q : Progress) (u v : Value) → ◌≡◌ {A = Outcome StmSite} (Done u p) (Done v q) → R p q
  ended p q u v e = let is : p ≡ q = cc in subst (R p) is (acts.same p)

  let_kept : (x : Name) (a b : KeptStm) →
      AllByRecursion Allowed (written_by_stm a.0 ++ written_by_stm b.0) →
      Keeps (does_of decls calls (Let x (part a.0) (part b.0)))
  let_kept x a b all locals p q v e =
      let first = done_then (inside 3 ((part a.0).does locals p)) _ v q e in
      acts.behind p first.1 q
      (a.1 (all_first Allowed _ _ all) locals p first.1 first.0
      (done_at _ _ first.0 first.1 first.2))
      (b.1 (all_second Allowed (written_by_stm a.0) _ all) ((x, first.0) ∷ locals) first.1 q v
      (done_at _ _ v q first.3))

  sequence_kept : (at : ℕ) (ss : List KeptStm) →
      AllByRecursion Allowed (joined (map written_by_stm (stms ss))) →
      Keeps (in_sequence at (map part (stms ss)))
  sequence_kept at [] all locals p q v e = cc
  sequence_kept at (s ∷ []) all locals p q v e = s.1 (all_first Allowed _ _ all) locals p q v
      (done_at _ _ v q e)
  sequence_kept at (s ∷ t ∷ ss) all locals p q v e =
      let first = done_then (inside at ((part s.0).does locals p)) _ v q e in
      acts.behind p first.1 q
      (s.1 (all_first Allowed _ _ all) locals p first.1 first.0
      (done_at _ _ first.0 first.1 first.2))
      (sequence_kept (at + (part s.0).trees) (t ∷ ss)
      (all_second Allowed (written_by_stm s.0) _ all) locals first.1 q v first.3)

  either : (b : Bool) (o u : Outcome StmSite) (p q : Progress) (v : Value) →
      (o ≡ Done v q → R p q) → (u ≡ Done v q → R p q) → (if b then o else u) ≡ Done v q → R p q
  either true o u p q v first second e = first e
  either false o u p q v first second e = second e

  if_kept : (test : Expr) (a b : KeptStm) →
      AllByRecursion Allowed (written_by_stm a.0 ++ written_by_stm b.0) →
      Keeps (does_of decls calls (If test (part a.0) (part b.0)))
  if_kept test a b all locals p q v e =
      let first = inside (2 + trees_of_expr test) ((part a.0).does locals p) in
      let second = inside (2 + trees_of_expr test + (part a.0).trees) ((part b.0).does locals p) in
      let truth = done_given (truth_for decls locals test)
      (λ holds. if holds then first else second) v q e in
      either truth.0 first second p q v
      (λ h. a.1 (all_first Allowed _ _ all) locals p q v (done_at _ _ v q h))
      (λ h. b.1 (all_second Allowed (written_by_stm a.0) _ all) locals p q v (done_at _ _ v q h))
      truth.2

  abbrev case_stms : List (CaseArm KeptStm) → List (CaseArm Stm)
  case_stms arms = map (case_arm.map KeptStm Stm (λ s. s.0)) arms

  case_kept : (member : Name) (at : ℕ) (arms : List (CaseArm KeptStm)) →
      AllByRecursion Allowed
      (in_case_arms (map (case_arm.map Stm (List Name) written_by_stm) (case_stms arms))) →
      Keeps (meant.case_arm member at (map (case_arm.map Stm Part part) (case_stms arms)))
  case_kept member at [] all locals p q v e = cc
  case_kept member at (arm ∷ arms) all locals p q v e =
      either (bytes_eq arm.member member) _ _ p q v
      (λ h. arm.body.1 (all_first Allowed _ _ all) locals p q v (done_at _ _ v q h))
      (λ h. case_kept member (at + 2 + (part arm.body.0).trees) arms
      (all_second Allowed (written_by_stm arm.body.0) _ all) locals p q v h) e

  abbrev match_stms : List (MatchArm KeptStm) → List (MatchArm Stm)
  match_stms arms = map (match_arm.map KeptStm Stm (λ s. s.0)) arms

  match_kept : (made : MadeWith) (at : ℕ) (arms : List (MatchArm KeptStm)) →
      AllByRecursion Allowed
      (in_match_arms (map (match_arm.map Stm (List Name) written_by_stm) (match_stms arms))) →
      Keeps (meant.match_arm made at (map (match_arm.map Stm Part part) (match_stms arms)))
  match_kept made at [] all locals p q v e = cc
  match_kept made at (arm ∷ arms) all locals p q v e =
      either (bytes_eq arm.ctor made.ctor) _ _ p q v
      (λ h. arm.body.1 (all_first Allowed _ _ all) ((arm.payload, made.payload) ∷ locals) p q v
      (done_at _ _ v q h))
      (λ h. match_kept made (at + 3 + (part arm.body.0).trees) arms
      (all_second Allowed (written_by_stm arm.body.0) _ all) locals p q v h) e

  loaded_kept : (width : ℕ) (cell : Option ℕ) (p q : Progress) (v : Value) →
      loaded width cell p ≡ Done v q → R p q
  loaded_kept width None p q v e = cc
  loaded_kept width (Some n) p q v e = ended p q (Number width n) v e

  stored_kept : (i n : ℕ) (cell : Option ℕ) (p q : Progress) (v : Value) →
      cell_at p.state i ≡ cell → stored i n cell p ≡ Done v q → R p q
  stored_kept i n None p q v is e = cc
  stored_kept i n (Some before) p q v is e =
      let same : record p { state = with_cell i n p.state; stores = p.stores ++ i ∷ [] } ≡ q = cc in
      subst (R p) same (acts.store i n before p is)

  written_kept : (r : Name) (x v : Value) (p q : Progress) (state : MachineState) → Allowed r →
      written decls r x p.state ≡ Some state → done_in state p ≡ Done v q → R p q
  written_kept r x v p q state allowed is e =
      let same : record p { state = state } ≡ q = cc in
      subst (R p) same (acts.write r x p state allowed is)

  abbrev first : Stm-F KeptStm → Stm-F Stm
  first = map-Stm KeptStm Stm (λ s. s.0)

  layer_kept : (y : Stm-F KeptStm) →
      AllByRecursion Allowed (layer_writes (map-Stm Stm (List Name) written_by_stm (first y))) →
      Keeps (does_of decls calls (map-Stm Stm Part part (first y)))
  layer_kept (Ret e) all locals p q v h =
      let x = done_given (value_of_expr (plainly decls locals) e) (λ x. Done x p) v q h in
      ended p q x.0 v x.2
  layer_kept (Let x a b) all locals p q v h = let_kept x a b all locals p q v h
  layer_kept (Seq ss) all locals p q v h = sequence_kept 2 ss all locals p q v h
  layer_kept (If test a b) all locals p q v h = if_kept test a b all locals p q v h
  layer_kept (Case e arms) all locals p q v h =
      let x = done_given
      (option_and_then (λ x. member_of_layer (types_of_decls decls) (out-Value x))
      (value_of_expr (plainly decls locals) e))
      (λ member. meant.case_arm member (2 + trees_of_expr e)
      (map (case_arm.map Stm Part part) (case_stms arms)) locals p) v q h in
      case_kept x.0 (2 + trees_of_expr e) arms all locals p q v x.2
  layer_kept (Match e arms) all locals p q v h =
      let x = done_given
      (option_and_then (λ x. made_of_layer (types_of_decls decls) (out-Value x))
      (value_of_expr (plainly decls locals) e))
      (λ made. meant.match_arm made (2 + trees_of_expr e)
      (map (match_arm.map Stm Part part) (match_stms arms)) locals p) v q h in
      match_kept x.0 (2 + trees_of_expr e) arms all locals p q v x.2
  layer_kept (Read r) all locals p q v h =
      let x = done_given (register_value decls r p.state.registers) (λ x. Done x p) v q h in
      ended p q x.0 v x.2
  layer_kept (Write r e) all locals p q v h =
      let state = done_given
      (option_and_then (λ x. written decls r x p.state) (value_of_expr (plainly decls locals) e))
      (λ state. done_in state p) v q h in
      let value = some_then (λ x. written decls r x p.state)
      (value_of_expr (plainly decls locals) e) state.0 state.1 in
      written_kept r value.0 v p q state.0 all.0 value.2 state.2
  layer_kept (Load index) all locals p q v h =
      let memory = done_given (memory_of decls) (λ (memory : Memory).
      given (number_for decls memory.index_width locals index)
      (λ i. loaded memory.cell_width (cell_at p.state i) p)) v q h in
      let i = done_given (number_for decls memory.0.index_width locals index)
      (λ i. loaded memory.0.cell_width (cell_at p.state i) p) v q memory.2 in
      loaded_kept memory.0.cell_width (cell_at p.state i.0) p q v i.2
  layer_kept (Store index e) all locals p q v h =
      let memory = done_given (memory_of decls) (λ (memory : Memory).
      given (number_for decls memory.index_width locals index) (λ i.
      given (number_for decls memory.cell_width locals e) (λ n. stored i n (cell_at p.state i) p)))
      v q h in
      let i = done_given (number_for decls memory.0.index_width locals index) (λ i.
      given (number_for decls memory.0.cell_width locals e) (λ n. stored i n (cell_at p.state i) p))
      v q memory.2 in
      let n = done_given (number_for decls memory.0.cell_width locals e)
      (λ n. stored i.0 n (cell_at p.state i.0) p) v q i.2 in
      stored_kept i.0 n.0 (cell_at p.state i.0) p q v refl n.2
  layer_kept (Call f args) all locals p q v h =
      let values = done_given (values_of_exprs (plainly decls locals) args)
      (λ values. at_site There (calls f values p)) v q h in
      acts.call f values.0 p q v (done_at There (calls f values.0 p) v q values.2)
  layer_kept (Check e) all locals p q v h =
      let truth = done_given (truth_for decls locals e)
      (λ holds. if holds then Done UnitValue p else Fail (Here 0)) v q h in
      either truth.0 (Done UnitValue p) (Fail (Here 0)) p q v (λ k. ended p q UnitValue v k)
      (λ k. cc) truth.2
  layer_kept FailStm all locals p q v h = cc
  layer_kept (Open name inputs) all locals p q v h = ended p q UnitValue v h
  layer_kept (Close name inputs) all locals p q v h = ended p q UnitValue v h
  layer_kept (Lemma name args) all locals p q v h = ended p q UnitValue v h

  -- every statement whose registers may be written keeps the relation
  pub statements_keep : (s : Stm) → IsKept s
  statements_keep = ind-Stm IsKept (λ x y is.
      λ all.
      subst (λ (d : Part). Keeps d.does) (sym (fold-roll-Stm Part (part_of decls calls) x))
      (subst (λ z. AllByRecursion Allowed
      (layer_writes (map-Stm Stm (List Name) written_by_stm z)) →
      Keeps (does_of decls calls (map-Stm Stm Part part z))) is (layer_kept y)
      (subst (AllByRecursion Allowed) (fold-roll-Stm (List Name) layer_writes x) all)))
