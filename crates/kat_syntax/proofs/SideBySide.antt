-- Two runs side by side: what starts alike, and calls alike, ends alike.
use Rattle.std.proofs.Common.{◌≡◌, ◌∙◌, ℕ, ◌+◌, Bool, true, false, List, [], ◌∷◌, ◌++◌, map, Option, Some, None, refl, ap, sym, subst, if◌then◌else◌}
use Rattle.std.specs.Prelude.{option_and_then}
use Rattle.std.specs.Str.{bytes_eq}
use Rattle.kat_value.specs.declared.value.Value.{Value, out-Value}
use Rattle.kat_value.specs.declared.value.Value.TheVariants.{Unit as UnitValue}
use Rattle.kat_ast.specs.declared.decl.DeclForm.{DeclForm}
use Rattle.kat_ast.specs.declared.expr.Expr.{Expr}
use Rattle.kat_ast.specs.declared.stm.Stm.{Stm}
use Rattle.kat_ast.specs.declared.stm.CaseArm.{CaseArm}
use Rattle.kat_ast.specs.declared.stm.MatchArm.{MatchArm}
use Rattle.kat_ast.specs.declared.stm.Stm.TheOpen.{Stm-F, Ret, Let, Seq, If, Case, Match, Read, Write, Load, Store, Call, Check, Fail as FailStm, Open, Close, Lemma}
use Rattle.kat_ast.specs.declared.stm.Stm.TheFolds.{map-Stm, fold-roll-Stm, ind-Stm}
use Rattle.kat_ast.specs.declared.stm.Stm.TheViews.{roll-Stm}
use Rattle.kat_ast.specs.declared.stm.Stm.TheShapes.{former-Stm-Case-1-at-2 as case_arm, former-Stm-Match-1-at-3 as match_arm}
use Rattle.kat_ast.specs.Expressions.{trees_of_expr}
use Rattle.kat_syntax.specs.Tables.{Name}
use Rattle.kat_syntax.specs.Machine.{MachineState, Progress}
use Rattle.kat_syntax.specs.States.{register_value, cell_at, with_cell, written, memory_of}
use Rattle.kat_syntax.specs.TypeTable.{types_of_decls}
use Rattle.kat_syntax.specs.Memories.{Memory}
use Rattle.kat_syntax.specs.Evaluation.{Locals, value_of_expr, values_of_exprs}
use Rattle.kat_syntax.specs.Outcomes.{Outcome, Done, Out, Fail, Stuck, StmSite, Here, There, then_do, given, at_site, inside}
use Rattle.kat_syntax.specs.Meaning as meant
use Rattle.kat_syntax.specs.Meaning.{Calls, Part, MadeWith, plainly, part_of, part_of_stm, does_of, in_sequence, loaded, stored, done_in, truth_for, number_for, member_of_layer, made_of_layer}
use Rattle.kat_syntax.proofs.StatementParts.{statements_by_parts}

-- what stands beside an outcome of having run out: that too, where it is strict, or anything
abbrev BesideOut : {S : Type 0} → Bool → Outcome S → Type 0
BesideOut true u = u ≡ Out
BesideOut false u = Unit {0}

module _ (strict : Bool) (R : Progress → Progress → Type 0) where
  -- two outcomes are alike
  abbrev pub Alike : {S : Type 0} → Outcome S → Outcome S → Type 0
  Alike (Done v p) u = (q : Progress) × (u ≡ Done v q) × R p q
  Alike Out u = BesideOut strict u
  Alike (Fail site) u = u ≡ Fail site
  Alike Stuck u = u ≡ Stuck

  out_moved : {S T : Type 0} (move : S → T) (b : Bool) (u : Outcome S) → BesideOut b u →
      BesideOut b (at_site move u)
  out_moved move true u is = ap (at_site move) is
  out_moved move false u is = tt

  pub alike_at : {S T : Type 0} (move : S → T) (o u : Outcome S) → Alike o u →
      Alike (at_site move o) (at_site move u)
  alike_at move (Done v p) u is = (is.0, ap (at_site move) is.1, is.2)
  alike_at move Out u is = out_moved move strict u is
  alike_at move (Fail site) u is = ap (at_site move) is
  alike_at move Stuck u is = ap (at_site move) is

  out_then : {S : Type 0} (b : Bool) (u : Outcome S) (go : Value → Progress → Outcome S) →
      BesideOut b u → BesideOut b (then_do u go)
  out_then true u go is = ap (λ o. then_do o go) is
  out_then false u go is = tt

  pub alike_then : {S : Type 0} (o u : Outcome S) (go more : Value → Progress → Outcome S) →
      Alike o u →
      ((v : Value) (p q : Progress) → R p q → Alike (go v p) (more v q)) →
      Alike (then_do o go) (then_do u more)
  alike_then (Done v p) u go more is next =
      subst (λ w. Alike (go v p) (then_do w more)) (sym is.1) (next v p is.0 is.2)
  alike_then Out u go more is next = out_then strict u more is
  alike_then (Fail site) u go more is next = ap (λ o. then_do o more) is
  alike_then Stuck u go more is next = ap (λ o. then_do o more) is

  pub alike_given : {A S : Type 0} (a : Option A) (go more : A → Outcome S) →
      ((x : A) → Alike (go x) (more x)) → Alike (given a go) (given a more)
  alike_given None go more next = refl
  alike_given (Some x) go more next = next x

  pub alike_either : {S : Type 0} (b : Bool) (o u x y : Outcome S) → Alike o u → Alike x y →
      Alike (if b then o else x) (if b then u else y)
  alike_either true o u x y first second = first
  alike_either false o u x y first second = second

  -- what acts do alike on what stands side by side
  pub record ActsAlike (calls more : Calls) : Type 0 where
    pub state : (p q : Progress) → R p q → q.state ≡ p.state
    pub write : (p q : Progress) (state : MachineState) → R p q →
        R (record p { state = state }) (record q { state = state })
    pub store : (p q : Progress) (state : MachineState) (i : ℕ) → R p q →
        R (record p { state = state; stores = p.stores ++ i ∷ [] })
        (record q { state = state; stores = q.stores ++ i ∷ [] })
    pub call : (f : Name) (args : List Value) (p q : Progress) → R p q →
        Alike (calls f args p) (more f args q)

  module _ (decls : List DeclForm) (calls more : Calls) (acts : ActsAlike calls more) where
    abbrev pub AreAlike : (Locals → Progress → Outcome StmSite) →
        (Locals → Progress → Outcome StmSite) → Type 0
    AreAlike does other = (locals : Locals) (p q : Progress) → R p q →
        Alike (does locals p) (other locals q)

    abbrev pub part : Stm → Part
    part = part_of_stm decls calls

    abbrev pub beside : Stm → Part
    beside = part_of_stm decls more

    -- a statement that is alike, with as many trees on both sides
    pub record IsAlike (s : Stm) : Type 0 where
      pub does : AreAlike (part s).does (beside s).does
      pub trees : (part s).trees ≡ (beside s).trees

    abbrev AlikeStm : Type 0
    AlikeStm = (s : Stm) × IsAlike s

    abbrev stms : List AlikeStm → List Stm
    stms ss = map (λ (s : AlikeStm). s.0) ss

    alike_inside : (m n : ℕ) (o u : Outcome StmSite) → m ≡ n → Alike o u →
        Alike (inside m o) (inside n u)
    alike_inside m n o u same is = subst (λ k. Alike (inside m o) (inside k u)) same
        (alike_at _ o u is)

    let_alike : (x : Name) (a b : AlikeStm) →
        AreAlike (does_of decls calls (Let x (part a.0) (part b.0)))
        (does_of decls more (Let x (beside a.0) (beside b.0)))
    let_alike x a b locals p q is =
        alike_then _ _ _ _ (alike_at _ _ _ (a.1.does locals p q is))
        (λ v r t same. alike_inside (3 + (part a.0).trees) (3 + (beside a.0).trees) _ _
        (ap (λ n. 3 + n) a.1.trees) (b.1.does ((x, v) ∷ locals) r t same))

    sequence_alike : (m n : ℕ) (ss : List AlikeStm) → m ≡ n →
        AreAlike (in_sequence m (map part (stms ss))) (in_sequence n (map beside (stms ss)))
    sequence_alike m n [] same locals p q is = refl
    sequence_alike m n (s ∷ []) same locals p q is = alike_inside m n _ _ same
        (s.1.does locals p q is)
    sequence_alike m n (s ∷ t ∷ ss) same locals p q is =
        alike_then _ _ _ _ (alike_inside m n _ _ same (s.1.does locals p q is))
        (λ v r u is_too. sequence_alike (m + (part s.0).trees) (n + (beside s.0).trees) (t ∷ ss)
        (ap (λ k. k + (part s.0).trees) same ∙ ap (λ k. n + k) s.1.trees) locals r u is_too)

    if_alike : (test : Expr) (a b : AlikeStm) →
        AreAlike (does_of decls calls (If test (part a.0) (part b.0)))
        (does_of decls more (If test (beside a.0) (beside b.0)))
    if_alike test a b locals p q is =
        alike_given _ _ _
        (λ holds. alike_either holds _ _ _ _ (alike_at _ _ _ (a.1.does locals p q is))
        (alike_inside _ _ _ _ (ap (λ n. 2 + trees_of_expr test + n) a.1.trees)
        (b.1.does locals p q is)))

    abbrev case_stms : List (CaseArm AlikeStm) → List (CaseArm Stm)
    case_stms arms = map (case_arm.map AlikeStm Stm (λ s. s.0)) arms

    case_alike : (member : Name) (m n : ℕ) (arms : List (CaseArm AlikeStm)) → m ≡ n →
        AreAlike (meant.case_arm member m (map (case_arm.map Stm Part part) (case_stms arms)))
        (meant.case_arm member n (map (case_arm.map Stm Part beside) (case_stms arms)))
    case_alike member m n [] same locals p q is = refl
    case_alike member m n (arm ∷ arms) same locals p q is =
        alike_either (bytes_eq arm.member member) _ _ _ _
        (alike_inside (m + 2) (n + 2) _ _ (ap (λ k. k + 2) same) (arm.body.1.does locals p q is))
        (case_alike member (m + 2 + (part arm.body.0).trees) (n + 2 + (beside arm.body.0).trees)
        arms (ap (λ k. k + 2 + (part arm.body.0).trees) same ∙ ap (λ k. n + 2 + k) arm.body.1.trees)
        locals p q is)

    abbrev match_stms : List (MatchArm AlikeStm) → List (MatchArm Stm)
    match_stms arms = map (match_arm.map AlikeStm Stm (λ s. s.0)) arms

    match_alike : (made : MadeWith) (m n : ℕ) (arms : List (MatchArm AlikeStm)) → m ≡ n →
        AreAlike (meant.match_arm made m (map (match_arm.map Stm Part part) (match_stms arms)))
        (meant.match_arm made n (map (match_arm.map Stm Part beside) (match_stms arms)))
    match_alike made m n [] same locals p q is = refl
    match_alike made m n (arm ∷ arms) same locals p q is =
        alike_either (bytes_eq arm.ctor made.ctor) _ _ _ _
        (alike_inside (m + 3) (n + 3) _ _ (ap (λ k. k + 3) same)
        (arm.body.1.does ((arm.payload, made.payload) ∷ locals) p q is))
        (match_alike made (m + 3 + (part arm.body.0).trees) (n + 3 + (beside arm.body.0).trees) arms
        (ap (λ k. k + 3 + (part arm.body.0).trees) same ∙ ap (λ k. n + 3 + k) arm.body.1.trees)
        locals p q is)

    loaded_alike : (width : ℕ) (cell : Option ℕ) (p q : Progress) → R p q →
        Alike (loaded width cell p) (loaded width cell q)
    loaded_alike width None p q is = refl
    loaded_alike width (Some n) p q is = (q, refl, is)

    stored_alike : (i n : ℕ) (cell : Option ℕ) (p q : Progress) → R p q →
        Alike (stored i n cell p) (stored i n cell q)
    stored_alike i n None p q is = refl
    stored_alike i n (Some before) p q is =
        let same : with_cell i n q.state ≡ with_cell i n p.state =
        ap (with_cell i n) (acts.state p q is) in (
          record q { state = with_cell i n p.state; stores = q.stores ++ i ∷ [] },
          ap (λ s. Done UnitValue (record q { state = s; stores = q.stores ++ i ∷ [] })) same,
          acts.store p q (with_cell i n p.state) i is,
        )

    abbrev first : Stm-F AlikeStm → Stm-F Stm
    first = map-Stm AlikeStm Stm (λ s. s.0)

    layer_alike : (y : Stm-F AlikeStm) →
        AreAlike (does_of decls calls (map-Stm Stm Part part (first y)))
        (does_of decls more (map-Stm Stm Part beside (first y)))
    layer_alike (Ret e) locals p q is =
        alike_given (value_of_expr (plainly decls locals) e) (λ v. Done v p) (λ v. Done v q)
        (λ v. (q, refl, is))
    layer_alike (Let x a b) locals p q is = let_alike x a b locals p q is
    layer_alike (Seq ss) locals p q is = sequence_alike 2 2 ss refl locals p q is
    layer_alike (If test a b) locals p q is = if_alike test a b locals p q is
    layer_alike (Case e arms) locals p q is =
        alike_given (option_and_then (λ v. member_of_layer (types_of_decls decls) (out-Value v))
        (value_of_expr (plainly decls locals) e))
        (λ member. meant.case_arm member (2 + trees_of_expr e)
        (map (case_arm.map Stm Part part) (case_stms arms)) locals p)
        (λ member. meant.case_arm member (2 + trees_of_expr e)
        (map (case_arm.map Stm Part beside) (case_stms arms)) locals q)
        (λ member. case_alike member (2 + trees_of_expr e) (2 + trees_of_expr e) arms refl locals p
        q is)
    layer_alike (Match e arms) locals p q is =
        alike_given (option_and_then (λ v. made_of_layer (types_of_decls decls) (out-Value v))
        (value_of_expr (plainly decls locals) e))
        (λ made. meant.match_arm made (2 + trees_of_expr e)
        (map (match_arm.map Stm Part part) (match_stms arms)) locals p)
        (λ made. meant.match_arm made (2 + trees_of_expr e)
        (map (match_arm.map Stm Part beside) (match_stms arms)) locals q)
        (λ made. match_alike made (2 + trees_of_expr e) (2 + trees_of_expr e) arms refl locals p q
        is)
    layer_alike (Read r) locals p q is =
        subst (λ (s : MachineState).
        Alike {S = StmSite} (given (register_value decls r p.state.registers) (λ v. Done v p))
        (given (register_value decls r s.registers) (λ v. Done v q)))
        (sym (acts.state p q is))
        (alike_given (register_value decls r p.state.registers) (λ v. Done v p) (λ v. Done v q)
        (λ v. (q, refl, is)))
    layer_alike (Write r e) locals p q is =
        subst (λ (s : MachineState).
        Alike {S = StmSite} (given
        (option_and_then (λ v. written decls r v p.state) (value_of_expr (plainly decls locals) e))
        (λ state. done_in state p))
        (given (option_and_then (λ v. written decls r v s) (value_of_expr (plainly decls locals) e))
        (λ state. done_in state q)))
        (sym (acts.state p q is))
        (alike_given (option_and_then (λ v. written decls r v p.state)
        (value_of_expr (plainly decls locals) e)) (λ state. done_in state p)
        (λ state. done_in state q)
        (λ state. (record q { state = state }, refl, acts.write p q state is)))
    layer_alike (Load index) locals p q is =
        subst (λ (s : MachineState).
        Alike {S = StmSite} (does_of decls calls (Load index) locals p)
        (given (memory_of decls) (λ (memory : Memory).
        given (number_for decls memory.index_width locals index)
        (λ i. loaded memory.cell_width (cell_at s i) q))))
        (sym (acts.state p q is))
        (alike_given (memory_of decls)
        (λ (memory : Memory). given (number_for decls memory.index_width locals index)
        (λ i. loaded memory.cell_width (cell_at p.state i) p))
        (λ (memory : Memory). given (number_for decls memory.index_width locals index)
        (λ i. loaded memory.cell_width (cell_at p.state i) q))
        (λ (memory : Memory).
        alike_given (number_for decls memory.index_width locals index)
        (λ i. loaded memory.cell_width (cell_at p.state i) p)
        (λ i. loaded memory.cell_width (cell_at p.state i) q)
        (λ i. loaded_alike memory.cell_width (cell_at p.state i) p q is)))
    layer_alike (Store index e) locals p q is =
        subst (λ (s : MachineState).
        Alike {S = StmSite} (does_of decls calls (Store index e) locals p)
        (given (memory_of decls) (λ (memory : Memory).
        given (number_for decls memory.index_width locals index) (λ i.
        given (number_for decls memory.cell_width locals e) (λ n. stored i n (cell_at s i) q)))))
        (sym (acts.state p q is))
        (alike_given (memory_of decls)
        (λ (memory : Memory). given (number_for decls memory.index_width locals index) (λ i.
        given (number_for decls memory.cell_width locals e)
        (λ n. stored i n (cell_at p.state i) p)))
        (λ (memory : Memory). given (number_for decls memory.index_width locals index) (λ i.
        given (number_for decls memory.cell_width locals e)
        (λ n. stored i n (cell_at p.state i) q)))
        (λ (memory : Memory).
        alike_given (number_for decls memory.index_width locals index)
        (λ i. given (number_for decls memory.cell_width locals e)
        (λ n. stored i n (cell_at p.state i) p))
        (λ i. given (number_for decls memory.cell_width locals e)
        (λ n. stored i n (cell_at p.state i) q))
        (λ i.
        alike_given (number_for decls memory.cell_width locals e)
        (λ n. stored i n (cell_at p.state i) p) (λ n. stored i n (cell_at p.state i) q)
        (λ n. stored_alike i n (cell_at p.state i) p q is))))
    layer_alike (Call f args) locals p q is =
        alike_given (values_of_exprs (plainly decls locals) args)
        (λ values. at_site There (calls f values p)) (λ values. at_site There (more f values q))
        (λ values. alike_at There (calls f values p) (more f values q) (acts.call f values p q is))
    layer_alike (Check e) locals p q is =
        alike_given (truth_for decls locals e)
        (λ holds. if holds then Done UnitValue p else Fail (Here 0))
        (λ holds. if holds then Done UnitValue q else Fail (Here 0))
        (λ holds. alike_either holds (Done UnitValue p) (Done UnitValue q) (Fail (Here 0))
        (Fail (Here 0)) (q, refl, is) refl)
    layer_alike FailStm locals p q is = refl
    layer_alike (Open name inputs) locals p q is = (q, refl, is)
    layer_alike (Close name inputs) locals p q is = (q, refl, is)
    layer_alike (Lemma name args) locals p q is = (q, refl, is)

    part_trees : (s : Stm) → (part s).trees ≡ (beside s).trees
    part_trees s = statements_by_parts.count decls calls s
        ∙ sym (statements_by_parts.count decls more s)

    -- every statement is alike
    pub statements_alike : (s : Stm) → IsAlike s
    statements_alike = ind-Stm IsAlike (λ x y is. record {
      does =
          subst (λ (d : Part). AreAlike d.does (beside (roll-Stm x)).does)
          (sym (fold-roll-Stm Part (part_of decls calls) x))
          (subst (λ (d : Part). AreAlike (does_of decls calls (map-Stm Stm Part part x)) d.does)
          (sym (fold-roll-Stm Part (part_of decls more) x))
          (subst (λ z. AreAlike (does_of decls calls (map-Stm Stm Part part z))
          (does_of decls more (map-Stm Stm Part beside z))) is (layer_alike y)));
      trees = part_trees (roll-Stm x);
    })
