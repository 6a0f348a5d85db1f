-- A cycle fails at a tree that a declaration may have.
use Rattle.std.proofs.Common.{◌≡◌, ◌∙◌, ℕ, zero, suc, ◌+◌, ◌<◌, ◌≤◌, Bool, true, false, List, [], ◌∷◌, length, map, Option, Some, None, refl, ap, sym, subst, if◌then◌else◌, arith}
use Rattle.std.specs.Prelude.{option_and_then, sum, sum_by, unwrap_or}
use Rattle.std.specs.Option.{option_map}
use Rattle.std.specs.List.{AllByRecursion}
use Rattle.std.specs.Str.{bytes_eq}
use Rattle.std.proofs.lemmas.List.Sums.{sum-map, sum_by-cons}
use Rattle.kat_tree.specs.Preorder.{count_of}
use Rattle.kat_value.specs.declared.value.Value.{Value, out-Value}
use Rattle.kat_value.specs.declared.value.Value.TheVariants.{Unit as UnitValue}
use Rattle.kat_ast.specs.declared.decl.DeclForm.{DeclForm}
use Rattle.kat_ast.specs.declared.decl.DeclForm.TheVariants as d
use Rattle.kat_ast.specs.declared.place.Place.{Place}
use Rattle.kat_ast.specs.declared.stm.Stm.{Stm}
use Rattle.kat_ast.specs.declared.stm.CaseArm.{CaseArm}
use Rattle.kat_ast.specs.declared.stm.MatchArm.{MatchArm}
use Rattle.kat_ast.specs.declared.stm.Stm.TheOpen.{Stm-F, Ret, Let, Seq, If, Case, Match, Read, Write, Load, Store, Call, Check, Fail as FailStm, Open, Close, Lemma}
use Rattle.kat_ast.specs.declared.stm.Stm.TheFolds.{map-Stm, fold-roll-Stm, ind-Stm}
use Rattle.kat_ast.specs.declared.stm.Stm.TheShapes.{former-Stm-Case-1-at-2 as case_arm, former-Stm-Match-1-at-3 as match_arm}
use Rattle.kat_ast.specs.Declarations.{IsDecl, tree_of_decl, trees_of_decl}
use Rattle.kat_ast.specs.Expressions.{trees_of_expr}
use Rattle.kat_ast.specs.Limits.{decl_trees_bound}
use Rattle.kat_ast.specs.Statements.{trees_of_case_arm, trees_of_match_arm, trees_of_stm}
use Rattle.kat_ast.specs.Types.{trees_of_type, trees_of_params}
use Rattle.kat_ast.specs.Spec.{Spec}
use Rattle.kat_syntax.specs.Tables.{Name, Function, function_at, function_from, is_function, step_of, step_function_of}
use Rattle.kat_syntax.specs.TypeTable.{types_of_decls}
use Rattle.kat_syntax.specs.Machine.{MachineState, Progress}
use Rattle.kat_syntax.specs.Memories.{Memory}
use Rattle.kat_syntax.specs.States.{cell_at, memory_of, register_value, written}
use Rattle.kat_syntax.specs.Evaluation.{Locals, value_of_expr, values_of_exprs}
use Rattle.kat_syntax.specs.Outcomes.{Outcome, Done, Out, Fail, Stuck, StmSite, Here, There, then_do, given, at_site, inside, place_in}
use Rattle.kat_syntax.specs.Meaning as meant
use Rattle.kat_syntax.specs.Meaning.{Calls, Part, MadeWith, part_of, part_of_stm, does_of, in_sequence, loaded, stored, done_in, plainly, truth_for, number_for, member_of_layer, made_of_layer, meaning}
use Rattle.kat_syntax.specs.Cycle.{FailedAt, as_cycle, bound, body_of, call_of, cycle_of, spend_one, stuck_place, step_call, progress_at}
use Rattle.kat_syntax.specs.MeaningLaws.{StatementsByParts, CyclesFailAtTrees}

-- a place of a declaration, or behind the last one, at a tree that a declaration may have
pub record IsAtTree (last : ℕ) (place : Place) : Type 0 where
  pub decl : place.decl ≤ last
  pub tree : place.tree < decl_trees_bound

-- a call fails at such a place
abbrev pub FailsAtTree : ℕ → Outcome Place → Type 0
FailsAtTree last (Done v p) = Unit {0}
FailsAtTree last Out = Unit {0}
FailsAtTree last (Fail place) = IsAtTree last place
FailsAtTree last Stuck = Unit {0}

-- a statement fails at one of so many trees, or at such a place
abbrev pub FailsWithin : ℕ → ℕ → Outcome StmSite → Type 0
FailsWithin last n (Done v p) = Unit {0}
FailsWithin last n Out = Unit {0}
FailsWithin last n (Fail (Here tree)) = tree < n
FailsWithin last n (Fail (There place)) = IsAtTree last place
FailsWithin last n Stuck = Unit {0}

module _ (last : ℕ) where
  within_inside : (at m n : ℕ) (o : Outcome StmSite) → at + m ≤ n → FailsWithin last m o →
      FailsWithin last n (inside at o)
  within_inside at m n (Done v p) few is = tt
  within_inside at m n Out few is = tt
  within_inside at m n (Fail (Here tree)) few is = omega (arith, few, is)
  within_inside at m n (Fail (There place)) few is = is
  within_inside at m n Stuck few is = tt

  within_then : (n : ℕ) (o : Outcome StmSite) (go : Value → Progress → Outcome StmSite) →
      FailsWithin last n o →
      ((v : Value) (p : Progress) → FailsWithin last n (go v p)) → FailsWithin last n (then_do o go)
  within_then n (Done v p) go is next = next v p
  within_then n Out go is next = tt
  within_then n (Fail (Here tree)) go is next = is
  within_then n (Fail (There place)) go is next = is
  within_then n Stuck go is next = tt

  within_given : {A : Type 0} (n : ℕ) (a : Option A) (go : A → Outcome StmSite) →
      ((x : A) → FailsWithin last n (go x)) → FailsWithin last n (given a go)
  within_given n None go next = tt
  within_given n (Some x) go next = next x

  within_either : (n : ℕ) (b : Bool) (o u : Outcome StmSite) → FailsWithin last n o →
      FailsWithin last n u → FailsWithin last n (if b then o else u)
  within_either n true o u first second = first
  within_either n false o u first second = second

  within_there : (n : ℕ) (o : Outcome Place) → FailsAtTree last o → FailsWithin last n
      (at_site There o)
  within_there n (Done v p) is = tt
  within_there n Out is = tt
  within_there n (Fail place) is = is
  within_there n Stuck is = tt

  within_loaded : (n width : ℕ) (cell : Option ℕ) (p : Progress) → 0 < n → FailsWithin last n
      (loaded width cell p)
  within_loaded n width None p some = some
  within_loaded n width (Some m) p some = tt

  within_stored : (n i m : ℕ) (cell : Option ℕ) (p : Progress) → 0 < n → FailsWithin last n
      (stored i m cell p)
  within_stored n i m None p some = some
  within_stored n i m (Some before) p some = tt

  module _ (decls : List DeclForm) (calls : Calls) (placed : (f : Name) (args : List Value)
      (p : Progress) → FailsAtTree last (calls f args p)) where
    -- what fails at one of so many trees
    abbrev AreWithin : ℕ → (Locals → Progress → Outcome StmSite) → Type 0
    AreWithin n does = (locals : Locals) (p : Progress) → FailsWithin last n (does locals p)

    abbrev part : Stm → Part
    part = part_of_stm decls calls

    abbrev WithinStm : Type 0
    WithinStm = (s : Stm) × AreWithin (part s).trees (part s).does

    abbrev stms : List WithinStm → List Stm
    stms ss = map (λ (s : WithinStm). s.0) ss

    -- how many trees parts have
    abbrev trees_in : List Part → ℕ
    trees_in parts = sum_by (λ (one : Part). one.trees) parts

    sequence_within : (at n : ℕ) (ss : List WithinStm) → at + trees_in (map part (stms ss)) ≤ n →
        AreWithin n (in_sequence at (map part (stms ss)))
    sequence_within at n [] few locals p = tt
    sequence_within at n (s ∷ []) few locals p =
        let all = sum_by-cons (λ (one : Part). one.trees) (part s.0) [] in
        within_inside at (part s.0).trees n ((part s.0).does locals p) (omega (arith, few, all))
        (s.1 locals p)
    sequence_within at n (s ∷ t ∷ ss) few locals p =
        let all = sum_by-cons (λ (one : Part). one.trees) (part s.0) (map part (stms (t ∷ ss))) in
        within_then n (inside at ((part s.0).does locals p))
        (λ v q. in_sequence (at + (part s.0).trees) (map part (stms (t ∷ ss))) locals q)
        (within_inside at (part s.0).trees n ((part s.0).does locals p) (omega (arith, few, all))
        (s.1 locals p))
        (λ v q. sequence_within (at + (part s.0).trees) n (t ∷ ss) (omega (arith, few, all)) locals
        q)

    abbrev case_stms : List (CaseArm WithinStm) → List (CaseArm Stm)
    case_stms arms = map (case_arm.map WithinStm Stm (λ s. s.0)) arms

    -- how many trees the arms of a `case` have
    abbrev trees_of_cases : List (CaseArm Part) → ℕ
    trees_of_cases arms = sum_by trees_of_case_arm (map (case_arm.map Part ℕ (λ one. one.trees))
        arms)

    case_within : (member : Name) (at n : ℕ) (arms : List (CaseArm WithinStm)) → at + trees_of_cases
        (map (case_arm.map Stm Part part) (case_stms arms)) ≤ n →
        AreWithin n (meant.case_arm member at (map (case_arm.map Stm Part part) (case_stms arms)))
    case_within member at n [] few locals p = tt
    case_within member at n (arm ∷ arms) few locals p =
        let parts : List (CaseArm Part) = map (case_arm.map Stm Part part) (case_stms arms) in
        let one : CaseArm ℕ = record { member = arm.member; body = (part arm.body.0).trees } in
        let all : trees_of_cases (map (case_arm.map Stm Part part) (case_stms (arm ∷ arms))) ≡
        (2 + (part arm.body.0).trees) + trees_of_cases parts =
        sum_by-cons trees_of_case_arm one (map (case_arm.map Part ℕ (λ one. one.trees)) parts) in
        within_either n (bytes_eq arm.member member)
        (inside (at + 2) ((part arm.body.0).does locals p))
        (meant.case_arm member (at + 2 + (part arm.body.0).trees) parts locals p)
        (within_inside (at + 2) (part arm.body.0).trees n ((part arm.body.0).does locals p)
        (omega (arith, few, all)) (arm.body.1 locals p))
        (case_within member (at + 2 + (part arm.body.0).trees) n arms (omega (arith, few, all))
        locals p)

    abbrev match_stms : List (MatchArm WithinStm) → List (MatchArm Stm)
    match_stms arms = map (match_arm.map WithinStm Stm (λ s. s.0)) arms

    -- how many trees the arms of a `match` have
    abbrev trees_of_matches : List (MatchArm Part) → ℕ
    trees_of_matches arms = sum_by trees_of_match_arm (map (match_arm.map Part ℕ (λ one. one.trees))
        arms)

    match_within : (made : MadeWith) (at n : ℕ) (arms : List (MatchArm WithinStm)) →
        at + trees_of_matches (map (match_arm.map Stm Part part) (match_stms arms)) ≤ n →
        AreWithin n (meant.match_arm made at (map (match_arm.map Stm Part part) (match_stms arms)))
    match_within made at n [] few locals p = tt
    match_within made at n (arm ∷ arms) few locals p =
        let parts : List (MatchArm Part) = map (match_arm.map Stm Part part) (match_stms arms) in
        let one : MatchArm ℕ = record {
          ctor = arm.ctor;
          payload = arm.payload;
          body =
              (part arm.body.0).trees;
        } in
        let all : trees_of_matches (map (match_arm.map Stm Part part) (match_stms (arm ∷ arms))) ≡
        (3 + (part arm.body.0).trees) + trees_of_matches parts =
        sum_by-cons trees_of_match_arm one (map (match_arm.map Part ℕ (λ one. one.trees)) parts) in
        within_either n (bytes_eq arm.ctor made.ctor)
        (inside (at + 3) ((part arm.body.0).does ((arm.payload, made.payload) ∷ locals) p))
        (meant.match_arm made (at + 3 + (part arm.body.0).trees) parts locals p)
        (within_inside (at + 3) (part arm.body.0).trees n
        ((part arm.body.0).does ((arm.payload, made.payload) ∷ locals) p)
        (omega (arith, few, all))
        (arm.body.1 ((arm.payload, made.payload) ∷ locals) p))
        (match_within made (at + 3 + (part arm.body.0).trees) n arms (omega (arith, few, all))
        locals p)

    abbrev first : Stm-F WithinStm → Stm-F Stm
    first = map-Stm WithinStm Stm (λ s. s.0)

    -- a layer with its parts in their places
    abbrev IsLayerWithin : Stm-F Stm → Type 0
    IsLayerWithin z = AreWithin (part_of decls calls (map-Stm Stm Part part z)).trees
        (does_of decls calls (map-Stm Stm Part part z))

    layer_within : (y : Stm-F WithinStm) → IsLayerWithin (first y)
    layer_within (Ret e) locals p = within_given _ (value_of_expr (plainly decls locals) e)
        (λ v. Done v p) (λ v. tt)
    layer_within (Let x a b) locals p =
        let n : ℕ = 3 + (part a.0).trees + (part b.0).trees in
        within_then n (inside 3 ((part a.0).does locals p)) (λ v q. inside (3 + (part a.0).trees)
        ((part b.0).does ((x, v) ∷ locals) q))
        (within_inside 3 (part a.0).trees n ((part a.0).does locals p) (omega arith) (a.1 locals p))
        (λ v q. within_inside (3 + (part a.0).trees) (part b.0).trees n
        ((part b.0).does ((x, v) ∷ locals) q) (omega arith) (b.1 ((x, v) ∷ locals) q))
    layer_within (Seq ss) locals p =
        let parts : List Part = map part (stms ss) in
        let all : sum (map (λ (one : Part). one.trees) parts) ≡ trees_in parts =
        sum-map (λ (one : Part). one.trees) parts in
        sequence_within 2 (2 + sum (map (λ (one : Part). one.trees) parts)) ss (omega (arith, all))
        locals p
    layer_within (If test a b) locals p =
        let n : ℕ = 2 + trees_of_expr test + (part a.0).trees + (part b.0).trees in
        let first_at : ℕ = 2 + trees_of_expr test in
        let second_at : ℕ = 2 + trees_of_expr test + (part a.0).trees in
        within_given n (truth_for decls locals test)
        (λ holds. if holds then inside first_at ((part a.0).does locals p) else inside second_at
        ((part b.0).does locals p))
        (λ holds. within_either n holds (inside first_at ((part a.0).does locals p))
        (inside second_at ((part b.0).does locals p))
        (within_inside first_at (part a.0).trees n ((part a.0).does locals p) (omega arith)
        (a.1 locals p))
        (within_inside second_at (part b.0).trees n ((part b.0).does locals p) (omega arith)
        (b.1 locals p)))
    layer_within (Case e arms) locals p =
        let parts : List (CaseArm Part) = map (case_arm.map Stm Part part) (case_stms arms) in
        within_given (2 + trees_of_expr e + trees_of_cases parts)
        (option_and_then (λ v. member_of_layer (types_of_decls decls) (out-Value v))
        (value_of_expr (plainly decls locals) e))
        (λ member. meant.case_arm member (2 + trees_of_expr e) parts locals p)
        (λ member. case_within member (2 + trees_of_expr e) (2 + trees_of_expr e + trees_of_cases
        parts) arms (omega arith) locals p)
    layer_within (Match e arms) locals p =
        let parts : List (MatchArm Part) = map (match_arm.map Stm Part part) (match_stms arms) in
        within_given (2 + trees_of_expr e + trees_of_matches parts)
        (option_and_then (λ v. made_of_layer (types_of_decls decls) (out-Value v))
        (value_of_expr (plainly decls locals) e))
        (λ made. meant.match_arm made (2 + trees_of_expr e) parts locals p)
        (λ made. match_within made (2 + trees_of_expr e) (2 + trees_of_expr e + trees_of_matches
        parts) arms (omega arith) locals p)
    layer_within (Read r) locals p = within_given _ (register_value decls r p.state.registers)
        (λ v. Done v p) (λ v. tt)
    layer_within (Write r e) locals p =
        within_given _ (option_and_then (λ v. written decls r v p.state)
        (value_of_expr (plainly decls locals) e)) (λ state. done_in state p) (λ state. tt)
    layer_within (Load index) locals p =
        let n : ℕ = 2 + trees_of_expr index in
        within_given n (memory_of decls)
        (λ (memory : Memory). given (number_for decls memory.index_width locals index)
        (λ i. loaded memory.cell_width (cell_at p.state i) p))
        (λ (memory : Memory). within_given n (number_for decls memory.index_width locals index)
        (λ i. loaded memory.cell_width (cell_at p.state i) p)
        (λ i. within_loaded n memory.cell_width (cell_at p.state i) p (omega arith)))
    layer_within (Store index e) locals p =
        let n : ℕ = 2 + trees_of_expr index + trees_of_expr e in
        within_given n (memory_of decls)
        (λ (memory : Memory). given (number_for decls memory.index_width locals index)
        (λ i. given (number_for decls memory.cell_width locals e)
        (λ m. stored i m (cell_at p.state i) p)))
        (λ (memory : Memory). within_given n (number_for decls memory.index_width locals index)
        (λ i. given (number_for decls memory.cell_width locals e)
        (λ m. stored i m (cell_at p.state i) p))
        (λ i. within_given n (number_for decls memory.cell_width locals e)
        (λ m. stored i m (cell_at p.state i) p)
        (λ m. within_stored n i m (cell_at p.state i) p (omega arith))))
    layer_within (Call f args) locals p =
        within_given _ (values_of_exprs (plainly decls locals) args)
        (λ values. at_site There (calls f values p))
        (λ values. within_there _ (calls f values p) (placed f values p))
    layer_within (Check e) locals p =
        let n : ℕ = 2 + trees_of_expr e in
        within_given n (truth_for decls locals e) (λ holds. if holds then Done UnitValue p else Fail
        (Here 0))
        (λ holds. within_either n holds (Done UnitValue p) (Fail (Here 0)) tt (omega arith))
    layer_within FailStm locals p = omega arith
    layer_within (Open name inputs) locals p = tt
    layer_within (Close name inputs) locals p = tt
    layer_within (Lemma name args) locals p = tt

    parts_within : (s : Stm) → AreWithin (part s).trees (part s).does
    parts_within = ind-Stm (λ s. AreWithin (part s).trees (part s).does) (λ x y is.
        subst (λ (d : Part). AreWithin d.trees d.does)
        (sym (fold-roll-Stm Part (part_of decls calls) x))
        (subst IsLayerWithin is (layer_within y)))

-- where a function stands: its body is within a declaration that there is
pub record StandsWithin (last : ℕ) (function : Function) : Type 0 where
  pub decl : function.decl ≤ last
  pub small : function.body_at + trees_of_stm function.body < decl_trees_bound

-- a declaration has as many trees as its tree
abbrev pub DeclsAreCounted : Type 0
DeclsAreCounted = (decl : DeclForm) → trees_of_decl decl ≡ count_of (tree_of_decl decl)

one_within : DeclsAreCounted → (last k : ℕ) (decl : DeclForm) (function : Function) → k ≤ last →
    IsDecl decl → function_at k decl ≡ Some function → StandsWithin last function
one_within counted last k (d.Fun x params result body) function few is e =
    let whole : Function = record {
      decl = k;
      params = params;
      body = body;
      body_at =
          3 + trees_of_params params + trees_of_type result;
    } in
    let same : whole ≡ function = cc in
    let count = counted (d.Fun x params result body) in
    subst (StandsWithin last) same (record { decl = few; small = omega (arith, count, is.small) })
one_within counted last k _ function few is e = absurd (cc)

function_within : DeclsAreCounted → (last k : ℕ) (decls : List DeclForm) (f : Name)
    (function : Function) → k + length decls ≤ last → AllByRecursion IsDecl decls →
    function_from k decls f ≡ Some function → StandsWithin last function
function_within counted last k [] f function few are e = absurd (cc)
function_within counted last k (decl ∷ decls) f function few are e =
    by (is_function f decl) (λ same. function_within counted last (k + 1) decls f function
    (omega (arith, few)) are.1 same) e where
      by : (b : Bool) → (function_from (k + 1) decls f ≡ Some function → StandsWithin last function) →
          (if b then function_at k decl else function_from (k + 1) decls f) ≡ Some function →
          StandsWithin last function
      by true later same = one_within counted last k decl function (omega (arith, few)) are.0 same
      by false later same = later same

-- a failure of a body stands at a tree of its declaration
placed_in : (last decl at m : ℕ) (o : Outcome StmSite) → decl ≤ last → at + m < decl_trees_bound →
    FailsWithin last m o →
    FailsAtTree last (at_site (place_in decl) (inside at o))
placed_in last decl at m (Done v p) there small is = tt
placed_in last decl at m Out there small is = tt
placed_in last decl at m (Fail (Here tree)) there small is =
    record { decl = there; tree = omega (arith, small, is) }
placed_in last decl at m (Fail (There place)) there small is = is
placed_in last decl at m Stuck there small is = tt

module _ (counted : DeclsAreCounted) (parts : StatementsByParts) (spec : Spec)
    (written : AllByRecursion IsDecl spec.decls) where
  abbrev last : ℕ
  last = length spec.decls

  abbrev ArePlaced : ℕ → Type 0
  ArePlaced depth = (f : Name) (args : List Value) (p : Progress) → FailsAtTree last
      (call_of spec.decls depth f args p)

  placed_body : (depth : ℕ) → ArePlaced depth → (args : List Value) (p : Progress)
      (function : Function) → StandsWithin last function →
      FailsAtTree last (body_of spec.decls (call_of spec.decls depth) args p function)
  placed_body depth placed args p function stands = by (bound function.params args) where
    by : (o : Option Locals) → FailsAtTree last (given o (λ locals. at_site (place_in function.decl)
        (inside function.body_at (meaning spec.decls (call_of spec.decls depth) function.body locals
        p))))
    by None = tt
    by (Some locals) =
        placed_in last function.decl function.body_at (trees_of_stm function.body)
        (meaning spec.decls (call_of spec.decls depth) function.body locals p) stands.decl
        stands.small
        (subst (λ n. FailsWithin last n (meaning spec.decls (call_of spec.decls depth) function.body
        locals p))
        (parts.count spec.decls (call_of spec.decls depth) function.body)
        (parts_within last spec.decls (call_of spec.decls depth) placed function.body locals p))

  calls_placed : (depth : ℕ) → ArePlaced depth
  calls_placed zero f args p = tt
  calls_placed (suc depth) f args p = spent (calls_placed depth) p.left where
    found : ArePlaced depth → (next : Progress) (o : Option Function) → function_from 0 spec.decls
        f ≡ o →
        FailsAtTree last (given o (body_of spec.decls (call_of spec.decls depth) args next))
    found placed next None is = tt
    found placed next (Some function) is =
        placed_body depth placed args next function (function_within counted last 0 spec.decls f
        function (omega arith) written is)

    spent : ArePlaced depth → (left : ℕ) → FailsAtTree last (spend_one left p
        (λ next. given (function_from 0 spec.decls f) (body_of spec.decls (call_of spec.decls depth)
        args next)))
    spent placed zero = tt
    spent placed (suc left) = found placed (record p { left = left }) (function_from 0 spec.decls f)
        refl

  step_placed : (n : ℕ) (state : MachineState) (o : Option Name) → FailsAtTree last
      (given o (λ f. call_of spec.decls n f [] (progress_at n state)))
  step_placed n state None = tt
  step_placed n state (Some f) = calls_placed n f [] (progress_at n state)

  -- where a cycle fails that is stuck
  stuck_within : IsAtTree last (stuck_place spec.decls)
  stuck_within = record { decl = by (step_function_of spec.decls) refl; tree = omega arith } where
    named : (o : Option Name) (function : Function) → option_and_then (function_from 0 spec.decls)
        o ≡ Some function → function.decl ≤ last
    named None function e = absurd (cc)
    named (Some f) function e = (function_within counted last 0 spec.decls f function (omega arith)
        written e).decl

    by : (o : Option Function) → step_function_of spec.decls ≡ o →
        unwrap_or (option_map (λ (function : Function). function.decl) o) last ≤ last
    by None e = omega arith
    by (Some function) e = named (step_of spec.decls) function e

  failed_within : (n : ℕ) (state : MachineState) (place : Place) → cycle_of spec n state ≡ FailedAt
      place → (place.decl ≤ last) × (place.tree < decl_trees_bound)
  failed_within n state place e = by (step_call spec n state)
      (step_placed n state (step_of spec.decls)) e where
        at : (other : Place) → IsAtTree last other → other ≡ place → (place.decl ≤ last) ×
            (place.tree < decl_trees_bound)
        at other is same = let there : IsAtTree last place = subst (IsAtTree last) same is in
            (there.decl, there.tree)

        by : (o : Outcome Place) → FailsAtTree last o → as_cycle (stuck_place spec.decls) o ≡ FailedAt
            place → (place.decl ≤ last) × (place.tree < decl_trees_bound)
        by (Done v p) placed same = absurd (cc)
        by Out placed same = absurd (cc)
        by (Fail other) placed same = at other placed (let is : other ≡ place = cc in is)
        by Stuck placed same = at (stuck_place spec.decls) stuck_within
            (let is : stuck_place spec.decls ≡ place = cc in is)

pub cycles_fail_at_trees : DeclsAreCounted → StatementsByParts → CyclesFailAtTrees
cycles_fail_at_trees counted parts spec n state place written e = failed_within counted parts spec
    written n state place e
