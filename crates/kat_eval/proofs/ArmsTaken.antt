-- The arm that is for a member or a constructor, and what the whole does by it.
use Rattle.std.proofs.Common.{◌≡◌, ◌∙◌, ℕ, suc, ◌+◌, ◌<◌, ◌≤◌, Bool, true, false, List, [], ◌∷◌, length, map, take, get_or, slice_get, Option, Some, None, refl, ap, sym, arith, if◌then◌else◌, sum_by}
use Rattle.std.proofs.lemmas.List.Sums.{sum_by-cons, sum_by_more_le}
use Rattle.std.proofs.lemmas.List.Folds.{fold-map}
use Rattle.std.proofs.lemmas.Option.{slice_get_within, get_or_from_slice_get}
use Rattle.std.specs.Str.{bytes_eq}
use Rattle.kat_ast.specs.Spec.{Spec}
use Rattle.kat_ast.specs.declared.expr.Expr.{Expr}
use Rattle.kat_ast.specs.declared.stm.Stm.{Stm}
use Rattle.kat_ast.specs.declared.stm.CaseArm.{CaseArm}
use Rattle.kat_ast.specs.declared.stm.MatchArm.{MatchArm}
use Rattle.kat_ast.specs.declared.stm.Stm.TheOpen.{Case, Match}
use Rattle.kat_ast.specs.declared.stm.Stm.TheVariants.{Case as CaseStm, Match as MatchStm}
use Rattle.kat_ast.specs.declared.stm.Stm.TheViews.{outs-Case, outs-Match}
use Rattle.kat_ast.specs.declared.stm.Stm.TheShapes.{former-Stm-Case-1-at-2 as case_arm, former-Stm-Match-1-at-3 as match_arm}
use Rattle.kat_ast.specs.Expressions.{trees_of_expr}
use Rattle.kat_ast.specs.Statements.{trees_of_stm, trees_of_case_arms, trees_of_match_arms, trees_of_case_arm, trees_of_match_arm}
use Rattle.kat_syntax.specs.Tables.{Name}
use Rattle.kat_syntax.specs.Machine.{Progress}
use Rattle.kat_syntax.specs.Evaluation.{Locals}
use Rattle.kat_syntax.specs.Outcomes.{Outcome, Stuck, StmSite, inside}
use Rattle.kat_syntax.specs.Meaning as meant
use Rattle.kat_syntax.specs.Meaning.{Part, MadeWith, part_of_stm, meaning}
use Rattle.kat_syntax.specs.MeaningLaws.{StatementsByParts}
use Rattle.kat_syntax.specs.Cycle.{call_of}
use Rattle.kat_eval.specs.Arms.{case_from, match_from}
use Rattle.kat_eval.proofs.Parts.{trees_of_layer}

-- the trees of one arm of a `case`
abbrev of_case_arm : CaseArm Stm → ℕ
of_case_arm arm = 2 + trees_of_stm arm.body

-- the trees of arms one by one
case_sum : (arms : List (CaseArm Stm)) → trees_of_case_arms arms ≡ sum_by of_case_arm arms
case_sum arms =
    fold-map (λ n (arm : CaseArm ℕ). n + trees_of_case_arm arm) (case_arm.map Stm ℕ trees_of_stm) 0 arms

-- an arm's body stands in its place in a `case`
pub case_trees : (e : Expr) (arms : List (CaseArm Stm)) (at : ℕ) (arm : CaseArm Stm) →
    slice_get arms at ≡ Some arm →
    4 + trees_of_expr e + trees_of_case_arms (take at arms) + trees_of_stm arm.body
    ≤ trees_of_stm (CaseStm e arms)
case_trees e arms at arm there =
    let most = sum_by_more_le of_case_arm arms at arm (slice_get_within arms at arm there) in
    omega (
      arith,
      most,
      case_sum (take at arms),
      case_sum arms,
      ap of_case_arm (get_or_from_slice_get arms at arm arm there),
      trees_of_layer (CaseStm e arms) (Case e arms) (outs-Case e arms),
    )

-- the position by whether the first arm is for the name
abbrev case_seek : ℕ → List (CaseArm Stm) → Name → Bool → Option ℕ
case_seek k arms name b = if b then Some k else case_from (k + 1) arms name

-- the arm that is found is there
pub case_within : (k j : ℕ) (arms : List (CaseArm Stm)) (name : Name) →
    case_from k arms name ≡ Some j → j < k + length arms
case_within k j [] name e = cc
case_within k j (arm ∷ arms) name e =
    by (case_within (k + 1) j arms name) (bytes_eq arm.member name) refl where
      by : (case_from (k + 1) arms name ≡ Some j → j < k + 1 + length arms) → (b : Bool) →
          bytes_eq arm.member name ≡ b → j < k + length (arm ∷ arms)
      by behind true same =
          let here : Some k ≡ Some j =
          sym (ap (case_seek k arms name) same) ∙ e in
          let is : k ≡ j = cc in omega (arith, is)
      by behind false same =
          let later : case_from (k + 1) arms name ≡ Some j =
          sym (ap (case_seek k arms name) same) ∙ e in
          omega (arith, behind later)

-- the trees of one arm of a `match`
abbrev of_match_arm : MatchArm Stm → ℕ
of_match_arm arm = 3 + trees_of_stm arm.body

-- the trees of arms one by one
match_sum : (arms : List (MatchArm Stm)) → trees_of_match_arms arms ≡ sum_by of_match_arm arms
match_sum arms =
    fold-map (λ n (arm : MatchArm ℕ). n + trees_of_match_arm arm) (match_arm.map Stm ℕ trees_of_stm) 0 arms

-- an arm's body stands in its place in a `match`
pub match_trees : (e : Expr) (arms : List (MatchArm Stm)) (at : ℕ) (arm : MatchArm Stm) →
    slice_get arms at ≡ Some arm →
    5 + trees_of_expr e + trees_of_match_arms (take at arms) + trees_of_stm arm.body
    ≤ trees_of_stm (MatchStm e arms)
match_trees e arms at arm there =
    let most = sum_by_more_le of_match_arm arms at arm (slice_get_within arms at arm there) in
    omega (
      arith,
      most,
      match_sum (take at arms),
      match_sum arms,
      ap of_match_arm (get_or_from_slice_get arms at arm arm there),
      trees_of_layer (MatchStm e arms) (Match e arms) (outs-Match e arms),
    )

-- the position by whether the first arm is for the name
abbrev match_seek : ℕ → List (MatchArm Stm) → Name → Bool → Option ℕ
match_seek k arms name b = if b then Some k else match_from (k + 1) arms name

-- the arm that is found is there
pub match_within : (k j : ℕ) (arms : List (MatchArm Stm)) (name : Name) →
    match_from k arms name ≡ Some j → j < k + length arms
match_within k j [] name e = cc
match_within k j (arm ∷ arms) name e =
    by (match_within (k + 1) j arms name) (bytes_eq arm.ctor name) refl where
      by : (match_from (k + 1) arms name ≡ Some j → j < k + 1 + length arms) → (b : Bool) →
          bytes_eq arm.ctor name ≡ b → j < k + length (arm ∷ arms)
      by behind true same =
          let here : Some k ≡ Some j =
          sym (ap (match_seek k arms name) same) ∙ e in
          let is : k ≡ j = cc in omega (arith, is)
      by behind false same =
          let later : match_from (k + 1) arms name ≡ Some j =
          sym (ap (match_seek k arms name) same) ∙ e in
          omega (arith, behind later)

module _ (law : StatementsByParts) (spec : Spec) (depth : ℕ) (locals : Locals) (p : Progress) where
  abbrev part : Stm → Part
  part = part_of_stm spec.decls (call_of spec.decls depth)

  abbrev does : Stm → Locals → Outcome StmSite
  does stm names = meaning spec.decls (call_of spec.decls depth) stm names p

  abbrev pub case_parts : List (CaseArm Stm) → List (CaseArm Part)
  case_parts arms = map (case_arm.map Stm Part part) arms

  -- what arms do whose first is for this name, or is not
  abbrev case_by : Name → ℕ → CaseArm Stm → List (CaseArm Stm) → Bool → Outcome StmSite
  case_by wanted at arm arms b =
      if b
      then inside (at + 2) (does arm.body locals)
      else meant.case_arm wanted (at + 2 + (part arm.body).trees) (case_parts arms) locals p

  -- the arm at a position, and what the whole does by it
  pub record CaseTaken (wanted : Name) (at k j : ℕ) (arms : List (CaseArm Stm)) : Type 0 where
    pub index : ℕ
    pub is : j ≡ k + index
    pub arm : CaseArm Stm
    pub there : slice_get arms index ≡ Some arm
    pub taken :
        meant.case_arm wanted at (case_parts arms) locals p
        ≡ inside (at + trees_of_case_arms (take index arms) + 2) (does arm.body locals)

  case_taken : (wanted : Name) (at k j : ℕ) (arms : List (CaseArm Stm)) →
      case_from k arms wanted ≡ Some j → CaseTaken wanted at k j arms
  case_taken wanted at k j [] e = cc
  case_taken wanted at k j (arm ∷ arms) e =
      by (case_taken wanted (at + 2 + (part arm.body).trees) (k + 1) j arms) (bytes_eq arm.member wanted) refl where
        by : (case_from (k + 1) arms wanted ≡ Some j → CaseTaken wanted (at + 2 + (part arm.body).trees) (k + 1) j arms) →
            (b : Bool) → bytes_eq arm.member wanted ≡ b → CaseTaken wanted at k j (arm ∷ arms)
        by behind true same =
            let here : Some k ≡ Some j = sym (ap (case_seek k arms wanted) same) ∙ e in
            let is : k ≡ j = cc in
            let at_is : at + 2 ≡ at + 0 + 2 = omega arith in
            record {
              index = 0;
              is = omega (arith, is);
              arm = arm;
              there = refl;
              taken =
                  ap (case_by wanted at arm arms) same ∙ ap (λ n. inside n (does arm.body locals)) at_is;
            }
        by behind false same =
            let later : case_from (k + 1) arms wanted ≡ Some j = sym (ap (case_seek k arms wanted) same) ∙ e in
            let rest = behind later in
            let count : (part arm.body).trees ≡ trees_of_stm arm.body =
            law.count spec.decls (call_of spec.decls depth) arm.body in
            let sum : trees_of_case_arms (arm ∷ take rest.index arms) ≡ (2 + trees_of_stm arm.body) + trees_of_case_arms (take rest.index arms) =
            sum_by-cons trees_of_case_arm (case_arm.map Stm ℕ trees_of_stm arm) (map (case_arm.map Stm ℕ trees_of_stm) (take rest.index arms)) in
            record {
              index = suc rest.index;
              is = omega (arith, rest.is);
              arm = rest.arm;
              there = rest.there;
              taken =
                  ap (case_by wanted at arm arms) same
                  ∙ rest.taken
                  ∙ ap (λ n. inside n (does rest.arm.body locals)) (omega (arith, count, sum));
            }

  -- what the whole does by the arm that is found
  pub case_runs : (wanted : Name) (e : Expr) (arms : List (CaseArm Stm)) (at : ℕ) (arm : CaseArm Stm) →
      case_from 0 arms wanted ≡ Some at → slice_get arms at ≡ Some arm →
      meant.case_arm wanted (2 + trees_of_expr e) (case_parts arms) locals p
      ≡ inside (4 + trees_of_expr e + trees_of_case_arms (take at arms)) (does arm.body locals)
  case_runs wanted e arms at arm found there =
      let t = case_taken wanted (2 + trees_of_expr e) 0 at arms found in
      let same : t.index ≡ at = omega (arith, t.is) in
      let one : Some t.arm ≡ Some arm = sym t.there ∙ ap (slice_get arms) same ∙ there in
      let arm_is : t.arm ≡ arm = cc in
      t.taken
      ∙ ap (λ i. inside (2 + trees_of_expr e + trees_of_case_arms (take i arms) + 2) (does t.arm.body locals)) same
      ∙ ap (λ (a : CaseArm Stm). inside (2 + trees_of_expr e + trees_of_case_arms (take at arms) + 2) (does a.body locals)) arm_is
      ∙ ap (λ n. inside n (does arm.body locals)) (omega arith)

  -- where no arm is for the name, the whole is stuck
  pub case_missed : (wanted : Name) (at k : ℕ) (arms : List (CaseArm Stm)) →
      case_from k arms wanted ≡ None → meant.case_arm wanted at (case_parts arms) locals p ≡ Stuck
  case_missed wanted at k [] e = refl
  case_missed wanted at k (arm ∷ arms) e =
      by (case_missed wanted (at + 2 + (part arm.body).trees) (k + 1) arms) (bytes_eq arm.member wanted) refl where
        by : (case_from (k + 1) arms wanted ≡ None → meant.case_arm wanted (at + 2 + (part arm.body).trees) (case_parts arms) locals p ≡ Stuck) →
            (b : Bool) → bytes_eq arm.member wanted ≡ b →
            meant.case_arm wanted at (case_parts (arm ∷ arms)) locals p ≡ Stuck
        by behind true same = let here : Some k ≡ None = sym (ap (case_seek k arms wanted) same) ∙ e in cc
        by behind false same = ap (case_by wanted at arm arms) same ∙ behind (sym (ap (case_seek k arms wanted) same) ∙ e)

  abbrev pub match_parts : List (MatchArm Stm) → List (MatchArm Part)
  match_parts arms = map (match_arm.map Stm Part part) arms

  -- what arms do whose first is for this name, or is not
  abbrev match_by : MadeWith → ℕ → MatchArm Stm → List (MatchArm Stm) → Bool → Outcome StmSite
  match_by wanted at arm arms b =
      if b
      then inside (at + 3) (does arm.body ((arm.payload, wanted.payload) ∷ locals))
      else meant.match_arm wanted (at + 3 + (part arm.body).trees) (match_parts arms) locals p

  -- the arm at a position, and what the whole does by it
  pub record MatchTaken (wanted : MadeWith) (at k j : ℕ) (arms : List (MatchArm Stm)) : Type 0 where
    pub index : ℕ
    pub is : j ≡ k + index
    pub arm : MatchArm Stm
    pub there : slice_get arms index ≡ Some arm
    pub taken :
        meant.match_arm wanted at (match_parts arms) locals p
        ≡ inside (at + trees_of_match_arms (take index arms) + 3) (does arm.body ((arm.payload, wanted.payload) ∷ locals))

  match_taken : (wanted : MadeWith) (at k j : ℕ) (arms : List (MatchArm Stm)) →
      match_from k arms wanted.ctor ≡ Some j → MatchTaken wanted at k j arms
  match_taken wanted at k j [] e = cc
  match_taken wanted at k j (arm ∷ arms) e =
      by (match_taken wanted (at + 3 + (part arm.body).trees) (k + 1) j arms) (bytes_eq arm.ctor wanted.ctor) refl where
        by : (match_from (k + 1) arms wanted.ctor ≡ Some j → MatchTaken wanted (at + 3 + (part arm.body).trees) (k + 1) j arms) →
            (b : Bool) → bytes_eq arm.ctor wanted.ctor ≡ b → MatchTaken wanted at k j (arm ∷ arms)
        by behind true same =
            let here : Some k ≡ Some j = sym (ap (match_seek k arms wanted.ctor) same) ∙ e in
            let is : k ≡ j = cc in
            let at_is : at + 3 ≡ at + 0 + 3 = omega arith in
            record {
              index = 0;
              is = omega (arith, is);
              arm = arm;
              there = refl;
              taken =
                  ap (match_by wanted at arm arms) same ∙ ap (λ n. inside n (does arm.body ((arm.payload, wanted.payload) ∷ locals))) at_is;
            }
        by behind false same =
            let later : match_from (k + 1) arms wanted.ctor ≡ Some j = sym (ap (match_seek k arms wanted.ctor) same) ∙ e in
            let rest = behind later in
            let count : (part arm.body).trees ≡ trees_of_stm arm.body =
            law.count spec.decls (call_of spec.decls depth) arm.body in
            let sum : trees_of_match_arms (arm ∷ take rest.index arms) ≡ (3 + trees_of_stm arm.body) + trees_of_match_arms (take rest.index arms) =
            sum_by-cons trees_of_match_arm (match_arm.map Stm ℕ trees_of_stm arm) (map (match_arm.map Stm ℕ trees_of_stm) (take rest.index arms)) in
            record {
              index = suc rest.index;
              is = omega (arith, rest.is);
              arm = rest.arm;
              there = rest.there;
              taken =
                  ap (match_by wanted at arm arms) same
                  ∙ rest.taken
                  ∙ ap (λ n. inside n (does rest.arm.body ((rest.arm.payload, wanted.payload) ∷ locals))) (omega (arith, count, sum));
            }

  -- what the whole does by the arm that is found
  pub match_runs : (wanted : MadeWith) (e : Expr) (arms : List (MatchArm Stm)) (at : ℕ) (arm : MatchArm Stm) →
      match_from 0 arms wanted.ctor ≡ Some at → slice_get arms at ≡ Some arm →
      meant.match_arm wanted (2 + trees_of_expr e) (match_parts arms) locals p
      ≡ inside (5 + trees_of_expr e + trees_of_match_arms (take at arms)) (does arm.body ((arm.payload, wanted.payload) ∷ locals))
  match_runs wanted e arms at arm found there =
      let t = match_taken wanted (2 + trees_of_expr e) 0 at arms found in
      let same : t.index ≡ at = omega (arith, t.is) in
      let one : Some t.arm ≡ Some arm = sym t.there ∙ ap (slice_get arms) same ∙ there in
      let arm_is : t.arm ≡ arm = cc in
      t.taken
      ∙ ap (λ i. inside (2 + trees_of_expr e + trees_of_match_arms (take i arms) + 3) (does t.arm.body ((t.arm.payload, wanted.payload) ∷ locals))) same
      ∙ ap (λ (a : MatchArm Stm). inside (2 + trees_of_expr e + trees_of_match_arms (take at arms) + 3) (does a.body ((a.payload, wanted.payload) ∷ locals))) arm_is
      ∙ ap (λ n. inside n (does arm.body ((arm.payload, wanted.payload) ∷ locals))) (omega arith)

  -- where no arm is for the name, the whole is stuck
  pub match_missed : (wanted : MadeWith) (at k : ℕ) (arms : List (MatchArm Stm)) →
      match_from k arms wanted.ctor ≡ None → meant.match_arm wanted at (match_parts arms) locals p ≡ Stuck
  match_missed wanted at k [] e = refl
  match_missed wanted at k (arm ∷ arms) e =
      by (match_missed wanted (at + 3 + (part arm.body).trees) (k + 1) arms) (bytes_eq arm.ctor wanted.ctor) refl where
        by : (match_from (k + 1) arms wanted.ctor ≡ None → meant.match_arm wanted (at + 3 + (part arm.body).trees) (match_parts arms) locals p ≡ Stuck) →
            (b : Bool) → bytes_eq arm.ctor wanted.ctor ≡ b →
            meant.match_arm wanted at (match_parts (arm ∷ arms)) locals p ≡ Stuck
        by behind true same = let here : Some k ≡ None = sym (ap (match_seek k arms wanted.ctor) same) ∙ e in cc
        by behind false same = ap (match_by wanted at arm arms) same ∙ behind (sym (ap (match_seek k arms wanted.ctor) same) ∙ e)
