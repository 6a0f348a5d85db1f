-- The arms of a `case` or a `match` that are judged, while the rest is to come.
use Rattle.std.proofs.Common.{◌≡◌, ℕ, ◌+◌, List, [], ◌∷◌, ◌++◌, map, sum_by, sym, ap, ◌∙◌, refl, subst, arith, append_assoc, Bool, Option, length, drop, get_or, suc, ◌<◌}
use Rattle.std.specs.Prelude.{is_some}
use Rattle.std.proofs.Math.Seq.{drop-cons}
use Rattle.std.proofs.lemmas.List.Sums.{sum_by-cons}
use Rattle.kat_value.specs.declared.types.Ty.{Ty}
use Rattle.kat_ast.specs.declared.expr.Expr.{Expr}
use Rattle.kat_ast.specs.declared.stm.Stm.{Stm}
use Rattle.kat_ast.specs.declared.stm.CaseArm.{CaseArm}
use Rattle.kat_ast.specs.declared.stm.MatchArm.{MatchArm}
use Rattle.kat_ast.specs.declared.stm.Stm.TheShapes.{former-Stm-Case-1-at-2 as case_arm, former-Stm-Match-1-at-3 as match_arm}
use Rattle.kat_ast.specs.declared.stm.Stm.TheVariants as stm
use Rattle.kat_ast.specs.declared.stm.Stm.TheOpen.{Case, Match}
use Rattle.kat_ast.specs.declared.stm.Stm.TheViews.{outs-Case, outs-Match}
use Rattle.kat_ast.specs.Statements.{trees_of_case_arm, trees_of_match_arm, trees_of_stm, trees_of_case_arms, trees_of_match_arms}
use Rattle.kat_syntax.specs.declared.type_rule.TypeRule.TheVariants.{NameUnknown, TypeOther, NotListed, BranchesDiffer}
use Rattle.kat_syntax.specs.TypeRules.{Fault, least_with, unless}
use Rattle.kat_syntax.specs.Around.{Around, a_member, a_ctor, meant}
use Rattle.kat_syntax.specs.TypesWritten.{Scope, hiding}
use Rattle.kat_syntax.specs.TypingExpressions.{Known, Plain, unknown, known_types}
use Rattle.kat_syntax.specs.TypingStatements.{InScope, plain, condition_faults, may_be_enum, may_be_union, are_listed, members_wanted, ctors_wanted, type_of_branches, all_agree, case_bodies, match_bodies, case_arm_faults, match_arm_faults, known_of_stm}
use Rattle.kat_expr_types.specs.declared.setting.Known.{Known as KnownHere}
use Rattle.kat_expr_types.specs.Judging.{Tells}
use Rattle.kat_stm_types.specs.declared.branches.Branches.{Branches}
use Rattle.kat_stm_types.specs.Branches.{IsBranches}
use Rattle.kat_stm_types.specs.Judging.{case_arms_of, match_arms_of, body_known, payload_here, match_arm_fault}
use Rattle.kat_stm_types.proofs.Noting.{least_both, both_noted, condition_noted, trees_known}
use Rattle.kat_stm_types.proofs.UsedParts.{unknown_noted}
use Rattle.kat_stm_types.proofs.Statements.{tells_at, made}
use Rattle.kat_stm_types.proofs.Bodies.{own_trees, trees_of_known}

-- the item that a loop stands at
pub drop_next : {A : Type 0} (xs : List A) (i : ℕ) (x : A) → i < length xs → x ≡ get_or xs i x →
    drop i xs ≡ x ∷ drop (i + 1) xs
drop_next xs i x within is =
    drop-cons xs i x within ∙ ap (λ y. y ∷ drop (suc i) xs) (sym is)
    ∙ ap (λ k. x ∷ drop k xs) (let q : suc i ≡ i + 1 = omega arith in q)

append_none : {A : Type 0} (xs : List A) → xs ++ [] ≡ xs
append_none [] = refl
append_none (x ∷ xs) = ap (λ more. x ∷ more) (append_none xs)

module _ {A : Type 0} (faults : ℕ → List A → List Fault) (types : List A → List (Option Ty))
    (trees : List A → ℕ) where
  -- what is kept of arms that are judged, where these of all are to come
  pub record ArmsSoFar (at : ℕ) (all rest : List A) (seen : Branches)
      (old now : Option Fault) : Type 0 where
    pub behind : List (Option Ty)
    pub whole : behind ++ types rest ≡ types all
    pub branches : IsBranches behind seen.trees seen
    pub counted : seen.trees + trees rest ≡ trees all
    pub noted : least_with now (faults (at + seen.trees) rest) ≡ least_with old (faults at all)

  pub arms_begin : (at : ℕ) (all : List A) (seen : Branches) (old : Option Fault) →
      IsBranches [] 0 seen → ArmsSoFar at all all seen old old
  arms_begin at all seen old is = record {
    behind = [];
    whole = refl;
    branches = own_trees [] 0 seen is;
    counted = omega (arith, is.counted);
    noted = ap (λ n. least_with old (faults n all))
        (let q : at + seen.trees ≡ at = omega (arith, is.counted) in q);
  }

  pub arms_go_on : (at : ℕ) (all rest : List A) (arm : A) (seen next : Branches) (before : ℕ)
      (told : KnownHere)
      (old now new : Option Fault) →
      ArmsSoFar at all (arm ∷ rest) seen old now →
      types (arm ∷ rest) ≡ told.ty ∷ types rest →
      trees (arm ∷ rest) ≡ before + told.trees + trees rest →
      least_with new (faults (at + seen.trees + before + told.trees) rest)
      ≡ least_with now (faults (at + seen.trees) (arm ∷ rest)) →
      ((ts : List (Option Ty)) → IsBranches ts seen.trees seen →
      IsBranches (ts ++ told.ty ∷ []) (seen.trees + before + told.trees) next) →
      ArmsSoFar at all rest next old new
  arms_go_on at all rest arm seen next before told old now new so types_are trees_are noted more =
      let grown : IsBranches (so.behind ++ told.ty ∷ []) (seen.trees + before + told.trees)
      next = more so.behind so.branches in
      record {
        behind = so.behind ++ told.ty ∷ [];
        whole = append_assoc so.behind (told.ty ∷ []) (types rest)
            ∙ ap (λ ts. so.behind ++ ts) (sym types_are) ∙ so.whole;
        branches = own_trees (so.behind ++ told.ty ∷ []) (seen.trees + before + told.trees) next
            grown;
        counted = omega (arith, grown.counted, so.counted, trees_are);
        noted =
            ap (λ n. least_with new (faults n rest))
            (let q : at + next.trees ≡ at + seen.trees + before + told.trees = omega
            (arith, grown.counted) in q)
            ∙ noted ∙ so.noted;
      }

  pub arms_branches : (at : ℕ) (all : List A) (seen : Branches) (old now : Option Fault) →
      trees [] ≡ 0 → types [] ≡ [] → ArmsSoFar at all [] seen old now →
      IsBranches (types all) (trees all) seen
  arms_branches at all seen old now no_trees no_types so =
      let same : so.behind ≡ types all =
      sym (append_none so.behind) ∙ ap (λ ts. so.behind ++ ts) (sym no_types) ∙ so.whole in
      let kept : IsBranches (types all) seen.trees seen = subst
      (λ ts. IsBranches ts seen.trees seen) same so.branches in
      record {
        first = kept.first;
        agrees = kept.agrees;
        counted = omega
            (arith, so.counted, no_trees);
      }

module _ (around : Around) (scope : Scope) where
  abbrev pub case_faults : ℕ → List (CaseArm Stm) → List Fault
  case_faults at arms = case_arm_faults around scope at (case_arms_of around arms)

  abbrev pub case_types : List (CaseArm Stm) → List (Option Ty)
  case_types arms = known_types (case_bodies scope (case_arms_of around arms))

  abbrev pub match_faults : ℕ → List (MatchArm Stm) → List Fault
  match_faults at arms = match_arm_faults around scope at (match_arms_of around arms)

  abbrev pub match_types : List (MatchArm Stm) → List (Option Ty)
  match_types arms = known_types (match_bodies around scope (match_arms_of around arms))

  pub case_noted : (p : ℕ) (arm : CaseArm Stm) (rest : List (CaseArm Stm)) (found : Option ℕ)
      (is_known : Bool)
      (told : KnownHere) (now middle new : Option Fault) →
      found ≡ meant a_member around arm.member → is_known ≡ is_some found →
      middle ≡ least_with now (unless is_known (p + 1) NameUnknown) →
      Tells (known_of_stm around arm.body scope) (p + 2) told middle new →
      least_with new (case_faults (p + 2 + told.trees) rest) ≡ least_with now
      (case_faults p (arm ∷ rest))
  case_noted p arm rest found is_known told now middle new found_is known_is first tells =
      let k : Known = known_of_stm around arm.body scope in
      both_noted now middle (least_with new (case_faults (p + 2 + told.trees) rest))
      (unknown (p + 1) (meant a_member around arm.member)) _
      (unknown_noted (p + 1) (meant a_member around arm.member) found is_known now middle found_is
      known_is first)
      (both_noted middle new (least_with new (case_faults (p + 2 + told.trees) rest))
      (k.faults (p + 2)) (case_faults (p + 2 + k.trees) rest) tells.faults
      (ap (λ n. least_with new (case_faults (p + 2 + n) rest)) tells.trees))

  pub case_trees : (arm : CaseArm Stm) (rest : List (CaseArm Stm)) (told : KnownHere) (at : ℕ)
      (old new : Option Fault) →
      Tells (known_of_stm around arm.body scope) at told old new →
      trees_of_case_arms (arm ∷ rest) ≡ 2 + told.trees + trees_of_case_arms rest
  case_trees arm rest told at old new tells =
      omega (
        arith,
        sum_by-cons trees_of_case_arm (case_arm.map Stm ℕ trees_of_stm arm)
            (map (case_arm.map Stm ℕ trees_of_stm) rest),
        tells.trees,
        trees_of_known around arm.body scope,
      )

  pub match_noted : (p : ℕ) (arm : MatchArm Stm) (rest : List (MatchArm Stm)) (told : KnownHere)
      (now new : Option Fault) →
      new ≡ least_with now (match_arm_fault around scope p arm) →
      told.trees ≡ (body_known around scope arm).trees →
      least_with new (match_faults (p + 3 + told.trees) rest) ≡ least_with now
      (match_faults p (arm ∷ rest))
  match_noted p arm rest told now new noted trees_are =
      let u : List Fault = unknown (p + 1) (meant a_ctor around arm.ctor) in
      let h : List Fault = hiding around scope (p + 2) arm.payload in
      let b : List Fault = (body_known around scope arm).faults (p + 3) in
      let more : List Fault = match_faults (p + 3 + (body_known around scope arm).trees) rest in
      ap (λ n. least_with new (match_faults (p + 3 + n) rest)) trees_are
      ∙ ap (λ f. least_with f more) noted
      ∙ sym (least_both now (u ++ (h ++ b)) more)
      ∙ ap (least_with now) (append_assoc u (h ++ b) more
      ∙ ap (λ fs. u ++ fs) (append_assoc h b more))

  pub match_trees : (arm : MatchArm Stm) (rest : List (MatchArm Stm)) (told : KnownHere) →
      told.trees ≡ (body_known around scope arm).trees →
      trees_of_match_arms (arm ∷ rest) ≡ 3 + told.trees + trees_of_match_arms rest
  match_trees arm rest told is =
      omega (
        arith,
        sum_by-cons trees_of_match_arm (match_arm.map Stm ℕ trees_of_stm arm)
            (map (match_arm.map Stm ℕ trees_of_stm) rest),
        is,
        trees_of_known around arm.body (payload_here around arm ∷ scope),
      )

  -- the names of arms with what is known of their bodies
  case_names : (arms : List (CaseArm Stm)) →
      map (λ (arm : CaseArm Stm). arm.member) arms ≡ map (λ (arm : CaseArm InScope). arm.member)
      (case_arms_of around arms)
  case_names [] = refl
  case_names (arm ∷ arms) = ap (λ more. arm.member ∷ more) (case_names arms)

  match_names : (arms : List (MatchArm Stm)) →
      map (λ (arm : MatchArm Stm). arm.ctor) arms ≡ map (λ (arm : MatchArm InScope). arm.ctor)
      (match_arms_of around arms)
  match_names [] = refl
  match_names (arm ∷ arms) = ap (λ more. arm.ctor ∷ more) (match_names arms)

  case_layer_trees : (arms : List (CaseArm Stm)) →
      sum_by trees_of_case_arm (map (case_arm.map InScope ℕ (λ part. (part scope).trees))
      (case_arms_of around arms)) ≡ trees_of_case_arms arms
  case_layer_trees [] = refl
  case_layer_trees (arm ∷ arms) =
      omega (
        arith,
        sum_by-cons trees_of_case_arm (case_arm.map Stm ℕ trees_of_stm arm)
            (map (case_arm.map Stm ℕ trees_of_stm) arms),
        sum_by-cons trees_of_case_arm (case_arm.map InScope ℕ (λ part. (part scope).trees)
            (case_arm.map Stm InScope (known_of_stm around) arm))
            (map (case_arm.map InScope ℕ (λ part. (part scope).trees)) (case_arms_of around arms)),
        trees_of_known around arm.body scope,
        case_layer_trees arms,
      )

  match_layer_trees : (arms : List (MatchArm Stm)) →
      sum_by trees_of_match_arm (map (match_arm.map InScope ℕ (λ part. (part scope).trees))
      (match_arms_of around arms)) ≡ trees_of_match_arms arms
  match_layer_trees [] = refl
  match_layer_trees (arm ∷ arms) =
      omega (
        arith,
        sum_by-cons trees_of_match_arm (match_arm.map Stm ℕ trees_of_stm arm)
            (map (match_arm.map Stm ℕ trees_of_stm) arms),
        sum_by-cons trees_of_match_arm (match_arm.map InScope ℕ (λ part. (part scope).trees)
            (match_arm.map Stm InScope (known_of_stm around) arm))
            (map (match_arm.map InScope ℕ (λ part. (part scope).trees))
            (match_arms_of around arms)),
        trees_of_known around arm.body scope,
        match_layer_trees arms,
      )

  module _ (e : Expr) (at : ℕ) (value result : KnownHere) (old a b d f new : Option Fault)
      (holds listed : Bool)
      (seen : Branches) (type : Option Ty)
      (tells : Tells (plain around scope e) (at + 2) value old a) where
    abbrev p : ℕ
    p = (plain around scope e).trees

    pub case_told : (arms : List (CaseArm Stm)) →
        holds ≡ may_be_enum value.ty → b ≡ least_with a (unless holds (at + 2) TypeOther) →
        IsBranches (case_types arms) (trees_of_case_arms arms) seen →
        d ≡ least_with b (case_faults (at + 2 + value.trees) arms) →
        listed ≡ are_listed (members_wanted around value.ty)
        (map (λ (arm : CaseArm Stm). arm.member) arms) →
        f ≡ least_with d (unless listed at NotListed) →
        new ≡ least_with f (unless seen.agrees at BranchesDiffer) →
        type ≡ type_of_branches (case_types arms) →
        result ≡ record { trees = 2 + value.trees + seen.trees; ty = type } →
        Tells (known_of_stm around (stm.Case e arms) scope) at result old new
    case_told arms holds_is tested branches armed listed_is listing differ type_is is =
        let trees_are : result.trees ≡ 2 + value.trees + seen.trees = (made
        (2 + value.trees + seen.trees) type result is).0 in
        tells_at around scope (stm.Case e arms) (Case e arms) at result old new (outs-Case e arms)
        (record {
          trees = omega (
            arith,
            trees_are,
            tells.trees,
            branches.counted,
            trees_known around Plain
                scope e,
            case_layer_trees arms,
          );
          type = (made (2 + value.trees + seen.trees) type result is).1 ∙ type_is;
          faults =
              both_noted old b new (condition_faults may_be_enum (at + 2) (plain around scope e)) _
              (condition_noted may_be_enum (plain around scope e) (at + 2) value old a b tells
              (tested ∙ ap (λ h. least_with a (unless h (at + 2) TypeOther)) holds_is))
              (both_noted b d new (case_faults (at + 2 + p) arms) _ (armed
              ∙ ap (λ n. least_with b (case_faults (at + 2 + n) arms)) tells.trees)
              (both_noted d f new (unless (are_listed
              (members_wanted around (plain around scope e).type)
              (map (λ (arm : CaseArm InScope). arm.member) (case_arms_of around arms))) at
              NotListed) (unless (all_agree (case_types arms)) at BranchesDiffer)
              (listing ∙ ap (λ h. least_with d (unless h at NotListed)) (listed_is
              ∙ ap (λ t. are_listed (members_wanted around t)
              (map (λ (arm : CaseArm Stm). arm.member) arms)) tells.type
              ∙ ap (are_listed (members_wanted around (plain around scope e).type))
              (case_names arms)))
              (differ ∙ ap (λ h. least_with f (unless h at BranchesDiffer)) branches.agrees)));
        })

    pub match_told : (arms : List (MatchArm Stm)) →
        holds ≡ may_be_union value.ty → b ≡ least_with a (unless holds (at + 2) TypeOther) →
        IsBranches (match_types arms) (trees_of_match_arms arms) seen →
        d ≡ least_with b (match_faults (at + 2 + value.trees) arms) →
        listed ≡ are_listed (ctors_wanted around value.ty)
        (map (λ (arm : MatchArm Stm). arm.ctor) arms) →
        f ≡ least_with d (unless listed at NotListed) →
        new ≡ least_with f (unless seen.agrees at BranchesDiffer) →
        type ≡ type_of_branches (match_types arms) →
        result ≡ record { trees = 2 + value.trees + seen.trees; ty = type } →
        Tells (known_of_stm around (stm.Match e arms) scope) at result old new
    match_told arms holds_is tested branches armed listed_is listing differ type_is is =
        let trees_are : result.trees ≡ 2 + value.trees + seen.trees = (made
        (2 + value.trees + seen.trees) type result is).0 in
        tells_at around scope (stm.Match e arms) (Match e arms) at result old new
        (outs-Match e arms) (record {
          trees = omega (
            arith,
            trees_are,
            tells.trees,
            branches.counted,
            trees_known around Plain
                scope e,
            match_layer_trees arms,
          );
          type = (made (2 + value.trees + seen.trees) type result is).1 ∙ type_is;
          faults =
              both_noted old b new (condition_faults may_be_union (at + 2) (plain around scope e)) _
              (condition_noted may_be_union (plain around scope e) (at + 2) value old a b tells
              (tested ∙ ap (λ h. least_with a (unless h (at + 2) TypeOther)) holds_is))
              (both_noted b d new (match_faults (at + 2 + p) arms) _ (armed
              ∙ ap (λ n. least_with b (match_faults (at + 2 + n) arms)) tells.trees)
              (both_noted d f new (unless (are_listed
              (ctors_wanted around (plain around scope e).type)
              (map (λ (arm : MatchArm InScope). arm.ctor) (match_arms_of around arms))) at
              NotListed) (unless (all_agree (match_types arms)) at BranchesDiffer)
              (listing ∙ ap (λ h. least_with d (unless h at NotListed)) (listed_is
              ∙ ap (λ t. are_listed (ctors_wanted around t)
              (map (λ (arm : MatchArm Stm). arm.ctor) arms)) tells.type
              ∙ ap (are_listed (ctors_wanted around (plain around scope e).type))
              (match_names arms)))
              (differ ∙ ap (λ h. least_with f (unless h at BranchesDiffer)) branches.agrees)));
        })

-- whether arms list what a value of this type wants
abbrev pub listed_case : Around → Option Ty → List (CaseArm Stm) → Bool
listed_case around type arms = are_listed (members_wanted around type)
    (map (λ (arm : CaseArm Stm). arm.member) arms)

abbrev pub listed_match : Around → Option Ty → List (MatchArm Stm) → Bool
listed_match around type arms = are_listed (ctors_wanted around type)
    (map (λ (arm : MatchArm Stm). arm.ctor) arms)
