-- A statement without faults is not stuck, and gives values of what typing knows.
use Rattle.std.proofs.Common.{◌≡◌, ◌⊎◌, inl, inr, ℕ, ◌+◌, ◌&&◌, eqb, is_some, Bool, true, false, List, [], ◌∷◌, ◌++◌, length, map, Option, Some, None, refl, sym, ap, subst, ◌∙◌, arith, if◌then◌else◌}
use Rattle.std.specs.Prelude.{option_and_then, ◌==◌}
use Rattle.std.specs.Option.{option_map}
use Rattle.std.specs.List.{AllByRecursion, AllZip, list_all}
use Rattle.std.specs.Str.{bytes_eq}
use Rattle.std.proofs.lemmas.Bool.{and_parts, and_from, eqb-true, eq-eqb, false≢true}
use Rattle.std.proofs.lemmas.Slice.Eq.{bytes_eq-Decides}
use Rattle.std.specs.Bool.{Decides}
use Rattle.std.proofs.lemmas.List.{length-map}
use Rattle.kat_value.specs.declared.types.Ty.{Ty}
use Rattle.kat_value.specs.declared.types.Ty.TheVariants as ty
use Rattle.kat_value.specs.declared.types.TypeDecl.{TypeDecl}
use Rattle.kat_value.specs.declared.value.Value.{Value, out-Value}
use Rattle.kat_value.specs.declared.value.Value.TheVariants.{Unit as UnitValue, Bits as Number}
use Rattle.kat_value.specs.Shown.{ShownTypes}
use Rattle.kat_value.specs.Signatures.{agree}
use Rattle.kat_value.specs.TypeLaws.{UnitIsUnit, BoolIsTruths, BitsAreNumbers}
use Rattle.kat_value.specs.Typing.{HasType}
use Rattle.kat_value.specs.Widths.{is_number}
use Rattle.kat_ast.specs.declared.decl.DeclForm.{DeclForm}
use Rattle.kat_ast.specs.declared.expr.Expr.{Expr}
use Rattle.kat_ast.specs.declared.stm.Stm.{Stm}
use Rattle.kat_ast.specs.declared.stm.CaseArm.{CaseArm}
use Rattle.kat_ast.specs.declared.stm.MatchArm.{MatchArm}
use Rattle.kat_ast.specs.declared.stm.Stm.TheOpen.{Stm-F, Ret, Let, Seq, If, Case, Match, Read, Write, Load, Store, Call, Check, Fail as FailStm, Open, Close, Lemma}
use Rattle.kat_ast.specs.declared.stm.Stm.TheViews.{roll-Stm}
use Rattle.kat_ast.specs.declared.stm.Stm.TheFolds.{map-Stm, fold-roll-Stm, ind-Stm}
use Rattle.kat_ast.specs.declared.stm.Stm.TheShapes.{former-Stm-Case-1-at-2 as case_arm, former-Stm-Match-1-at-3 as match_arm}
use Rattle.kat_ast.specs.Expressions.{are_formed_exprs, is_formed_expr, trees_of_expr}
use Rattle.kat_ast.specs.Parts.{every, is_name, is_nonempty}
use Rattle.kat_ast.specs.Statements.{is_formed_case_arm, is_formed_match_arm, is_formed_stm, stm_formed}
use Rattle.kat_syntax.specs.declared.type_rule.TypeRule.TheVariants.{BranchesDiffer, CountOther, MemoryMissing, NameUnknown, NotListed, TypeOther}
use Rattle.kat_syntax.specs.Around.{Around, CtorSeen, FunctionSeen, a_ctor, a_function, a_member, a_register, is_ctor_of, is_member_of, meant, names_that}
use Rattle.kat_syntax.specs.Declares.{TypedName, types_of}
use Rattle.kat_syntax.specs.Evaluation.{Locals, value_of_expr, values_of_exprs}
use Rattle.kat_syntax.specs.Machine.{MachineState, Progress}
use Rattle.kat_syntax.specs.Meaning as means
use Rattle.kat_syntax.specs.Meaning.{Calls, MadeWith, Part, does_of, done_in, in_sequence, loaded, made_of_layer, member_of_layer, number_for, number_of, part_of, part_of_stm, plainly, stored, truth_for, truth_of}
use Rattle.kat_syntax.specs.Memories.{Memory, cell_type, index_type, memory_before}
use Rattle.kat_syntax.specs.Outcomes.{Outcome, Done, Out, Fail, Stuck, StmSite, Here, There, at_site, given, inside, then_do}
use Rattle.kat_syntax.specs.States.{IsState, cell_at, memory_of, register_value, written}
use Rattle.kat_syntax.specs.Tables.{Name}
use Rattle.kat_syntax.specs.TypeRules.{unless}
use Rattle.kat_syntax.specs.TypesWritten.{Scope, hiding}
use Rattle.kat_syntax.specs.TypeTable.{types_of_decls}
use Rattle.kat_syntax.specs.TypingExpressions.{Plain, arg_faults, given_faults, known_of_expr, known_types, parts_faults, type_of_register, unknown, wanting}
use Rattle.kat_syntax.specs.TypingStatements.{InScope, all_agree, are_listed, case_arm_faults, case_bodies, condition_faults, ctors_wanted, first_known, known_of_stm, last_type, match_arm_faults, match_bodies, may_be_enum, may_be_union, members_wanted, plain, plains, same_names, stm_known, type_of_branches, without_memory}
use Rattle.kat_safety.specs.Typed.{AreOfScope, HasKnownValue, IsOfKnown}
use Rattle.kat_safety.proofs.Clean.{empty_first, empty_second, met}

-- an outcome is not stuck, and where it is done its value is of what is known
abbrev pub Gives : {S : Type 0} → List TypeDecl → Option Ty → Outcome S → Type 0
Gives types known (Done value progress) = IsOfKnown types known value
Gives types known Out = Unit {0}
Gives types known (Fail site) = Unit {0}
Gives types known Stuck = ⊥

pub gives_at : {S U : Type 0} (types : List TypeDecl) (known : Option Ty) (move : S → U)
    (o : Outcome S) → Gives types known o → Gives types known (at_site move o)
gives_at types known move (Done v p) is = is
gives_at types known move Out is = tt
gives_at types known move (Fail site) is = tt
gives_at types known move Stuck is = absurd is

gives_then : {S : Type 0} (types : List TypeDecl) (first second : Option Ty) (o : Outcome S)
    (go : Value → Progress → Outcome S) → Gives types first o →
    ((v : Value) (q : Progress) → o ≡ Done v q → IsOfKnown types first v →
    Gives types second (go v q)) → Gives types second (then_do o go)
gives_then types first second (Done v q) go is next = next v q refl is
gives_then types first second Out go is next = tt
gives_then types first second (Fail site) go is next = tt
gives_then types first second Stuck go is next = absurd is

pub gives_given : {A S : Type 0} (types : List TypeDecl) (known : Option Ty) (o : Option A)
    (go : A → Outcome S) (a : A) → o ≡ Some a → Gives types known (go a) →
    Gives types known (given o go)
gives_given {A = A} types known o go a there is =
    subst (λ (x : Option A). Gives types known (given x go)) (sym there) is

gives_either : {S : Type 0} (types : List TypeDecl) (known : Option Ty) (b : Bool)
    (o u : Outcome S) → Gives types known o → Gives types known u →
    Gives types known (if b then o else u)
gives_either types known true o u first second = first
gives_either types known false o u first second = second

done_before : {S U : Type 0} (move : S → U) (o : Outcome S) (v : Value) (q : Progress) →
    at_site move o ≡ Done v q → o ≡ Done v q
done_before move (Done u p) v q e = cc
done_before move Out v q e = cc
done_before move (Fail site) v q e = cc
done_before move Stuck v q e = cc

-- a name is one of these
abbrev pub IsNamed : Name → List Name → Type 0
IsNamed x [] = ⊥
IsNamed x (y ∷ names) = (y ≡ x) ⊎ IsNamed x names

-- where lists of names are the same, what is one of the first is one of the second
named_in : (x : Name) (wanted names : List Name) → same_names wanted names ≡ true →
    IsNamed x wanted → IsNamed x names
named_in x [] names same is = absurd is
named_in x (y ∷ wanted) [] same is = absurd (false≢true same)
named_in x (y ∷ wanted) (z ∷ names) same is =
    let parts = and_parts (bytes_eq y z) (same_names wanted names) same in
    by (named_in x wanted names parts.1) ((bytes_eq-Decides y z).0 parts.0) is where
      by : (IsNamed x wanted → IsNamed x names) → y ≡ z → (y ≡ x) ⊎ IsNamed x wanted →
          (z ≡ x) ⊎ IsNamed x names
      by more told (inl first) = inl (sym told ∙ first)
      by more told (inr later) = inr (more later)

-- what the tables say where typing finds no fault, in the declaration of this number
pub record StatementTables (decls : List DeclForm) (k : ℕ) : Type 0 where
  pub read :
      (r : Name) (s : MachineState) → IsState decls s →
      is_some (meant a_register (record { decls = decls; number = k }) r) ≡ true →
      HasKnownValue (types_of_decls decls)
      (type_of_register (record { decls = decls; number = k }) r)
      (register_value decls r s.registers)
  pub write :
      (r : Name) (v : Value) (t : Option Ty) (s : MachineState) → IsState decls s →
      is_some (meant a_register (record { decls = decls; number = k }) r) ≡ true →
      agree (type_of_register (record { decls = decls; number = k }) r) t ≡ true →
      IsOfKnown (types_of_decls decls) t v → (next : MachineState) × (written decls r v s ≡ Some next)
  pub member :
      (p : ℕ) (v : Value) → HasType (types_of_decls decls) (ty.Enum p) v →
      (x : Name) × (member_of_layer (types_of_decls decls) (out-Value v) ≡ Some x)
      × IsNamed x (names_that (is_member_of p) (record { decls = decls; number = k }))
  pub ctor :
      (p : ℕ) (v : Value) → HasType (types_of_decls decls) (ty.Union p) v →
      (made : MadeWith) × (made_of_layer (types_of_decls decls) (out-Value v) ≡ Some made)
      × IsNamed made.ctor (names_that (is_ctor_of p) (record { decls = decls; number = k }))
      × IsOfKnown (types_of_decls decls) (option_and_then (λ (seen : CtorSeen). seen.payload)
      (meant a_ctor (record { decls = decls; number = k }) made.ctor)) made.payload
  pub params :
      (f : Name) (seen : FunctionSeen) →
      meant a_function (record { decls = decls; number = k }) f ≡ Some seen →
      AllByRecursion (λ (t : Option Ty). is_some t ≡ true) (types_of seen.params)
  pub memory :
      is_some (memory_before (record { decls = decls; number = k })) ≡ true →
      (m : Memory) × (memory_of decls ≡ Some m)
      × (index_type (record { decls = decls; number = k }) ≡ Some (ty.Bits m.index_width))
      × (cell_type (record { decls = decls; number = k }) ≡ Some (ty.Bits m.cell_width))
  pub cell :
      (m : Memory) (i n : ℕ) (s : MachineState) → memory_of decls ≡ Some m → IsState decls s →
      cell_at s i ≡ Some n → is_number m.cell_width n ≡ true

module _ (shown : ShownTypes) (units : UnitIsUnit) (truths : BoolIsTruths) (bits : BitsAreNumbers)
    (decls : List DeclForm) (k : ℕ) (tables : StatementTables decls k)
    (has : (at : ℕ) (scope : Scope) (locals : Locals) (e : Expr) → is_formed_expr e ≡ true →
    (known_of_expr (record { decls = decls; number = k }) Plain scope e).faults at ≡ [] →
    AreOfScope (types_of_decls decls) scope locals →
    HasKnownValue (types_of_decls decls)
    (known_of_expr (record { decls = decls; number = k }) Plain scope e).type
    (value_of_expr (plainly decls locals) e))
    (calls : Calls)
    (calls_give : (f : Name) (seen : FunctionSeen) (args : List Value) (p : Progress) →
    meant a_function (record { decls = decls; number = k }) f ≡ Some seen →
    AllZip (IsOfKnown (types_of_decls decls)) (types_of seen.params) args →
    IsState decls p.state → Gives (types_of_decls decls) seen.result (calls f args p))
    (stays : (s : Stm) (locals : Locals) (p q : Progress) (v : Value) → IsState decls p.state →
    (part_of_stm decls calls s).does locals p ≡ Done v q → IsState decls q.state) where
  abbrev types : List TypeDecl
  types = types_of_decls decls

  abbrev around : Around
  around = record { decls = decls; number = k }

  abbrev known : Stm → InScope
  known = known_of_stm around

  abbrev part : Stm → Part
  part = part_of_stm decls calls

  -- a value of a type that goes with the one wanted is of the one wanted
  of_wanted : (wanted : Ty) (one : Option Ty) (v : Value) → agree (Some wanted) one ≡ true →
      IsOfKnown types one v → HasType types wanted v
  of_wanted wanted None v agrees is = absurd is
  of_wanted wanted (Some t) v agrees is =
      subst (λ u. HasType types u v) (sym (shown.told wanted t agrees)) is

  -- the type of branches is that of each
  abbrev Fits : Option Ty → Option Ty → Type 0
  Fits whole one = (v : Value) → IsOfKnown types one v → IsOfKnown types whole v

  fits_some : (t : Ty) (us : List (Option Ty)) → list_all (agree (Some t)) us ≡ true →
      AllByRecursion (Fits (Some t)) us
  fits_some t [] agrees = tt
  fits_some t (u ∷ us) agrees =
      let parts = and_parts (agree (Some t) u) (list_all (agree (Some t)) us) agrees in
      ((λ v is. of_wanted t u v parts.0 is), fits_some t us parts.1)

  fits_none : (us : List (Option Ty)) → first_known us ≡ None → AllByRecursion (Fits None) us
  fits_none [] none = tt
  fits_none (None ∷ us) none = ((λ v is. is), fits_none us none)
  fits_none (Some u ∷ us) none = absurd (let f : Some u ≡ None = none in cc)

  fits_branches : (us : List (Option Ty)) → all_agree us ≡ true →
      AllByRecursion (Fits (type_of_branches us)) us
  fits_branches us agrees =
      subst (λ (whole : Option Ty). AllByRecursion (Fits whole) us)
      (sym (ap (λ b. if b then first_known us else None) agrees))
      (by (first_known us) refl agrees) where
        by : (whole : Option Ty) → first_known us ≡ whole → list_all (agree whole) us ≡ true →
            AllByRecursion (Fits whole) us
        by None same all = fits_none us same
        by (Some t) same all = fits_some t us all

  gives_fit : {S : Type 0} (whole one : Option Ty) (o : Outcome S) → Fits whole one →
      Gives types one o → Gives types whole o
  gives_fit whole one (Done v p) fits is = fits v is
  gives_fit whole one Out fits is = tt
  gives_fit whole one (Fail site) fits is = tt
  gives_fit whole one Stuck fits is = absurd is

  unit_is : HasType types ty.Unit UnitValue
  unit_is = (units types UnitValue).1 refl

  -- the value of an expression of a type that is wanted
  value_there : (wanted : Ty) (at : ℕ) (scope : Scope) (locals : Locals) (e : Expr) →
      is_formed_expr e ≡ true → (plain around scope e).faults at ≡ [] →
      agree (Some wanted) (plain around scope e).type ≡ true → AreOfScope types scope locals →
      (v : Value) × (value_of_expr (plainly decls locals) e ≡ Some v) × HasType types wanted v
  value_there wanted at scope locals e formed clean agrees are =
      let one = has at scope locals e formed clean are in (
        one.one,
        one.there,
        of_wanted wanted (plain around scope e).type one.one agrees one.typed,
      )

  truth_there : (at : ℕ) (scope : Scope) (locals : Locals) (e : Expr) → is_formed_expr e ≡ true →
      condition_faults (agree (Some ty.Bool)) at (plain around scope e) ≡ [] →
      AreOfScope types scope locals → (b : Bool) × (truth_for decls locals e ≡ Some b)
  truth_there at scope locals e formed clean are =
      let one = value_there ty.Bool at scope locals e formed (empty_first _ _ clean)
      (met (agree (Some ty.Bool) (plain around scope e).type) at TypeOther
      (empty_second ((plain around scope e).faults at) _ clean)) are in
      let b = (truths types one.0).0 one.2 in
      (b.0, ap (option_and_then truth_of) (one.1 ∙ ap Some b.1))

  number_there : (w : ℕ) (wanted : Option Ty) (at : ℕ) (scope : Scope) (locals : Locals)
      (e : Expr) → is_formed_expr e ≡ true → wanted ≡ Some (ty.Bits w) →
      (plain around scope e).faults at ≡ [] →
      wanting wanted at (plain around scope e).type ≡ [] → AreOfScope types scope locals →
      (n : ℕ) × (number_for decls w locals e ≡ Some n)
  number_there w wanted at scope locals e formed same clean wants are =
      let one = value_there (ty.Bits w) at scope locals e formed clean
      (met (agree (Some (ty.Bits w)) (plain around scope e).type) at TypeOther
      (subst (λ (t : Option Ty). wanting t at (plain around scope e).type ≡ []) same wants)) are in
      let n = (bits types w one.0).0 one.2 in (
        n.0,
        ap (option_and_then (number_of w)) (one.1 ∙ ap Some n.1)
            ∙ ap (λ b. if b then Some n.0 else None)
            (and_from (w == w) (is_number w n.0) (eq-eqb w w refl) n.2),
      )

  -- what is given of a statement, wherever it stands
  abbrev At : Bool → InScope → (Locals → Progress → Outcome StmSite) → Type 0
  At formed here does = (at : ℕ) (scope : Scope) (locals : Locals) (p : Progress) →
      formed ≡ true → (here scope).faults at ≡ [] → AreOfScope types scope locals →
      IsState decls p.state → Gives types (here scope).type (does locals p)

  abbrev IsTypedStm : Stm → Type 0
  IsTypedStm s = At (is_formed_stm s) (known s) (part s).does

  abbrev TypedStm : Type 0
  TypedStm = (s : Stm) × IsTypedStm s

  abbrev stms : List TypedStm → List Stm
  stms ss = map (λ (s : TypedStm). s.0) ss

  abbrev first : Stm-F TypedStm → Stm-F Stm
  first = map-Stm TypedStm Stm (λ s. s.0)

  -- one layer of a statement, of its parts
  abbrev LayerAt : Stm-F Stm → Type 0
  LayerAt z = At (stm_formed (map-Stm Stm Bool is_formed_stm z))
      (stm_known around (map-Stm Stm InScope known z))
      (does_of decls calls (map-Stm Stm Part part z))

  sequence_gives : (m at : ℕ) (ss : List TypedStm) (scope : Scope) (locals : Locals)
      (p : Progress) → is_nonempty (map is_formed_stm (stms ss)) ≡ true →
      every (map is_formed_stm (stms ss)) ≡ true →
      parts_faults at (map (λ (one : InScope). one scope) (map known (stms ss))) ≡ [] →
      AreOfScope types scope locals → IsState decls p.state →
      Gives types (last_type (map (λ (one : InScope). (one scope).type) (map known (stms ss))))
      (in_sequence m (map part (stms ss)) locals p)
  sequence_gives m at [] scope locals p some formed clean are is = absurd (false≢true some)
  sequence_gives m at (s ∷ []) scope locals p some formed clean are is =
      gives_at types (known s.0 scope).type _ ((part s.0).does locals p)
      (s.1 at scope locals p (and_parts (is_formed_stm s.0) true formed).0
      (empty_first ((known s.0 scope).faults at) _ clean) are is)
  sequence_gives m at (s ∷ t ∷ ss) scope locals p some formed clean are is =
      let parts = and_parts (is_formed_stm s.0) (every (map is_formed_stm (stms (t ∷ ss)))) formed
      in
      gives_then types (known s.0 scope).type
      (last_type (map (λ (one : InScope). (one scope).type) (map known (stms (t ∷ ss)))))
      (inside m ((part s.0).does locals p))
      (λ v q. in_sequence (m + (part s.0).trees) (map part (stms (t ∷ ss))) locals q)
      (gives_at types (known s.0 scope).type _ ((part s.0).does locals p)
      (s.1 at scope locals p parts.0 (empty_first ((known s.0 scope).faults at) _ clean) are is))
      (λ v q done typed. sequence_gives (m + (part s.0).trees) (at + (known s.0 scope).trees)
      (t ∷ ss) scope locals q refl parts.1
      (empty_second ((known s.0 scope).faults at) _ clean) are
      (stays s.0 locals p q v is (done_before _ ((part s.0).does locals p) v q done)))

  abbrev case_stms : List (CaseArm TypedStm) → List (CaseArm Stm)
  case_stms arms = map (case_arm.map TypedStm Stm (λ s. s.0)) arms

  abbrev known_cases : List (CaseArm TypedStm) → List (CaseArm InScope)
  known_cases arms = map (case_arm.map Stm InScope known) (case_stms arms)

  case_gives : (whole : Option Ty) (member : Name) (m at : ℕ) (arms : List (CaseArm TypedStm))
      (scope : Scope) (locals : Locals) (p : Progress) →
      IsNamed member (map (λ (arm : CaseArm InScope). arm.member) (known_cases arms)) →
      every (map is_formed_case_arm (map (case_arm.map Stm Bool is_formed_stm) (case_stms arms)))
      ≡ true → case_arm_faults around scope at (known_cases arms) ≡ [] →
      AllByRecursion (Fits whole) (known_types (case_bodies scope (known_cases arms))) →
      AreOfScope types scope locals → IsState decls p.state →
      Gives types whole
      (means.case_arm member m (map (case_arm.map Stm Part part) (case_stms arms)) locals p)
  case_gives whole member m at [] scope locals p named formed clean fits are is = absurd named
  case_gives whole member m at (arm ∷ arms) scope locals p named formed clean fits are is =
      by (λ later behind all_formed. case_gives whole member (m + 2 + (part arm.body.0).trees)
      (at + 2 + (known arm.body.0 scope).trees) arms scope locals p later all_formed
      behind fits.1 are is)
      (bytes_eq arm.member member) (bytes_eq-Decides arm.member member) named where
        rest : Outcome StmSite
        rest = means.case_arm member (m + 2 + (part arm.body.0).trees)
            (map (case_arm.map Stm Part part) (case_stms arms)) locals p

        all : (is_name arm.member && is_formed_stm arm.body.0 ≡ true)
            × (every (map is_formed_case_arm
            (map (case_arm.map Stm Bool is_formed_stm) (case_stms arms))) ≡ true)
        all = and_parts (is_name arm.member && is_formed_stm arm.body.0) _ formed

        body_behind : (known arm.body.0 scope).faults (at + 2)
            ++ case_arm_faults around scope (at + 2 + (known arm.body.0 scope).trees)
            (known_cases arms) ≡ []
        body_behind = empty_second (unknown (at + 1) (meant a_member around arm.member)) _ clean

        by : (IsNamed member (map (λ (one : CaseArm InScope). one.member) (known_cases arms)) →
            case_arm_faults around scope (at + 2 + (known arm.body.0 scope).trees) (known_cases arms)
            ≡ [] → every (map is_formed_case_arm
            (map (case_arm.map Stm Bool is_formed_stm) (case_stms arms))) ≡ true →
            Gives types whole rest) →
            (b : Bool) → Decides b (arm.member ≡ member) →
            (arm.member ≡ member)
            ⊎ IsNamed member (map (λ (one : CaseArm InScope). one.member) (known_cases arms)) →
            Gives types whole (if b then inside (m + 2) ((part arm.body.0).does locals p) else rest)
        by more true told one =
            gives_at types whole _ ((part arm.body.0).does locals p)
            (gives_fit whole (known arm.body.0 scope).type ((part arm.body.0).does locals p) fits.0
            (arm.body.1 (at + 2) scope locals p
            (and_parts (is_name arm.member) (is_formed_stm arm.body.0) all.0).1
            (empty_first ((known arm.body.0 scope).faults (at + 2)) _ body_behind) are is))
        by more false told (inl same) = absurd (false≢true (told.1 same))
        by more false told (inr later) =
            more later (empty_second ((known arm.body.0 scope).faults (at + 2)) _ body_behind) all.1

  abbrev match_stms : List (MatchArm TypedStm) → List (MatchArm Stm)
  match_stms arms = map (match_arm.map TypedStm Stm (λ s. s.0)) arms

  abbrev known_matches : List (MatchArm TypedStm) → List (MatchArm InScope)
  known_matches arms = map (match_arm.map Stm InScope known) (match_stms arms)

  -- the type of the payload of a constructor
  abbrev payload_type : Name → Option Ty
  payload_type c = option_and_then (λ (seen : CtorSeen). seen.payload) (meant a_ctor around c)

  match_gives : (whole : Option Ty) (made : MadeWith) (m at : ℕ)
      (arms : List (MatchArm TypedStm)) (scope : Scope) (locals : Locals) (p : Progress) →
      IsOfKnown types (payload_type made.ctor) made.payload →
      IsNamed made.ctor (map (λ (arm : MatchArm InScope). arm.ctor) (known_matches arms)) →
      every (map is_formed_match_arm (map (match_arm.map Stm Bool is_formed_stm)
      (match_stms arms))) ≡ true → match_arm_faults around scope at (known_matches arms) ≡ [] →
      AllByRecursion (Fits whole) (known_types (match_bodies around scope (known_matches arms))) →
      AreOfScope types scope locals → IsState decls p.state →
      Gives types whole
      (means.match_arm made m (map (match_arm.map Stm Part part) (match_stms arms)) locals p)
  match_gives whole made m at [] scope locals p typed named formed clean fits are is =
      absurd named
  match_gives whole made m at (arm ∷ arms) scope locals p typed named formed clean fits are is =
      by (λ later behind all_formed. match_gives whole made (m + 3 + (part arm.body.0).trees)
      (at + 3 + (known arm.body.0
      (record { name = arm.payload; type = payload_type arm.ctor } ∷ scope)).trees) arms scope
      locals p typed later all_formed behind fits.1 are is)
      (bytes_eq arm.ctor made.ctor) (bytes_eq-Decides arm.ctor made.ctor) named where
        inner : Scope
        inner = record { name = arm.payload; type = payload_type arm.ctor } ∷ scope

        rest : Outcome StmSite
        rest = means.match_arm made (m + 3 + (part arm.body.0).trees)
            (map (match_arm.map Stm Part part) (match_stms arms)) locals p

        all : (is_name arm.ctor && (is_name arm.payload && is_formed_stm arm.body.0) ≡ true)
            × (every (map is_formed_match_arm
            (map (match_arm.map Stm Bool is_formed_stm) (match_stms arms))) ≡ true)
        all = and_parts (is_name arm.ctor && (is_name arm.payload && is_formed_stm arm.body.0)) _
            formed

        formed_body : is_formed_stm arm.body.0 ≡ true
        formed_body = (and_parts (is_name arm.payload) (is_formed_stm arm.body.0)
            (and_parts (is_name arm.ctor) (is_name arm.payload && is_formed_stm arm.body.0)
            all.0).1).1

        body_behind : (known arm.body.0 inner).faults (at + 3)
            ++ match_arm_faults around scope (at + 3 + (known arm.body.0 inner).trees)
            (known_matches arms) ≡ []
        body_behind = empty_second (hiding around scope (at + 2) arm.payload) _
            (empty_second (unknown (at + 1) (meant a_ctor around arm.ctor)) _ clean)

        by : (IsNamed made.ctor (map (λ (one : MatchArm InScope). one.ctor) (known_matches arms)) →
            match_arm_faults around scope (at + 3 + (known arm.body.0 inner).trees)
            (known_matches arms) ≡ [] → every (map is_formed_match_arm
            (map (match_arm.map Stm Bool is_formed_stm) (match_stms arms))) ≡ true →
            Gives types whole rest) →
            (b : Bool) → Decides b (arm.ctor ≡ made.ctor) →
            (arm.ctor ≡ made.ctor)
            ⊎ IsNamed made.ctor (map (λ (one : MatchArm InScope). one.ctor) (known_matches arms)) →
            Gives types whole (if b
            then inside (m + 3) ((part arm.body.0).does ((arm.payload, made.payload) ∷ locals) p)
            else rest)
        by more true told one =
            gives_at types whole _ ((part arm.body.0).does ((arm.payload, made.payload) ∷ locals) p)
            (gives_fit whole (known arm.body.0 inner).type
            ((part arm.body.0).does ((arm.payload, made.payload) ∷ locals) p) fits.0
            (arm.body.1 (at + 3) inner ((arm.payload, made.payload) ∷ locals) p formed_body
            (empty_first ((known arm.body.0 inner).faults (at + 3)) _ body_behind) (
              (
                refl,
                subst (λ (c : Name). IsOfKnown types (payload_type c) made.payload) (sym (told.0 refl))
                    typed,
              ),
              are,
            ) is))
        by more false told (inl same) = absurd (false≢true (told.1 same))
        by more false told (inr later) =
            more later (empty_second ((known arm.body.0 inner).faults (at + 3)) _ body_behind) all.1

  ret_gives : (known : Option Ty) (o : Option Value) (p : Progress) →
      HasKnownValue types known o →
      Gives {S = StmSite} types known (given o (λ v. Done v p))
  ret_gives known o p here =
      gives_given types known o (λ v. Done v p) here.one here.there here.typed

  let_gives : (x : Name) (a b : TypedStm) → LayerAt (Let x a.0 b.0)
  let_gives x a b at scope locals p formed clean are is =
      let parts = and_parts (is_formed_stm a.0) (is_formed_stm b.0)
      (and_parts (is_name x) (is_formed_stm a.0 && is_formed_stm b.0) formed).1 in
      let inner : Scope = record { name = x; type = (known a.0 scope).type } ∷ scope in
      let behind = empty_second (hiding around scope (at + 2) x) _ clean in
      gives_then types (known a.0 scope).type (known b.0 inner).type
      (inside 3 ((part a.0).does locals p))
      (λ v q. inside (3 + (part a.0).trees) ((part b.0).does ((x, v) ∷ locals) q))
      (gives_at types (known a.0 scope).type _ ((part a.0).does locals p)
      (a.1 (at + 3) scope locals p parts.0
      (empty_first ((known a.0 scope).faults (at + 3)) _ behind) are is))
      (λ v q done typed.
      gives_at types (known b.0 inner).type _ ((part b.0).does ((x, v) ∷ locals) q)
      (b.1 (at + 3 + (known a.0 scope).trees) inner ((x, v) ∷ locals) q parts.1
      (empty_second ((known a.0 scope).faults (at + 3)) _ behind) ((refl, typed), are)
      (stays a.0 locals p q v is (done_before _ ((part a.0).does locals p) v q done))))

  if_gives : (test : Expr) (a b : TypedStm) → LayerAt (If test a.0 b.0)
  if_gives test a b at scope locals p formed clean are is =
      let parts = and_parts (is_formed_expr test) (is_formed_stm a.0 && is_formed_stm b.0) formed in
      let both = and_parts (is_formed_stm a.0) (is_formed_stm b.0) parts.1 in
      let condition = condition_faults (agree (Some ty.Bool)) (at + 2) (plain around scope test) in
      let a_at : ℕ = at + 2 + (plain around scope test).trees in
      let types_there : List (Option Ty) =
      (known a.0 scope).type ∷ (known b.0 scope).type ∷ [] in
      let bodies = parts_faults a_at (known a.0 scope ∷ known b.0 scope ∷ []) in
      let behind = empty_second condition _ clean in
      let one = truth_there (at + 2) scope locals test parts.0 (empty_first condition _ clean) are
      in
      let inner = empty_first bodies _ behind in
      let fits = fits_branches types_there
      (met (all_agree types_there) at BranchesDiffer (empty_second bodies _ behind)) in
      let whole = type_of_branches types_there in
      gives_given types whole (truth_for decls locals test) _ one.0 one.1
      (gives_either types whole one.0 (inside _ ((part a.0).does locals p))
      (inside _ ((part b.0).does locals p))
      (gives_at types whole _ ((part a.0).does locals p)
      (gives_fit whole (known a.0 scope).type ((part a.0).does locals p) fits.0
      (a.1 a_at scope locals p both.0 (empty_first ((known a.0 scope).faults a_at) _ inner) are is)))
      (gives_at types whole _ ((part b.0).does locals p)
      (gives_fit whole (known b.0 scope).type ((part b.0).does locals p) fits.1.0
      (b.1 (a_at + (known a.0 scope).trees) scope locals p both.1
      (empty_first ((known b.0 scope).faults (a_at + (known a.0 scope).trees)) _
      (empty_second ((known a.0 scope).faults a_at) _ inner)) are is))))

  -- a value of an enum, of which all members are listed
  enum_there : (scope : Scope) (one : Option Ty) (v : Value) (names : List Name) →
      IsOfKnown types one v → may_be_enum one ≡ true →
      are_listed (members_wanted around one) names ≡ true →
      (x : Name) × (member_of_layer types (out-Value v) ≡ Some x) × IsNamed x names
  enum_there scope None v names is enum listed = absurd is
  enum_there scope (Some (ty.Enum p)) v names is enum listed =
      let found = tables.member p v is in
      (found.0, found.1, named_in found.0 (names_that (is_member_of p) around) names listed found.2)
  enum_there scope (Some ty.Unit) v names is enum listed = absurd (false≢true enum)
  enum_there scope (Some ty.Bool) v names is enum listed = absurd (false≢true enum)
  enum_there scope (Some (ty.Bits w)) v names is enum listed = absurd (false≢true enum)
  enum_there scope (Some (ty.Union p)) v names is enum listed = absurd (false≢true enum)
  enum_there scope (Some (ty.Rec p)) v names is enum listed = absurd (false≢true enum)

  case_layer : (e : Expr) (arms : List (CaseArm TypedStm)) → LayerAt (Case e (case_stms arms))
  case_layer e arms at scope locals p formed clean are is =
      let parts = and_parts (is_formed_expr e) _ formed in
      let here = plain around scope e in
      let condition = condition_faults may_be_enum (at + 2) here in
      let arms_at : ℕ = at + 2 + here.trees in
      let names = map (λ (arm : CaseArm InScope). arm.member) (known_cases arms) in
      let us = known_types (case_bodies scope (known_cases arms)) in
      let test = empty_first condition _ clean in
      let behind = empty_second condition _ clean in
      let last = empty_second (case_arm_faults around scope arms_at (known_cases arms)) _ behind in
      let one = has (at + 2) scope locals e parts.0 (empty_first (here.faults (at + 2)) _ test) are
      in
      let found = enum_there scope here.type one.one names one.typed
      (met (may_be_enum here.type) (at + 2) TypeOther
      (empty_second (here.faults (at + 2)) _ test))
      (met (are_listed (members_wanted around here.type) names) at NotListed
      (empty_first _ _ last)) in
      let fits = fits_branches us (met (all_agree us) at BranchesDiffer
      (empty_second (unless (are_listed (members_wanted around here.type) names) at NotListed) _
      last)) in
      gives_given types (type_of_branches us)
      (option_and_then (λ v. member_of_layer types (out-Value v))
      (value_of_expr (plainly decls locals) e))
      (λ member. means.case_arm member (2 + trees_of_expr e)
      (map (case_arm.map Stm Part part) (case_stms arms)) locals p) found.0
      (ap (option_and_then (λ v. member_of_layer types (out-Value v))) one.there ∙ found.1)
      (case_gives (type_of_branches us) found.0 (2 + trees_of_expr e) arms_at arms scope locals p
      found.2 parts.1
      (empty_first (case_arm_faults around scope arms_at (known_cases arms)) _ behind) fits are is)

  -- a value of a union, of which all constructors are listed
  union_there : (one : Option Ty) (v : Value) (names : List Name) →
      IsOfKnown types one v → may_be_union one ≡ true →
      are_listed (ctors_wanted around one) names ≡ true →
      (made : MadeWith) × (made_of_layer types (out-Value v) ≡ Some made)
      × IsNamed made.ctor names × IsOfKnown types (payload_type made.ctor) made.payload
  union_there None v names is union listed = absurd is
  union_there (Some (ty.Union p)) v names is union listed =
      let found = tables.ctor p v is in (
        found.0,
        found.1,
        named_in found.0.ctor (names_that (is_ctor_of p) around) names listed found.2,
        found.3,
      )
  union_there (Some ty.Unit) v names is union listed = absurd (false≢true union)
  union_there (Some ty.Bool) v names is union listed = absurd (false≢true union)
  union_there (Some (ty.Bits w)) v names is union listed = absurd (false≢true union)
  union_there (Some (ty.Enum p)) v names is union listed = absurd (false≢true union)
  union_there (Some (ty.Rec p)) v names is union listed = absurd (false≢true union)

  match_layer : (e : Expr) (arms : List (MatchArm TypedStm)) →
      LayerAt (Match e (match_stms arms))
  match_layer e arms at scope locals p formed clean are is =
      let parts = and_parts (is_formed_expr e) _ formed in
      let here = plain around scope e in
      let condition = condition_faults may_be_union (at + 2) here in
      let arms_at : ℕ = at + 2 + here.trees in
      let names = map (λ (arm : MatchArm InScope). arm.ctor) (known_matches arms) in
      let us = known_types (match_bodies around scope (known_matches arms)) in
      let test = empty_first condition _ clean in
      let behind = empty_second condition _ clean in
      let last = empty_second (match_arm_faults around scope arms_at (known_matches arms)) _ behind
      in
      let one = has (at + 2) scope locals e parts.0 (empty_first (here.faults (at + 2)) _ test) are
      in
      let found = union_there here.type one.one names one.typed
      (met (may_be_union here.type) (at + 2) TypeOther
      (empty_second (here.faults (at + 2)) _ test))
      (met (are_listed (ctors_wanted around here.type) names) at NotListed
      (empty_first _ _ last)) in
      let fits = fits_branches us (met (all_agree us) at BranchesDiffer
      (empty_second (unless (are_listed (ctors_wanted around here.type) names) at NotListed) _
      last)) in
      gives_given types (type_of_branches us)
      (option_and_then (λ v. made_of_layer types (out-Value v))
      (value_of_expr (plainly decls locals) e))
      (λ made. means.match_arm made (2 + trees_of_expr e)
      (map (match_arm.map Stm Part part) (match_stms arms)) locals p) found.0
      (ap (option_and_then (λ v. made_of_layer types (out-Value v))) one.there ∙ found.1)
      (match_gives (type_of_branches us) found.0 (2 + trees_of_expr e) arms_at arms scope locals p
      found.3 found.2 parts.1
      (empty_first (match_arm_faults around scope arms_at (known_matches arms)) _ behind) fits are
      is)

  write_gives : (r : Name) (e : Expr) → LayerAt (Write r e)
  write_gives r e at scope locals p formed clean are is =
      let here = plain around scope e in
      let behind = empty_second (unknown (at + 2) (meant a_register around r)) _ clean in
      let one = has (at + 3) scope locals e (and_parts (is_name r) (is_formed_expr e) formed).1
      (empty_first (here.faults (at + 3)) _ behind) are in
      let next = tables.write r one.one here.type p.state is
      (met (is_some (meant a_register around r)) (at + 2) NameUnknown (empty_first _ _ clean))
      (met (agree (type_of_register around r) here.type) (at + 3) TypeOther
      (empty_second (here.faults (at + 3)) _ behind)) one.typed in
      gives_given types (Some ty.Unit)
      (option_and_then (λ v. written decls r v p.state) (value_of_expr (plainly decls locals) e))
      (λ state. done_in state p) next.0
      (ap (option_and_then (λ v. written decls r v p.state)) one.there ∙ next.1) unit_is

  loaded_gives : (m : Memory) (i : ℕ) (p : Progress) → memory_of decls ≡ Some m →
      IsState decls p.state →
      Gives types (Some (ty.Bits m.cell_width)) (loaded m.cell_width (cell_at p.state i) p)
  loaded_gives m i p there is = by (cell_at p.state i) refl where
    by : (o : Option ℕ) → cell_at p.state i ≡ o →
        Gives types (Some (ty.Bits m.cell_width)) (loaded m.cell_width o p)
    by None at = tt
    by (Some n) at = (bits types m.cell_width (Number m.cell_width n)).1
        (n, refl, tables.cell m i n p.state there is at)

  stored_gives : (i n : ℕ) (o : Option ℕ) (p : Progress) →
      Gives types (Some ty.Unit) (stored i n o p)
  stored_gives i n None p = tt
  stored_gives i n (Some before) p = unit_is

  load_gives : (index : Expr) → LayerAt (Load index)
  load_gives index at scope locals p formed clean are is =
      let here = plain around scope index in
      let memory = tables.memory (met (is_some (memory_before around)) at MemoryMissing
      (empty_first (without_memory around at) _ clean)) in
      let m = memory.0 in
      let behind = empty_second (without_memory around at) _ clean in
      let i = number_there m.index_width (index_type around) (at + 2) scope locals index formed
      memory.2 (empty_first (here.faults (at + 2)) _ behind)
      (empty_second (here.faults (at + 2)) _ behind) are in
      subst (λ (t : Option Ty). Gives types t (does_of decls calls (Load index) locals p))
      (sym memory.3)
      (gives_given types (Some (ty.Bits m.cell_width)) (memory_of decls) (λ (memory : Memory).
      given (number_for decls memory.index_width locals index) (λ i.
      loaded memory.cell_width (cell_at p.state i) p)) m memory.1
      (gives_given types (Some (ty.Bits m.cell_width)) (number_for decls m.index_width locals index)
      (λ i. loaded m.cell_width (cell_at p.state i) p) i.0 i.1
      (loaded_gives m i.0 p memory.1 is)))

  store_gives : (index e : Expr) → LayerAt (Store index e)
  store_gives index e at scope locals p formed clean are is =
      let parts = and_parts (is_formed_expr index) (is_formed_expr e) formed in
      let here = plain around scope index in
      let value = plain around scope e in
      let value_at : ℕ = at + 2 + here.trees in
      let memory = tables.memory (met (is_some (memory_before around)) at MemoryMissing
      (empty_first (without_memory around at) _ clean)) in
      let m = memory.0 in
      let one = empty_second (without_memory around at) _ clean in
      let two = empty_second (here.faults (at + 2)) _ one in
      let three = empty_second (wanting (index_type around) (at + 2) here.type) _ two in
      let i = number_there m.index_width (index_type around) (at + 2) scope locals index parts.0
      memory.2 (empty_first (here.faults (at + 2)) _ one)
      (empty_first (wanting (index_type around) (at + 2) here.type) _ two) are in
      let n = number_there m.cell_width (cell_type around) value_at scope locals e parts.1
      memory.3 (empty_first (value.faults value_at) _ three)
      (empty_second (value.faults value_at) _ three) are in
      gives_given types (Some ty.Unit) (memory_of decls) (λ (memory : Memory).
      given (number_for decls memory.index_width locals index) (λ i.
      given (number_for decls memory.cell_width locals e) (λ n.
      stored i n (cell_at p.state i) p))) m memory.1
      (gives_given types (Some ty.Unit) (number_for decls m.index_width locals index) (λ i.
      given (number_for decls m.cell_width locals e) (λ n. stored i n (cell_at p.state i) p)) i.0
      i.1
      (gives_given types (Some ty.Unit) (number_for decls m.cell_width locals e)
      (λ n. stored i.0 n (cell_at p.state i.0) p) n.0 n.1
      (stored_gives i.0 n.0 (cell_at p.state i.0) p)))

  -- the arguments of a call, of the types of the parameters
  args_there : (wanted : List (Option Ty)) (at : ℕ) (scope : Scope) (locals : Locals)
      (args : List Expr) → AllByRecursion (λ (t : Option Ty). is_some t ≡ true) wanted →
      length args ≡ length wanted → every (map is_formed_expr args) ≡ true →
      arg_faults wanted at (plains around scope args) ≡ [] → AreOfScope types scope locals →
      (vs : List Value) × (values_of_exprs (plainly decls locals) args ≡ Some vs)
      × AllZip (IsOfKnown types) wanted vs
  args_there [] at scope locals [] fixed count formed clean are = ([], refl, tt)
  args_there [] at scope locals (e ∷ args) fixed count formed clean are =
      absurd (omega (arith, count))
  args_there (None ∷ wanted) at scope locals args fixed count formed clean are =
      absurd (false≢true fixed.0)
  args_there (Some t ∷ wanted) at scope locals [] fixed count formed clean are =
      absurd (omega (arith, count))
  args_there (Some t ∷ wanted) at scope locals (e ∷ args) fixed count formed clean are =
      let here = plain around scope e in
      let parts = and_parts (is_formed_expr e) (every (map is_formed_expr args)) formed in
      let behind = empty_second (here.faults at) _ clean in
      let one = value_there t at scope locals e parts.0 (empty_first (here.faults at) _ clean)
      (met (agree (Some t) here.type) at TypeOther
      (empty_first (wanting (Some t) at here.type) _ behind)) are in
      let rest = args_there wanted (at + here.trees) scope locals args fixed.1
      (omega (arith, count)) parts.1 (empty_second (wanting (Some t) at here.type) _ behind) are in (
        one.0 ∷ rest.0,
        ap (option_and_then (λ x. option_map (λ xs. x ∷ xs)
            (values_of_exprs (plainly decls locals) args))) one.1
            ∙ ap (option_map (λ xs. one.0 ∷ xs)) rest.1,
        (one.2, rest.2),
      )

  call_gives : (f : Name) (args : List Expr) → LayerAt (Call f args)
  call_gives f args at scope locals p formed clean are is =
      by (meant a_function around f) refl
      (and_parts (is_name f) (are_formed_exprs args) formed).1 clean where
        by : (o : Option FunctionSeen) → meant a_function around f ≡ o →
            are_formed_exprs args ≡ true →
            unknown (at + 2) o ++ given_faults (option_map (λ (seen : FunctionSeen). seen.params) o) at
            (plains around scope args) ≡ [] →
            Gives types (option_and_then (λ (seen : FunctionSeen). seen.result) o)
            (given (values_of_exprs (plainly decls locals) args)
            (λ values. at_site There (calls f values p)))
        by None found ready none = absurd (let e : false ≡ true = met false (at + 2) NameUnknown
            (empty_first _ _ none) in false≢true e)
        by (Some seen) found ready none =
            let many : length (plains around scope args) ≡ length seen.params =
            eqb-true (length (plains around scope args)) (length seen.params)
            (met (eqb (length (plains around scope args)) (length seen.params)) at CountOther
            (empty_first _ _ none)) in
            let count : length args ≡ length (types_of seen.params) =
            sym (length-map args (plain around scope)) ∙ many
            ∙ sym (length-map seen.params (λ (one : TypedName). one.type)) in
            let vs = args_there (types_of seen.params) (at + 3) scope locals args
            (tables.params f seen found) count ready
            (empty_second (unless (eqb (length (plains around scope args)) (length seen.params)) at
            CountOther) _ none) are in
            gives_given types seen.result (values_of_exprs (plainly decls locals) args)
            (λ values. at_site There (calls f values p)) vs.0 vs.1
            (gives_at types seen.result There (calls f vs.0 p)
            (calls_give f seen vs.0 p found vs.2 is))

  check_gives : (e : Expr) → LayerAt (Check e)
  check_gives e at scope locals p formed clean are is =
      let one = truth_there (at + 2) scope locals e formed clean are in
      gives_given types (Some ty.Unit) (truth_for decls locals e)
      (λ holds. if holds then Done UnitValue p else Fail (Here 0)) one.0 one.1
      (gives_either types (Some ty.Unit) one.0 (Done UnitValue p) (Fail (Here 0)) unit_is tt)

  layer_gives : (y : Stm-F TypedStm) → LayerAt (first y)
  layer_gives (Ret e) at scope locals p formed clean are is =
      ret_gives (plain around scope e).type (value_of_expr (plainly decls locals) e) p
      (has (at + 2) scope locals e formed clean are)
  layer_gives (Let x a b) at scope locals p formed clean are is =
      let_gives x a b at scope locals p formed clean are is
  layer_gives (Seq ss) at scope locals p formed clean are is =
      let parts = and_parts (is_nonempty (map is_formed_stm (stms ss)))
      (every (map is_formed_stm (stms ss))) formed in
      sequence_gives 2 (at + 2) ss scope locals p parts.0 parts.1 clean are is
  layer_gives (If test a b) at scope locals p formed clean are is =
      if_gives test a b at scope locals p formed clean are is
  layer_gives (Case e arms) at scope locals p formed clean are is =
      case_layer e arms at scope locals p formed clean are is
  layer_gives (Match e arms) at scope locals p formed clean are is =
      match_layer e arms at scope locals p formed clean are is
  layer_gives (Read r) at scope locals p formed clean are is =
      ret_gives (type_of_register around r) (register_value decls r p.state.registers) p
      (tables.read r p.state is
      (met (is_some (meant a_register around r)) (at + 2) NameUnknown clean))
  layer_gives (Write r e) at scope locals p formed clean are is =
      write_gives r e at scope locals p formed clean are is
  layer_gives (Load index) at scope locals p formed clean are is =
      load_gives index at scope locals p formed clean are is
  layer_gives (Store index e) at scope locals p formed clean are is =
      store_gives index e at scope locals p formed clean are is
  layer_gives (Call f args) at scope locals p formed clean are is =
      call_gives f args at scope locals p formed clean are is
  layer_gives (Check e) at scope locals p formed clean are is =
      check_gives e at scope locals p formed clean are is
  layer_gives FailStm at scope locals p formed clean are is = tt
  layer_gives (Open name inputs) at scope locals p formed clean are is = unit_is
  layer_gives (Close name inputs) at scope locals p formed clean are is = unit_is
  layer_gives (Lemma name args) at scope locals p formed clean are is = unit_is

  -- from a layer to its statement
  rolled : (x : Stm-F Stm) → LayerAt x → IsTypedStm (roll-Stm x)
  rolled x here =
      subst (λ (b : Bool). At b (known (roll-Stm x)) (part (roll-Stm x)).does)
      (sym (fold-roll-Stm Bool stm_formed x))
      (subst (λ (i : InScope). At (stm_formed (map-Stm Stm Bool is_formed_stm x)) i
      (part (roll-Stm x)).does) (sym (fold-roll-Stm InScope (stm_known around) x))
      (subst (λ (d : Part). At (stm_formed (map-Stm Stm Bool is_formed_stm x))
      (stm_known around (map-Stm Stm InScope known x)) d.does)
      (sym (fold-roll-Stm Part (part_of decls calls) x)) here))

  pub statements_give : (s : Stm) → IsTypedStm s
  statements_give = ind-Stm IsTypedStm (λ x y is. rolled x (subst LayerAt is (layer_gives y)))
