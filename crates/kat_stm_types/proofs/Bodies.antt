-- What is told of the parts of a statement that has statements in it.
use Rattle.std.proofs.Common.{◌≡◌, ℕ, ◌+◌, ◌≤◌, List, [], ◌∷◌, map, sum, sum_by, sym, ap, ◌∙◌, refl, subst, arith, Bool, Option, Some, None}
use Rattle.kat_value.specs.declared.types.Ty.{Ty}
use Rattle.kat_value.specs.declared.types.Ty.TheVariants as ty
use Rattle.kat_value.specs.Signatures.{agree}
use Rattle.kat_ast.specs.declared.expr.Expr.{Expr}
use Rattle.kat_ast.specs.declared.stm.Stm.{Stm}
use Rattle.kat_ast.specs.declared.stm.CaseArm.{CaseArm}
use Rattle.kat_ast.specs.declared.stm.MatchArm.{MatchArm}
use Rattle.kat_ast.specs.declared.stm.Stm.TheShapes.{former-Stm-Case-1-at-2 as case_arm, former-Stm-Match-1-at-3 as match_arm}
use Rattle.kat_ast.specs.declared.stm.Stm.TheVariants as stm
use Rattle.kat_ast.specs.declared.stm.Stm.TheOpen.{Stm-F, Ret, Let, Seq, If, Case, Match, Read, Write, Load, Store, Call, Check, Fail, Open, Close, Lemma}
use Rattle.kat_ast.specs.declared.stm.Stm.TheViews.{outs-Let, outs-Seq, outs-If}
use Rattle.kat_ast.specs.declared.stm.Stm.TheFolds.{map-Stm, fold-roll-Stm, ind-Stm}
use Rattle.kat_ast.specs.Expressions.{trees_of_expr}
use Rattle.kat_ast.specs.Statements.{trees_of_case_arm, trees_of_match_arm, stm_trees, trees_of_stm, trees_of_stms}
use Rattle.kat_syntax.specs.Tables.{Name}
use Rattle.kat_syntax.specs.declared.type_rule.TypeRule.TheVariants.{BranchesDiffer}
use Rattle.kat_syntax.specs.TypeRules.{Fault, least_with, unless}
use Rattle.kat_syntax.specs.Declares.{TypedName}
use Rattle.kat_syntax.specs.Around.{Around}
use Rattle.kat_syntax.specs.TypesWritten.{Scope, hiding}
use Rattle.kat_syntax.specs.TypingExpressions.{Known, Plain as PlainStanding, parts_faults}
use Rattle.kat_syntax.specs.TypingStatements.{InScope, plain, condition_faults, last_type, type_of_branches, all_agree, stm_known, known_of_stm}
use Rattle.kat_expr_types.specs.declared.setting.Known.{Known as KnownHere}
use Rattle.kat_expr_types.specs.Judging.{Tells}
use Rattle.kat_stm_types.specs.declared.branches.Branches.{Branches}
use Rattle.kat_stm_types.specs.Branches.{IsBranches}
use Rattle.kat_stm_types.proofs.Noting.{least_both, both_noted, trees_known, sum-cons}
use Rattle.kat_stm_types.proofs.Statements.{tells_at, made}

-- one arm of a `case` with its count
abbrev one_case : Name → ℕ → CaseArm ℕ
one_case m n = record { member = m; body = n }

-- one arm of a `match` with its count
abbrev one_match : Name → Name → ℕ → MatchArm ℕ
one_match k x n = record { ctor = k; payload = x; body = n }

module _ (around : Around) where
  abbrev known : Stm → InScope
  known = known_of_stm around

  abbrev HasTrees : Stm → Type 0
  HasTrees s = (scope : Scope) → (known s scope).trees ≡ trees_of_stm s

  abbrev Counted : Type 0
  Counted = (s : Stm) × HasTrees s

  parts_counted : (scope : Scope) (parts : List Counted) →
      map (λ (part : InScope). (part scope).trees) (map known (map (λ a. a.0) parts))
      ≡ map trees_of_stm (map (λ a. a.0) parts)
  parts_counted scope [] = refl
  parts_counted scope (part ∷ parts) =
      let here = part.1 scope in let more = parts_counted scope parts in cc

  case_counted : (scope : Scope) (arms : List (CaseArm Counted)) →
      map (case_arm.map InScope ℕ (λ part. (part scope).trees))
      (map (case_arm.map Stm InScope known) (map (case_arm.map Counted Stm (λ a. a.0)) arms))
      ≡ map (case_arm.map Stm ℕ trees_of_stm) (map (case_arm.map Counted Stm (λ a. a.0)) arms)
  case_counted scope [] = refl
  case_counted scope (arm ∷ arms) =
      ap (λ n. one_case arm.member n ∷ map (case_arm.map InScope ℕ (λ part. (part scope).trees))
      (map (case_arm.map Stm InScope known) (map (case_arm.map Counted Stm (λ a. a.0)) arms)))
      (arm.body.1 scope)
      ∙ ap (λ more. one_case arm.member (trees_of_stm arm.body.0) ∷ more) (case_counted scope arms)

  match_counted : (scope : Scope) (arms : List (MatchArm Counted)) →
      map (match_arm.map InScope ℕ (λ part. (part scope).trees))
      (map (match_arm.map Stm InScope known) (map (match_arm.map Counted Stm (λ a. a.0)) arms))
      ≡ map (match_arm.map Stm ℕ trees_of_stm) (map (match_arm.map Counted Stm (λ a. a.0)) arms)
  match_counted scope [] = refl
  match_counted scope (arm ∷ arms) =
      ap (λ n. one_match arm.ctor arm.payload n ∷ map
      (match_arm.map InScope ℕ (λ part. (part scope).trees))
      (map (match_arm.map Stm InScope known) (map (match_arm.map Counted Stm (λ a. a.0)) arms)))
      (arm.body.1 scope)
      ∙ ap (λ more. one_match arm.ctor arm.payload (trees_of_stm arm.body.0) ∷ more)
      (match_counted scope arms)

  layer_counted : (scope : Scope) (y : Stm-F Counted) →
      stm_trees (map-Stm InScope ℕ (λ part. (part scope).trees)
      (map-Stm Stm InScope known (map-Stm Counted Stm (λ a. a.0) y)))
      ≡ stm_trees (map-Stm Stm ℕ trees_of_stm (map-Stm Counted Stm (λ a. a.0) y))
  layer_counted scope (Ret e) = refl
  layer_counted scope (Let x a b) =
      ap (λ n. 3 + n + (known b.0 scope).trees) (a.1 scope)
      ∙ ap (λ n. 3 + trees_of_stm a.0 + n) (b.1 scope)
  layer_counted scope (Seq parts) = ap (λ ns. 2 + sum ns) (parts_counted scope parts)
  layer_counted scope (If e a b) =
      ap (λ n. 2 + trees_of_expr e + n + (known b.0 scope).trees) (a.1 scope)
      ∙ ap (λ n. 2 + trees_of_expr e + trees_of_stm a.0 + n) (b.1 scope)
  layer_counted scope (Case e arms) = ap (λ ns. 2 + trees_of_expr e + sum_by trees_of_case_arm ns)
      (case_counted scope arms)
  layer_counted scope (Match e arms) = ap (λ ns. 2 + trees_of_expr e + sum_by trees_of_match_arm ns)
      (match_counted scope arms)
  layer_counted scope (Read r) = refl
  layer_counted scope (Write r e) = refl
  layer_counted scope (Load index) = refl
  layer_counted scope (Store index e) = refl
  layer_counted scope (Call f args) = refl
  layer_counted scope (Check e) = refl
  layer_counted scope Fail = refl
  layer_counted scope (Open p inputs) = refl
  layer_counted scope (Close p inputs) = refl
  layer_counted scope (Lemma l args) = refl

  pub trees_of_known : (s : Stm) (scope : Scope) → (known s scope).trees ≡ trees_of_stm s
  trees_of_known = ind-Stm HasTrees (λ x y is scope.
      ap (λ (k : InScope). (k scope).trees) (fold-roll-Stm InScope (stm_known around) x)
      ∙ subst (λ z. stm_trees (map-Stm InScope ℕ (λ part. (part scope).trees)
      (map-Stm Stm InScope known z)) ≡ stm_trees (map-Stm Stm ℕ trees_of_stm z)) is
      (layer_counted scope y)
      ∙ sym (fold-roll-Stm ℕ stm_trees x))

-- the trees that are told of a statement
pub trees_told : (around : Around) (s : Stm) (scope : Scope) (at : ℕ) (told : KnownHere)
    (old new : Option Fault) →
    Tells (known_of_stm around s scope) at told old new → told.trees ≡ trees_of_stm s
trees_told around s scope at told old new tells = tells.trees ∙ trees_of_known around s scope

-- a name with its type
abbrev local : Name → Option Ty → TypedName
local x type = record { name = x; type = type }

pub let_told : (around : Around) (scope inner : Scope) (x : Name) (first second : Stm) (at : ℕ)
    (value told result : KnownHere) (old a b new : Option Fault) →
    a ≡ least_with old (hiding around scope (at + 2) x) →
    Tells (known_of_stm around first scope) (at + 3) value a b →
    inner ≡ record { name = x; type = value.ty } ∷ scope →
    Tells (known_of_stm around second inner) (at + 3 + value.trees) told b new →
    result ≡ record { trees = 3 + value.trees + told.trees; ty = told.ty } →
    Tells (known_of_stm around (stm.Let x first second) scope) at result old new
let_told around scope inner x first second at value told result old a b new hidden one inner_is two
    is =
    let here : Scope = local x (known_of_stm around first scope).type ∷ scope in
    let within : Tells (known_of_stm around second here) (at + 3 + value.trees) told b new =
    subst (λ i. Tells (known_of_stm around second i) (at + 3 + value.trees) told b new)
    (inner_is ∙ ap (λ t. local x t ∷ scope) one.type) two in
    let placed : Tells (known_of_stm around second here)
    (at + 3 + (known_of_stm around first scope).trees) told b new =
    subst (λ n. Tells (known_of_stm around second here) (at + 3 + n) told b new) one.trees within in
    let trees_are : result.trees ≡ 3 + value.trees + told.trees = (made
    (3 + value.trees + told.trees) told.ty result is).0 in
    tells_at around scope (stm.Let x first second) (Let x first second) at result old new
    (outs-Let x first second) (record {
      trees = omega (
        arith,
        trees_are,
        one.trees,
        trees_told around second inner _ told b new two,
        trees_of_known around second scope,
      );
      type = (made (3 + value.trees + told.trees) told.ty result is).1 ∙ placed.type;
      faults =
          both_noted old a new (hiding around scope (at + 2) x) _ hidden
          (both_noted a b new ((known_of_stm around first scope).faults (at + 3)) _ one.faults
          placed.faults);
    })

-- branches by their own count
pub own_trees : (types : List (Option Ty)) (n : ℕ) (seen : Branches) → IsBranches types n seen →
    IsBranches types seen.trees seen
own_trees types n seen is = record { first = is.first; agrees = is.agrees; counted = refl }

pub if_told : (around : Around) (scope : Scope) (e : Expr) (first second : Stm) (at t : ℕ)
    (one two result : KnownHere) (old a b d new : Option Fault) (seen : Branches)
    (type : Option Ty) →
    t ≡ trees_of_expr e →
    a ≡ least_with old (condition_faults (agree (Some ty.Bool)) (at + 2) (plain around scope e)) →
    Tells (known_of_stm around first scope) (at + (2 + t)) one a b →
    Tells (known_of_stm around second scope) (at + (2 + t) + one.trees) two b d →
    IsBranches (one.ty ∷ two.ty ∷ []) (one.trees + two.trees) seen →
    new ≡ least_with d (unless seen.agrees at BranchesDiffer) →
    type ≡ type_of_branches (one.ty ∷ two.ty ∷ []) →
    result ≡ record { trees = 2 + t + seen.trees; ty = type } →
    Tells (known_of_stm around (stm.If e first second) scope) at result old new
if_told around scope e first second at t one two result old a b d new seen type t_is tested first_is
    second_is branches differ type_is is =
    let p : ℕ = (plain around scope e).trees in
    let counted : p ≡ trees_of_expr e = trees_known around PlainStanding scope e in
    let k : Known = known_of_stm around first scope in
    let l : Known = known_of_stm around second scope in
    let first_placed : Tells k (at + 2 + p) one a b =
    subst (λ n. Tells k n one a b) (let q : at + (2 + t) ≡ at + 2 + p = omega (arith, t_is, counted)
    in q) first_is in
    let second_placed : Tells l (at + 2 + p + k.trees) two b d =
    subst (λ n. Tells l n two b d) (let q : at + (2 + t) + one.trees ≡ at + 2 + p + k.trees = omega
    (arith, t_is, counted, first_is.trees) in q) second_is in
    let types_are : one.ty ∷ two.ty ∷ [] ≡ k.type ∷ l.type ∷ [] =
    ap (λ x. x ∷ two.ty ∷ []) first_is.type ∙ ap (λ x. k.type ∷ x ∷ []) second_is.type in
    let trees_are : result.trees ≡ 2 + t + seen.trees = (made (2 + t + seen.trees) type result is).0
    in
    let parted : d ≡ least_with a (parts_faults (at + 2 + p) (k ∷ l ∷ [])) =
    both_noted a b d (k.faults (at + 2 + p)) _ first_placed.faults
    (both_noted b d d (l.faults (at + 2 + p + k.trees)) [] second_placed.faults refl) in
    tells_at around scope (stm.If e first second) (If e first second) at result old new
    (outs-If e first second) (record {
      trees = omega (arith, trees_are, t_is, branches.counted, first_is.trees, second_is.trees);
      type = (made (2 + t + seen.trees) type result is).1 ∙ type_is ∙ ap type_of_branches types_are;
      faults =
          both_noted old a new (condition_faults (agree (Some ty.Bool)) (at + 2)
          (plain around scope e)) _ tested
          (both_noted a d new (parts_faults (at + 2 + p) (k ∷ l ∷ [])) _ parted
          (differ ∙ ap (λ (x : Bool). least_with d (unless x at BranchesDiffer)) (branches.agrees
          ∙ ap all_agree types_are)));
    })

-- the last type, where this one is before the others
abbrev last_behind : Option Ty → List (Option Ty) → Option Ty
last_behind type [] = type
last_behind type (next ∷ types) = last_behind next types

last_of_more : (type : Option Ty) (types : List (Option Ty)) →
    last_behind type types ≡ last_type (type ∷ types)
last_of_more type [] = refl
last_of_more type (next ∷ types) = last_of_more next types

last_of_all : (types : List (Option Ty)) → last_behind None types ≡ last_type types
last_of_all [] = refl
last_of_all (type ∷ types) = last_of_more type types

-- what is known of statements in a scope
abbrev pub all_here : Around → Scope → List Stm → List Known
all_here around scope parts = map (λ (part : Stm). known_of_stm around part scope) parts

-- their types
abbrev pub types_here : Around → Scope → List Stm → List (Option Ty)
types_here around scope parts = map (λ (part : Stm). (known_of_stm around part scope).type) parts

-- the parts of a `seq` that are judged, while the rest is to come
pub record SeqSoFar (around : Around) (scope : Scope) (at : ℕ) (all rest : List Stm)
    (told : KnownHere)
    (old now : Option Fault) : Type 0 where
  pub begun : 2 ≤ told.trees
  pub counted : told.trees + trees_of_stms rest ≡ 2 + trees_of_stms all
  pub typed : last_behind told.ty (types_here around scope rest) ≡ last_type
      (types_here around scope all)
  pub noted : least_with now (parts_faults (at + told.trees) (all_here around scope rest))
      ≡ least_with old (parts_faults (at + 2) (all_here around scope all))

pub seq_begins : (around : Around) (scope : Scope) (at : ℕ) (all : List Stm) (told : KnownHere)
    (old : Option Fault) →
    told ≡ record { trees = 2; ty = None } → SeqSoFar around scope at all all told old old
seq_begins around scope at all told old is = record {
  begun = omega (arith, (made 2 None told is).0);
  counted = omega (arith, (made 2 None told is).0);
  typed = ap (λ t. last_behind t (types_here around scope all)) (made 2 None told is).1
      ∙ last_of_all (types_here around scope all);
  noted = ap (λ n. least_with old (parts_faults (at + n) (all_here around scope all)))
      (made 2 None told is).0;
}

pub seq_goes_on : (around : Around) (scope : Scope) (at : ℕ) (all rest : List Stm) (part : Stm)
    (told one next : KnownHere)
    (old now new : Option Fault) →
    SeqSoFar around scope at all (part ∷ rest) told old now →
    Tells (known_of_stm around part scope) (at + told.trees) one now new →
    next ≡ record { trees = told.trees + one.trees; ty = one.ty } →
    SeqSoFar around scope at all rest next old new
seq_goes_on around scope at all rest part told one next old now new so tells is =
    let k : Known = known_of_stm around part scope in
    let trees_are : next.trees ≡ told.trees + one.trees = (made (told.trees + one.trees) one.ty next
    is).0 in
    record {
      begun = omega (arith, trees_are, so.begun);
      counted = omega (
        arith,
        trees_are,
        so.counted,
        trees_told around part scope _ one now new
            tells,
        sum-cons (trees_of_stm part) (map trees_of_stm rest),
      );
      typed = ap (λ t. last_behind t (types_here around scope rest))
          ((made (told.trees + one.trees) one.ty next is).1 ∙ tells.type) ∙ so.typed;
      noted =
          ap (λ f. least_with f (parts_faults (at + next.trees) (all_here around scope rest)))
          tells.faults
          ∙ ap (λ n. least_with (least_with now (k.faults (at + told.trees)))
          (parts_faults n (all_here around scope rest)))
          (let q : at + next.trees ≡ at + told.trees + k.trees = omega
          (arith, trees_are, tells.trees) in q)
          ∙ sym (least_both now (k.faults (at + told.trees))
          (parts_faults (at + told.trees + k.trees) (all_here around scope rest)))
          ∙ so.noted;
    }

module _ (around : Around) (scope : Scope) where
  all_fused : (parts : List Stm) →
      map (λ (part : InScope). part scope) (map (known_of_stm around) parts) ≡ all_here around scope
      parts
  all_fused [] = refl
  all_fused (part ∷ parts) = ap (λ more. known_of_stm around part scope ∷ more) (all_fused parts)

  types_fused : (parts : List Stm) →
      map (λ (part : InScope). (part scope).type) (map (known_of_stm around) parts) ≡ types_here
      around scope parts
  types_fused [] = refl
  types_fused (part ∷ parts) = ap (λ more. (known_of_stm around part scope).type ∷ more)
      (types_fused parts)

  trees_fused : (parts : List Stm) →
      map (λ (part : InScope). (part scope).trees) (map (known_of_stm around) parts) ≡ map
      trees_of_stm parts
  trees_fused [] = refl
  trees_fused (part ∷ parts) =
      let here = trees_of_known around part scope in let more = trees_fused parts in cc

pub seq_told : (around : Around) (scope : Scope) (at : ℕ) (all : List Stm) (told : KnownHere)
    (old now : Option Fault) →
    SeqSoFar around scope at all [] told old now →
    Tells (known_of_stm around (stm.Seq all) scope) at told old now
seq_told around scope at all told old now so =
    tells_at around scope (stm.Seq all) (Seq all) at told old now (outs-Seq all) (record {
      trees = omega (arith, so.counted, ap sum (trees_fused around scope all));
      type = so.typed ∙ ap last_type (sym (types_fused around scope all));
      faults = so.noted ∙ ap (λ ks. least_with old (parts_faults (at + 2) ks))
          (sym (all_fused around scope all));
    })
