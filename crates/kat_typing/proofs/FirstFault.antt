-- The first fault, declaration by declaration.
use Rattle.std.proofs.Common.{◌≡◌, ℕ, ◌+◌, ◌<◌, List, [], ◌∷◌, drop, length, get_or, Option, None, Some, refl, sym, ap, ◌∙◌, arith}
use Rattle.std.proofs.lemmas.List.{drop_more, drop_all}
use Rattle.kat_ast.specs.declared.decl.DeclForm.{DeclForm}
use Rattle.kat_syntax.specs.TypeRules.{Fault, least_of}
use Rattle.kat_syntax.specs.TypingDeclarations.{decl_faults}
use Rattle.kat_syntax.specs.FirstTypeFault.{TypeFault, first_from, faults_from, missing_faults, or_first}
use Rattle.kat_typing.specs.declared.limits.Totals.{Totals}
use Rattle.kat_typing.specs.Faults.{fault_at}
use Rattle.kat_typing.specs.Totals.{IsTotals}

-- no fault stands in the first k declarations, and the totals are theirs
pub record SoFar (decls : List DeclForm) (k : ℕ) (totals : Totals) : Type 0 where
  pub totals_are : IsTotals (record { decls = decls; number = k }) totals
  pub none : first_from k (faults_from decls k (drop k decls))
      ≡ first_from 0 (faults_from decls 0 decls)

pub at_first : (decls : List DeclForm) (totals : Totals) →
    IsTotals (record { decls = decls; number = 0 }) totals → SoFar decls 0 totals
at_first decls totals are = record { totals_are = are; none = refl }

-- without a fault here, the first is one of those behind
none_here : (k : ℕ) (here : Option Fault) (later : Option TypeFault) →
    None ≡ or_first k here None → or_first k here later ≡ later
none_here k None later is = refl
none_here k (Some fault) later is = absurd (cc)

-- a fault here is the first
some_here : (k : ℕ) (here : Option Fault) (later : Option TypeFault) (fault : TypeFault) →
    Some fault ≡ or_first k here None → Some fault ≡ or_first k here later
some_here k None later fault is = absurd (cc)
some_here k (Some one) later fault is = is

-- the first fault from the declaration of this number on
from_here : (decls : List DeclForm) (k : ℕ) (decl : DeclForm) → k < length decls →
    decl ≡ get_or decls k decl →
    first_from k (faults_from decls k (drop k decls))
    ≡ or_first k (least_of (decl_faults (record { decls = decls; number = k }) decl))
    (first_from (k + 1) (faults_from decls (k + 1) (drop (k + 1) decls)))
from_here decls k decl within is =
    ap (λ rest. first_from k (faults_from decls k rest))
    (drop_more decls k decl within ∙ ap (λ one. one ∷ drop (k + 1) decls) (sym is))

-- a declaration without a fault
pub further : (decls : List DeclForm) (k : ℕ) (decl : DeclForm) (totals more : Totals) →
    SoFar decls k totals → k < length decls → decl ≡ get_or decls k decl →
    None ≡ fault_at decls k decl →
    IsTotals (record { decls = decls; number = k + 1 }) more → SoFar decls (k + 1) more
further decls k decl totals more so within is none are = record {
  totals_are = are;
  none =
      sym (none_here k (least_of (decl_faults (record { decls = decls; number = k }) decl))
      (first_from (k + 1) (faults_from decls (k + 1) (drop (k + 1) decls))) none)
      ∙ sym (from_here decls k decl within is)
      ∙ so.none;
}

-- the first declaration that has one
pub found : (decls : List DeclForm) (k : ℕ) (decl : DeclForm) (totals : Totals)
    (fault : TypeFault) →
    SoFar decls k totals → k < length decls → decl ≡ get_or decls k decl →
    Some fault ≡ fault_at decls k decl →
    Some fault ≡ first_from 0 (faults_from decls 0 decls)
found decls k decl totals fault so within is some =
    some_here k (least_of (decl_faults (record { decls = decls; number = k }) decl))
    (first_from (k + 1) (faults_from decls (k + 1) (drop (k + 1) decls))) fault some
    ∙ sym (from_here decls k decl within is)
    ∙ so.none

-- no declaration has one
pub at_end : (decls : List DeclForm) (k : ℕ) (totals : Totals) (result : Option TypeFault) →
    SoFar decls k totals → k ≡ length decls →
    result ≡ first_from (length decls) (missing_faults decls ∷ []) →
    result ≡ first_from 0 (faults_from decls 0 decls)
at_end decls k totals result so all is =
    is
    ∙ ap (λ n. first_from n (missing_faults decls ∷ [])) (sym all)
    ∙ sym (ap (λ rest. first_from k (faults_from decls k rest))
    (drop_all k decls (omega (arith, all))))
    ∙ so.none
