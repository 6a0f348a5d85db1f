-- A specification is typed where it has no first fault of typing, and nowhere else.
use Rattle.std.proofs.Common.{◌≡◌, ℕ, ◌+◌, List, [], ◌∷◌, Option, None, Some, Result, Ok, Err, ◌⊎◌, inl, inr, refl, ap, sym, subst, ◌∙◌}
use Rattle.std.specs.Prelude.{MatchOption}
use Rattle.std.specs.List.{AllByRecursion}
use Rattle.kat_ast.specs.Spec.{Spec}
use Rattle.kat_syntax.specs.TypeRules.{Fault as TreeFault, least_of}
use Rattle.kat_syntax.specs.FirstTypeFault.{TypeFault, IsTyped, IsFirstTypeFault, first_type_fault, first_from, or_first, type_faults}
use Rattle.kat_top.specs.declared.inputs.InputError.{InputError}
use Rattle.kat_top.specs.declared.inputs.InputError.TheVariants as why
use Rattle.kat_top.specs.Inputs.{ASpec, AModed, Thing, TheSpec, TheModed, IsNotModed, IsNotTyped, IsTypedAndModed}
use Rattle.kat_top.specs.Loading.{ComesOf, IsJudged, IsThisOrMemory, as_thing}

no_first : (k : ℕ) (all : List (List TreeFault)) → AllByRecursion (λ (faults : List TreeFault). faults ≡ []) all → first_from k all ≡ None
no_first k [] none = refl
no_first k (faults ∷ more) none =
    ap (λ fs. or_first k (least_of fs) (first_from (k + 1) more)) none.0 ∙ no_first (k + 1) more none.1

typed_by : (spec : Spec) (first : Option TypeFault) → first_type_fault spec ≡ first → MatchOption first (IsTyped spec) (IsFirstTypeFault spec) →
    MatchOption first (IsTyped spec) (λ found. IsTyped spec → ⊥)
typed_by spec None is typed = typed
typed_by spec (Some found) is first = λ typed. let none = sym is ∙ no_first 0 (type_faults spec) typed in absurd (cc)

pub typed_or_not : (spec : Spec) → MatchOption (first_type_fault spec) (IsTyped spec) (IsFirstTypeFault spec) →
    MatchOption (first_type_fault spec) (IsTyped spec) (λ found. IsTyped spec → ⊥)
typed_or_not spec least = typed_by spec (first_type_fault spec) refl least

-- what comes of a file that is to be typed and moded, from what comes of its specification, which is
-- so
pub judged_read : (earlier : List Thing) (bytes : List ℕ) (spec : Spec) →
    ComesOf earlier ASpec bytes (Ok (TheSpec spec)) → IsTypedAndModed spec →
    ComesOf earlier AModed bytes (Ok (TheModed spec))
judged_read earlier bytes spec (s, is, reads) passes =
    let e : spec ≡ s = cc in
    (s, ap TheModed e, record { reads = reads; passes = subst IsTypedAndModed e passes })

-- the same of one that is not
pub not_judged : (earlier : List Thing) (bytes : List ℕ) (spec : Spec) (error : InputError) →
    ComesOf earlier ASpec bytes (Ok (TheSpec spec)) → IsJudged spec (Err error) →
    ComesOf earlier AModed bytes (Err error)
not_judged earlier bytes spec (why.Fault said) (s, is, reads) first =
    let e : spec ≡ s = cc in
    inl (record {
      spec = s;
      reads = reads;
      first = subst (λ t. IsNotTyped t said ⊎ IsNotModed t said) e first;
    })
not_judged earlier bytes spec why.Memory comes first = tt

-- a specification comes with its tables as it comes without
pub with_tables_read : (earlier : List Thing) (bytes : List ℕ) (spec : Spec)
    (outcome : Result Spec InputError) → ComesOf earlier AModed bytes (Ok (TheModed spec)) →
    IsThisOrMemory spec outcome → ComesOf earlier AModed bytes (as_thing TheModed outcome)
with_tables_read earlier bytes spec (Ok moded) comes is =
    subst (λ m. ComesOf earlier AModed bytes (Ok (TheModed m))) (sym is) comes
with_tables_read earlier bytes spec (Err error) comes is =
    subst (λ e. ComesOf earlier AModed bytes (Err e)) (sym is) tt

-- where there is no first fault of typing a specification is typed
pub typed_where_none : (spec : Spec) →
    MatchOption (first_type_fault spec) (IsTyped spec) (IsFirstTypeFault spec) →
    None ≡ first_type_fault spec → IsTyped spec
typed_where_none spec least none =
    subst (λ first. MatchOption first (IsTyped spec) (IsFirstTypeFault spec)) (sym none) least

pub not_moded : (earlier : List Thing) (bytes : List ℕ) (error : InputError) → ComesOf earlier ASpec bytes (Err error) → ComesOf earlier AModed bytes (Err error)
not_moded earlier bytes (why.Fault said) comes = inr comes
not_moded earlier bytes why.Memory comes = tt
