-- Fresh values of fields, one after another.
use Rattle.std.proofs.Common.{◌≡◌, ◌∙◌, ℕ, suc, ◌+◌, ◌<◌, ◌≤◌, List, [], ◌∷◌, ◌++◌, length, take, drop, get_or, refl, ap, sym, arith}
use Rattle.std.proofs.Math.Seq.{drop-cons}
use Rattle.std.specs.Prelude.{Ok, Err}
use Rattle.std.proofs.lemmas.List.{append-nil, append_assoc, length-append}
use Rattle.kat_value.specs.declared.types.Field.{Field}
use Rattle.kat_value.specs.declared.types.Ty.{Ty}
use Rattle.kat_value.specs.declared.types.TypeDecl.{TypeDecl}
use Rattle.kat_term.specs.declared.fresh.GrowError.{GrowError}
use Rattle.kat_term.specs.declared.fresh.GrowError.TheVariants.{Vars, Memory}
use Rattle.kat_term.specs.declared.term.Term.{Term}
use Rattle.kat_term.specs.Fresh.{Fresh, FreshList, fresh_within, fresh_fields, fresh_record}
use Rattle.kat_term.specs.Growth.{PassesVars, AnswersFresh}
use Rattle.kat_term.specs.Limits.{max_vars}

-- the fresh values from a place of the fields on
abbrev pub rest_of : List TypeDecl → ℕ → List Field → List Ty → FreshList
rest_of types levels fields vars = fresh_fields (fresh_within types levels) fields (length vars)

-- how far the fresh values of a record have come: the terms and variables that are there, and those
-- of the fields from a place on, are all of them
pub record SoFar (types : List TypeDecl) (levels : ℕ) (fields : List Field) (old : List Ty) (terms : List Term) (vars : List Ty) (place : ℕ) : Type 0 where
  pub terms_are : (rest_of types levels fields old).terms ≡ terms ++ (rest_of types levels (drop place fields) vars).terms
  pub vars_are : old ++ (rest_of types levels fields old).vars ≡ vars ++ (rest_of types levels (drop place fields) vars).vars
  pub within : length vars ≤ max_vars
  pub kept : take (length old) vars ≡ old

-- what a longer prefix keeps, a shorter one does
kept_on : (old vars new : List Ty) → take (length old) vars ≡ old → take (length vars) new ≡ vars → take (length old) new ≡ old
kept_on [] vars new a b = refl
kept_on (t ∷ old) [] new a b = cc
kept_on (t ∷ old) (u ∷ vars) [] a b = cc
kept_on (t ∷ old) (u ∷ vars) (w ∷ new) a b =
    let first : take (length old) vars ≡ old = cc in
    let second : take (length vars) new ≡ vars = cc in
    let rest : take (length old) new ≡ old = kept_on old vars new first second in
    let head : u ≡ t = cc in
    let next : w ≡ u = cc in
    cc

take_all : (xs : List Ty) → take (length xs) xs ≡ xs
take_all [] = refl
take_all (x ∷ xs) = ap (λ ys. x ∷ ys) (take_all xs)

-- the field at a place, and those behind it
pub field_here : (fields items : List Field) (place : ℕ) (field : Field) → items ≡ fields → place < length items → field ≡ get_or items place field → drop place fields ≡ field ∷ drop (suc place) fields
field_here fields items place field same within is =
    ap (drop place) (sym same) ∙ drop-cons items place field within ∙ ap (λ f. f ∷ drop (suc place) items) (sym is) ∙ ap (λ fs. field ∷ drop (suc place) fs) same

pub begins : (types : List TypeDecl) (levels : ℕ) (fields : List Field) (old : List Ty) → length old ≤ max_vars → SoFar types levels fields old [] old 0
begins types levels fields old within = record { terms_are = refl; vars_are = refl; within = within; kept = take_all old }

module _ (types : List TypeDecl) (levels : ℕ) (fields : List Field) (old : List Ty) (terms : List Term) (vars : List Ty) (place : ℕ) (so : SoFar types levels fields old terms vars place) where
  abbrev now : Field → Fresh
  now field = fresh_within types levels field.ty (length vars)

  abbrev behind : Field → FreshList
  behind field = fresh_fields (fresh_within types levels) (drop (suc place) fields) (length vars + length (now field).vars)

  module _ (field : Field) (here : drop place fields ≡ field ∷ drop (suc place) fields) where
    unrolled : rest_of types levels (drop place fields) vars ≡ record { terms = (now field).term ∷ (behind field).terms; vars = (now field).vars ++ (behind field).vars }
    unrolled = ap (λ fs. fresh_fields (fresh_within types levels) fs (length vars)) here

    -- with the fresh value of a field they have come one further
    pub goes_on : (term : Term) (new : List Ty) → AnswersFresh (Ok term) vars new (now field) → take (length vars) new ≡ vars → SoFar types levels fields old (terms ++ term ∷ []) new (suc place)
    goes_on term new answer kept =
        let longer : length new ≡ length vars + length (now field).vars = ap length answer.1 ∙ length-append vars (now field).vars in
        let rest : behind field ≡ rest_of types levels (drop (suc place) fields) new =
        ap (λ n. fresh_fields (fresh_within types levels) (drop (suc place) fields) n) (sym longer) in
        record {
          terms_are =
              so.terms_are ∙ ap (λ r. terms ++ r.terms) unrolled ∙ sym (append_assoc terms ((now field).term ∷ []) (behind field).terms)
              ∙ ap (λ t. (terms ++ t ∷ []) ++ (behind field).terms) (sym answer.0) ∙ ap (λ r. (terms ++ term ∷ []) ++ r.terms) rest;
          vars_are =
              so.vars_are ∙ ap (λ r. vars ++ r.vars) unrolled ∙ sym (append_assoc vars (now field).vars (behind field).vars)
              ∙ ap (λ ws. ws ++ (behind field).vars) (sym answer.1) ∙ ap (λ r. new ++ r.vars) rest;
          within = answer.2;
          kept = kept_on old vars new so.kept kept;
        }

    -- where a field passes the limit, the record does
    pub passes_on : PassesVars vars (now field).vars → PassesVars old (rest_of types levels fields old).vars
    passes_on passes =
        let whole : length old + length (rest_of types levels fields old).vars ≡ length vars + length (rest_of types levels (drop place fields) vars).vars =
        sym (length-append old (rest_of types levels fields old).vars) ∙ ap length so.vars_are ∙ length-append vars (rest_of types levels (drop place fields) vars).vars in
        let more : length (rest_of types levels (drop place fields) vars).vars ≡ length (now field).vars + length (behind field).vars =
        ap (λ r. length r.vars) unrolled ∙ length-append (now field).vars (behind field).vars in
        omega (arith, passes, whole, more)

    pub fails_on : (of : ℕ) (error : GrowError) (new : List Ty) → AnswersFresh (Err error) vars new (now field) →
        AnswersFresh (Err error) old new (fresh_record of (rest_of types levels fields old))
    fails_on of Vars new answer = passes_on answer
    fails_on of Memory new answer = tt

  pub kept_behind : (new : List Ty) → take (length vars) new ≡ vars → take (length old) new ≡ old
  kept_behind new kept = kept_on old vars new so.kept kept

  -- where no field is left, they are the record's
  pub ends : (of : ℕ) → drop place fields ≡ [] → (terms ≡ (rest_of types levels fields old).terms) × (vars ≡ old ++ (rest_of types levels fields old).vars) × (length vars ≤ max_vars)
  ends of none =
      let gone : rest_of types levels (drop place fields) vars ≡ record { terms = []; vars = [] } = ap (λ fs. fresh_fields (fresh_within types levels) fs (length vars)) none in
      (sym (so.terms_are ∙ ap (λ r. terms ++ r.terms) gone ∙ append-nil terms), sym (so.vars_are ∙ ap (λ r. vars ++ r.vars) gone ∙ append-nil vars), so.within)
