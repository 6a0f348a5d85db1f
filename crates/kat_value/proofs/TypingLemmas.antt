-- What the test of types says.
use Rattle.std.proofs.Common.{◌≡◌, ◌≢◌, ℕ, false, List, [], ◌∷◌, length, refl, ap, suc, ◌*◌, ◌/◌, ◌^◌, ◌<◌, nat_eq, nat_lt, if◌then◌else◌, sym, ◌∙◌, arith, inl, inr}
use Rattle.std.proofs.Math.Nat.{div-lt_iff_lt-mul, div-eq_of_lt}
use Rattle.std.proofs.lemmas.Bool.{and_right, cases_lt, cond-true, cond-false, lt-ltb, le-ltb, eq-eqb, ne_eqb}
use Rattle.std.proofs.lemmas.Nat.{pow_pos}
use Rattle.kat_value.specs.declared.types.Field.{Field}
use Rattle.kat_value.specs.declared.types.TypeDecl.{TypeDecl}
use Rattle.kat_value.specs.declared.value.Value.{Value}
use Rattle.kat_value.specs.Typing.{has_type, have_types}
use Rattle.kat_value.proofs.NumberLemmas.{pow_of_longer}

-- fewer or more values than fields are not of their types
pub have_types-lengths : (types : List TypeDecl) (vs : List Value) (fields : List Field) → length vs ≢ length fields → have_types types vs fields ≡ false
have_types-lengths types [] [] ne = absurd (ne refl)
have_types-lengths types [] (field ∷ fields) ne = refl
have_types-lengths types (v ∷ vs) [] ne = refl
have_types-lengths types (v ∷ vs) (field ∷ fields) ne =
    and_right (has_type types v field.ty) (have_types types vs fields) (have_types-lengths types vs fields (λ e. ne (ap suc e)))

-- a quotient by a power is 0 exactly below the power
no_quotient : (n w : ℕ) → nat_eq (n / 2 ^ w) 0 ≡ nat_lt n (2 ^ w)
no_quotient n w =
    elim (cases_lt n (2 ^ w)) [
      | inl less ↦ eq-eqb (n / 2 ^ w) 0 (div-eq_of_lt less) ∙ sym (lt-ltb n (2 ^ w) less)
      | inr least ↦
          ne_eqb (n / 2 ^ w) 0 (λ none. let below : n < 1 * 2 ^ w = (div-lt_iff_lt-mul (pow_pos w)).0 (omega arith) in omega arith)
          ∙ sym (le-ltb n (2 ^ w) least)
    ]

-- a word moved down by a width is 0 exactly where it is a number of that width
pub nothing_left : (n w : ℕ) → n < 2 ^ 64 → nat_eq (if nat_lt w 64 then n / 2 ^ w else 0) 0 ≡ nat_lt n (2 ^ w)
nothing_left n w word =
    elim (cases_lt w 64) [
      | inl less ↦ ap (λ x. nat_eq x 0) (cond-true (nat_lt w 64) _ _ (lt-ltb w 64 less)) ∙ no_quotient n w
      | inr least ↦
          let below : n < 2 ^ w = omega (arith, pow_of_longer 64 w least) in
          ap (λ x. nat_eq x 0) (cond-false (nat_lt w 64) (n / 2 ^ w) 0 (le-ltb w 64 least)) ∙ sym (lt-ltb n (2 ^ w) below)
    ]
