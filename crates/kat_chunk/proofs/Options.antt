-- What is there and what is not, and tests that are known.
use Rattle.std.proofs.Common.{◌≡◌, ◌≢◌, ℕ, ◌==◌, Bool, true, false, if◌then◌else◌, Some, None, refl, ap, eqb-true, unwrap_or}
use Rattle.std.proofs.lemmas.Bool.{eqb-false}

-- what is not there is not there
pub none_some : {A : Type 0} {a : A} {T : Type 0} → None ≡ Some a → T
none_some e = absurd (cc)

-- what is there is what it is
pub some_same : {A : Type 0} {a b : A} → Some a ≡ Some b → a ≡ b
some_same {A} {a} e = ap (λ o. unwrap_or o a) e

-- a choice by a test that is true
pub on_true : {A : Type 0} {b : Bool} (x y : A) → b ≡ true → (if b then x else y) ≡ x
on_true x y e = ap (λ t. if t then x else y) e

-- a choice by a test that is false
pub on_false : {A : Type 0} {b : Bool} (x y : A) → b ≡ false → (if b then x else y) ≡ y
on_false x y e = ap (λ t. if t then x else y) e

-- two numbers are the same, or their test is false
pub data Tested (a b : ℕ) : Type 0 where
  Same : (a ≡ b) → ((a == b) ≡ true) → Tested a b
  Other : (a ≢ b) → ((a == b) ≡ false) → Tested a b

-- the test of two numbers
pub tested : (a b : ℕ) → Tested a b
tested a b = go (a == b) refl
  where
    go : (t : Bool) → (a == b) ≡ t → Tested a b
    go true e = Same (eqb-true a b e) e
    go false e = Other (eqb-false a b e) e
