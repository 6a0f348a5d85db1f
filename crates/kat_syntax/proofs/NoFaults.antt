-- Lists of faults that are empty.
use Rattle.std.proofs.Common.{◌≡◌, ℕ, Bool, true, false, List, [], ◌∷◌, ◌++◌, refl}
use Rattle.kat_syntax.specs.declared.type_rule.TypeRule.{TypeRule}
use Rattle.kat_syntax.specs.TypeRules.{unless}

-- where two lists together are empty, each is
pub empty_first : {A : Type 0} (xs ys : List A) → xs ++ ys ≡ [] → xs ≡ []
empty_first [] ys e = refl
empty_first (x ∷ xs) ys e = absurd (let f : x ∷ (xs ++ ys) ≡ [] = e in cc)

pub empty_second : {A : Type 0} (xs ys : List A) → xs ++ ys ≡ [] → ys ≡ []
empty_second [] ys e = e
empty_second (x ∷ xs) ys e = absurd (let f : x ∷ (xs ++ ys) ≡ [] = e in cc)

-- where a condition has no fault it is met
pub met : (b : Bool) (tree : ℕ) (rule : TypeRule) → unless b tree rule ≡ [] → b ≡ true
met true tree rule e = refl
met false tree rule e = absurd (cc)
