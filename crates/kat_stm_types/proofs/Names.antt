-- Lists of names of different lengths are not the same.
use Rattle.std.proofs.Common.{◌≡◌, List, [], ◌∷◌, Bool, true, false, ◌&&◌, length, map, suc, refl, ap, ◌∙◌}
use Rattle.std.specs.Str.{bytes_eq}
use Rattle.kat_syntax.specs.Tables.{Name}
use Rattle.kat_syntax.specs.TypingStatements.{same_names}

and_false : (b : Bool) → false ≡ (b && false)
and_false true = refl
and_false false = refl

pub other_lengths : (xs ys : List Name) → (length xs ≡ length ys → ⊥) → false ≡ same_names xs ys
other_lengths [] [] differ = absurd (differ refl)
other_lengths [] (y ∷ ys) differ = refl
other_lengths (x ∷ xs) [] differ = refl
other_lengths (x ∷ xs) (y ∷ ys) differ =
    and_false (bytes_eq x y)
    ∙ ap (λ b. bytes_eq x y && b) (other_lengths xs ys (λ same. differ (ap suc same)))

pub map_length : {A : Type 0} (f : A → Name) (xs : List A) → length (map f xs) ≡ length xs
map_length f [] = refl
map_length f (x ∷ xs) = ap suc (map_length f xs)
