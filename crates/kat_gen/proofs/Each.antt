-- What holds of each of the things that the numbers give holds of all of them.
use Rattle.std.proofs.Common.{◌≡◌, ◌∙◌, ℕ, zero, suc, ◌*◌, ◌<◌, Bool, true}
use Rattle.std.proofs.Common.{List, [], ◌∷◌, ◌++◌, map, length, ap, refl, arith, length-append}
use Rattle.std.proofs.lemmas.Bool.{and_parts, and_from}
use Rattle.std.specs.List.{AllByRecursion}
use Rattle.kat_tree.specs.declared.tree.Tree.{Tree}
use Rattle.kat_ast.specs.Parts.{every}
use Rattle.kat_gen.specs.Generated.{for_each}
use Rattle.kat_gen.proofs.Trees.{AreSound, IsSound, all_at_most, none, one_more}

map_more : {A B : Type 0} (f : A → B) (xs : List A) (x : A)
    → map f (xs ++ x ∷ []) ≡ map f xs ++ f x ∷ []
map_more f [] x = refl
map_more f (y ∷ ys) x = ap (λ more. f y ∷ more) (map_more f ys x)

-- a function of each is what the numbers give with it
pub map_each : {A B : Type 0} (f : A → B) (make : ℕ → A) (n : ℕ)
    → map f (for_each (λ i. make i ∷ []) n) ≡ for_each (λ i. f (make i) ∷ []) n
map_each f make zero = refl
map_each f make (suc n) =
    map_more f (for_each (λ i. make i ∷ []) n) (make n)
    ∙ ap (λ ys. ys ++ f (make n) ∷ []) (map_each f make n)

every_more : (bs : List Bool) (b : Bool) → every bs ≡ true → b ≡ true → every (bs ++ b ∷ []) ≡ true
every_more [] b are is = and_from b true is refl
every_more (x ∷ xs) b are is =
    let parts = and_parts x (every xs) are in
    and_from x (every (xs ++ b ∷ [])) parts.0 (every_more xs b parts.1 is)

pub every_each : (test : ℕ → Bool) (n : ℕ) → ((i : ℕ) → i < n → test i ≡ true)
    → every (for_each (λ i. test i ∷ []) n) ≡ true
every_each test zero are = refl
every_each test (suc n) are =
    every_more (for_each (λ i. test i ∷ []) n) (test n)
    (every_each test n (λ i lt. are i (omega arith))) (are n (omega arith))

pub each_sound : (make : ℕ → Tree) (d c n : ℕ) → ((i : ℕ) → i < n → IsSound (make i) d c)
    → AreSound (for_each (λ i. make i ∷ []) n) d (c * n)
each_sound make d c zero are = all_at_most d (c * 0) none (omega arith) (omega arith)
each_sound make d c (suc n) are =
    all_at_most d (c * suc n)
    (one_more (for_each (λ i. make i ∷ []) n) (make n)
    (each_sound make d c n (λ i lt. are i (omega arith))) (are n (omega arith)))
    (omega arith) (omega arith)

pub all_more : {A : Type 0} (P : A → Type 0) (xs ys : List A) → AllByRecursion P xs
    → AllByRecursion P ys → AllByRecursion P (xs ++ ys)
all_more P [] ys first others = others
all_more P (x ∷ xs) ys first others = (first.0, all_more P xs ys first.1 others)

pub all_each : {A : Type 0} (P : A → Type 0) (give : ℕ → List A) (n : ℕ)
    → ((i : ℕ) → i < n → AllByRecursion P (give i)) → AllByRecursion P (for_each give n)
all_each P give zero are = tt
all_each P give (suc n) are =
    all_more P (for_each give n) (give n) (all_each P give n (λ i lt. are i (omega arith)))
    (are n (omega arith))

-- three things a number
pub length_each : {A : Type 0} (give : ℕ → List A) (k : ℕ) → ((i : ℕ) → length (give i) ≡ k)
    → (n : ℕ) → length (for_each give n) ≡ k * n
length_each give k are zero = omega arith
length_each give k are (suc n) =
    let ih = length_each give k are n in
    let last = are n in
    length-append (for_each give n) (give n) ∙ (omega arith)
