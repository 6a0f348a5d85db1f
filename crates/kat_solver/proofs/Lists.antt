-- What holds of each of a list.
use Rattle.std.proofs.Common.{◌++◌, List, [], ◌∷◌}

abbrev pub Each : {A : Type 0} → (A → Type 0) → List A → Type 0
Each P [] = Unit {0}
Each P (x ∷ xs) = P x × Each P xs

pub each_joined : {A : Type 0} (P : A → Type 0) (xs ys : List A) → Each P xs → Each P ys →
    Each P (xs ++ ys)
each_joined P [] ys first second = second
each_joined P (x ∷ xs) ys first second = (first.0, each_joined P xs ys first.1 second)

pub each_before : {A : Type 0} (P : A → Type 0) (xs ys : List A) → Each P (xs ++ ys) →
    Each P xs × Each P ys
each_before P [] ys all = (tt, all)
each_before P (x ∷ xs) ys all = let more = each_before P xs ys all.1 in ((all.0, more.0), more.1)
