-- Names with an item each, of which the first of a name counts.
use Rattle.std.specs.Prelude.{ℕ, if◌then◌else◌, List, [], ◌∷◌, ◌++◌, Option, None, Some, is_some}
use Rattle.std.specs.Str.{bytes_eq}

-- a name with its item
pub record Item (A : Type 0) : Type 0 where
  pub name : List ℕ
  pub item : A

-- names and items, two lists side by side
abbrev pub items_of : {A : Type 0} → List (List ℕ) → List A → List (Item A)
items_of [] items = []
items_of (name ∷ names) [] = []
items_of (name ∷ names) (item ∷ items) =
    record { name = name; item = item } ∷ items_of names items

-- the item of the first name that is this one
abbrev pub found : {A : Type 0} → List (Item A) → List ℕ → Option A
found [] x = None
found (one ∷ more) x = if bytes_eq one.name x then Some one.item else found more x

-- a name more, with its item, where the name is not there already
abbrev pub added : {A : Type 0} → List (Item A) → List ℕ → A → List (Item A)
added all x item =
    if is_some (found all x) then all else all ++ record { name = x; item = item } ∷ []
