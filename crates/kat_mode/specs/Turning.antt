-- Names that turned from bound to unbound or back, one behind the other. All are bound in the
-- beginning, so those are unbound that turned an odd number of times.
use Rattle.std.specs.Prelude.{Bool, false, not, if◌then◌else◌, List, [], ◌∷◌, ◌++◌, filter}
use Rattle.std.specs.Str.{bytes_eq}
use Rattle.kat_syntax.specs.Tables.{Name}

-- whether a name is unbound behind the names that turned
abbrev pub is_unbound : List Name → Name → Bool
is_unbound [] x = false
is_unbound (y ∷ turned) x =
    if bytes_eq x y then not (is_unbound turned x) else is_unbound turned x

-- a name turns, unless it is unbound
abbrev pub unbound_too : List Name → Name → List Name
unbound_too turned x = if is_unbound turned x then turned else turned ++ x ∷ []

-- a name turns, if it is unbound
abbrev pub bound_too : List Name → Name → List Name
bound_too turned x = if is_unbound turned x then turned ++ x ∷ [] else turned

-- names are unbound, one behind the other
abbrev pub all_unbound : List Name → List Name → List Name
all_unbound turned [] = turned
all_unbound turned (x ∷ names) = all_unbound (unbound_too turned x) names

-- names are bound, one behind the other
abbrev pub all_bound : List Name → List Name → List Name
all_bound turned [] = turned
all_bound turned (x ∷ names) = all_bound (bound_too turned x) names

-- those of names that are bound
abbrev pub bound_among : List Name → List Name → List Name
bound_among turned names = filter (λ x. not (is_unbound turned x)) names

-- names without the last
abbrev pub all_but_last : List Name → List Name
all_but_last [] = []
all_but_last (x ∷ []) = []
all_but_last (x ∷ y ∷ names) = x ∷ all_but_last (y ∷ names)
