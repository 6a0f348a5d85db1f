-- Parameters with a table of their types.
use Rattle.std.specs.Prelude.{◌≡◌, List, [], ◌∷◌, ◌++◌, Option}
use Rattle.kat_value.specs.declared.types.Ty.{Ty}
use Rattle.kat_syntax.specs.Tables.{Name}
use Rattle.kat_syntax.specs.TypesWritten.{Scope, local_type}
use Rattle.kat_syntax.specs.NamedItems.{Item, found}

-- the names of lists of parameters, one list behind another
abbrev pub names_in : List Scope → Scope
names_in [] = []
names_in (names ∷ lists) = names ++ names_in lists

-- a table of the types of these names
abbrev pub IsBase : Scope → List (Item (Option Ty)) → Type 0
IsBase scope named = (x : Name) → found named x ≡ local_type scope x
