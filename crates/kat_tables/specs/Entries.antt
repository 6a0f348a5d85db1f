-- Tables from names to what they are.
use Rattle.std.specs.Prelude.{◌≡◌, if◌then◌else◌, List, Option, Some}
use Rattle.std.specs.Borrow.{Bor}
use Rattle.std.specs.Map.{lookup}
use Rattle.std.specs.Str.{bytes_eq}
use Rattle.kat_syntax.specs.Tables.{Name}

-- the names in a table, with what each is
abbrev pub Entries : Type 0 → Type 0
Entries V = List (Bor Name × V)

-- what a table says of a name
abbrev pub found_in : {V : Type 0} → Entries V → Name → Option V
found_in entries x = lookup (λ (key : Bor Name). bytes_eq x key.now) entries

-- a table in which one name is this, whatever it was, and others are what they were
abbrev pub IsPut : {V : Type 0} → Entries V → Name → V → Entries V → Type 0
IsPut before name value now = (x : Name) →
    found_in now x ≡ (if bytes_eq x name then Some value else found_in before x)
