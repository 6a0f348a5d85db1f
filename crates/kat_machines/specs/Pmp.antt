-- Physical memory protection, in the words of the privileged manual: which entry decides on an
-- access, and what it allows.
use Rattle.std.specs.Prelude.{◌≡◌, ℕ, ◌<◌, ◌/◌, ◌%◌, ◌==◌, ◌&&◌, ◌||◌, nat_lt, nat_le, not}
use Rattle.std.specs.Prelude.{Bool, true, false, List, [], ◌∷◌, map, Option, Some, None}
use Rattle.std.specs.List.{find, zip}
use Rattle.kat_machines.specs.declared.pmp.Entry.{Entry}
use Rattle.kat_machines.specs.declared.pmp.Priv.{Priv}
use Rattle.kat_machines.specs.declared.pmp.Priv.TheVariants.{User, Machine}
use Rattle.kat_machines.specs.declared.pmp.Access.{Access}
use Rattle.kat_machines.specs.declared.pmp.Access.TheVariants.{Read, Write, Execute}

-- A, bits 4:3 of a configuration, is TOR: the entry is the top of a range
abbrev pub is_tor : ℕ → Bool
is_tor cfg = cfg / 8 % 4 == 1

-- L, bit 7: the entry is locked, and binds machine mode too
abbrev pub is_locked : ℕ → Bool
is_locked cfg = cfg / 128 % 2 == 1

-- R is bit 0, W is bit 1, X is bit 2
abbrev pub weight_of : Access → ℕ
weight_of Read = 1
weight_of Write = 2
weight_of Execute = 4

-- the bit of an access is set
abbrev pub has_bit : ℕ → Access → Bool
has_bit cfg kind = cfg / weight_of kind % 2 == 1

-- what the entry that decides says: machine mode is free where L is clear, and else the bit decides
abbrev pub is_granted : ℕ → Priv → Access → Bool
is_granted cfg Machine kind = not (is_locked cfg) || has_bit cfg kind
is_granted cfg User kind = has_bit cfg kind

-- where the ranges of entries begin: the first at 0, each other at the address of the entry before
abbrev pub bottoms : List Entry → List ℕ
bottoms entries = 0 ∷ map (λ e. e.addr) entries

-- the entries, each behind the bottom of its range
abbrev pub ranges_of : List Entry → List (ℕ × Entry)
ranges_of entries = zip (bottoms entries) entries

-- an entry that is TOR matches from the bottom to below its address
abbrev pub matches : ℕ → ℕ × Entry → Bool
matches index range =
    is_tor range.1.cfg && (nat_le range.0 index && nat_lt index range.1.addr)

-- what the entry that decides grants; without one machine mode is free, and user mode is not
abbrev pub granted : Option (ℕ × Entry) → Priv → Access → Bool
granted (Some range) mode kind = is_granted range.1.cfg mode kind
granted None Machine kind = true
granted None User kind = false

-- whether an access is allowed: the least entry that matches decides
abbrev pub allows : List Entry → Priv → Access → ℕ → Bool
allows entries mode kind index = granted (find (matches index) (ranges_of entries)) mode kind
