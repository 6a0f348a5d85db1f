-- Which entry decides on an access, by the numbers of the entries.
use Rattle.std.specs.Prelude.{◌≡◌, ℕ, zero, suc, ◌<◌, ◌≤◌, Bool, true, false, List, length}
use Rattle.std.specs.Prelude.{slice_index_or}
use Rattle.kat_machines.specs.declared.pmp.Entry.{Entry}
use Rattle.kat_machines.specs.declared.pmp.Priv.{Priv}
use Rattle.kat_machines.specs.declared.pmp.Priv.TheVariants.{User, Machine}
use Rattle.kat_machines.specs.declared.pmp.Access.{Access}
use Rattle.kat_machines.specs.Pmp.{is_granted, is_tor}

-- the entry with a number; past the last one that is off
abbrev pub entry_at : List Entry → ℕ → Entry
entry_at entries i = slice_index_or entries i (record { cfg = 0; addr = 0 })

-- the address of the entry before, 0 before the first
abbrev pub address_before : List Entry → ℕ → ℕ
address_before entries zero = 0
address_before entries (suc i) = (entry_at entries i).addr

-- entry i is TOR, and the index is from the address of entry i - 1 to below its own
pub record Matches (entries : List Entry) (index i : ℕ) : Type 0 where
  pub tor : is_tor (entry_at entries i).cfg ≡ true
  pub from : address_before entries i ≤ index
  pub below : index < (entry_at entries i).addr

-- entry i is the least that matches
pub record IsDecidedBy (entries : List Entry) (index i : ℕ) : Type 0 where
  pub matches : Matches entries index i
  pub least : (k : ℕ) → k < i → ¬ Matches entries index k

-- no entry matches
abbrev pub IsDecidedByNone : List Entry → ℕ → Type 0
IsDecidedByNone entries index = (k : ℕ) → ¬ Matches entries index k

-- what entry i allows
abbrev pub granted_by : List Entry → ℕ → Priv → Access → Bool
granted_by entries i mode kind = is_granted (entry_at entries i).cfg mode kind

-- machine mode is free where no entry matches
abbrev pub is_free : Priv → Bool
is_free Machine = true
is_free User = false
