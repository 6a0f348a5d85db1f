-- What bounds are good for.
use Rattle.std.specs.Prelude.{◌≡◌, ◌≤◌, ℕ, List, Some}
use Rattle.kat_value.specs.declared.types.Ty.{Ty}
use Rattle.kat_value.specs.declared.types.TypeDecl.{TypeDecl}
use Rattle.kat_value.specs.declared.value.Value.TheVariants.{Bits}
use Rattle.kat_term.specs.declared.term.Term.{Term}
use Rattle.kat_term.specs.Types.{IsValuation}
use Rattle.kat_term.specs.Values.{Valuation, value_of}
use Rattle.kat_term.specs.Worlds.{AreTrueUnder}
use Rattle.kat_known.specs.declared.bounds.Interval.{Interval}
use Rattle.kat_known.specs.Bounds.{read_all, read_often, bounds_of}

-- a number is in an interval
abbrev pub IsIn : Interval → ℕ → Type 0
IsIn i n = (i.low ≤ n) × (n ≤ i.high)

-- a list that was read so often changes nothing more
abbrev pub BoundsRest : Type 0
BoundsRest =
    (t : Term) (list : List Term) (i : Interval) →
    read_all t list (read_often t list i) ≡ read_often t list i

-- under a valuation that makes the list true, the number of a term is within its bounds
abbrev pub BoundsHold : Type 0
BoundsHold =
    (types : List TypeDecl) (vars : List Ty) (v : Valuation) → IsValuation types vars v →
    (list : List Term) → AreTrueUnder types v list →
    (t : Term) (w n : ℕ) → value_of types v t ≡ Some (Bits w n) →
    IsIn (bounds_of vars list t) n
