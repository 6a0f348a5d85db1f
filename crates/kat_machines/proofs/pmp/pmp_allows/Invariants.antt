use Rattle.std.proofs.Common.{◌≡◌, drop}
use Rattle.std.specs.Prelude.{map, ◌∷◌}
use Rattle.std.specs.List.{find, zip}
use Rattle.kat_machines.specs.Pmp.{allows, granted, matches}
use Rattle.kat_machines.proofs.pmp.pmp_allows.Given as goal

abbrev pub invariant-loop-entry : goal.invariant-loop-entry
invariant-loop-entry l =
    allows l.entries l.mode l.kind l.index
    ≡ granted (find (matches l.index) (zip (l.bottom ∷ map (λ e. e.addr) (drop l.entry-index l.entries)) (drop l.entry-index l.entries))) l.mode l.kind
