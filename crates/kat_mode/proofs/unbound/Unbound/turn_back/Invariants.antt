use Rattle.std.proofs.Common.{◌≡◌, ◌≤◌, length, take}
use Rattle.kat_mode.proofs.unbound.Unbound.turn_back.Given as goal

-- the first names that turned are as they were
abbrev pub invariant-loop-self : goal.invariant-loop-self
invariant-loop-self l =
    (take l.turns l.self ≡ take l.turns l.initial.self) × (l.turns ≤ length l.self)

-- one name fewer each time
abbrev pub decreases-loop-self : goal.decreases-loop-self
decreases-loop-self l = length l.self
