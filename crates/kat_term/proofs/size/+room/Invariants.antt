use Rattle.std.proofs.Common.{◌≡◌, ◌+◌, ◌≤◌, drop, map}
use Rattle.std.specs.Prelude.{sum}
use Rattle.kat_term.specs.Sizes.{nodes, depth, greatest}
use Rattle.kat_term.proofs.size.+room.Given as goal

-- what is gone over is in the room, and no deeper than the rest could be
abbrev pub invariant-room_behind_all-loop-term : goal.invariant-room_behind_all-loop-term
invariant-room_behind_all-loop-term l =
    (sum (map nodes l.terms) + l.rest ≡ sum (map nodes (drop l.term-index l.terms)) + l.room)
    × ((greatest (map depth l.terms) ≤ l.most →
    greatest (map depth (drop l.term-index l.terms)) ≤ l.most)
    × (greatest (map depth (drop l.term-index l.terms)) ≤ l.most →
    greatest (map depth l.terms) ≤ l.most))
