use Rattle.std.proofs.Common.{◌≡◌, drop}
use Rattle.std.specs.List.{list_any}
use Rattle.kat_syntax.specs.Memories.{overlap, ranges_of}
use Rattle.kat_tables.proofs.around.Around.is_taken.Given as goal

-- no range so far has a cell of this one
abbrev pub invariant-loop-decl : goal.invariant-loop-decl
invariant-loop-decl l =
    list_any (overlap l.range) (ranges_of (drop l.decl-index l.decl-items))
    ≡ list_any (overlap l.range) (ranges_of l.decl-items)
