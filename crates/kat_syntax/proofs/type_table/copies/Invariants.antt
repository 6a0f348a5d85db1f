use Rattle.std.proofs.Common.{◌≡◌, ◌++◌, drop}
use Rattle.kat_syntax.proofs.type_table.copies.Given as goal

-- the copies so far and the names that are left are all
abbrev pub invariant-loop-name : goal.invariant-loop-name
invariant-loop-name l = l.copies ++ drop l.name-index l.name-items ≡ l.name-items
