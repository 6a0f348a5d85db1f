use Rattle.std.proofs.Common.{◌≡◌, ◌++◌, drop, map}
use Rattle.std.specs.Fmt.{decimal}
use Rattle.kat_tree.specs.Written.{behind_spaces}
use Rattle.kat_print.proofs.declarations.put_numbers.Given as goal

-- the numbers that are still to come make the text whole
abbrev pub invariant-loop-number : goal.invariant-loop-number
invariant-loop-number l = l.out ++ behind_spaces (map decimal (drop l.number-index l.numbers)) ≡ l.initial.out ++ behind_spaces (map decimal l.numbers)
