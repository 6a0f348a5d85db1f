use Rattle.std.proofs.Common.{◌≡◌, ◌++◌, drop, map}
use Rattle.kat_tree.specs.Written.{behind_spaces}
use Rattle.kat_print.specs.Declarations.{text_of_when}
use Rattle.kat_print.proofs.declarations.put_whens.Given as goal

-- the cases that are still to come make the text whole
abbrev pub invariant-loop-case : goal.invariant-loop-case
invariant-loop-case l = l.out ++ behind_spaces (map text_of_when (drop l.case-index l.cases)) ≡ l.initial.out ++ behind_spaces (map text_of_when l.cases)
