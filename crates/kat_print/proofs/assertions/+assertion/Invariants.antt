use Rattle.std.proofs.Common.{◌≡◌, ◌++◌, drop, map}
use Rattle.kat_tree.specs.Written.{behind_spaces}
use Rattle.kat_print.specs.Assertions.{text_of_assertion}
use Rattle.kat_print.proofs.assertions.+assertion.Given as goal

-- the parts that are still to come make the text whole
abbrev pub invariant-put_star-loop-part : goal.invariant-put_star-loop-part
invariant-put_star-loop-part l = l.out ++ behind_spaces (map text_of_assertion (drop l.part-index l.parts)) ≡ l.initial.out ++ behind_spaces (map text_of_assertion l.parts)
