use Rattle.std.proofs.Common.{◌≡◌, ◌++◌, drop}
use Rattle.kat_tree.specs.Written.{behind_spaces}
use Rattle.kat_print.proofs.types.put_more_names.Given as goal

-- the names that are still to come make the text whole
abbrev pub invariant-loop-name : goal.invariant-loop-name
invariant-loop-name l = l.out ++ behind_spaces (drop l.name-index l.names) ≡ l.initial.out ++ behind_spaces l.names
