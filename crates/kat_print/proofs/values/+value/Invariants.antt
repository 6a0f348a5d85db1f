use Rattle.std.proofs.Common.{◌≡◌, ◌++◌, drop, map}
use Rattle.kat_tree.specs.Written.{behind_spaces}
use Rattle.kat_print.specs.Values.{text_of_value}
use Rattle.kat_print.proofs.values.+value.Given as goal

-- the values that are still to come make the text whole
abbrev pub invariant-push_values-loop-value : goal.invariant-push_values-loop-value
invariant-push_values-loop-value l = l.out ++ behind_spaces (map (text_of_value l.types) (drop l.value-index l.values)) ≡ l.initial.out ++ behind_spaces (map (text_of_value l.types) l.values)
