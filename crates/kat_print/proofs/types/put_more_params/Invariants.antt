use Rattle.std.proofs.Common.{◌≡◌, ◌++◌, drop, map}
use Rattle.kat_tree.specs.Written.{behind_spaces}
use Rattle.kat_print.specs.Types.{text_of_param}
use Rattle.kat_print.proofs.types.put_more_params.Given as goal

-- the parameters that are still to come make the text whole
abbrev pub invariant-loop-param : goal.invariant-loop-param
invariant-loop-param l = l.out ++ behind_spaces (map text_of_param (drop l.param-index l.params)) ≡ l.initial.out ++ behind_spaces (map text_of_param l.params)
