use Rattle.std.proofs.Common.{◌≡◌, ◌<◌, ◌^◌, ◌+◌, drop, sum_by}
use Rattle.kat_ast.specs.Parts.{capped_count}
use Rattle.kat_ast.specs.Types.{trees_of_param, trees_of_params}
use Rattle.kat_ast.proofs.type_name.count_params.Given as goal

abbrev pub invariant-loop-param : goal.invariant-loop-param
invariant-loop-param l = (capped_count (l.total + sum_by trees_of_param (drop l.param-index l.params)) ≡ capped_count (trees_of_params l.params)) × (l.total < 2 ^ 32)
