use Rattle.std.proofs.Common.{take}
use Rattle.kat_expr_types.specs.Bases.{IsBase}
use Rattle.kat_expr_types.proofs.scope.Base.of_seen.Given as goal

-- the table has the parameters so far
abbrev pub invariant-loop-at : goal.invariant-loop-at
invariant-loop-at l = IsBase (take l.at l.params) l.table
