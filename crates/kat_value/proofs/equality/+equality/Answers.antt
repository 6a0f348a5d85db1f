use Rattle.std.proofs.Common.{sym, arith}
use Rattle.kat_value.proofs.EqualityLemmas.{values_eq-lengths}
use Rattle.kat_value.proofs.equality.+equality.Goals as goal

pub same_values-returns-then-len-clause-computed :
    goal.same_values-returns-then-len-clause-computed
same_values-returns-then-len-clause-computed t c =
    sym (values_eq-lengths c.args.a.now c.args.b.now (omega arith))
