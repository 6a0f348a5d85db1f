use Rattle.std.proofs.Common.{sym, arith}
use Rattle.kat_term.proofs.TermEquality.{terms_eq-lengths}
use Rattle.kat_term.proofs.equality.+equality.Goals as goal

pub same_terms-returns-then-len : goal.same_terms-returns-then-len
same_terms-returns-then-len t c =
    sym (terms_eq-lengths c.args.a.now c.args.b.now (omega arith))
