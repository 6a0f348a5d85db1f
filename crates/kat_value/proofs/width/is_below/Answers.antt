use Rattle.std.proofs.Common.{nat_eq, ap, ◌∙◌, arith}
use Rattle.kat_value.proofs.TypingLemmas.{nothing_left}
use Rattle.kat_value.proofs.width.is_below.Goals as goal

pub returns : goal.returns
returns c =
    ap (λ n. nat_eq n 0) c.unbounded_shr.ensures ∙ nothing_left c.args.number c.args.width (omega arith)
