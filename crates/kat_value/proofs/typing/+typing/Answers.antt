use Rattle.std.proofs.Common.{sym, arith}
use Rattle.kat_value.proofs.TypingLemmas.{have_types-lengths}
use Rattle.kat_value.proofs.typing.+typing.Goals as goal

pub all_fit-returns-then-len : goal.all_fit-returns-then-len
all_fit-returns-then-len t c =
    sym (have_types-lengths c.args.types.now c.args.values.now c.args.declared.now (omega arith))
