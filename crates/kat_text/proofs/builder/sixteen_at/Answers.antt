use Rattle.std.proofs.Common.{arith}
use Rattle.kat_text.proofs.HexadecimalLemmas.{digit_by_shift, digit_past_word}
use Rattle.kat_text.proofs.builder.sixteen_at.Goals as goal

pub returns-then-place-lt16 : goal.returns-then-place-lt16
returns-then-place-lt16 c = digit_by_shift c.args.number c.args.place

pub returns-else-place-lt16 : goal.returns-else-place-lt16
returns-else-place-lt16 c = digit_past_word c.args.number c.args.place (omega arith) (omega arith)
