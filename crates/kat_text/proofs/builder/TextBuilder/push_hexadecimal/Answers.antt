use Rattle.std.proofs.Common.{arith, ap, length}
use Rattle.kat_text.proofs.HexadecimalLemmas.{digit_pushed}
use Rattle.kat_text.proofs.builder.TextBuilder.push_hexadecimal.Goals as goal

pub loop-done-preserved : goal.loop-done-preserved
loop-done-preserved c =
    let one = c.push.ensures.ascii c.digit_at.ensures.ascii in
    record {
      written =
          digit_pushed _ _ _ _ c.args.digits c.loop-done.done c.args.number c.digit_at.result c.loop-done-test.true
          c.loop-done.invariant.written c.in_ok-push.ensures.bytes one c.digit_at.ensures.value;
      room = omega (arith, c.in_ok-push.ensures.len, c.in_ok-push.ensures.capacity, c.loop-done.invariant.room, ap length one);
    }
