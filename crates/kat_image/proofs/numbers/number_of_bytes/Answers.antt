use Rattle.std.proofs.Common.{arith, length}
use Rattle.kat_image.proofs.Cells.{byte_fits}
use Rattle.kat_image.proofs.numbers.number_of_bytes.Goals as goal

pub overflow_mul-number : goal.overflow_mul-number
overflow_mul-number c =
    let fits = byte_fits c.loop-byte.number c.loop-byte.byte-index (length c.args.bytes.now) c.loop-byte.invariant.1 c.loop-byte-test.true c.requires in
    omega (arith, fits)
