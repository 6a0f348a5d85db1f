use Rattle.std.proofs.Common.{◌≡◌, ◌^◌, ℕ, ◌<◌, ◌≤◌, nat_lt, nat_le, arith}
use Rattle.std.proofs.lemmas.Bool.Decides.{nat_tests}
use Rattle.std.proofs.Math.Pow.{pow_mono}
use Rattle.kat_tables.proofs.widths.is_below.Goals as goal

both_hold : (w n p : ℕ) → 64 ≤ w → n < 2 ^ 64 → 2 ^ 64 ≤ p → nat_le 64 w ≡ nat_lt n p
both_hold w n p wide fits powers = grind (arith, nat_tests)

-- a number of 64 bits is below the power of what is wider
pub returns-then-width-ge64 : goal.returns-then-width-ge64
returns-then-width-ge64 c =
    both_hold c.args.width c.args.number (2 ^ c.args.width) c.if-width-ge64.true
    c.ranges.number.fits (pow_mono c.if-width-ge64.true)
