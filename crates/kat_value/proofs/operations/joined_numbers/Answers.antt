use Rattle.std.proofs.Common.{◌-◌, ◌≤◌, arith}
use Rattle.kat_value.specs.Widths.{widest}
use Rattle.kat_value.proofs.NumberLayers.{below_longer}
use Rattle.kat_value.proofs.operations.joined_numbers.Goals as goal

pub apply-requires : goal.apply-requires
apply-requires c =
    let longer : c.args.high.width ≤ widest - c.args.low.width = omega (arith, c.if-width-gt-WIDEST.false) in
    (c.requires.low, below_longer c.args.high.number c.args.high.width (widest - c.args.low.width) longer c.requires.high.below)
