use Rattle.std.proofs.Common.{◌≡◌, drop, None}
use Rattle.kat_value.specs.Signatures.{fixed_from}
use Rattle.kat_value.proofs.op_types.fixed_by.Given as goal

abbrev pub invariant-loop-at : goal.invariant-loop-at
invariant-loop-at l =
    fixed_from l.signature 0 None l.args ≡ fixed_from l.signature l.at l.fixed (drop l.at l.args)
