use Rattle.std.proofs.Common.{◌≡◌, drop, None}
use Rattle.kat_value.specs.Signatures.{all_taken}
use Rattle.kat_value.proofs.op_types.all_taken.Given as goal

abbrev pub invariant-loop-at : goal.invariant-loop-at
invariant-loop-at l =
    all_taken l.signature 0 None l.args ≡ all_taken l.signature l.at l.fixed (drop l.at l.args)
