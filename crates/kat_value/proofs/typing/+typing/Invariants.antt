use Rattle.std.proofs.Common.{◌≡◌, drop, length}
use Rattle.kat_value.specs.Typing.{have_types}
use Rattle.kat_value.proofs.typing.+typing.Given as goal

abbrev pub invariant-all_fit-loop-value : goal.invariant-all_fit-loop-value
invariant-all_fit-loop-value l =
    have_types l.types l.values l.declared
    ≡ have_types l.types (drop (length l.yielded) l.values) (drop (length l.yielded) l.declared)
