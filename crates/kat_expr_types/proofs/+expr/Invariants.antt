use Rattle.std.specs.Option.{option_copied}
use Rattle.kat_expr_types.specs.Judging.{known_here}
use Rattle.kat_expr_types.specs.Operands.{wanted_types}
use Rattle.kat_expr_types.proofs.Loops.{ArgsSoFar, GivenSoFar}
use Rattle.kat_expr_types.proofs.+expr.Given as goal

-- the arguments of an operation so far, and what is to come
abbrev pub invariant-args::judge_apply-loop-arg : goal.invariant-args::judge_apply-loop-arg
invariant-args::judge_apply-loop-arg l =
    ArgsSoFar (known_here l.setting) l.signature l.items l.initial.next l.arg-index l.next l.types
    l.initial.faults l.faults

-- given arguments so far, and what is to come
abbrev pub invariant-args::judge_given-loop-index : goal.invariant-args::judge_given-loop-index
invariant-args::judge_given-loop-index l =
    GivenSoFar (known_here l.setting)
    (wanted_types (option_copied l.wanted)) l.items l.initial.next l.index l.next
    l.initial.faults l.faults
