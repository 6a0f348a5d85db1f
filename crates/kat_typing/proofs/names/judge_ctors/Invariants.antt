use Rattle.std.proofs.Common.{◌≡◌, ◌+◌, drop, sum_by}
use Rattle.kat_ast.specs.Types.{trees_of_param}
use Rattle.kat_syntax.specs.TypeRules.{least_with}
use Rattle.kat_syntax.specs.TypingDeclarations.{ctor_faults}
use Rattle.kat_typing.proofs.names.judge_ctors.Given as goal

-- the tree of the next constructor; what is noted and what is to come make the whole
abbrev pub invariant-loop-ctor : goal.invariant-loop-ctor
invariant-loop-ctor l =
    (l.at + sum_by trees_of_param (drop l.ctor-index l.ctor-items)
    ≡ 4 + sum_by trees_of_param l.ctor-items)
    × (least_with l.faults (ctor_faults l.around l.at (drop l.ctor-index l.ctor-items))
    ≡ least_with l.initial.faults (ctor_faults l.around 4 l.ctor-items))
