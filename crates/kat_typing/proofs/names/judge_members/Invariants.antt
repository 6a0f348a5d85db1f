use Rattle.std.proofs.Common.{◌≡◌, ◌+◌, drop}
use Rattle.kat_syntax.specs.TypeRules.{least_with}
use Rattle.kat_syntax.specs.Declares.{members_from}
use Rattle.kat_syntax.specs.TypingDeclarations.{taken_names}
use Rattle.kat_typing.proofs.names.judge_members.Given as goal

-- the tree of the next member; what is noted and what is to come make the whole
abbrev pub invariant-loop-member : goal.invariant-loop-member
invariant-loop-member l =
    (l.tree ≡ 4 + l.member-index)
    × (least_with l.faults (taken_names l.around
    (members_from l.around.number 0 l.tree (drop l.member-index l.member-items)))
    ≡ least_with l.initial.faults (taken_names l.around
    (members_from l.around.number 0 4 l.member-items)))
