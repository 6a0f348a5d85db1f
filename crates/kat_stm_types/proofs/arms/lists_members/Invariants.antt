use Rattle.std.proofs.Common.{◌≡◌, drop, length, map}
use Rattle.kat_ast.specs.declared.stm.Stm.{Stm}
use Rattle.kat_ast.specs.declared.stm.CaseArm.{CaseArm}
use Rattle.kat_syntax.specs.TypingStatements.{same_names}
use Rattle.kat_stm_types.proofs.arms.lists_members.Given as goal

-- the names that are left are the same where all are
abbrev pub invariant-loop-member : goal.invariant-loop-member
invariant-loop-member l =
    same_names l.members (map (λ (arm : CaseArm Stm). arm.member) l.arms)
    ≡ same_names (drop (length l.yielded) l.members)
    (map (λ (arm : CaseArm Stm). arm.member) (drop (length l.yielded) l.arms))
