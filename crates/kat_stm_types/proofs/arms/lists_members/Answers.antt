-- Lists of other lengths differ.
use Rattle.std.proofs.Common.{arith, map}
use Rattle.kat_ast.specs.declared.stm.Stm.{Stm}
use Rattle.kat_ast.specs.declared.stm.CaseArm.{CaseArm}
use Rattle.kat_stm_types.proofs.Names.{other_lengths, map_length}
use Rattle.kat_stm_types.proofs.arms.lists_members.Goals as goal

pub returns-then-members-arms : goal.returns-then-members-arms
returns-then-members-arms c =
    other_lengths c.args.members.now (map (λ (arm : CaseArm Stm). arm.member) c.args.arms.now)
    (λ same. c.if-members-arms.true
    (omega (arith, same, map_length (λ (arm : CaseArm Stm). arm.member) c.args.arms.now)))
