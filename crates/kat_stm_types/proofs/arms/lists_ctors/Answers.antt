-- Lists of other lengths differ.
use Rattle.std.proofs.Common.{arith, map}
use Rattle.kat_ast.specs.declared.stm.Stm.{Stm}
use Rattle.kat_ast.specs.declared.stm.MatchArm.{MatchArm}
use Rattle.kat_ast.specs.declared.type_name.Param.{Param}
use Rattle.kat_stm_types.proofs.Names.{other_lengths, map_length}
use Rattle.kat_stm_types.proofs.arms.lists_ctors.Goals as goal

pub returns-then-ctors-arms : goal.returns-then-ctors-arms
returns-then-ctors-arms c =
    other_lengths (map (λ (ctor : Param). ctor.name) c.args.ctors.now)
    (map (λ (arm : MatchArm Stm). arm.ctor) c.args.arms.now)
    (λ same. c.if-ctors-arms.true (omega (
      arith,
      same,
      map_length (λ (ctor : Param). ctor.name) c.args.ctors.now,
      map_length (λ (arm : MatchArm Stm). arm.ctor) c.args.arms.now,
    )))
