use Rattle.std.proofs.Common.{◌≡◌, drop, length, map}
use Rattle.kat_ast.specs.declared.stm.Stm.{Stm}
use Rattle.kat_ast.specs.declared.stm.MatchArm.{MatchArm}
use Rattle.kat_ast.specs.declared.type_name.Param.{Param}
use Rattle.kat_syntax.specs.TypingStatements.{same_names}
use Rattle.kat_stm_types.proofs.arms.lists_ctors.Given as goal

-- the names that are left are the same where all are
abbrev pub invariant-loop-ctor : goal.invariant-loop-ctor
invariant-loop-ctor l =
    same_names (map (λ (ctor : Param). ctor.name) l.ctors)
    (map (λ (arm : MatchArm Stm). arm.ctor) l.arms)
    ≡ same_names (map (λ (ctor : Param). ctor.name) (drop (length l.yielded) l.ctors))
    (map (λ (arm : MatchArm Stm). arm.ctor) (drop (length l.yielded) l.arms))
