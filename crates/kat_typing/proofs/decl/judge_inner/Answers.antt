-- The faults of a register, whatever its name.
use Rattle.std.proofs.Common.{ap, sym, ◌∙◌}
use Rattle.kat_syntax.specs.TypeRules.{least_with}
use Rattle.kat_syntax.specs.TypingDeclarations.{inner_faults}
use Rattle.kat_typing.proofs.decl.judge_inner.Goals as goal

pub returns-in-Register : goal.returns-in-Register
returns-in-Register c =
    c.judge_register.ensures c.in-Register.name
    ∙ sym (ap (λ d. least_with c.args.faults.now
    (inner_faults c.args.around.now d)) c.in-Register.is)
