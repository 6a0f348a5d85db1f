use Rattle.std.proofs.Common.{arith}
use Rattle.kat_syntax.specs.Meaning.{plainly}
use Rattle.kat_eval.specs.Locals.{locals_of}
use Rattle.kat_eval.proofs.Made.{many_operands}
use Rattle.kat_eval.proofs.eval.+expressions.Goals as goal

pub apply-returns-in-len3-up : goal.apply-returns-in-len3-up
apply-returns-in-len3-up t c =
    many_operands c.args.op (plainly c.args.checked.now.decls (locals_of c.args.locals.now)) c.args.args.now (omega arith)
