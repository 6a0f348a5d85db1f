use Rattle.std.proofs.Common.{arith}
use Rattle.kat_eval.proofs.Frames.{bound_paired, bound_otherwise}
use Rattle.kat_eval.proofs.locals.Frame.new.Goals as goal

pub returns-then-len-function : goal.returns-then-len-function
returns-then-len-function c =
    bound_paired c.args.function.params.now c.args.values (omega arith)

pub returns : goal.returns
returns c =
    bound_otherwise c.args.function.params.now c.args.values (λ same. omega arith)
