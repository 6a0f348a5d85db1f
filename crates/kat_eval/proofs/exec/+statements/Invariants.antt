use Rattle.std.proofs.Common.{◌+◌, ◌*◌}
use Rattle.kat_ast.specs.declared.stm.Stm.TheVariants.{Let, Seq, If, Case, Match, Call}
use Rattle.kat_ast.specs.Statements.{trees_of_stm}
use Rattle.kat_eval.specs.Locals.{locals_of}
use Rattle.kat_eval.specs.Running.{measure}
use Rattle.kat_eval.proofs.Sequences.{SoFar}
use Rattle.kat_eval.proofs.exec.+statements.Given as goal

-- a statement comes before what runs its parts, and that before each of them; a call spends more
-- than any statement has
abbrev pub decreases-exec : goal.decreases-exec
decreases-exec l = measure l.running.now (2 * trees_of_stm l.stm.now + 1)

abbrev pub decreases-bind : goal.decreases-bind
decreases-bind l = measure l.running.now (2 * trees_of_stm (Let l.name.now l.first.now l.then.now))

abbrev pub decreases-sequence : goal.decreases-sequence
decreases-sequence l = measure l.running.now (2 * trees_of_stm (Seq l.parts.now))

abbrev pub decreases-branch : goal.decreases-branch
decreases-branch l =
    measure l.running.now (2 * trees_of_stm (If l.test.now l.then.now l.otherwise.now))

abbrev pub decreases-case : goal.decreases-case
decreases-case l = measure l.running.now (2 * trees_of_stm (Case l.value.now l.arms.now))

abbrev pub decreases-matched : goal.decreases-matched
decreases-matched l = measure l.running.now (2 * trees_of_stm (Match l.value.now l.arms.now))

abbrev pub decreases-call : goal.decreases-call
decreases-call l = measure l.running.now (2 * trees_of_stm (Call l.function.now l.args.now))

abbrev pub decreases-call_function : goal.decreases-call_function
decreases-call_function l = measure l.running.now 0

-- the parts that are left do what the whole does
abbrev pub invariant-sequence-loop-number : goal.invariant-sequence-loop-number
invariant-sequence-loop-number l =
    SoFar l.checked (locals_of l.locals) l.fn.running l.parts l.last l.running l.number
