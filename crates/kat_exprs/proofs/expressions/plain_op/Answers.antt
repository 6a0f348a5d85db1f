-- The word begins an operation: nothing else has these parts.
use Rattle.std.proofs.Common.{sym, ◌∙◌}
use Rattle.kat_exprs.proofs.expressions.plain_op.Goals as goal

pub returns-clause-named : goal.returns-clause-named
returns-clause-named c = c.form_laws.ensures.plain_word c.args.word.now c.in-Some.op c.requires.untold (sym c.op_of_word.ensures ∙ c.in-Some.is)

pub returns-clause-plain : goal.returns-clause-plain
returns-clause-plain c =
    c.form_laws.ensures.plain_op c.args.word.now c.in-Some.op c.args.parts.now c.requires.untold (sym c.op_of_word.ensures ∙ c.in-Some.is) c.requires.fits
