use Rattle.std.proofs.Common.{◌∙◌}
use Rattle.kat_tree.proofs.Digits.{no_digits, first_refused, first_taken, next_refused, next_taken, all_taken}
use Rattle.kat_tree.proofs.number.digits_number.Goals as goal

pub returns-in_err-next : goal.returns-in_err-next
returns-in_err-next g c = λ cs gives.
    c.from_residual.ensures ∙ no_digits g.I.Iterator.next_gives c.args.digits c.next.new.self c.args.base cs c.in_err-next.ensures.steps gives

pub returns-in_err-number : goal.returns-in_err-number
returns-in_err-number g c = λ cs gives.
    c.from_residual-in_err-number.ensures
    ∙ first_refused g.I.Iterator.next_gives c.args.digits c.next.new.self c.args.base cs c.in_ok-next.field-0 c.in_ok-next.ensures.steps gives c.in_err-number.ensures

pub loop-digit-init : goal.loop-digit-init
loop-digit-init g c =
    let goes = c.in_ok-next.ensures.goes.on c.requires.ends in (
      goes.0,
      goes.1,
      λ cs gives. first_taken g.I.Iterator.next_gives c.args.digits c.next.new.self c.args.base cs c.in_ok-next.field-0 c.in_ok-number.number c.in_ok-next.ensures.steps gives c.in_ok-number.ensures,
    )

pub returns-in_err-number-2 : goal.returns-in_err-number-2
returns-in_err-number-2 g c = λ cs gives.
    c.from_residual-in_err-number-2.ensures
    ∙ next_refused g.I.Iterator.next_gives c.loop-digit.digits c.next-in-loop-digit.new.self c.args.base cs c.loop-digit.number c.in-Some.digit c.in-Some.ensures.steps
    (c.loop-digit.invariant.2 cs gives) c.in_err-number-2.ensures

pub loop-digit-preserved : goal.loop-digit-preserved
loop-digit-preserved g c =
    let goes = c.in-Some.ensures.goes.on c.loop-digit.invariant.1 in (
      goes.0,
      goes.1,
      λ cs gives.
          next_taken g.I.Iterator.next_gives c.loop-digit.digits c.next-in-loop-digit.new.self c.args.base cs c.loop-digit.number c.in-Some.digit c.in_ok-number-2.number c.in-Some.ensures.steps
          (c.loop-digit.invariant.2 cs gives) c.in_ok-number-2.ensures,
    )

pub returns : goal.returns
returns g c = λ cs gives.
    all_taken g.I.Iterator.next_gives c.loop-digit.digits c.next-in-loop-digit.new.self c.args.base cs c.loop-digit.number c.in_default.ensures.steps (c.loop-digit.invariant.2 cs gives)
