use Rattle.std.proofs.Common.{◌≡◌, ◌+◌, ◌≤◌, ◌-◌, None, length, true, ap, sym, arith}
use Rattle.std.specs.Option.{is_some}
use Rattle.kat_shapes.specs.declared.sort.Sort.TheVariants.{Spec}
use Rattle.kat_shapes.proofs.Positions.{last_sort}
use Rattle.kat_shapes.proofs.form.sort_at.Goals as goal
use Rattle.kat_shapes.proofs.form.sort_at.Goals.{else-is_none-via-then-is_none+else-count-before-3, else-is_none-via-else-is_none}

pub returns : goal.returns
returns c =
    let exact : c.args.form.now.middle ≡ None → c.args.count ≤ length c.args.form.now.first.now + length c.args.form.now.last.now =
    elim c.else-is_none.branch [
      | else-is_none-via-then-is_none+else-count-before-3 w ↦ λ _. omega arith
      | else-is_none-via-else-is_none w ↦ λ none. let some : is_some c.args.form.now.middle ≡ true = w.if-is_none.ensures in let not_some = ap is_some none in absurd (cc)
    ] in
    sym (last_sort c.args.form.now.since c.args.form.now.first.now c.args.form.now.last.now c.args.form.now.middle c.args.count c.args.at
    (c.args.at - (c.args.count - length c.args.form.now.last.now)) Spec (omega arith) (omega arith) (omega arith) exact)
