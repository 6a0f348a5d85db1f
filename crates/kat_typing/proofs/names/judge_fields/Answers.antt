use Rattle.std.proofs.Common.{◌≡◌, Bool, true, false, not, sym, ap, ◌∙◌, ◌+◌}
use Rattle.std.specs.Prelude.{is_some}
use Rattle.kat_typing.proofs.Fields.{judged_more}
use Rattle.kat_typing.proofs.names.judge_fields.Goals as goal

other_way : (a b : Bool) → a ≡ not b → b ≡ not a
other_way a true is = sym (ap not is)
other_way a false is = sym (ap not is)

pub loop-field-preserved : goal.loop-field-preserved
loop-field-preserved c =
    judged_more c.loop-field.invariant c.field-item.result tt (2 + c.count_type.result)
    c.is_none-is_new.result c.unless.new.self c.judge_type.new.faults c.add.new.self
    c.loop-field-test.true c.field-item.is
    (other_way (is_some c.find.result) c.is_none-is_new.result c.is_none-is_new.ensures
    ∙ ap (λ found. not (is_some found)) c.find.ensures)
    (ap (λ n. 2 + n) c.count_type.ensures)
    c.unless.ensures c.judge_type.ensures c.in_ok-add.ensures
