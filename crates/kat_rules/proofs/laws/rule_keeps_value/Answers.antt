use Rattle.kat_rules.proofs.RuleLaws.{rule_keeps}
use Rattle.kat_rules.proofs.laws.rule_keeps_value.Goals as goal

pub returns : goal.returns
returns c =
    rule_keeps c.truths_keep_values.ensures c.equations_keep_values.ensures c.orders_keep_values.ensures c.sums_keep_values.ensures
    c.bits_keep_values.ensures c.shifts_keep_values.ensures c.joins_keep_values.ensures
