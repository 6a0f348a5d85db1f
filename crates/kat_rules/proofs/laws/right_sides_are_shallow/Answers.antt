use Rattle.kat_rules.proofs.RightSides.{rule_shallow}
use Rattle.kat_rules.proofs.laws.right_sides_are_shallow.Goals as goal

pub returns : goal.returns
returns c = rule_shallow c.equal_terms_are_tested.ensures.operations
