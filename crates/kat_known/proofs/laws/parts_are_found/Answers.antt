use Rattle.kat_known.proofs.FirstLaws.{found_by_parts, found_have_values}
use Rattle.kat_known.proofs.laws.parts_are_found.Goals as goal

pub returns-clause-parts : goal.returns-clause-parts
returns-clause-parts c = found_by_parts

pub returns-clause-values : goal.returns-clause-values
returns-clause-values c = found_have_values c.terms_by_parts.ensures
