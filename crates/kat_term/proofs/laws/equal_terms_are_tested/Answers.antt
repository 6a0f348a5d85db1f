use Rattle.kat_term.proofs.TermEquality.{op_eq-is, term_eq-is}
use Rattle.kat_term.proofs.laws.equal_terms_are_tested.Goals as goal

pub returns-clause-operations : goal.returns-clause-operations
returns-clause-operations c = op_eq-is

pub returns-clause-terms : goal.returns-clause-terms
returns-clause-terms c = term_eq-is c.equality_is_tested.ensures
