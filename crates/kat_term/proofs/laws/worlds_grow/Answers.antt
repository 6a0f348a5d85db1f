use Rattle.kat_term.proofs.FreshLaws.{fresh_values_extend, fresh_values_are_terms, worlds_stay, worlds_have_valuations}
use Rattle.kat_term.proofs.GrowthLaws.{values_stay, types_stay, formulas_narrow}
use Rattle.kat_term.proofs.laws.worlds_grow.Goals as goal

pub returns-clause-values : goal.returns-clause-values
returns-clause-values c = values_stay

pub returns-clause-types : goal.returns-clause-types
returns-clause-types c = types_stay

pub returns-clause-fresh : goal.returns-clause-fresh
returns-clause-fresh c = fresh_values_extend

pub returns-clause-terms : goal.returns-clause-terms
returns-clause-terms c = fresh_values_are_terms

pub returns-clause-formulas : goal.returns-clause-formulas
returns-clause-formulas c = formulas_narrow

pub returns-clause-worlds : goal.returns-clause-worlds
returns-clause-worlds c = worlds_stay

pub returns-clause-valuations : goal.returns-clause-valuations
returns-clause-valuations c = worlds_have_valuations
