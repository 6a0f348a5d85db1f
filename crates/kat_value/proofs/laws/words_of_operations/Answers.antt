use Rattle.kat_value.proofs.WordLemmas.{found, begun_word, begun_written, begun_zeros, numbers_back, same_word, same_arity}
use Rattle.kat_value.proofs.laws.words_of_operations.Goals as goal

pub returns-clause-found : goal.returns-clause-found
returns-clause-found c = found

pub returns-clause-word : goal.returns-clause-word
returns-clause-word c = begun_word

pub returns-clause-written : goal.returns-clause-written
returns-clause-written c = begun_written

pub returns-clause-zeros : goal.returns-clause-zeros
returns-clause-zeros c = begun_zeros

pub returns-clause-numbers : goal.returns-clause-numbers
returns-clause-numbers c = numbers_back

pub returns-clause-same_word : goal.returns-clause-same_word
returns-clause-same_word c = same_word

pub returns-clause-same_arity : goal.returns-clause-same_arity
returns-clause-same_arity c = same_arity
