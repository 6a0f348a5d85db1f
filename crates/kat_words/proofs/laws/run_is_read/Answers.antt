use Rattle.kat_words.proofs.WordByWord.{run_of_words}
use Rattle.kat_words.proofs.laws.run_is_read.Goals as goal

pub returns : goal.returns
returns c = run_of_words _ _ _ _ c.requires.spec c.requires.image c.requires.cycles c.requires.calls
