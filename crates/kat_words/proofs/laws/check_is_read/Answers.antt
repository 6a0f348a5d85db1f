use Rattle.kat_words.proofs.WordByWord.{check_of_words}
use Rattle.kat_words.proofs.laws.check_is_read.Goals as goal

pub returns : goal.returns
returns c = check_of_words _ c.requires
