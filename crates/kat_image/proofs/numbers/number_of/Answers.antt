use Rattle.std.specs.Str.{chars}
use Rattle.kat_image.proofs.WordLemmas.{number_is}
use Rattle.kat_image.proofs.numbers.number_of.Goals as goal

pub returns : goal.returns
returns c = number_is (chars c.args.word.now) c.number_of_word.result c.number_of_word.ensures.found c.number_of_word.ensures.only
