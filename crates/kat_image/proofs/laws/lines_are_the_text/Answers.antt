use Rattle.std.proofs.lemmas.List.Splits.{join_with_byte-slice_split}
use Rattle.kat_image.proofs.Lines.{lines_whole}
use Rattle.kat_image.proofs.laws.lines_are_the_text.Goals as goal

pub returns-clause-joined : goal.returns-clause-joined
returns-clause-joined c = join_with_byte-slice_split 10

pub returns-clause-whole : goal.returns-clause-whole
returns-clause-whole c = lines_whole
