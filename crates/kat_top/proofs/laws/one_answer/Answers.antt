use Rattle.std.proofs.Common.{[]}
use Rattle.kat_top.specs.Jobs.{inputs_of}
use Rattle.kat_top.proofs.Owed.{one_from}
use Rattle.kat_top.proofs.laws.one_answer.Goals as goal

pub returns : goal.returns
returns c = λ job told a b x y. one_from c.file_laws.ensures job told (inputs_of job) [] a b x y
