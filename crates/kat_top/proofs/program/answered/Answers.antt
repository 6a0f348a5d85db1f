use Rattle.std.proofs.Common.{map}
use Rattle.std.specs.String.{string_bytes}
use Rattle.kat_words.specs.Jobs.{job_of}
use Rattle.kat_top.proofs.Built.{no_memory}
use Rattle.kat_top.proofs.program.answered.Goals as goal

pub returns-in-Err-Memory : goal.returns-in-Err-Memory
returns-in-Err-Memory g c = no_memory (job_of (map string_bytes c.args.words.now)) (g.F.Files.seen c.args.files.now) (g.K.Sink.seen c.args.out.now)
