use Rattle.kat_heap.proofs.Backwards.{met_backwards}
use Rattle.kat_heap.proofs.laws.jobs_are_met_backwards.Goals as goal

pub returns : goal.returns
returns c = met_backwards
