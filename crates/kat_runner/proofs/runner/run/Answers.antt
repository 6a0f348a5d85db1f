use Rattle.kat_runner.proofs.Runs.{ends_kept}
use Rattle.kat_runner.proofs.runner.run.Goals as goal

pub returns-in-Ok-clause-kept : goal.returns-in-Ok-clause-kept
returns-in-Ok-clause-kept g c = ends_kept c.in-Ok.end _ _ _ _ c.in-Ok.ensures.ok
