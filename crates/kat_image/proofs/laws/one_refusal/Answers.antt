use Rattle.kat_image.proofs.Settings.{one_refused, refused_image}
use Rattle.kat_image.proofs.laws.one_refusal.Goals as goal

pub returns-clause-line : goal.returns-clause-line
returns-clause-line c = one_refused

pub returns-clause-no_image : goal.returns-clause-no_image
returns-clause-no_image c = refused_image
