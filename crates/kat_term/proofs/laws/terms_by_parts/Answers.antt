use Rattle.kat_term.proofs.Layers as laws
use Rattle.kat_term.proofs.laws.terms_by_parts.Goals as goal

pub returns : goal.returns
returns c = laws.terms_by_parts
