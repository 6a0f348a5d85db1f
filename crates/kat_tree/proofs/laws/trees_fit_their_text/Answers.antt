use Rattle.kat_tree.proofs.Starts.{fits_text}
use Rattle.kat_tree.proofs.laws.trees_fit_their_text.Goals as goal

pub returns : goal.returns
returns c = fits_text
