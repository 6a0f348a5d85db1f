use Rattle.kat_syntax.proofs.StatementParts.{statements_by_parts}
use Rattle.kat_syntax.proofs.laws.statements_do_their_parts.Goals as goal

pub returns : goal.returns
returns c = statements_by_parts
