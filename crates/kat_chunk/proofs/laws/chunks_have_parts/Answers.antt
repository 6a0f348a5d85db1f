use Rattle.kat_chunk.proofs.Parts.{focus, added, more_owned}
use Rattle.kat_chunk.proofs.laws.chunks_have_parts.Goals as goal

pub returns-clause-focus : goal.returns-clause-focus
returns-clause-focus c = λ decls ρ. focus c.fragments_join.ensures decls ρ

pub returns-clause-added : goal.returns-clause-added
returns-clause-added c = λ decls ρ. added c.fragments_join.ensures decls ρ

pub returns-clause-more : goal.returns-clause-more
returns-clause-more c = λ decls ρ. more_owned c.fragments_join.ensures decls ρ
