use Rattle.kat_shapes.specs.declared.sort.Sort.TheVariants as sort
use Rattle.kat_grammar.proofs.SpecificationForms.{described_fits, described_decl_fits}
use Rattle.kat_grammar.proofs.laws.written_fits.Goals as goal

pub returns-clause-decl : goal.returns-clause-decl
returns-clause-decl c = λ tree d is. (c.fitting.ensures.whole sort.Declaration tree).1 (described_decl_fits tree d is)

pub returns-clause-spec : goal.returns-clause-spec
returns-clause-spec c = λ tree spec is. (c.fitting.ensures.whole sort.Spec tree).1 (described_fits tree spec is)
