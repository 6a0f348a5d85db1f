use Rattle.kat_shapes.specs.declared.sort.Sort.TheVariants as sort
use Rattle.kat_forms.specs.Reading.{DescribesDecl}
use Rattle.kat_forms.proofs.Reading.{gives, gives_misfit}
use Rattle.kat_forms.proofs.read.read_decl.Goals as goal

pub returns-clause-only : goal.returns-clause-only
returns-clause-only c =
    let tree = c.args.tree.now in
    gives sort.Declaration tree (DescribesDecl tree) (c.one_description.ensures.decl tree) (c.written_fits.ensures.decl tree)
    (c.one_judgement.ensures.never_both sort.Declaration tree) (c.one_judgement.ensures.one sort.Declaration tree) c.judged_decl.result c.judged_decl.ensures

pub returns-clause-first : goal.returns-clause-first
returns-clause-first c =
    let tree = c.args.tree.now in
    gives_misfit sort.Declaration tree (DescribesDecl tree) (c.one_description.ensures.decl tree) (c.written_fits.ensures.decl tree)
    (c.one_judgement.ensures.never_both sort.Declaration tree) (c.one_judgement.ensures.one sort.Declaration tree) c.judged_decl.result c.judged_decl.ensures
