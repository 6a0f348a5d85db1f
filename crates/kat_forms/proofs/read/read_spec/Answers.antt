use Rattle.kat_ast.specs.Specifications.{Describes}
use Rattle.kat_shapes.specs.declared.sort.Sort.TheVariants as sort
use Rattle.kat_forms.proofs.Reading.{gives, gives_misfit}
use Rattle.kat_forms.proofs.read.read_spec.Goals as goal

pub judged_spec-requires : goal.judged_spec-requires
judged_spec-requires c =
    c.form_laws.ensures.text_parts c.args.tree.now (record { writable = c.requires.text; small = c.requires.small })

pub returns-clause-only : goal.returns-clause-only
returns-clause-only c =
    let tree = c.args.tree.now in
    gives sort.Spec tree (Describes tree) (c.one_description.ensures.spec tree) (c.written_fits.ensures.spec tree)
    (c.one_judgement.ensures.never_both sort.Spec tree) (c.one_judgement.ensures.one sort.Spec tree) c.judged_spec.result c.judged_spec.ensures

pub returns-clause-first : goal.returns-clause-first
returns-clause-first c =
    let tree = c.args.tree.now in
    gives_misfit sort.Spec tree (Describes tree) (c.one_description.ensures.spec tree) (c.written_fits.ensures.spec tree)
    (c.one_judgement.ensures.never_both sort.Spec tree) (c.one_judgement.ensures.one sort.Spec tree) c.judged_spec.result c.judged_spec.ensures
