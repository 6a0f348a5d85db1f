use Rattle.kat_shapes.specs.declared.sort.Sort.TheVariants as sort
use Rattle.kat_grammar.proofs.SpecificationForms.{some_spec, some_decl, same_spec, same_decl, text_of_parts}
use Rattle.kat_grammar.proofs.laws.one_description.Goals as goal

pub returns-clause-some : goal.returns-clause-some
returns-clause-some c = λ tree text.
    some_spec tree (λ form. (c.fitting.ensures.whole sort.Spec tree).0 form)
    (text_of_parts tree c.written_layers.ensures.parts_writable c.written_layers.ensures.part_nesting text) (c.one_judgement.ensures.some sort.Spec tree)

pub returns-clause-spec : goal.returns-clause-spec
returns-clause-spec c = same_spec c.one_form.ensures.spec

pub returns-clause-misfit : goal.returns-clause-misfit
returns-clause-misfit c = c.one_judgement.ensures.one sort.Spec

pub returns-clause-never_both : goal.returns-clause-never_both
returns-clause-never_both c = λ tree spec misfit is. c.one_judgement.ensures.never_both sort.Spec tree misfit (c.written_fits.ensures.spec tree spec is)

pub returns-clause-some_decl : goal.returns-clause-some_decl
returns-clause-some_decl c = λ tree text.
    some_decl tree (λ form. (c.fitting.ensures.whole sort.Declaration tree).0 form) text (c.one_judgement.ensures.some sort.Declaration tree)

pub returns-clause-decl : goal.returns-clause-decl
returns-clause-decl c = same_decl c.one_form.ensures.decl

pub returns-clause-decl_misfit : goal.returns-clause-decl_misfit
returns-clause-decl_misfit c = c.one_judgement.ensures.one sort.Declaration

pub returns-clause-decl_never_both : goal.returns-clause-decl_never_both
returns-clause-decl_never_both c = λ tree decl misfit is. c.one_judgement.ensures.never_both sort.Declaration tree misfit (c.written_fits.ensures.decl tree decl is)
