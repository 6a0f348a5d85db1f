use Rattle.std.proofs.Common.{ap, sym, subst, ◌∙◌}
use Rattle.std.specs.List.{AllByRecursion}
use Rattle.kat_tree.specs.declared.tree.Tree.TheVariants as variant
use Rattle.kat_ast.specs.Specifications.{Describes}
use Rattle.kat_shapes.specs.declared.sort.Sort.TheVariants as sort
use Rattle.kat_grammar.specs.Parts.{FitsSort, IsPartOfText}
use Rattle.kat_forms.proofs.Reading.{all_behind, decls_fit_here, spec_made}
use Rattle.kat_forms.proofs.read.spec_in.Goals as goal

pub decls_in-requires-clause-fits : goal.decls_in-requires-clause-fits
decls_in-requires-clause-fits c =
    decls_fit_here c.form_laws.ensures c.as_slice.result.now (subst (FitsSort sort.Spec) (c.in-List.is ∙ ap variant.List (sym c.as_slice.ensures)) c.requires.fits)

pub decls_in-requires-clause-text : goal.decls_in-requires-clause-text
decls_in-requires-clause-text c =
    let parts = c.as_slice.result.now in
    subst (AllByRecursion IsPartOfText) (sym (c.form_laws.ensures.rest_is parts 2))
    (all_behind IsPartOfText 2 parts (c.requires.text parts (c.in-List.is ∙ ap variant.List (sym c.as_slice.ensures))))

pub returns : goal.returns
returns c =
    let is = c.in-List.is ∙ ap variant.List (sym c.as_slice.ensures) in
    subst (Describes c.args.tree.now) (sym c.new.ensures)
    (spec_made c.form_laws.ensures c.args.tree.now c.as_slice.result.now c.in_ok-decls_in.field-0 is (subst (FitsSort sort.Spec) is c.requires.fits)
    c.in_ok-decls_in.ensures.0 c.in_ok-decls_in.ensures.1)
