use Rattle.std.proofs.Common.{map, Some, None, sym, ap, ◌∙◌}
use Rattle.std.specs.Option.{option_map, option_copied}
use Rattle.kat_syntax.specs.Declares.{declared_by}
use Rattle.kat_syntax.specs.Around.{a_lemma}
use Rattle.kat_tables.specs.Meanings.{noted, first_with, lemma_in}
use Rattle.kat_tables.proofs.DeclaredForms.{lemma_form, lemma_seen}
use Rattle.kat_tables.proofs.Lookups.{lemmas_by_form, means_none, means_given}
use Rattle.kat_tables.proofs.around.Around.lemma.Goals as goal

pub returns-in_err-decl : goal.returns-in_err-decl
returns-in_err-decl c =
    let all = c.self.inside.tables.now in
    let x = c.args.name.now in
    c.from_residual.ensures
    ∙ means_none all lemma_in a_lemma (lemma_form all) (lemmas_by_form all) c.args.self.now
    (ap (λ a. a.decls) c.self.view_is) x
    (sym c.in_err-decl.was ∙ c.lemma.ensures ∙ c.tables.invariant.kinds_are.lemmas x
    ∙ ap (λ ds. first_with lemma_in (map noted (declared_by ds)) x) c.tables.view_is)

pub returns-in_err-form : goal.returns-in_err-form
returns-in_err-form c =
    let all = c.self.inside.tables.now in
    let x = c.args.name.now in
    c.from_residual-in_err-form.ensures
    ∙ means_given all lemma_in a_lemma (lemma_form all) (lemmas_by_form all) c.args.self.now
    (ap (λ a. a.decls) c.self.view_is) x c.in_ok-decl.decl
    (sym c.in_ok-decl.was ∙ c.lemma.ensures ∙ c.tables.invariant.kinds_are.lemmas x
    ∙ ap (λ ds. first_with lemma_in (map noted (declared_by ds)) x) c.tables.view_is)
    None (sym (ap option_copied c.in_err-form.was) ∙ c.form.ensures)

pub returns-in_err-params : goal.returns-in_err-params
returns-in_err-params c =
    let all = c.self.inside.tables.now in
    let x = c.args.name.now in
    c.from_residual-in_err-params.ensures
    ∙ ap (option_map (lemma_seen all c.in_ok-decl.decl))
    (sym (ap option_copied c.in_err-params.was) ∙ c.lemma_params.ensures)
    ∙ means_given all lemma_in a_lemma (lemma_form all) (lemmas_by_form all) c.args.self.now
    (ap (λ a. a.decls) c.self.view_is) x c.in_ok-decl.decl
    (sym c.in_ok-decl.was ∙ c.lemma.ensures ∙ c.tables.invariant.kinds_are.lemmas x
    ∙ ap (λ ds. first_with lemma_in (map noted (declared_by ds)) x) c.tables.view_is)
    (Some c.in_ok-form.field-0.now) (sym (ap option_copied c.in_ok-form.was) ∙ c.form.ensures)

pub returns : goal.returns
returns c =
    let all = c.self.inside.tables.now in
    let x = c.args.name.now in
    ap (λ seen. Some seen) c.new.ensures
    ∙ ap (option_map (lemma_seen all c.in_ok-decl.decl))
    (sym (ap option_copied c.in_ok-params.was) ∙ c.lemma_params.ensures)
    ∙ means_given all lemma_in a_lemma (lemma_form all) (lemmas_by_form all) c.args.self.now
    (ap (λ a. a.decls) c.self.view_is) x c.in_ok-decl.decl
    (sym c.in_ok-decl.was ∙ c.lemma.ensures ∙ c.tables.invariant.kinds_are.lemmas x
    ∙ ap (λ ds. first_with lemma_in (map noted (declared_by ds)) x) c.tables.view_is)
    (Some c.in_ok-form.field-0.now) (sym (ap option_copied c.in_ok-form.was) ∙ c.form.ensures)
