use Rattle.std.proofs.Common.{[], ◌∷◌, refl, subst, arith}
use Rattle.std.specs.Prelude.{codes}
use Rattle.kat_shapes.specs.declared.sort.Sort.TheVariants as sort
use Rattle.kat_grammar.specs.Forms.{IsWhen}
use Rattle.kat_forms.proofs.Forms.{When-is}
use Rattle.kat_forms.proofs.declarations.when_in.Goals as goal

pub parts_of-requires : goal.parts_of-requires
parts_of-requires c = c.form_laws.ensures.headed_list sort.When (codes "when") _ c.args.tree.now c.small_lists.ensures.one_when (record { numbers = λ n. refl; names = λ x. refl }) c.requires

pub phase_in-requires : goal.phase_in-requires
phase_in-requires c =
    let parts = c.parts_of.result.now in
    let found = c.form_laws.ensures.list_parts sort.When (codes "when") _ c.parts_of.ensures.0 c.args.tree.now parts c.small_lists.ensures.one_when c.parts_of.ensures.1 c.requires in
    let has = c.form_laws.ensures.exact_parts sort.When (codes "when") (sort.Expression ∷ sort.Phase ∷ []) parts refl found.1 in
    c.form_laws.ensures.part_fits (sort.Expression ∷ sort.Phase ∷ []) parts 1 c.phase-item.result has (omega arith) c.phase-item.is

pub returns : goal.returns
returns c =
    let parts = c.parts_of.result.now in
    let found = c.form_laws.ensures.list_parts sort.When (codes "when") _ c.parts_of.ensures.0 c.args.tree.now parts c.small_lists.ensures.one_when c.parts_of.ensures.1 c.requires in
    let has = c.form_laws.ensures.exact_parts sort.When (codes "when") (sort.Expression ∷ sort.Phase ∷ []) parts refl found.1 in
    subst (λ v. IsWhen v (record { test = c.in_ok-expr_in.field-0; phase = c.in_ok-phase_in.field-0 })) found.0
    (When-is parts c.in_ok-expr_in.field-0 c.in_ok-phase_in.field-0
    (c.form_laws.ensures.two_are parts c.test-item.result c.phase-item.result _ _ has.count c.test-item.is c.phase-item.is c.in_ok-expr_in.ensures.0 c.in_ok-phase_in.ensures.0)
    c.in_ok-expr_in.ensures.1 c.in_ok-phase_in.ensures.1)
