use Rattle.std.proofs.Common.{◌-◌, [], length, refl, ap, ◌∙◌}
use Rattle.std.specs.Prelude.{codes}
use Rattle.kat_shapes.specs.declared.sort.Sort.TheVariants as sort
use Rattle.kat_ast.specs.Parts.{form}
use Rattle.std.proofs.lemmas.Result.{IfOk-weaker}
use Rattle.kat_forms.proofs.declarations.steps_in.Goals as goal

pub parts_of-requires : goal.parts_of-requires
parts_of-requires c = c.form_laws.ensures.headed_list sort.Steps (codes "steps") _ c.args.tree.now c.small_lists.ensures.one_steps (record { numbers = λ n. refl; names = λ x. refl }) c.requires

pub stms_in-requires : goal.stms_in-requires
stms_in-requires c =
    let parts = c.parts_of.result.now in
    let found = c.form_laws.ensures.list_parts sort.Steps (codes "steps") _ c.parts_of.ensures.0 c.args.tree.now parts c.small_lists.ensures.one_steps c.parts_of.ensures.1 c.requires in
    c.form_laws.ensures.rest_fits [] sort.Statement (length parts - 0) parts (c.form_laws.ensures.many_parts sort.Steps (codes "steps") [] sort.Statement parts refl found.1)

pub returns : goal.returns
returns c =
    let parts = c.parts_of.result.now in
    let found = c.form_laws.ensures.list_parts sort.Steps (codes "steps") _ c.parts_of.ensures.0 c.args.tree.now parts c.small_lists.ensures.one_steps c.parts_of.ensures.1 c.requires in
    IfOk-weaker c.stms_in.result _ _ (λ ss made. (ap (form (codes "steps")) made.0 ∙ found.0, made.1)) c.stms_in.ensures
