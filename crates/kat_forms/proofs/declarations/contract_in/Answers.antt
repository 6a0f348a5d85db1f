use Rattle.std.proofs.Common.{[], ◌∷◌, ap, ◌∙◌, arith}
use Rattle.std.specs.Prelude.{codes}
use Rattle.kat_tree.specs.declared.tree.Tree.TheVariants as variant
use Rattle.kat_ast.specs.Parts.{word}
use Rattle.kat_shapes.specs.declared.sort.Sort.TheVariants as sort
use Rattle.kat_forms.proofs.Forms.{Contract-is}
use Rattle.kat_forms.proofs.declarations.contract_in.Goals as goal

pub part_of-requires : goal.part_of-requires
part_of-requires c = c.form_laws.ensures.holder sort.Res (codes "res") sort.Name c.res-item.result c.small_lists.ensures.one_res c.small_lists.ensures.no_res (c.form_laws.ensures.part_fits (sort.Name ∷ sort.Params ∷ sort.Pre ∷ sort.Res ∷ sort.Post ∷ []) c.args.parts.now 3 c.res-item.result c.requires (omega arith) c.res-item.is)

pub name_in-requires-2 : goal.name_in-requires-2
name_in-requires-2 c = (c.form_laws.ensures.held_part sort.Res (codes "res") sort.Name c.small_lists.ensures.one_res c.part_of.ensures.0 c.res-item.result c.part_of.result.now c.part_of.ensures.1 (c.form_laws.ensures.part_fits (sort.Name ∷ sort.Params ∷ sort.Pre ∷ sort.Res ∷ sort.Post ∷ []) c.args.parts.now 3 c.res-item.result c.requires (omega arith) c.res-item.is)).1

pub returns : goal.returns
returns c =
    let parts = c.args.parts.now in
    let res = c.form_laws.ensures.held_part sort.Res (codes "res") sort.Name c.small_lists.ensures.one_res c.part_of.ensures.0 c.res-item.result c.part_of.result.now c.part_of.ensures.1 (c.form_laws.ensures.part_fits (sort.Name ∷ sort.Params ∷ sort.Pre ∷ sort.Res ∷ sort.Post ∷ []) c.args.parts.now 3 c.res-item.result c.requires (omega arith) c.res-item.is) in
    Contract-is parts c.in_ok-name_in.field-0 c.in_ok-params_in.field-0 c.in_ok-pre.pre c.in_ok-name_in-2.field-0 c.in_ok-pre.post
    (c.form_laws.ensures.five_are parts c.function-item.result c.names-item.result c.pre-item.result c.res-item.result c.post-item.result _ _ _ _ _ c.requires.count
    c.function-item.is c.names-item.is c.pre-item.is c.res-item.is c.post-item.is
    c.in_ok-name_in.ensures.0 c.in_ok-params_in.ensures.0 c.in_ok-pre.ensures.0.0
    (ap (λ t. variant.List (word (codes "res") ∷ t ∷ [])) c.in_ok-name_in-2.ensures.0 ∙ res.0)
    c.in_ok-pre.ensures.1.0)
    c.in_ok-name_in.ensures.1 c.in_ok-params_in.ensures.1 c.in_ok-pre.ensures.0.1 c.in_ok-name_in-2.ensures.1 c.in_ok-pre.ensures.1.1
