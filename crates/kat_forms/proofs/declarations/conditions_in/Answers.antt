use Rattle.std.specs.Prelude.{codes}
use Rattle.kat_shapes.specs.declared.sort.Sort.TheVariants as sort
use Rattle.kat_grammar.specs.Forms.{IsAssertion, IsHolding}
use Rattle.kat_forms.proofs.Forms.{holding_is, paired_are, read_as}
use Rattle.kat_forms.proofs.declarations.conditions_in.Goals as goal

pub part_of-requires : goal.part_of-requires
part_of-requires c = c.form_laws.ensures.holder sort.Pre (codes "pre") sort.Assertion c.args.pre.now c.small_lists.ensures.one_pre c.small_lists.ensures.no_pre c.requires.pre

pub assertion_in-requires : goal.assertion_in-requires
assertion_in-requires c =
    (c.form_laws.ensures.held_part sort.Pre (codes "pre") sort.Assertion c.small_lists.ensures.one_pre c.part_of.ensures.0 c.args.pre.now c.part_of.result.now c.part_of.ensures.1 c.requires.pre).1

pub part_of-requires-2 : goal.part_of-requires-2
part_of-requires-2 c = c.form_laws.ensures.holder sort.Post (codes "post") sort.Assertion c.args.post.now c.small_lists.ensures.one_post c.small_lists.ensures.no_post c.requires.post

pub assertion_in-requires-2 : goal.assertion_in-requires-2
assertion_in-requires-2 c =
    (c.form_laws.ensures.held_part sort.Post (codes "post") sort.Assertion c.small_lists.ensures.one_post c.part_of-2.ensures.0 c.args.post.now c.part_of-2.result.now c.part_of-2.ensures.1 c.requires.post).1

pub returns : goal.returns
returns c =
    let pre = c.form_laws.ensures.held_part sort.Pre (codes "pre") sort.Assertion c.small_lists.ensures.one_pre c.part_of.ensures.0 c.args.pre.now c.part_of.result.now c.part_of.ensures.1 c.requires.pre in
    let post = c.form_laws.ensures.held_part sort.Post (codes "post") sort.Assertion c.small_lists.ensures.one_post c.part_of-2.ensures.0 c.args.post.now c.part_of-2.result.now c.part_of-2.ensures.1 c.requires.post in
    paired_are (IsHolding (codes "pre") c.args.pre.now) (IsHolding (codes "post") c.args.post.now) _ c.in_ok-pre.pre _ c.paired.ensures
    (holding_is (codes "pre") c.args.pre.now c.part_of.result.now _ pre.0 c.in_ok-pre.ensures)
    (read_as (IsAssertion c.part_of-2.result.now) (IsHolding (codes "post") c.args.post.now) (λ a. holding_is (codes "post") c.args.post.now c.part_of-2.result.now a post.0) _ c.assertion_in-2.ensures)
