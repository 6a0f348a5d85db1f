use Rattle.kat_norm.proofs.Rewritten.{rewritten, type_kept, value_kept}
use Rattle.kat_norm.proofs.norm.rewrite.Goals as goal

pub returns-clause-normal : goal.returns-clause-normal
returns-clause-normal c =
    rewritten c.normal_form.result c.args.world.now.vars c.vars.result.now c.args.substitution.now c.args.term c.in_ok-whole.whole
    c.vars.ensures c.in_ok-whole.ensures c.normal_form.ensures

pub returns-clause-kept : goal.returns-clause-kept
returns-clause-kept c =
    value_kept c.normal_form.result c.args.world.now.vars c.args.substitution.now c.args.term
    c.normal_forms_keep_values.ensures.values (returns-clause-normal c)

pub returns-clause-typed : goal.returns-clause-typed
returns-clause-typed c =
    type_kept c.normal_form.result c.args.world.now.vars c.args.substitution.now c.args.term
    c.normal_forms_keep_types.ensures (returns-clause-normal c)
