-- A condition is an expression, whose type is then looked at.
use Rattle.std.proofs.Common.{Some}
use Rattle.kat_value.specs.Signatures.{agree}
use Rattle.kat_value.specs.declared.types.Ty.TheVariants as ty
use Rattle.kat_stm_types.proofs.Noting.{trees_here, condition_noted}
use Rattle.kat_stm_types.proofs.uses.judge_truth.Goals as goal

pub returns-clause-trees : goal.returns-clause-trees
returns-clause-trees c = trees_here c.args.setting.now c.args.test.now _ _ _ _
    c.judge_expr-known.ensures

pub returns-clause-faults : goal.returns-clause-faults
returns-clause-faults c =
    condition_noted (agree (Some ty.Bool)) _ _ _ _ _ _ c.judge_expr-known.ensures
    c.judge_wanting.ensures
