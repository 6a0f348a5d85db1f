use Rattle.std.proofs.Common.{arith}
use Rattle.kat_ast.specs.Types.{is_formed_param, tree_of_param}
use Rattle.kat_exprs.proofs.Forms.{one_more}
use Rattle.kat_exprs.proofs.params.params_of.Goals as goal

pub loop-tree-preserved : goal.loop-tree-preserved
loop-tree-preserved c =
    one_more c.form_laws.ensures tree_of_param is_formed_param c.args.trees.now c.loop-tree.params _ c.loop-tree.tree-index c.in_ok-param_in.field-0 c.tree-item.result
    c.in_ok-push.ensures.ok c.loop-tree.invariant (omega arith) c.tree-item.is c.in_ok-param_in.ensures.0 c.in_ok-param_in.ensures.1
