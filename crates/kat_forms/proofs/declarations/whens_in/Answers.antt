use Rattle.std.proofs.Common.{arith}
use Rattle.kat_ast.specs.Declarations.{is_formed_when, tree_of_when}
use Rattle.kat_forms.proofs.Forms.{one_more}
use Rattle.kat_forms.proofs.declarations.whens_in.Goals as goal

pub loop-tree-preserved : goal.loop-tree-preserved
loop-tree-preserved c =
    one_more c.form_laws.ensures tree_of_when is_formed_when c.args.trees.now c.loop-tree.cases _ c.loop-tree.tree-index c.in_ok-when_in.field-0 c.tree-item.result
    c.in_ok-push.ensures.ok c.loop-tree.invariant (omega arith) c.tree-item.is c.in_ok-when_in.ensures.0 c.in_ok-when_in.ensures.1
