use Rattle.std.proofs.Common.{arith}
use Rattle.kat_ast.specs.Parts.{is_name, word}
use Rattle.kat_exprs.proofs.Forms.{one_more}
use Rattle.kat_exprs.proofs.params.names_of.Goals as goal

pub loop-tree-preserved : goal.loop-tree-preserved
loop-tree-preserved c =
    one_more c.form_laws.ensures word is_name c.args.trees.now c.loop-tree.names _ c.loop-tree.tree-index c.in_ok-name_in.field-0 c.tree-item.result
    c.in_ok-push.ensures.ok c.loop-tree.invariant (omega arith) c.tree-item.is c.in_ok-name_in.ensures.0 c.in_ok-name_in.ensures.1
