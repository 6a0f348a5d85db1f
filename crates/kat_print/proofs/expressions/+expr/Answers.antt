use Rattle.kat_print.proofs.ExpressionTexts.{text-BeforeCell}
use Rattle.kat_print.proofs.expressions.+expr.Goals as goal

pub put_expr-returns-in-BeforeCell : goal.put_expr-returns-in-BeforeCell
put_expr-returns-in-BeforeCell t c = rw (text-BeforeCell _ _ c.in-BeforeCell.is) c.put_numbered-in-BeforeCell.ensures
