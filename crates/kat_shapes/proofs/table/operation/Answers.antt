use Rattle.std.proofs.Common.{Some, ap, sym, ◌∙◌}
use Rattle.std.specs.Option.{option_map}
use Rattle.kat_shapes.specs.Forms.{form_of_op}
use Rattle.kat_shapes.proofs.Operations.{operation_rows}
use Rattle.kat_shapes.proofs.table.operation.Goals as goal

pub returns : goal.returns
returns c =
    ap (λ form. Some form) c.form_of_op.ensures ∙ ap (option_map form_of_op) (sym c.in_ok-op_of_word.was ∙ c.op_of_word.ensures)
    ∙ sym (operation_rows c.args.word.now)
