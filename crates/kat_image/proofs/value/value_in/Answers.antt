use Rattle.std.proofs.Common.{◌+◌, ◌∙◌, ap, length}
use Rattle.kat_syntax.specs.TypeTable.{types_of_decls}
use Rattle.kat_image.proofs.Levels.{value_read}
use Rattle.kat_image.proofs.value.value_in.Goals as goal

pub returns : goal.returns
returns c =
    value_read (types_of_decls c.args.machine.now.decls) c.types-2.result.now c.args.ty c.args.text.now c.new-unread.result.rest.now _ (length c.as_slice.result.now + 1) c.in_ok-value.field-0 c.whole_value.result c.in-Some.value
    (ap (λ l. length l + 1) (c.as_slice.ensures ∙ c.types.ensures)) c.new-unread.ensures c.types-2.ensures c.in_ok-value.ensures c.in-Some.is c.whole_value.ensures
