use Rattle.std.proofs.Common.{sym, ◌∙◌}
use Rattle.kat_typing.proofs.Counting.{with_size, without_size}
use Rattle.kat_typing.proofs.limits.push_size.Goals as goal

pub returns-in_ok-push : goal.returns-in_ok-push
returns-in_ok-push c =
    with_size c.args.around.now c.args.decl.now c.args.sizes.now c.push.new.self
    c.size_of_decl-size.result c.requires.here
    c.requires.sizes (sym c.if-is_type_decl.true ∙ c.is_type_decl.ensures)
    c.size_of_decl-size.ensures c.in_ok-push.ensures.ok

pub returns-else-is_type_decl : goal.returns-else-is_type_decl
returns-else-is_type_decl c =
    without_size c.args.around.now c.args.decl.now c.args.sizes.now c.requires.here
    c.requires.sizes (sym c.if-is_type_decl.false ∙ c.is_type_decl.ensures)
