use Rattle.std.proofs.Common.{◌<◌, ◌≤◌, ◌∙◌, ap, length, get_or, arith}
use Rattle.kat_syntax.specs.NamedValues.{name_of_type}
use Rattle.kat_syntax.proofs.Positions.{one_position, all_positions}
use Rattle.kat_syntax.proofs.run_tables.type_positions.Goals as goal

pub loop-position-preserved : goal.loop-position-preserved
loop-position-preserved c =
    let types = c.args.types.now in
    let k = c.loop-position.position in
    let same = ap length c.as_slice-decl-items.ensures in
    let within : k < length types = omega (arith, same, c.loop-position-test.true) in
    rw (c.in_ok-add.ensures, c.name_of_type.ensures)
    (one_position name_of_type types k c.decl-item.result c.loop-position.named _
    c.loop-position.invariant within
    (c.decl-item.is ∙ ap (λ ts. get_or ts k c.decl-item.result) c.as_slice-decl-items.ensures))

pub returns : goal.returns
returns c =
    let same = ap length c.as_slice-decl-items.ensures in
    let past : length c.args.types.now ≤ c.loop-position.position =
    omega (arith, same, c.loop-position-test.false) in
    all_positions name_of_type c.args.types.now c.loop-position.position c.loop-position.named
    c.loop-position.invariant past
