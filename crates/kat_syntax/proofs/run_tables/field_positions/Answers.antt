use Rattle.kat_value.specs.declared.types.Field.{Field}
use Rattle.kat_syntax.proofs.Positions.{one_position, all_positions}
use Rattle.kat_syntax.proofs.run_tables.field_positions.Goals as goal

pub loop-position-preserved : goal.loop-position-preserved
loop-position-preserved c =
    rw c.in_ok-add.ensures (one_position (λ (field : Field). field.name) c.args.fields.now c.loop-position.position
    c.index-fields-position.result c.loop-position.named _ c.loop-position.invariant
    c.loop-position-test.true c.index-fields-position.is)

pub returns : goal.returns
returns c =
    all_positions (λ (field : Field). field.name) c.args.fields.now c.loop-position.position c.loop-position.named
    c.loop-position.invariant c.loop-position-test.false
