use Rattle.kat_ast.specs.declared.type_name.Param.{Param}
use Rattle.kat_syntax.proofs.Positions.{one_position, all_positions}
use Rattle.kat_syntax.proofs.run_tables.param_positions.Goals as goal

pub loop-position-preserved : goal.loop-position-preserved
loop-position-preserved c =
    rw c.in_ok-add.ensures (one_position (λ (param : Param). param.name) c.args.params.now c.loop-position.position
    c.index-params-position.result c.loop-position.named _ c.loop-position.invariant
    c.loop-position-test.true c.index-params-position.is)

pub returns : goal.returns
returns c =
    all_positions (λ (param : Param). param.name) c.args.params.now c.loop-position.position c.loop-position.named
    c.loop-position.invariant c.loop-position-test.false
