-- A register that is to be known.
use Rattle.kat_stm_types.proofs.Statements.{read_told}
use Rattle.kat_stm_types.proofs.stm.judge_read.Goals as goal

pub returns : goal.returns
returns c = λ scope.
    read_told c.args.around.now scope c.args.register.now c.args.at c.new.result c.args.faults.now
    c.judge_known.new.faults c.register.result c.is_some.result c.type_of_register.result
    c.register.ensures c.is_some.ensures c.judge_known.ensures c.type_of_register.ensures
    c.new.ensures
