use Rattle.kat_top.proofs.Typed.{with_tables_read}
use Rattle.kat_top.proofs.inputs.moded_of_text.Goals as goal

pub returns-in-Ok : goal.returns-in-Ok
returns-in-Ok c = λ earlier.
    with_tables_read earlier c.args.text.now c.in-Ok.spec c.with_tables.result
    (c.in-Ok.ensures.comes earlier) c.with_tables.ensures

pub returns-in-Err : goal.returns-in-Err
returns-in-Err c = λ earlier. c.in-Err.ensures.comes earlier
