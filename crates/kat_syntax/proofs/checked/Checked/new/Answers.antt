use Rattle.std.proofs.Common.{ap, length, arith}
use Rattle.kat_syntax.proofs.TypedDeclarations.{few_of_typed}
use Rattle.kat_syntax.proofs.checked.Checked.new.Goals as goal

-- a typed specification has few declarations
pub run_tables-requires-clause-few : goal.run_tables-requires-clause-few
run_tables-requires-clause-few c =
    let few = few_of_typed c.args.spec c.requires in
    let same = ap length c.decls-2.ensures.decls in
    omega (arith, few, same)
