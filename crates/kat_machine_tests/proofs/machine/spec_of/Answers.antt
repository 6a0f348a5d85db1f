use Rattle.std.proofs.Common.{ap, arith}
use Rattle.kat_tree.specs.Preorder.{count_of}
use Rattle.kat_machine_tests.proofs.Trees.{small_parts}
use Rattle.kat_machine_tests.proofs.machine.spec_of.Goals as goal

pub read_spec-requires-clause-small : goal.read_spec-requires-clause-small
read_spec-requires-clause-small c = λ parts is.
    let few = c.trees_fit_their_text.ensures c.args.text.now c.in-Ok.tree c.in-Ok.ensures.found in
    let same = ap count_of is in
    let whole = c.places.ensures.count parts in
    small_parts parts (omega arith)
