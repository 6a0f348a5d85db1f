use Rattle.std.proofs.Common.{ap, drop, ◌+◌}
use Rattle.std.proofs.lemmas.List.{drop_all}
use Rattle.kat_syntax.proofs.Positions.{first_from, next_of, next_position, finds_positions}
use Rattle.kat_syntax.proofs.run_tables.text_positions.Goals as goal

pub loop-position-preserved : goal.loop-position-preserved
loop-position-preserved c =
    let names = c.args.names.now in
    let k = c.loop-position.position in
    rw c.in_ok-add.ensures (next_position k (drop k names) (drop (k + 1) names)
    c.index-names-position.result c.loop-position.named (first_from 0 names)
    (next_of names k c.index-names-position.result c.loop-position-test.true
    c.index-names-position.is)
    c.loop-position.invariant)

pub returns : goal.returns
returns c =
    let names = c.args.names.now in
    let k = c.loop-position.position in
    finds_positions names c.loop-position.named (first_from k (drop k names))
    c.loop-position.invariant
    (λ x. ap (λ ns. first_from k ns x) (drop_all k names c.loop-position-test.false))
