use Rattle.std.proofs.Common.{[], List, subst}
use Rattle.kat_syntax.specs.Tables.{Name}
use Rattle.kat_syntax.specs.Modes.{inputs_among, reading_of}
use Rattle.kat_mode.specs.Reading.{Follows}
use Rattle.kat_mode.proofs.Parts.{from_names}
use Rattle.kat_mode.proofs.decl.read_bound.Goals as goal

pub returns : goal.returns
returns c =
    let reader = reading_of (inputs_among c.args.inputs.now) c.args.assertion.now in
    let new = c.read_assertion.new.unbound in
    let result = c.read_assertion.result in
    from_names reader [] new result
    (subst (λ (old : List Name). Follows reader old new result) c.none-unbound.ensures
    c.read_assertion.ensures)
