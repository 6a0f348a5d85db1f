use Rattle.std.proofs.Common.{rules, sym, ◌∙◌}
use Rattle.kat_names.proofs.NameLemmas.{position_of-keys}
use Rattle.kat_names.proofs.names.Table.position_of.Goals as goal

pub returns-in_err-position : goal.returns-in_err-position
returns-in_err-position c =
    let looked_up =
    c.from_residual.ensures ∙ sym c.in_err-position.was ∙ c.get_index_of.ensures.index in
    let is =
    position_of-keys c.self.inside.names.keys c.args.self.now c.args.name.now _
    c.self.view_is c.self.invariant.distinct looked_up in
    record { position = is.position; found = is.found; known = is.known; distinct = search rules }

pub returns : goal.returns
returns c =
    let looked_up = sym c.in_ok-position.was ∙ c.get_index_of.ensures.index in
    let is =
    position_of-keys c.self.inside.names.keys c.args.self.now c.args.name.now _
    c.self.view_is c.self.invariant.distinct looked_up in
    record { position = is.position; found = is.found; known = is.known; distinct = search rules }
