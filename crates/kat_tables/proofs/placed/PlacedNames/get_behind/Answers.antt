use Rattle.std.proofs.Common.{Some, sym, ap, ◌∙◌}
use Rattle.std.specs.Option.{option_map}
use Rattle.kat_tables.specs.Entries.{found_in}
use Rattle.kat_tables.specs.KeptNames.{placed_by}
use Rattle.kat_tables.proofs.KeptLaws.{found_kept}
use Rattle.kat_tables.proofs.placed.PlacedNames.get_behind.Goals as goal

-- a name that is there
pub returns-in-Some : goal.returns-in-Some
returns-in-Some c =
    let meanings = c.self.inside.meanings in
    let x = c.args.name.now in
    ap Some (c.with_meaning.ensures
    ∙ ap (λ ms. placed_by ms c.in-Some.one.now) c.as_slice.ensures)
    ∙ ap (option_map (placed_by meanings)) c.in-Some.ensures.value
    ∙ sym (found_kept meanings c.self.inside.names.entries x)
    ∙ ap (λ es. found_in es x) c.self.view_is

-- a name that is not there
pub returns-in-None : goal.returns-in-None
returns-in-None c =
    let meanings = c.self.inside.meanings in
    let x = c.args.name.now in
    ap (option_map (placed_by meanings)) c.in-None.ensures.value
    ∙ sym (found_kept meanings c.self.inside.names.entries x)
    ∙ ap (λ es. found_in es x) c.self.view_is
