use Rattle.std.proofs.Common.{◌≡◌, length, Option, Some, sym, ap, ◌∙◌}
use Rattle.std.specs.Option.{option_map}
use Rattle.kat_tables.specs.Entries.{found_in}
use Rattle.kat_tables.specs.KeptNames.{placed_by}
use Rattle.kat_tables.proofs.KeptLaws.{found_kept, found_below}
use Rattle.kat_tables.proofs.placed.PlacedNames.get.Goals as goal

-- what is kept has the number of a meaning that is there
pub with_meaning-requires : goal.with_meaning-requires
with_meaning-requires c =
    rw c.as_slice.ensures (found_below (length c.self.inside.meanings)
    c.self.inside.names.entries c.args.name.now c.in-Some.one.now c.self.invariant
    (sym c.in-Some.ensures.value))

-- a name that is there
pub returns-in-Some : goal.returns-in-Some
returns-in-Some c =
    let meanings = c.self.inside.meanings in
    let x = c.args.name.now in
    ap Some (c.with_meaning.ensures
    ∙ ap (λ ms. placed_by ms c.in-Some.one.now) c.as_slice.ensures)
    ∙ ap (option_map (placed_by meanings)) c.in-Some.ensures.value
    ∙ sym (found_kept meanings c.self.inside.names.entries x)
    ∙ ap (λ es. found_in es x) c.self.view_is

-- a name that is not there
pub returns-in-None : goal.returns-in-None
returns-in-None c =
    let meanings = c.self.inside.meanings in
    let x = c.args.name.now in
    ap (option_map (placed_by meanings)) c.in-None.ensures.value
    ∙ sym (found_kept meanings c.self.inside.names.entries x)
    ∙ ap (λ es. found_in es x) c.self.view_is
