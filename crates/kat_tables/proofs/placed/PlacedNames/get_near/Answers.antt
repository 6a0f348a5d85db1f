use Rattle.std.proofs.Common.{ℕ, List, Some, sym, ap, ◌∙◌}
use Rattle.std.specs.Option.{option_map}
use Rattle.std.proofs.lemmas.Slice.Eq.{bytes_eq-Decides}
use Rattle.kat_tables.specs.Entries.{found_in}
use Rattle.kat_tables.specs.KeptNames.{placed_by}
use Rattle.kat_tables.proofs.KeptLaws.{found_kept}
use Rattle.kat_tables.proofs.placed.PlacedNames.get_near.Goals as goal

-- the name at an index is that which is asked, and what the table says of it stands there
pub returns-in-Some : goal.returns-in-Some
returns-in-Some c =
    let meanings = c.self.inside.meanings in
    let kept = c.self.inside.names.entries in
    let x = c.args.name.now in
    let same = (bytes_eq-Decides c.in-Some.key.now.now x).0 (sym c.if-eq.ensures) in
    let found = ap (λ (y : List ℕ). found_in kept y) (sym same) ∙ c.in-Some.ensures.value in
    ap Some (c.with_meaning.ensures
    ∙ ap (λ ms. placed_by ms c.in-Some.one.now) c.as_slice.ensures)
    ∙ ap (option_map (placed_by meanings)) (sym found)
    ∙ sym (found_kept meanings kept x)
    ∙ ap (λ es. found_in es x) c.self.view_is
