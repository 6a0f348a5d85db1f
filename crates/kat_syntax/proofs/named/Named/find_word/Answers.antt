use Rattle.std.proofs.Common.{◌≡◌, sym, ap, ◌∙◌, Some, None, slice_get, List, ℕ}
use Rattle.std.specs.Prelude.{option_and_then}
use Rattle.kat_names.specs.Names.{position_of}
use Rattle.kat_syntax.specs.NamedItems.{found}
use Rattle.kat_syntax.proofs.Finding.{by_position}
use Rattle.kat_syntax.proofs.named.Named.find_word.Goals as goal

-- a name that is not there has no item
pub returns-in_err-at : goal.returns-in_err-at
returns-in_err-at g c =
    let names : List (List ℕ) = c.self.inside.names in
    let at : position_of names c.args.name.now ≡ None =
    sym c.find.ensures.position
    ∙ sym c.ok.ensures.value ∙ c.in_err-at.was in
    c.from_residual.ensures ∙ ap (option_and_then (slice_get c.self.inside.items)) (sym at)
    ∙ by_position names c.self.inside.items c.args.name.now
    ∙ ap (λ all. found all c.args.name.now) c.self.view_is

-- the item at the name's position
pub returns : goal.returns
returns g c =
    let names : List (List ℕ) = c.self.inside.names in
    let at : position_of names c.args.name.now ≡ Some c.in_ok-at.at =
    sym c.find.ensures.position
    ∙ sym c.ok.ensures.value ∙ c.in_ok-at.was in
    c.copied.ensures ∙ c.get.ensures.value
    ∙ ap (option_and_then (slice_get c.self.inside.items)) (sym at)
    ∙ by_position names c.self.inside.items c.args.name.now
    ∙ ap (λ all. found all c.args.name.now) c.self.view_is
