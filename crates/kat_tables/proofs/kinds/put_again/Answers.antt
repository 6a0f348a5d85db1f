use Rattle.std.proofs.Common.{refl, ap, ◌∙◌}
use Rattle.std.specs.Borrow.{Bor}
use Rattle.std.specs.Prelude.{unwrap_or}
use Rattle.std.specs.Str.{bytes_eq}
use Rattle.indexmap.specs.IndexMap.{insert_entry}
use Rattle.kat_syntax.specs.Tables.{Name}
use Rattle.kat_tables.specs.Meanings.{firsts_of, firsts_both, found_in}
use Rattle.kat_tables.proofs.Adding.{put_once}
use Rattle.kat_tables.proofs.kinds.put_again.Goals as goal

-- what the name was, with what it is here
pub returns-in-Ok : goal.returns-in-Ok
returns-in-Ok c =
    let es = c.args.again.now.entries in
    let x = c.args.name.now in
    let first = firsts_of c.args.first.now in
    let value = c.or.ensures ∙ ap (λ f. firsts_both f c.of.result) c.known_or-before.ensures
    ∙ ap (λ o. firsts_both (unwrap_or o first) c.of.result) c.get.ensures.value
    ∙ ap (firsts_both (unwrap_or (found_in es x) first)) c.of.ensures in
    put_once es c.insert.new.self.entries c.args.name _ x refl
    (c.in-Ok.ensures.entries
    ∙ ap (insert_entry (λ (a b : Bor Name). bytes_eq a.now b.now) es c.args.name) value)
