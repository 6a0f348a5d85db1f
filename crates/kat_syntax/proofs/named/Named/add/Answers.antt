use Rattle.std.proofs.Common.{◌≡◌, sym, ap, ◌∙◌, Some, None, Err, ◌++◌, ◌∷◌, [], List, ℕ}
use Rattle.kat_names.specs.Names.{position_of}
use Rattle.kat_names.specs.NameError.{twice_of}
use Rattle.kat_syntax.specs.NamedItems.{added, items_of}
use Rattle.kat_syntax.proofs.Finding.{added_new, added_again, popped}
use Rattle.kat_syntax.proofs.named.Named.add.Goals as goal

-- the name and the item stand at the ends
pub returns-in-Ok : goal.returns-in-Ok
returns-in-Ok g c =
    let old : List (List ℕ) = c.self.inside.names in
    let names : c.add.new.self ≡ old ++ c.args.name.now ∷ [] =
    c.in-Ok.ensures.added ∙ ap (λ n. old ++ n ∷ []) c.as_str.ensures in
    let at : position_of old c.args.name.now ≡ None =
    ap (position_of old) (sym c.as_str.ensures) ∙ sym c.add.ensures.position
    ∙ ap twice_of c.in-Ok.is in
    ap (λ ns. items_of ns c.push.new.self) names
    ∙ ap (λ items. items_of (old ++ c.args.name.now ∷ []) items) c.in_ok-push.ensures.ok
    ∙ added_new old c.self.inside.items c.args.name.now c.args.item c.self.invariant at
    ∙ ap (λ all. added all c.args.name.now c.args.item) c.self.view_is

-- the item that was pushed is taken away again
pub returns-in-Err-Twice : goal.returns-in-Err-Twice
returns-in-Err-Twice g c =
    let old : List (List ℕ) = c.self.inside.names in
    let at : position_of old c.args.name.now ≡ Some c.in-Err-Twice.field-0-0 =
    ap (position_of old) (sym c.as_str.ensures) ∙ sym c.add.ensures.position
    ∙ ap twice_of (c.in-Err-Twice.is ∙ ap Err c.in-Err-Twice.field-0-is) in
    let names : c.add.new.self ≡ old = c.in-Err-Twice.ensures.err in
    let items : c.pop-item.new.self ≡ c.self.inside.items =
    popped c.pop-item.result c.self.inside.items c.push.new.self c.pop-item.new.self
    c.args.item c.in_ok-push.ensures.ok c.pop-item.ensures in
    ap (λ ns. items_of ns c.pop-item.new.self) names
    ∙ ap (items_of old) items
    ∙ added_again old c.self.inside.items c.args.name.now c.args.item c.in-Err-Twice.field-0-0
    c.self.invariant at
    ∙ ap (λ all. added all c.args.name.now c.args.item) c.self.view_is
