use Rattle.std.proofs.Common.{refl, sym, ◌∙◌}
use Rattle.kat_tables.specs.Meanings.{Noted}
use Rattle.kat_tables.proofs.Noting.{both_ok}
use Rattle.kat_tables.proofs.Putting.{with_new, with_again}
use Rattle.kat_tables.proofs.kinds.Kinds.put.Goals as goal

-- a new name
pub returns-in-Ok-None : goal.returns-in-Ok-None
returns-in-Ok-None c all is =
    let x = c.args.name.now in
    let one : Noted = record {
      stand = c.args.one.now.at;
      name = x;
      meaning = c.args.one.now.meaning;
    } in
    with_new all one c.args.self.now (record {
      names = c.insert.new.self;
      again = c.args.self.now.again;
    })
    c.in-Ok-None.ensures.names refl (sym c.in-Ok-None.ensures.old ∙ c.in-Ok-None.field-0-is) is

-- a name that was there already
pub returns-in-Ok-Some : goal.returns-in-Ok-Some
returns-in-Ok-Some c all is =
    let x = c.args.name.now in
    let one : Noted = record {
      stand = c.args.one.now.at;
      name = x;
      meaning = c.args.one.now.meaning;
    } in
    both_ok c.put_back.result c.put_back.ensures.names c.put_back.ensures.again (λ back twice.
    with_again all one c.in-Ok-Some.first c.args.self.now c.put_back.new.self
    c.insert.new.self c.in-Ok-Some.ensures.names
    (sym c.in-Ok-Some.field-0-is ∙ c.in-Ok-Some.ensures.old) back twice is)
