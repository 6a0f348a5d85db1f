use Rattle.std.proofs.Common.{◌∙◌, ap, sym, map, if◌then◌else◌, ◌≡◌, Some, None}
use Rattle.std.specs.String.{string_bytes}
use Rattle.kat_names.specs.Names.{position_of}
use Rattle.kat_names.proofs.NameLemmas.{IsInserted, absent-names, insert_full-names}
use Rattle.kat_names.proofs.names.Table.add_owned.Goals as goal

-- what the insertion has done where the name is new
inserted : (c : goal.Else-not-anew) →
    IsInserted c.args.self.now (map string_bytes c.insert_full.new.self.keys)
    (string_bytes c.args.name) c.in-Ok.position c.in-Ok.anew
inserted c =
    insert_full-names c.self.inside.names.keys c.insert_full.new.self.keys c.args.name
    c.args.self.now c.in-Ok.position c.in-Ok.anew
    c.self.view_is c.self.invariant c.requires
    c.in-Ok.ensures.added c.in-Ok.ensures.index c.in-Ok.ensures.keys

-- the name stood nowhere where the name is new
is_new : (c : goal.Else-not-anew) → position_of c.args.self.now (string_bytes c.args.name) ≡ None
is_new c =
    (inserted c).stood ∙ ap (λ b. if b then None else Some c.in-Ok.position) c.if-not-anew.false

pub returns-in_default-clause-position : goal.returns-in_default-clause-position
returns-in_default-clause-position c =
    sym (absent-names c.self.inside.names.keys c.args.name c.args.self.now
    c.self.view_is c.in_default.ensures.absent)

pub returns-then-not-anew-clause-position : goal.returns-then-not-anew-clause-position
returns-then-not-anew-clause-position c =
    let is =
    insert_full-names c.self.inside.names.keys c.insert_full.new.self.keys c.args.name
    c.args.self.now c.in-Ok.position c.in-Ok.anew
    c.self.view_is c.self.invariant c.requires
    c.in-Ok.ensures.added c.in-Ok.ensures.index c.in-Ok.ensures.keys in
    sym (is.stood ∙ ap (λ b. if b then None else Some c.in-Ok.position) c.if-not-anew.true)

pub invariant_of-self-2 : goal.invariant_of-self-2
invariant_of-self-2 c = (inserted c).table

pub returns-clause-last : goal.returns-clause-last
returns-clause-last c = (inserted c).last c.if-not-anew.false

pub returns-clause-position : goal.returns-clause-position
returns-clause-position c = sym (is_new c)

pub returns-clause-distinct : goal.returns-clause-distinct
returns-clause-distinct c = (inserted c).table.distinct
