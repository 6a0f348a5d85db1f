use Rattle.std.proofs.Common.{◌≡◌, length, Option, None, Some, sym, ap, subst, ◌∙◌, lt_of_lt_of_le}
use Rattle.kat_tables.specs.Entries.{found_in, IsPut}
use Rattle.kat_tables.specs.KeptNames.{all_placed, placed_by, AreBelow}
use Rattle.kat_tables.proofs.KeptLaws.{found_below, below_more, at_most, same_placed, was_placed, put_kept, kept_below, always_err}
use Rattle.kat_tables.proofs.placed.PlacedNames.insert.Goals.{in-Ok-Some, in-Ok-None, in-Err}
use Rattle.kat_tables.proofs.placed.PlacedNames.insert.Goals as goal

-- without memory for a meaning all is as it was
pub returns-in_err-meaning-clause-err : goal.returns-in_err-meaning-clause-err
returns-in_err-meaning-clause-err c =
    always_err c.from_residual.result
    (same_placed c.self.inside.meanings c.number_of.new.meanings c.args.one.now.meaning
    c.number_of.ensures.kept c.self.inside.names.entries c.self.invariant ∙ c.self.view_is)

-- what was kept has the number of a meaning that is there
pub with_meaning-requires : goal.with_meaning-requires
with_meaning-requires c =
    let before = c.self.inside.meanings in
    rw c.as_slice.ensures (lt_of_lt_of_le
    (found_below (length before) c.self.inside.names.entries c.args.name.now
    c.in-Ok-Some.first c.self.invariant
    (sym c.in-Ok-Some.ensures.old ∙ c.in-Ok-Some.field-0-is))
    (at_most before c.number_of.new.meanings c.args.one.now.meaning c.number_of.ensures.kept))

-- each name has the number of a meaning that is there
pub invariant_of-self-2 : goal.invariant_of-self-2
invariant_of-self-2 c =
    let before = c.self.inside.meanings in
    let now = c.number_of.new.meanings in
    let kept = c.self.inside.names.entries in
    let below = below_more (length before) (length now) kept
    (at_most before now c.args.one.now.meaning c.number_of.ensures.kept) c.self.invariant in
    let put = kept_below before now kept c.insert.new.self.entries c.args.name c.args.one.now
    c.in_ok-meaning.meaning c.number_of.ensures.kept c.self.invariant
    c.in_ok-meaning.ensures.number in
    elim c.match-insert.branch [
      | in-Ok-Some w ↦ put w.in-Ok-Some.ensures.entries
      | in-Ok-None w ↦ put w.in-Ok-None.ensures.entries
      | in-Err w ↦ subst (AreBelow (length now)) (sym w.in-Err.ensures.err) below
    ]

-- what the name was
pub returns-clause-old : goal.returns-clause-old
returns-clause-old c =
    let now = c.number_of.new.meanings in
    let x = c.args.name.now in
    let was = was_placed c.self.inside.meanings now c.args.one.now.meaning
    c.number_of.ensures.kept c.self.inside.names.entries c.self.invariant x in
    elim c.match-insert.branch [
      | in-Ok-Some w ↦ rw w.result-is (ap Some (w.with_meaning.ensures
          ∙ ap (λ ms. placed_by ms w.in-Ok-Some.first) w.as_slice.ensures)
          ∙ was (Some w.in-Ok-Some.first)
          (sym w.in-Ok-Some.field-0-is ∙ w.in-Ok-Some.ensures.old)
          ∙ ap (λ es. found_in es x) c.self.view_is)
      | in-Ok-None w ↦ rw w.result-is (was None
          (sym w.in-Ok-None.field-0-is ∙ w.in-Ok-None.ensures.old)
          ∙ ap (λ es. found_in es x) c.self.view_is)
      | in-Err w ↦ rw w.result-is tt
    ]

-- the name is this now
pub returns-clause-names : goal.returns-clause-names
returns-clause-names c =
    let now = c.number_of.new.meanings in
    let later = c.insert.new.self.entries in
    let here = subst
    (λ es. IsPut es c.args.name.now c.args.one.now (all_placed now later)) c.self.view_is in
    let put = put_kept c.self.inside.meanings now c.self.inside.names.entries later c.args.name
    c.args.one.now c.in_ok-meaning.meaning c.number_of.ensures.kept c.self.invariant
    c.in_ok-meaning.ensures.number in
    elim c.match-insert.branch [
      | in-Ok-Some w ↦ rw w.result-is (here (put w.in-Ok-Some.ensures.entries))
      | in-Ok-None w ↦ rw w.result-is (here (put w.in-Ok-None.ensures.entries))
      | in-Err w ↦ rw w.result-is tt
    ]

-- without memory for a name all is as it was
pub returns-clause-err : goal.returns-clause-err
returns-clause-err c =
    let now = c.number_of.new.meanings in
    let same = same_placed c.self.inside.meanings now c.args.one.now.meaning
    c.number_of.ensures.kept c.self.inside.names.entries c.self.invariant ∙ c.self.view_is in
    elim c.match-insert.branch [
      | in-Ok-Some w ↦ rw w.result-is tt
      | in-Ok-None w ↦ rw w.result-is tt
      | in-Err w ↦ rw w.result-is (ap (all_placed now) w.in-Err.ensures.err ∙ same)
    ]
