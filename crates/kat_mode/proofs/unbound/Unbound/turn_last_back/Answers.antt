use Rattle.std.proofs.Common.{◌≡◌, ◌∷◌, ◌++◌, [], false, unwrap_or, is_some, sym, ap, subst, ◌∙◌}
use Rattle.kat_mode.specs.Flags.{HasFlags, flag_in}
use Rattle.kat_mode.specs.Names.{texts}
use Rattle.kat_mode.specs.Turning.{all_but_last}
use Rattle.kat_mode.proofs.Flags.{turned_back_has, last_has, without_last}
use Rattle.kat_mode.proofs.Loops.{texts_more}
use Rattle.kat_mode.proofs.unbound.Unbound.turn_last_back.Goals as goal

pub invariant_of-self : goal.invariant_of-self
invariant_of-self c =
    let es = c.self.inside.flags.entries in
    let before = texts c.pop.new.self in
    turned_back_has es c.insert.new.self.entries c.as_str.result c.has_flag-is_unbound.result before
    (subst (HasFlags es)
    (ap texts c.in-Some.ensures ∙ texts_more c.pop.new.self c.in-Some.name
    ∙ ap (λ n. before ++ n ∷ []) (sym c.as_str.ensures))
    c.self.invariant)
    (c.has_flag-is_unbound.ensures
    ∙ ap (λ n. unwrap_or (flag_in es n) false) (sym c.as_str.ensures))
    c.in-Ok.ensures.entries

pub unreachable-requires : goal.unreachable-requires
unreachable-requires c =
    let es = c.self.inside.flags.entries in
    let before = texts c.pop.new.self in
    let there = last_has es c.as_str.result.now before
    (subst (HasFlags es)
    (ap texts c.in-Some.ensures ∙ texts_more c.pop.new.self c.in-Some.name
    ∙ ap (λ n. before ++ n ∷ []) (sym c.as_str.ensures))
    c.self.invariant) in
    let none : is_some (flag_in es c.as_str.result.now) ≡ false = ap is_some c.in-Err.ensures.absent
    in
    absurd (cc)

pub returns-in-Ok : goal.returns-in-Ok
returns-in-Ok c =
    without_last (texts c.pop.new.self) c.in-Some.name.now
    ∙ ap all_but_last
    (sym (ap texts c.in-Some.ensures ∙ texts_more c.pop.new.self c.in-Some.name) ∙ c.self.view_is)
