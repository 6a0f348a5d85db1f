use Rattle.std.proofs.Common.{◌∷◌, ◌++◌, [], false, unwrap_or, sym, ap, subst, ◌∙◌}
use Rattle.kat_mode.specs.Flags.{HasFlags, flag_in}
use Rattle.kat_mode.specs.Names.{texts}
use Rattle.kat_mode.proofs.Flags.{turned_has}
use Rattle.kat_mode.proofs.Loops.{texts_more}
use Rattle.kat_mode.proofs.unbound.Unbound.turn.Goals as goal

pub invariant_of-self-in-Ok : goal.invariant_of-self-in-Ok
invariant_of-self-in-Ok c =
    let es = c.self.inside.flags.entries in
    let turned = texts c.self.inside.turned in
    subst (HasFlags c.insert.new.self.entries)
    (ap (λ n. turned ++ n ∷ []) c.as_str.ensures
    ∙ sym (ap texts c.in_ok-push.ensures.ok ∙ texts_more c.self.inside.turned c.args.name))
    (turned_has es c.insert.new.self.entries c.as_str.result c.has_flag-is_unbound.result turned
    c.self.invariant
    (c.has_flag-is_unbound.ensures
    ∙ ap (λ n. unwrap_or (flag_in es n) false) (sym c.as_str.ensures))
    c.in-Ok.ensures.entries)
