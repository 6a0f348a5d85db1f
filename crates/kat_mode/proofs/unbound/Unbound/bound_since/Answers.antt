use Rattle.std.proofs.Common.{◌≡◌, ap, subst, ◌∙◌, drop, IfOk}
use Rattle.kat_mode.specs.Names.{texts}
use Rattle.kat_mode.specs.Turning.{bound_among}
use Rattle.kat_mode.proofs.Flags.{texts_behind}
use Rattle.kat_mode.proofs.unbound.Unbound.bound_since.Goals as goal

pub returns : goal.returns
returns c =
    subst (λ ns. IfOk c.bound_among.result (λ names. texts names ≡ bound_among c.args.self.now ns))
    (texts_behind c.args.turns c.as_slice.result.now
    ∙ ap (λ ns. drop c.args.turns (texts ns)) c.as_slice.ensures
    ∙ ap (drop c.args.turns) c.self.view_is)
    c.bound_among.ensures
