use Rattle.std.proofs.Common.{◌∙◌, sym, ap}
use Rattle.std.specs.Option.{option_map}
use Rattle.kat_term.specs.Views.{truth}
use Rattle.kat_known.specs.Known.{known}
use Rattle.kat_known.specs.Normal.{norm_in}
use Rattle.kat_known.specs.Views.{is_atom}
use Rattle.kat_known.proofs.ViewLaws.{not_so}
use Rattle.kat_known.proofs.replace.known_atom.Goals as goal

pub returns-then-not-is_atom : goal.returns-then-not-is_atom
returns-then-not-is_atom c =
    not_so (is_atom c.args.world.now.vars c.args.term.now)
    (option_map truth (known c.args.world.now.vars
    (norm_in c.args.world.now.vars) c.args.list.now c.args.term.now))
    (sym (c.is_atom.ensures ∙ ap (λ vars. is_atom vars c.args.term.now) c.vars.ensures)
    ∙ c.if-not-is_atom.true)
