-- Locals as the list of their names and values.
use Rattle.std.specs.Prelude.{[], ◌∷◌}
use Rattle.kat_syntax.specs.Evaluation as meaning
use Rattle.kat_eval.specs.declared.locals.Locals.{Locals, fold-Locals}
use Rattle.kat_eval.specs.declared.locals.Locals.TheOpen.{Locals-F, Empty, Params, More}

-- one layer, with the rest as a list
abbrev pub locals_step : Locals-F meaning.Locals → meaning.Locals
locals_step Empty = []
locals_step (Params frame) = frame.now
locals_step (More name value rest) = (name.now, value.now) ∷ rest.now

-- the locals of the code as the meaning sees them, the newest first
abbrev pub locals_of : Locals → meaning.Locals
locals_of = fold-Locals meaning.Locals locals_step
