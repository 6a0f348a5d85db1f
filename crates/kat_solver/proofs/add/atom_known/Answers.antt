use Rattle.kat_known.specs.Normal.{norm_in}
use Rattle.kat_solver.proofs.AddSteps.{no_atom_at}
use Rattle.kat_solver.proofs.add.atom_known.Goals as goal

pub returns-else-is_atom : goal.returns-else-is_atom
returns-else-is_atom c =
    no_atom_at c.args.world.now.vars
    (norm_in c.args.world.now.vars) c.args.list.now c.args.term.now c.vars.result.now
    c.is_atom.result
    c.is_atom.ensures c.vars.ensures c.if-is_atom.false
