use Rattle.kat_laws.proofs.DeclaredNames.{machines_named}
use Rattle.kat_laws.proofs.runs.machines_have_names.Goals as goal

pub returns : goal.returns
returns c = machines_named
    (record {
      atom = c.written_layers.ensures.atom_tokens;
      list = c.written_layers.ensures.list_tokens;
    })
