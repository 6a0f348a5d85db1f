use Rattle.kat_laws.proofs.ImageNames.{printed_images}
use Rattle.kat_laws.proofs.images.printed_images_come_back.Goals as goal

pub returns : goal.returns
returns c = printed_images
    (record {
      atom = c.written_layers.ensures.atom_tokens;
      list = c.written_layers.ensures.list_tokens;
    })
    c.machines_have_names.ensures
    c.types_name_earlier_ones.ensures
    c.printed_states_come_back.ensures
