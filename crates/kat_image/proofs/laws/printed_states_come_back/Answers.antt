use Rattle.kat_image.proofs.CellsBack.{cell_lines_back}
use Rattle.kat_image.proofs.PrintedImage.{states_come_back}
use Rattle.kat_image.proofs.RegistersBack.{register_lines_back}
use Rattle.kat_image.proofs.laws.printed_states_come_back.Goals as goal

pub returns : goal.returns
returns c = λ spec names.
    states_come_back spec (register_lines_back spec names) (cell_lines_back spec names)
