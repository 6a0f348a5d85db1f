use Rattle.kat_shapes.proofs.Misfits.{fit_everywhere, everywhere_fits, parts_of_fit, fit_of_parts}
use Rattle.kat_shapes.proofs.Later.{fits_later, whole_fits, fits_whole}
use Rattle.kat_shapes.proofs.laws.fitting.Goals as goal

pub returns-clause-everywhere : goal.returns-clause-everywhere
returns-clause-everywhere c = λ v s t. (fit_everywhere v s t, everywhere_fits v s t)

pub returns-clause-later : goal.returns-clause-later
returns-clause-later c = fits_later

pub returns-clause-whole : goal.returns-clause-whole
returns-clause-whole c = λ root text. (whole_fits root text, fits_whole root text)

pub returns-clause-parts : goal.returns-clause-parts
returns-clause-parts c = parts_of_fit

pub returns-clause-list : goal.returns-clause-list
returns-clause-list c = fit_of_parts
