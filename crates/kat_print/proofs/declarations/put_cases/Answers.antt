use Rattle.std.proofs.Common.{arith, [], ◌∷◌, map}
use Rattle.std.specs.Prelude.{codes}
use Rattle.std.proofs.lemmas.Grind.{common_steps}
use Rattle.kat_print.specs.Lists.{listed}
use Rattle.kat_print.specs.Declarations.{text_of_phase, text_of_when}
use Rattle.kat_print.proofs.Forms.{behind_spaces_last}
use Rattle.kat_print.proofs.declarations.put_cases.Goals as goal

-- the last case stands behind the others
pub returns : goal.returns
returns c =
    grind (arith, common_steps, behind_spaces_last (map text_of_when c.args.cases.now) (listed (codes "else") (text_of_phase c.args.otherwise.now ∷ [])))
