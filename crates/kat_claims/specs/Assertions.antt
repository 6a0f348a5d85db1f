-- Laws of what assertions say.
use Rattle.kat_ast.specs.declared.assertion.Assertion.{Assertion}
use Rattle.kat_syntax.specs.Evaluation.{Environment}
use Rattle.kat_syntax.specs.Fragments.{Fragment, IsFragment}
use Rattle.kat_syntax.specs.Holds.{Holds}

-- what holds an assertion has places of the machine alone, with values that fit them
abbrev pub HoldersAreFragments : Type 0
HoldersAreFragments =
    (assertion : Assertion) (env : Environment) (f : Fragment) →
    Holds assertion env f → IsFragment env.decls f
