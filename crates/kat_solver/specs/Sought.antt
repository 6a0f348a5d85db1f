-- What is looked for in a term.
use Rattle.std.specs.Prelude.{Bool, List, Option}
use Rattle.kat_value.specs.declared.types.Ty.{Ty}
use Rattle.kat_term.specs.declared.term.Term.{Term}
use Rattle.kat_known.specs.Views.{is_atom}
use Rattle.kat_solver.specs.declared.search.Sought.{Sought}
use Rattle.kat_solver.specs.declared.search.Sought.TheVariants.{Ite, Atom, Unknown}
use Rattle.kat_solver.specs.Prove.{is_ite, is_open}

-- the test of what is looked for: an `ite`, an atom, or an atom that is not known by a list
abbrev pub test_of : List Ty → (Term → Option Term) → Sought → Term → Bool
test_of vars norm Ite = is_ite
test_of vars norm Atom = is_atom vars
test_of vars norm (Unknown list) = is_open vars norm list.now
