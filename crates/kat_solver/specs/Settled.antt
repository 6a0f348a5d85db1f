-- Settled worlds: what is made of formulas, and the valuations that fit it.
use Rattle.std.specs.Prelude.{List, []}
use Rattle.kat_value.specs.declared.types.TypeDecl.{TypeDecl}
use Rattle.kat_term.specs.declared.term.Term.{Term}
use Rattle.kat_term.specs.Values.{Valuation}
use Rattle.kat_term.specs.Worlds.{AreTrueUnder}
use Rattle.kat_norm.specs.Substitution.{Substitution, AreEqual}
use Rattle.kat_solver.specs.declared.settled.Settled.{Settled}
use Rattle.kat_solver.specs.declared.settled.Settled.TheVariants.{Closed, Open}

-- the settled world of no formulas
abbrev pub unsettled : Settled
unsettled = Open [] []

-- its substitution; that of a closed one is empty
abbrev pub pairs_of : Settled → Substitution
pairs_of Closed = []
pairs_of (Open pairs list) = pairs

-- its list; that of a closed one is empty
abbrev pub list_of : Settled → List Term
list_of Closed = []
list_of (Open pairs list) = list

-- a valuation fits a settled world: the variable of each pair has the value of its term, and each
-- formula of the list is true; none fits a closed one
abbrev pub FitsSettled : List TypeDecl → Valuation → Settled → Type 0
FitsSettled types v Closed = ⊥
FitsSettled types v (Open pairs list) = AreEqual types v pairs × AreTrueUnder types v list
