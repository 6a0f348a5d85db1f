-- What is wanted where a tree has no form of its sort.
use Rattle.kat_shapes.specs.declared.wanted.Wanted.{Wanted}
use Rattle.kat_shapes.specs.declared.wanted.Wanted.TheVariants as wanted
use Rattle.kat_shapes.specs.declared.sort.Sort.{Sort}
use Rattle.kat_shapes.specs.declared.sort.Sort.TheVariants.{Spec, Version, Declaration, TypeName, Name, Number, RegisterPlace, CellsPlace, Statement, Expression, Assertion, Phase}

-- what is wanted where a tree of this sort has to stand
abbrev pub wanted_of : Sort → Wanted
wanted_of Spec = wanted.Spec
wanted_of Version = wanted.Version
wanted_of Declaration = wanted.Declaration
wanted_of TypeName = wanted.Type
wanted_of Name = wanted.Name
wanted_of Number = wanted.Number
wanted_of RegisterPlace = wanted.Place
wanted_of CellsPlace = wanted.Place
wanted_of Statement = wanted.Statement
wanted_of Expression = wanted.Expression
wanted_of Assertion = wanted.Assertion
wanted_of Phase = wanted.Phase
wanted_of _ = wanted.Part
