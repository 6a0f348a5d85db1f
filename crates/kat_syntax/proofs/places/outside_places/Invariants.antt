use Rattle.std.proofs.Common.{◌≡◌, ◌≤◌, ◌++◌, drop}
use Rattle.kat_syntax.specs.OutsideWrites.{outside_from, outside_places}
use Rattle.kat_syntax.proofs.places.outside_places.Given as goal

-- the places so far and those of what is left are all, and registers are no more than declarations
pub record PlacesSoFar (l : goal.Live-loop-decl) : Type 0 where
  pub whole : l.places ++ outside_from l.at (drop l.decl-index l.decls) ≡ outside_places l.decls
  pub few : l.at ≤ l.decl-index

abbrev pub invariant-loop-decl : goal.invariant-loop-decl
invariant-loop-decl l = PlacesSoFar l
