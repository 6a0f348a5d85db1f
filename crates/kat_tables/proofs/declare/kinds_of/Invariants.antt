use Rattle.std.proofs.Common.{◌≤◌, map, drop}
use Rattle.kat_syntax.specs.Declares.{declared_by, declared_from}
use Rattle.kat_tables.specs.Meanings.{noted}
use Rattle.kat_tables.proofs.Declaring.{NotedSoFar}
use Rattle.kat_tables.proofs.declare.kinds_of.Given as goal

-- what the declarations so far declare is noted, and no more of them are types than there are
pub record KindsSoFar (l : goal.Live-loop-decl) : Type 0 where
  pub few : l.position ≤ l.decl
  pub so_far : NotedSoFar (map noted (declared_by l.decls))
      (map noted (declared_from l.decls l.decl l.position (drop l.decl l.decls)))
      l.initial.kinds l.kinds

-- what the declarations so far declare is noted
abbrev pub invariant-loop-decl : goal.invariant-loop-decl
invariant-loop-decl l = KindsSoFar l
