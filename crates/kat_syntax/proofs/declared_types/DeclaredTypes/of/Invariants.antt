use Rattle.std.proofs.Common.{◌≤◌, length}
use Rattle.kat_syntax.proofs.Heading.{SoFar}
use Rattle.kat_syntax.proofs.declared_types.DeclaredTypes.of.Given as goal

-- the heads so far, and no more of them than declarations
pub record HasHeads (l : goal.Live-loop-decl) : Type 0 where
  pub so_far : SoFar l.decls l.decl l.named l.numbers
  pub few : length l.numbers ≤ l.decl

-- the types of the declarations so far stand in the tables
abbrev pub invariant-loop-decl : goal.invariant-loop-decl
invariant-loop-decl l = HasHeads l
