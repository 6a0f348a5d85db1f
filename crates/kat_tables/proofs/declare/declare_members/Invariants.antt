use Rattle.std.proofs.Common.{◌≡◌, ◌+◌, map, drop}
use Rattle.kat_syntax.specs.Declares.{members_from}
use Rattle.kat_tables.specs.Meanings.{noted}
use Rattle.kat_tables.proofs.Declaring.{NotedSoFar}
use Rattle.kat_tables.proofs.declare.declare_members.Given as goal

-- the members so far are noted, each standing one tree further
pub record MembersSoFar (l : goal.Live-loop-member) : Type 0 where
  pub counted : l.tree ≡ 4 + l.member-index
  pub so_far : NotedSoFar (map noted (members_from l.decl l.position 4 l.member-items))
      (map noted (members_from l.decl l.position l.tree (drop l.member-index l.member-items)))
      l.fn.kinds l.kinds

-- the members so far are noted
abbrev pub invariant-loop-member : goal.invariant-loop-member
invariant-loop-member l = MembersSoFar l
