use Rattle.std.proofs.Common.{◌≡◌, ◌+◌, List, map, drop}
use Rattle.std.specs.List.{sum_by}
use Rattle.kat_ast.specs.Types.{trees_of_param}
use Rattle.kat_ast.specs.declared.decl.DeclForm.{DeclForm}
use Rattle.kat_syntax.specs.Declares.{type_heads, ctors_from}
use Rattle.kat_syntax.specs.DeclaredTypes.{IsHeads}
use Rattle.kat_tables.specs.Meanings.{noted}
use Rattle.kat_tables.proofs.Declaring.{NotedSoFar}
use Rattle.kat_tables.proofs.declare.declare_ctors.Given as goal

-- the constructors so far are noted, each standing where the trees of those before end
pub record CtorsSoFar (l : goal.Live-loop-ctor) : Type 0 where
  pub counted : l.at + sum_by trees_of_param (drop l.ctor-index l.ctor-items)
      ≡ 4 + sum_by trees_of_param l.ctor-items
  pub so_far : (decls : List DeclForm) →
      IsHeads (type_heads decls) l.heads.named l.heads.numbers →
      NotedSoFar (map noted (ctors_from decls l.decl l.of 4 l.ctor-items))
      (map noted (ctors_from decls l.decl l.of l.at (drop l.ctor-index l.ctor-items)))
      l.fn.kinds l.kinds

-- the constructors so far are noted
abbrev pub invariant-loop-ctor : goal.invariant-loop-ctor
invariant-loop-ctor l = CtorsSoFar l
