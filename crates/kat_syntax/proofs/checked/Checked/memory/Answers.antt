use Rattle.std.proofs.Common.{sym, subst}
use Rattle.std.specs.Prelude.{IfSome}
use Rattle.kat_syntax.specs.Memories.{IsMemory}
use Rattle.kat_syntax.proofs.TypedDeclarations.{memory_of_typed}
use Rattle.kat_syntax.proofs.checked.Checked.memory.Goals as goal

pub returns-clause-kept : goal.returns-clause-kept
returns-clause-kept c =
    subst (λ o. IfSome o IsMemory) (sym c.self.invariant.found.memory)
    (memory_of_typed c.self.inside.spec c.self.invariant.typed)
