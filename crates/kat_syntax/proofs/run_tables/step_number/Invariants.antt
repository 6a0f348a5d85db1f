use Rattle.std.proofs.Common.{◌≡◌, drop}
use Rattle.kat_syntax.specs.Tables.{step_of}
use Rattle.kat_syntax.proofs.run_tables.step_number.Given as goal

-- no declaration so far names a step function
abbrev pub invariant-loop-decl : goal.invariant-loop-decl
invariant-loop-decl l = step_of (drop l.decl-index l.decls) ≡ step_of l.decls
