use Rattle.std.proofs.Common.{◌≡◌, ◌++◌, drop}
use Rattle.kat_tables.specs.Protected.{reaches_of}
use Rattle.kat_tables.proofs.protected.reaches_of.Given as goal

-- the ranges so far, and those of the declarations that are left, are all
abbrev pub invariant-loop-decl : goal.invariant-loop-decl
invariant-loop-decl l =
    l.reaches.items ++ reaches_of (drop l.decl-index l.decls) ≡ reaches_of l.decls
