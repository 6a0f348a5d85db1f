use Rattle.std.proofs.Common.{◌≡◌, ◌++◌, drop}
use Rattle.kat_syntax.specs.Tables.{register_names}
use Rattle.kat_syntax.proofs.run_tables.register_names.Given as goal

-- the names so far and those of what is left are all
abbrev pub invariant-loop-decl : goal.invariant-loop-decl
invariant-loop-decl l =
    l.names ++ register_names (drop l.decl-index l.decls) ≡ register_names l.decls
