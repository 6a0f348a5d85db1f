use Rattle.std.proofs.Common.{◌≡◌, ◌++◌, drop}
use Rattle.kat_syntax.specs.TypeTable.{types_from, types_of_decls}
use Rattle.kat_syntax.proofs.type_table.table_of.Given as goal

-- the types so far and those of what is left are all
abbrev pub invariant-loop-number : goal.invariant-loop-number
invariant-loop-number l =
    l.types ++ types_from l.decls l.number (drop l.number l.decls) ≡ types_of_decls l.decls
