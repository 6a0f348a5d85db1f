use Rattle.std.proofs.Common.{◌≡◌, ◌++◌, drop}
use Rattle.kat_syntax.specs.States.{register_types_from, register_types}
use Rattle.kat_syntax.proofs.places.register_types.Given as goal

-- the types so far and those of what is left are all
abbrev pub invariant-loop-number : goal.invariant-loop-number
invariant-loop-number l =
    l.types ++ register_types_from l.decls l.number (drop l.number l.decls) ≡ register_types l.decls
