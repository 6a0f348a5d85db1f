use Rattle.std.proofs.Common.{◌≡◌, drop}
use Rattle.std.specs.List.{list_any}
use Rattle.kat_syntax.specs.TypingDeclarations.{is_contract}
use Rattle.kat_typing.proofs.contract.has_contract.Given as goal

-- those that are left have a contract of the function where all have one
abbrev pub invariant-loop-decl : goal.invariant-loop-decl
invariant-loop-decl l =
    list_any (is_contract l.name) (drop l.decl-index l.decls) ≡ list_any
    (is_contract l.name) l.decls
