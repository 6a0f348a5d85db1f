use Rattle.std.proofs.Common.{◌≡◌, false, take}
use Rattle.std.specs.List.{list_any}
use Rattle.kat_typing.specs.Kinds.{is_once}
use Rattle.kat_typing.proofs.once.Once.is_among.Given as goal

abbrev pub invariant-loop-decl : goal.invariant-loop-decl
invariant-loop-decl l = list_any (is_once l.self) (take l.decl-index l.decls) ≡ false
