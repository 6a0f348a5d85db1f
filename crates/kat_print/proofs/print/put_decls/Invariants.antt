use Rattle.std.proofs.Common.{◌≡◌, ◌++◌, drop, map}
use Rattle.kat_tree.specs.Written.{behind_spaces}
use Rattle.kat_print.specs.Declarations.{text_of_decl}
use Rattle.kat_print.proofs.print.put_decls.Given as goal

-- the declarations that are still to come make the text whole
abbrev pub invariant-loop-decl : goal.invariant-loop-decl
invariant-loop-decl l = l.out ++ behind_spaces (map text_of_decl (drop l.decl-index l.decls)) ≡ l.initial.out ++ behind_spaces (map text_of_decl l.decls)
