use Rattle.std.proofs.Common.{◌≡◌, ◌++◌, List, drop}
use Rattle.kat_ast.specs.declared.decl.DeclForm.{DeclForm}
use Rattle.kat_syntax.specs.Declares.{type_heads}
use Rattle.kat_syntax.specs.DeclaredTypes.{IsHeads}
use Rattle.kat_syntax.specs.TypeTable.{fields_of}
use Rattle.kat_syntax.proofs.type_table.fields_of.Given as goal

-- the fields so far and those of what is left are all
abbrev pub invariant-loop-param : goal.invariant-loop-param
invariant-loop-param l =
    (decls : List DeclForm) → IsHeads (type_heads decls) l.declared.named l.declared.numbers →
    l.fields ++ fields_of decls l.number (drop l.param-index l.param-items)
    ≡ fields_of decls l.number l.param-items
