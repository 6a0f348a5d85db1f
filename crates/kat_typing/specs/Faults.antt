-- The fault of one declaration, among all of them.
use Rattle.std.specs.Prelude.{ℕ, List, Option, None}
use Rattle.kat_ast.specs.declared.decl.DeclForm.{DeclForm}
use Rattle.kat_syntax.specs.TypeRules.{least_of}
use Rattle.kat_syntax.specs.TypingDeclarations.{decl_faults}
use Rattle.kat_syntax.specs.FirstTypeFault.{TypeFault, or_first}

-- the least fault of the declaration of this number, if it has one
abbrev pub fault_at : List DeclForm → ℕ → DeclForm → Option TypeFault
fault_at decls k decl =
    or_first k (least_of (decl_faults (record { decls = decls; number = k }) decl)) None
