-- Kinds of declarations.
use Rattle.std.specs.Prelude.{Bool, true, false}
use Rattle.kat_ast.specs.declared.decl.DeclForm.{DeclForm}
use Rattle.kat_ast.specs.declared.decl.DeclForm.TheVariants as d
use Rattle.kat_syntax.specs.TypingDeclarations.{is_step, is_dispatch, is_untrusted, is_boot}
use Rattle.kat_typing.specs.declared.once.Once.{Once}
use Rattle.kat_typing.specs.declared.once.Once.TheVariants.{Step, Dispatch, Untrusted, Boot}

-- whether a declaration is one of what has to stand once
abbrev pub is_once : Once → DeclForm → Bool
is_once Step = is_step
is_once Dispatch = is_dispatch
is_once Untrusted = is_untrusted
is_once Boot = is_boot

-- whether a declaration is a contract
abbrev pub is_any_contract : DeclForm → Bool
is_any_contract (d.Contract f names pre x post) = true
is_any_contract _ = false

-- whether a declaration is a predicate
abbrev pub is_any_predicate : DeclForm → Bool
is_any_predicate (d.Predicate x inputs outputs definition) = true
is_any_predicate _ = false

-- whether a declaration is a lemma
abbrev pub is_lemma : DeclForm → Bool
is_lemma (d.Lemma x params names pre post steps) = true
is_lemma _ = false
