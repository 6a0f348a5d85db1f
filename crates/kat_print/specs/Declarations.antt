-- The text of declarations and specifications, by the texts of their parts. It is that of their
-- trees.
use Rattle.std.specs.Prelude.{ℕ, Bool, true, false, List, [], ◌∷◌, ◌++◌, map, codes}
use Rattle.std.specs.Fmt.{decimal}
use Rattle.kat_ast.specs.declared.assertion.Assertion.{Assertion}
use Rattle.kat_ast.specs.declared.decl.Phase.{Phase}
use Rattle.kat_ast.specs.declared.decl.Phase.TheVariants as p
use Rattle.kat_ast.specs.declared.decl.When.{When}
use Rattle.kat_ast.specs.declared.decl.DeclForm.{DeclForm}
use Rattle.kat_ast.specs.declared.decl.DeclForm.TheVariants as d
use Rattle.kat_ast.specs.Spec.{Spec}
use Rattle.kat_ast.specs.Declarations.{word_of_register_kind, word_of_cells_kind}
use Rattle.kat_print.specs.Lists.{bracketed, listed}
use Rattle.kat_print.specs.Types.{text_of_type, text_of_params}
use Rattle.kat_print.specs.Expressions.{text_of_expr}
use Rattle.kat_print.specs.Statements.{text_of_stm}
use Rattle.kat_print.specs.Assertions.{text_of_assertion}

-- the text of a phase
abbrev pub text_of_phase : Phase → List ℕ
text_of_phase p.Untrusted = codes "untrusted"
text_of_phase p.Inside = codes "inside"
text_of_phase (p.Block x) = listed (codes "block") (x ∷ [])

-- `(when E phase)`
abbrev pub text_of_when : When → List ℕ
text_of_when w = listed (codes "when") (text_of_expr w.test ∷ text_of_phase w.phase ∷ [])

-- `(pre A)`, `(post A)`, `(entry A)`
abbrev pub text_holding : List ℕ → Assertion → List ℕ
text_holding head assertion = listed head (text_of_assertion assertion ∷ [])

-- the text of a declaration
abbrev pub text_of_decl : DeclForm → List ℕ
text_of_decl (d.Enum x members) = listed (codes "enum") (x ∷ bracketed members ∷ [])
text_of_decl (d.Union x ctors) = listed (codes "union") (x ∷ text_of_params ctors ∷ [])
text_of_decl (d.Record x fields) = listed (codes "record") (x ∷ text_of_params fields ∷ [])
text_of_decl (d.Register x type kind) =
    listed (codes "register") (x ∷ text_of_type type ∷ word_of_register_kind kind ∷ [])
text_of_decl (d.Memory a c lo hi) =
    listed (codes "memory") (decimal a ∷ decimal c ∷ decimal lo ∷ decimal hi ∷ [])
text_of_decl (d.Cells kind lo hi) =
    listed (codes "cells") (word_of_cells_kind kind ∷ decimal lo ∷ decimal hi ∷ [])
text_of_decl (d.Code lo values) = listed (codes "code") (decimal lo ∷ map decimal values)
text_of_decl (d.Region x params i e) =
    listed (codes "region") (x ∷ text_of_params params ∷ i ∷ text_of_expr e ∷ [])
text_of_decl (d.Predicate x inputs outputs definition) =
    listed (codes "pred")
    (x ∷ text_of_params inputs ∷ text_of_params outputs ∷ text_of_assertion definition ∷ [])
text_of_decl (d.Fun x params result body) =
    listed (codes "fun") (x ∷ text_of_params params ∷ text_of_type result ∷ text_of_stm body ∷ [])
text_of_decl (d.Contract f names pre x post) =
    listed (codes "contract")
    (f ∷ text_of_params names ∷ text_holding (codes "pre") pre
    ∷ listed (codes "res") (x ∷ []) ∷ text_holding (codes "post") post ∷ [])
text_of_decl (d.Lemma x params names pre post steps) =
    listed (codes "lemma")
    (x ∷ text_of_params params ∷ text_of_params names ∷ text_holding (codes "pre") pre
    ∷ text_holding (codes "post") post ∷ listed (codes "steps") (map text_of_stm steps) ∷ [])
text_of_decl (d.Step f) = listed (codes "step") (f ∷ [])
text_of_decl (d.Dispatch cases otherwise) =
    listed (codes "dispatch")
    (map text_of_when cases ++ listed (codes "else") (text_of_phase otherwise ∷ []) ∷ [])
text_of_decl (d.Untrusted holds) = listed (codes "untrusted") (text_of_assertion holds ∷ [])
text_of_decl (d.Block block) =
    listed (codes "block")
    (block.name ∷ text_holding (codes "entry") block.entry
    ∷ listed (codes "within") (decimal block.within ∷ [])
    ∷ listed (codes "change") (text_of_expr block.change ∷ []) ∷ [])
text_of_decl (d.Boot x) = listed (codes "boot") (x ∷ [])

-- `(spec V D ..)`
abbrev pub text_of_spec : Spec → List ℕ
text_of_spec spec = listed (codes "spec") (decimal spec.version ∷ map text_of_decl spec.decls)

-- whether a declaration is a region
abbrev pub is_region : DeclForm → Bool
is_region (d.Region x params i e) = true
is_region _ = false

-- whether a declaration is a contract
abbrev pub is_contract : DeclForm → Bool
is_contract (d.Contract f names pre x post) = true
is_contract _ = false

-- whether a declaration is a lemma
abbrev pub is_lemma : DeclForm → Bool
is_lemma (d.Lemma x params names pre post steps) = true
is_lemma _ = false
