-- The text of assertions, by the texts of their parts. It is that of their trees.
use Rattle.std.specs.Prelude.{ℕ, List, [], ◌∷◌, map, codes}
use Rattle.kat_ast.specs.declared.assertion.Assertion.{Assertion}
use Rattle.kat_ast.specs.declared.assertion.Assertion.TheOpen.{Assertion-F, Pure, Register, Cell, Star, If, Exists, Predicate, Region}
use Rattle.kat_ast.specs.declared.assertion.Assertion.TheFolds.{fold-Assertion}
use Rattle.kat_print.specs.Lists.{listed}
use Rattle.kat_print.specs.Types.{text_of_type}
use Rattle.kat_print.specs.Expressions.{text_of_expr}

-- one layer of an assertion
abbrev pub assertion_text : Assertion-F (List ℕ) → List ℕ
assertion_text (Pure e) = listed (codes "pure") (text_of_expr e ∷ [])
assertion_text (Register r e) = listed (codes "reg") (r ∷ text_of_expr e ∷ [])
assertion_text (Cell index e) = listed (codes "cell") (text_of_expr index ∷ text_of_expr e ∷ [])
assertion_text (Star parts) = listed (codes "star") parts
assertion_text (If test then_ otherwise) =
    listed (codes "if") (text_of_expr test ∷ then_ ∷ otherwise ∷ [])
assertion_text (Exists x type body) =
    listed (codes "exists") (listed x (text_of_type type ∷ []) ∷ body ∷ [])
assertion_text (Predicate p args) = listed (codes "pred") (p ∷ map text_of_expr args)
assertion_text (Region g args) = listed (codes "region") (g ∷ map text_of_expr args)

-- the text of an assertion
abbrev pub text_of_assertion : Assertion → List ℕ
text_of_assertion = fold-Assertion (List ℕ) assertion_text
