-- The text of statements, by the texts of their parts. It is that of their trees.
use Rattle.std.specs.Prelude.{ℕ, List, [], ◌∷◌, map, codes}
use Rattle.kat_ast.specs.declared.stm.Stm.{Stm}
use Rattle.kat_ast.specs.declared.stm.CaseArm.{CaseArm}
use Rattle.kat_ast.specs.declared.stm.MatchArm.{MatchArm}
use Rattle.kat_ast.specs.declared.stm.Stm.TheShapes.{former-Stm-Case-1-at-2 as case_arm, former-Stm-Match-1-at-3 as match_arm}
use Rattle.kat_ast.specs.declared.stm.Stm.TheOpen.{Stm-F, Ret, Let, Seq, If, Case, Match, Read, Write, Load, Store, Call, Check, Fail, Open, Close, Lemma}
use Rattle.kat_ast.specs.declared.stm.Stm.TheFolds.{fold-Stm}
use Rattle.kat_print.specs.Lists.{listed}
use Rattle.kat_print.specs.Expressions.{text_of_expr}

-- `(A S)`
abbrev pub text_of_case_arm : CaseArm (List ℕ) → List ℕ
text_of_case_arm arm = listed arm.member (arm.body ∷ [])

-- `(K x S)`
abbrev pub text_of_match_arm : MatchArm (List ℕ) → List ℕ
text_of_match_arm arm = listed arm.ctor (arm.payload ∷ arm.body ∷ [])

-- one layer of a statement
abbrev pub stm_text : Stm-F (List ℕ) → List ℕ
stm_text (Ret e) = listed (codes "ret") (text_of_expr e ∷ [])
stm_text (Let x first then_) = listed (codes "let") (x ∷ first ∷ then_ ∷ [])
stm_text (Seq parts) = listed (codes "seq") parts
stm_text (If test then_ otherwise) =
    listed (codes "if") (text_of_expr test ∷ then_ ∷ otherwise ∷ [])
stm_text (Case e arms) = listed (codes "case") (text_of_expr e ∷ map text_of_case_arm arms)
stm_text (Match e arms) = listed (codes "match") (text_of_expr e ∷ map text_of_match_arm arms)
stm_text (Read r) = listed (codes "read") (r ∷ [])
stm_text (Write r e) = listed (codes "write") (r ∷ text_of_expr e ∷ [])
stm_text (Load index) = listed (codes "load") (text_of_expr index ∷ [])
stm_text (Store index e) = listed (codes "store") (text_of_expr index ∷ text_of_expr e ∷ [])
stm_text (Call f args) = listed (codes "call") (f ∷ map text_of_expr args)
stm_text (Check e) = listed (codes "check") (text_of_expr e ∷ [])
stm_text Fail = listed (codes "fail") []
stm_text (Open p inputs) = listed (codes "open") (p ∷ map text_of_expr inputs)
stm_text (Close p inputs) = listed (codes "close") (p ∷ map text_of_expr inputs)
stm_text (Lemma l args) = listed (codes "lemma") (l ∷ map text_of_expr args)

-- the text of a statement
abbrev pub text_of_stm : Stm → List ℕ
text_of_stm = fold-Stm (List ℕ) stm_text

-- the arms of a `case`
abbrev pub case_arm_texts : List (CaseArm Stm) → List (List ℕ)
case_arm_texts arms = map text_of_case_arm (map (case_arm.map Stm (List ℕ) text_of_stm) arms)

-- the arms of a `match`
abbrev pub match_arm_texts : List (MatchArm Stm) → List (List ℕ)
match_arm_texts arms = map text_of_match_arm (map (match_arm.map Stm (List ℕ) text_of_stm) arms)
