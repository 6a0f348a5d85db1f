-- Statements: the tree of each, what each owes beside its parts, and how many trees it has.
use Rattle.std.specs.Prelude.{ℕ, ◌+◌, Bool, true, ◌&&◌, List, [], ◌∷◌, map, sum, sum_by, codes}
use Rattle.kat_tree.specs.declared.tree.Tree.{Tree}
use Rattle.kat_tree.specs.declared.tree.Tree.TheVariants as tree
use Rattle.kat_ast.specs.declared.stm.Stm.{Stm}
use Rattle.kat_ast.specs.declared.stm.CaseArm.{CaseArm}
use Rattle.kat_ast.specs.declared.stm.MatchArm.{MatchArm}
use Rattle.kat_ast.specs.declared.stm.Stm.TheOpen.{Stm-F, Ret, Let, Seq, If, Case, Match, Read, Write, Load, Store, Call, Check, Fail, Open, Close, Lemma}
use Rattle.kat_ast.specs.declared.stm.Stm.TheFolds.{fold-Stm}
use Rattle.kat_ast.specs.declared.stm.Stm.TheShapes.{former-Stm-Case-1-at-2 as case_arm, former-Stm-Match-1-at-3 as match_arm}
use Rattle.kat_ast.specs.Parts.{word, form, is_name, every, is_nonempty}
use Rattle.kat_ast.specs.Expressions.{tree_of_expr, is_formed_expr, are_formed_exprs, trees_of_expr, trees_of_exprs}

-- `(A S)`
abbrev pub tree_of_case_arm : CaseArm Tree → Tree
tree_of_case_arm arm = tree.List (word arm.member ∷ arm.body ∷ [])

-- `(K x S)`
abbrev pub tree_of_match_arm : MatchArm Tree → Tree
tree_of_match_arm arm = tree.List (word arm.ctor ∷ word arm.payload ∷ arm.body ∷ [])

-- one layer of a statement
abbrev pub stm_tree : Stm-F Tree → Tree
stm_tree (Ret e) = form (codes "ret") (tree_of_expr e ∷ [])
stm_tree (Let x first then_) = form (codes "let") (word x ∷ first ∷ then_ ∷ [])
stm_tree (Seq parts) = form (codes "seq") parts
stm_tree (If test then_ otherwise) = form (codes "if") (tree_of_expr test ∷ then_ ∷ otherwise ∷ [])
stm_tree (Case e arms) = form (codes "case") (tree_of_expr e ∷ map tree_of_case_arm arms)
stm_tree (Match e arms) = form (codes "match") (tree_of_expr e ∷ map tree_of_match_arm arms)
stm_tree (Read r) = form (codes "read") (word r ∷ [])
stm_tree (Write r e) = form (codes "write") (word r ∷ tree_of_expr e ∷ [])
stm_tree (Load index) = form (codes "load") (tree_of_expr index ∷ [])
stm_tree (Store index e) = form (codes "store") (tree_of_expr index ∷ tree_of_expr e ∷ [])
stm_tree (Call f args) = form (codes "call") (word f ∷ map tree_of_expr args)
stm_tree (Check e) = form (codes "check") (tree_of_expr e ∷ [])
stm_tree Fail = form (codes "fail") []
stm_tree (Open p inputs) = form (codes "open") (word p ∷ map tree_of_expr inputs)
stm_tree (Close p inputs) = form (codes "close") (word p ∷ map tree_of_expr inputs)
stm_tree (Lemma l args) = form (codes "lemma") (word l ∷ map tree_of_expr args)

-- the tree of a statement
abbrev pub tree_of_stm : Stm → Tree
tree_of_stm = fold-Stm Tree stm_tree

-- `(A S)`
abbrev pub is_formed_case_arm : CaseArm Bool → Bool
is_formed_case_arm arm = is_name arm.member && arm.body

-- `(K x S)`
abbrev pub is_formed_match_arm : MatchArm Bool → Bool
is_formed_match_arm arm = is_name arm.ctor && (is_name arm.payload && arm.body)

-- one layer of a statement; a `seq` has at least one part
abbrev pub stm_formed : Stm-F Bool → Bool
stm_formed (Ret e) = is_formed_expr e
stm_formed (Let x first then_) = is_name x && (first && then_)
stm_formed (Seq parts) = is_nonempty parts && every parts
stm_formed (If test then_ otherwise) = is_formed_expr test && (then_ && otherwise)
stm_formed (Case e arms) = is_formed_expr e && every (map is_formed_case_arm arms)
stm_formed (Match e arms) = is_formed_expr e && every (map is_formed_match_arm arms)
stm_formed (Read r) = is_name r
stm_formed (Write r e) = is_name r && is_formed_expr e
stm_formed (Load index) = is_formed_expr index
stm_formed (Store index e) = is_formed_expr index && is_formed_expr e
stm_formed (Call f args) = is_name f && are_formed_exprs args
stm_formed (Check e) = is_formed_expr e
stm_formed Fail = true
stm_formed (Open p inputs) = is_name p && are_formed_exprs inputs
stm_formed (Close p inputs) = is_name p && are_formed_exprs inputs
stm_formed (Lemma l args) = is_name l && are_formed_exprs args

-- whether a statement has the form of the text
abbrev pub is_formed_stm : Stm → Bool
is_formed_stm = fold-Stm Bool stm_formed

-- `(A S)`
abbrev pub trees_of_case_arm : CaseArm ℕ → ℕ
trees_of_case_arm arm = 2 + arm.body

-- `(K x S)`
abbrev pub trees_of_match_arm : MatchArm ℕ → ℕ
trees_of_match_arm arm = 3 + arm.body

-- one layer of a statement
abbrev pub stm_trees : Stm-F ℕ → ℕ
stm_trees (Ret e) = 2 + trees_of_expr e
stm_trees (Let x first then_) = 3 + first + then_
stm_trees (Seq parts) = 2 + sum parts
stm_trees (If test then_ otherwise) = 2 + trees_of_expr test + then_ + otherwise
stm_trees (Case e arms) = 2 + trees_of_expr e + sum_by trees_of_case_arm arms
stm_trees (Match e arms) = 2 + trees_of_expr e + sum_by trees_of_match_arm arms
stm_trees (Read r) = 3
stm_trees (Write r e) = 3 + trees_of_expr e
stm_trees (Load index) = 2 + trees_of_expr index
stm_trees (Store index e) = 2 + trees_of_expr index + trees_of_expr e
stm_trees (Call f args) = 3 + trees_of_exprs args
stm_trees (Check e) = 2 + trees_of_expr e
stm_trees Fail = 2
stm_trees (Open p inputs) = 3 + trees_of_exprs inputs
stm_trees (Close p inputs) = 3 + trees_of_exprs inputs
stm_trees (Lemma l args) = 3 + trees_of_exprs args

-- how many trees a statement has
abbrev pub trees_of_stm : Stm → ℕ
trees_of_stm = fold-Stm ℕ stm_trees

-- of statements side by side
abbrev pub trees_of_stms : List Stm → ℕ
trees_of_stms stms = sum (map trees_of_stm stms)

-- of the arms of a `case`
abbrev pub trees_of_case_arms : List (CaseArm Stm) → ℕ
trees_of_case_arms arms = sum_by trees_of_case_arm (map (case_arm.map Stm ℕ trees_of_stm) arms)

-- of the arms of a `match`
abbrev pub trees_of_match_arms : List (MatchArm Stm) → ℕ
trees_of_match_arms arms = sum_by trees_of_match_arm (map (match_arm.map Stm ℕ trees_of_stm) arms)
