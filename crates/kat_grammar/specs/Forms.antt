-- Which form of right form is written as which trees, kind by kind.
use Rattle.std.specs.Prelude.{◌≡◌, Bool, true, ℕ, List, [], ◌∷◌, map, codes}
use Rattle.kat_tree.specs.declared.tree.Tree.{Tree}
use Rattle.kat_tree.specs.declared.tree.Tree.TheVariants as variant
use Rattle.kat_ast.specs.declared.expr.Expr.{Expr}
use Rattle.kat_ast.specs.declared.stm.Stm.{Stm}
use Rattle.kat_ast.specs.declared.stm.CaseArm.{CaseArm}
use Rattle.kat_ast.specs.declared.stm.MatchArm.{MatchArm}
use Rattle.kat_ast.specs.declared.stm.Stm.TheShapes.{former-Stm-Case-1-at-2 as case_arm, former-Stm-Match-1-at-3 as match_arm}
use Rattle.kat_ast.specs.declared.assertion.Assertion.{Assertion}
use Rattle.kat_ast.specs.declared.type_name.TypeName.{TypeName}
use Rattle.kat_ast.specs.declared.type_name.Param.{Param}
use Rattle.kat_ast.specs.declared.decl.Phase.{Phase}
use Rattle.kat_ast.specs.declared.decl.When.{When}
use Rattle.kat_ast.specs.declared.decl.DeclForm.{DeclForm}
use Rattle.kat_ast.specs.Parts.{word, form, every, is_name, is_nonempty}
use Rattle.kat_ast.specs.Types.{tree_of_type, tree_of_param, tree_of_params, is_formed_type, is_formed_param, are_formed_params}
use Rattle.kat_ast.specs.Expressions.{tree_of_expr, is_formed_expr, are_formed_exprs}
use Rattle.kat_ast.specs.Statements.{tree_of_case_arm, tree_of_match_arm, tree_of_stm, is_formed_case_arm, is_formed_match_arm, is_formed_stm}
use Rattle.kat_ast.specs.Assertions.{tree_of_assertion, is_formed_assertion}
use Rattle.kat_ast.specs.Declarations.{holding, tree_of_phase, tree_of_when, tree_of_decl, is_formed_phase, is_formed_when, is_formed_decl}

-- a name
abbrev pub IsName : Tree → List ℕ → Type 0
IsName tree x = (word x ≡ tree) × (is_name x ≡ true)

-- a type
abbrev pub IsType : Tree → TypeName → Type 0
IsType tree t = (tree_of_type t ≡ tree) × (is_formed_type t ≡ true)

-- a name with its type
abbrev pub IsParam : Tree → Param → Type 0
IsParam tree p = (tree_of_param p ≡ tree) × (is_formed_param p ≡ true)

-- an expression
abbrev pub IsExpr : Tree → Expr → Type 0
IsExpr tree e = (tree_of_expr e ≡ tree) × (is_formed_expr e ≡ true)

-- a statement
abbrev pub IsStm : Tree → Stm → Type 0
IsStm tree s = (tree_of_stm s ≡ tree) × (is_formed_stm s ≡ true)

-- an assertion
abbrev pub IsAssertion : Tree → Assertion → Type 0
IsAssertion tree a = (tree_of_assertion a ≡ tree) × (is_formed_assertion a ≡ true)

-- an assertion in a list of this word
abbrev pub IsHolding : List ℕ → Tree → Assertion → Type 0
IsHolding head tree a = (holding head a ≡ tree) × (is_formed_assertion a ≡ true)

-- a phase
abbrev pub IsPhase : Tree → Phase → Type 0
IsPhase tree p = (tree_of_phase p ≡ tree) × (is_formed_phase p ≡ true)

-- a case of a dispatch
abbrev pub IsWhen : Tree → When → Type 0
IsWhen tree w = (tree_of_when w ≡ tree) × (is_formed_when w ≡ true)

-- a declaration
abbrev pub IsDeclForm : Tree → DeclForm → Type 0
IsDeclForm tree d = (tree_of_decl d ≡ tree) × (is_formed_decl d ≡ true)

-- trees side by side are these things side by side
abbrev pub AreForms : {A : Type 0} → (A → Tree) → (A → Bool) → List Tree → List A → Type 0
AreForms written formed trees made = (map written made ≡ trees) × (every (map formed made) ≡ true)

-- names
abbrev pub AreNames : List Tree → List (List ℕ) → Type 0
AreNames = AreForms word is_name

-- names with their types
abbrev pub AreParams : List Tree → List Param → Type 0
AreParams = AreForms tree_of_param is_formed_param

-- expressions
abbrev pub AreExprs : List Tree → List Expr → Type 0
AreExprs = AreForms tree_of_expr is_formed_expr

-- two expressions
abbrev pub AreTwoExprs : List Tree → Expr → Expr → Type 0
AreTwoExprs trees a b =
    (tree_of_expr a ∷ tree_of_expr b ∷ [] ≡ trees)
    × (is_formed_expr a ≡ true) × (is_formed_expr b ≡ true)

-- a name, and an expression
abbrev pub IsNameAndExpr : List Tree → List ℕ → Expr → Type 0
IsNameAndExpr trees x e =
    (word x ∷ tree_of_expr e ∷ [] ≡ trees) × (is_name x ≡ true) × (is_formed_expr e ≡ true)

-- a name, and any number of expressions
abbrev pub IsNameAndExprs : List Tree → List ℕ → List Expr → Type 0
IsNameAndExprs trees x es =
    (word x ∷ map tree_of_expr es ≡ trees) × (is_name x ≡ true) × (are_formed_exprs es ≡ true)

-- a list of names with their types
abbrev pub IsParamList : Tree → List Param → Type 0
IsParamList tree ps = (tree_of_params ps ≡ tree) × (are_formed_params ps ≡ true)

-- a list of at least one name with its type
abbrev pub IsFieldList : Tree → List Param → Type 0
IsFieldList tree ps =
    (tree_of_params ps ≡ tree) × (are_formed_params ps ≡ true) × (is_nonempty ps ≡ true)

-- a list of at least one name
abbrev pub IsMemberList : Tree → List (List ℕ) → Type 0
IsMemberList tree xs =
    (variant.List (map word xs) ≡ tree) × (every (map is_name xs) ≡ true) × (is_nonempty xs ≡ true)

-- the steps of a lemma
abbrev pub AreSteps : Tree → List Stm → Type 0
AreSteps tree ss =
    (form (codes "steps") (map tree_of_stm ss) ≡ tree) × (every (map is_formed_stm ss) ≡ true)

-- statements
abbrev pub AreStms : List Tree → List Stm → Type 0
AreStms = AreForms tree_of_stm is_formed_stm

-- assertions
abbrev pub AreAssertions : List Tree → List Assertion → Type 0
AreAssertions = AreForms tree_of_assertion is_formed_assertion

-- the cases of a dispatch
abbrev pub AreWhens : List Tree → List When → Type 0
AreWhens = AreForms tree_of_when is_formed_when

-- the tree of an arm `(A S)`
abbrev pub case_tree : CaseArm Stm → Tree
case_tree arm = tree_of_case_arm (case_arm.map Stm Tree tree_of_stm arm)

-- whether an arm `(A S)` has right form
abbrev pub case_formed : CaseArm Stm → Bool
case_formed arm = is_formed_case_arm (case_arm.map Stm Bool is_formed_stm arm)

-- an arm `(A S)`
abbrev pub IsCaseArm : Tree → CaseArm Stm → Type 0
IsCaseArm tree arm = (case_tree arm ≡ tree) × (case_formed arm ≡ true)

-- arms `(A S)`
abbrev pub AreCaseArms : List Tree → List (CaseArm Stm) → Type 0
AreCaseArms = AreForms case_tree case_formed

-- the tree of an arm `(K x S)`
abbrev pub match_tree : MatchArm Stm → Tree
match_tree arm = tree_of_match_arm (match_arm.map Stm Tree tree_of_stm arm)

-- whether an arm `(K x S)` has right form
abbrev pub match_formed : MatchArm Stm → Bool
match_formed arm = is_formed_match_arm (match_arm.map Stm Bool is_formed_stm arm)

-- an arm `(K x S)`
abbrev pub IsMatchArm : Tree → MatchArm Stm → Type 0
IsMatchArm tree arm = (match_tree arm ≡ tree) × (match_formed arm ≡ true)

-- arms `(K x S)`
abbrev pub AreMatchArms : List Tree → List (MatchArm Stm) → Type 0
AreMatchArms = AreForms match_tree match_formed
