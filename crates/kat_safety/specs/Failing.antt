-- Where runs fail: the statement at a tree of a body.
use Rattle.std.specs.Prelude.{◌≡◌, ◌+◌, ℕ, zero, suc, Bool, true, false, List, [], ◌∷◌, Some, slice_get}
use Rattle.kat_ast.specs.declared.place.Place.{Place}
use Rattle.kat_ast.specs.declared.type_name.Param.{Param}
use Rattle.kat_ast.specs.declared.type_name.TypeName.{TypeName}
use Rattle.kat_ast.specs.declared.decl.DeclForm.{DeclForm}
use Rattle.kat_ast.specs.declared.decl.DeclForm.TheVariants as d
use Rattle.kat_ast.specs.declared.stm.Stm.{Stm}
use Rattle.kat_ast.specs.declared.stm.CaseArm.{CaseArm}
use Rattle.kat_ast.specs.declared.stm.MatchArm.{MatchArm}
use Rattle.kat_ast.specs.declared.stm.Stm.TheOpen.{Stm-F, Let, Seq, If, Case, Match, Load, Store, Check, Fail}
use Rattle.kat_ast.specs.declared.stm.Stm.TheViews.{out-Stm}
use Rattle.kat_ast.specs.Expressions.{trees_of_expr}
use Rattle.kat_ast.specs.Statements.{trees_of_stm}
use Rattle.kat_ast.specs.Types.{trees_of_params, trees_of_type}
use Rattle.kat_syntax.specs.Tables.{Name}

-- whether a statement fails of itself, and not in a part or a call: a `fail`, a `check`, a `load`
-- or a `store`
abbrev pub fails_itself : Stm-F Stm → Bool
fails_itself Fail = true
fails_itself (Check e) = true
fails_itself (Load index) = true
fails_itself (Store index e) = true
fails_itself _ = false

-- statements one after another with the numbers of their trees, the first standing at this one
abbrev pub stms_from : ℕ → List Stm → List (ℕ × Stm)
stms_from at [] = []
stms_from at (stm ∷ more) = (at, stm) ∷ stms_from (at + trees_of_stm stm) more

-- the same of the arms of a `case`, the list of the first standing at this number
abbrev pub case_stms_from : ℕ → List (CaseArm Stm) → List (ℕ × Stm)
case_stms_from at [] = []
case_stms_from at (arm ∷ more) =
    (at + 2, arm.body) ∷ case_stms_from (at + 2 + trees_of_stm arm.body) more

-- the same of the arms of a `match`
abbrev pub match_stms_from : ℕ → List (MatchArm Stm) → List (ℕ × Stm)
match_stms_from at [] = []
match_stms_from at (arm ∷ more) =
    (at + 3, arm.body) ∷ match_stms_from (at + 3 + trees_of_stm arm.body) more

-- the statements that stand right in one, with the numbers of their trees in its own
abbrev pub stms_in : Stm-F Stm → List (ℕ × Stm)
stms_in (Let x first second) = (3, first) ∷ (3 + trees_of_stm first, second) ∷ []
stms_in (Seq parts) = stms_from 2 parts
stms_in (If test first second) = stms_from (2 + trees_of_expr test) (first ∷ second ∷ [])
stms_in (Case e arms) = case_stms_from (2 + trees_of_expr e) arms
stms_in (Match e arms) = match_stms_from (2 + trees_of_expr e) arms
stms_in _ = []

-- the statement at the tree of this number in a whole one, standing so deep in it
abbrev pub StmAt : ℕ → Stm → ℕ → Stm → Type 0
StmAt zero whole at stm = (at ≡ 0) × (stm ≡ whole)
StmAt (suc depth) whole at stm =
    (i first inner : ℕ) × (part : Stm)
    × (slice_get (stms_in (out-Stm whole)) i ≡ Some (first, part))
    × (at ≡ first + inner) × StmAt depth part inner stm

-- at the tree of this number in a statement is one that fails of itself
pub record FailsAt (whole : Stm) (at : ℕ) : Type 0 where
  pub depth : ℕ
  pub stm : Stm
  pub there : StmAt depth whole at stm
  pub fails : fails_itself (out-Stm stm) ≡ true

-- a place is the tree of a statement that fails of itself, in the body of a function that is
-- declared
pub record FailsInBody (decls : List DeclForm) (place : Place) : Type 0 where
  pub name : Name
  pub params : List Param
  pub result : TypeName
  pub body : Stm
  pub declared : slice_get decls place.decl ≡ Some (d.Fun name params result body)
  pub at : ℕ
  pub behind : place.tree ≡ 3 + trees_of_params params + trees_of_type result + at
  pub fails : FailsAt body at
