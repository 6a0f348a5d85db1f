-- A typed specification with its tables, and the functions that are found in it.
use Rattle.std.specs.Prelude.{◌≡◌, ◌+◌, ◌<◌, List, Option, None, Some}
use Rattle.kat_value.specs.declared.types.TypeDecl.{TypeDecl}
use Rattle.kat_ast.specs.Spec.{Spec}
use Rattle.kat_ast.specs.Limits.{decl_trees_bound}
use Rattle.kat_ast.specs.Statements.{trees_of_stm}
use Rattle.kat_ast.specs.Types.{trees_of_type, trees_of_params}
use Rattle.kat_syntax.specs.FirstTypeFault.{IsTyped}
use Rattle.kat_syntax.specs.RunTables.{FindsPositions, IsRunTables, param_names}
use Rattle.kat_syntax.specs.Tables.{Function}
use Rattle.kat_syntax.specs.TypeTable.{types_of_decls}
use Rattle.kat_syntax.specs.declared.checked.FunctionSeen.{FunctionSeen}
use Rattle.kat_syntax.specs.declared.run_tables.RunTables.{RunTables}

-- a typed specification, the table of its declared types, and those that a cycle asks
pub record IsChecked (spec : Spec) (types : List TypeDecl) (tables : RunTables) : Type 0 where
  pub typed : IsTyped spec
  pub table : types ≡ types_of_decls spec.decls
  pub found : IsRunTables spec.decls tables

-- what is seen of a function
pub record IsSeen (seen : FunctionSeen) (function : Function) : Type 0 where
  pub decl : function.decl ≡ seen.decl
  pub params : function.params ≡ seen.params.now
  pub body : function.body ≡ seen.body.now
  pub body_at :
      function.body_at ≡ 3 + trees_of_params seen.params.now + trees_of_type seen.result.now

-- a function that is seen can be called: its declaration has fewer trees than it may, and the table
-- finds its parameters
pub record IsCallable (seen : FunctionSeen) : Type 0 where
  pub small :
      3 + trees_of_params seen.params.now + trees_of_type seen.result.now
      + trees_of_stm seen.body.now < decl_trees_bound
  pub positions : FindsPositions (param_names seen.params.now) seen.positions.now

-- a function is seen exactly where there is one
abbrev pub IsFunctionSeen : Option FunctionSeen → Option Function → Type 0
IsFunctionSeen None None = Unit {0}
IsFunctionSeen None (Some function) = ⊥
IsFunctionSeen (Some seen) None = ⊥
IsFunctionSeen (Some seen) (Some function) = IsSeen seen function
