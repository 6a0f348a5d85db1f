-- What the tables that a cycle looks names up in say.
use Rattle.std.specs.Prelude.{◌≡◌, ℕ, ◌+◌, if◌then◌else◌, List, [], ◌∷◌, map, Option, None, Some, option_and_then, slice_get}
use Rattle.kat_names.specs.Names.{position_of}
use Rattle.kat_value.specs.declared.types.TypeDecl.{TypeDecl}
use Rattle.kat_value.specs.declared.types.TypeDecl.TheVariants as type
use Rattle.kat_ast.specs.declared.decl.DeclForm.{DeclForm}
use Rattle.kat_ast.specs.declared.decl.DeclForm.TheVariants as d
use Rattle.kat_ast.specs.declared.type_name.Param.{Param}
use Rattle.kat_syntax.specs.NamedItems.{Item, found}
use Rattle.kat_syntax.specs.NamedValues.{ctor_from, name_of_type, names_of_fields}
use Rattle.kat_syntax.specs.OutsideWrites.{outside_places}
use Rattle.kat_syntax.specs.States.{memory_of, register_types}
use Rattle.kat_syntax.specs.Tables.{Name, Function, function_at, is_function, register_names, step_of}
use Rattle.kat_syntax.specs.TypeTable.{types_of_decls}
use Rattle.kat_syntax.specs.declared.run_tables.CtorPlace.{CtorPlace}
use Rattle.kat_syntax.specs.declared.run_tables.FunctionTables.{FunctionTables}
use Rattle.kat_syntax.specs.declared.run_tables.RegisterTables.{RegisterTables}
use Rattle.kat_syntax.specs.declared.run_tables.RunTables.{RunTables}
use Rattle.kat_syntax.specs.declared.run_tables.TypeTables.{TypeTables}

-- a table that finds the first position of each name in a list
abbrev pub FindsPositions : List Name → List (Item ℕ) → Type 0
FindsPositions names named = (x : Name) → found named x ≡ position_of names x

-- the number of the declaration of the first function of this name, the first declaration having
-- the number k
abbrev pub function_number : ℕ → List DeclForm → Name → Option ℕ
function_number k [] f = None
function_number k (decl ∷ decls) f =
    if is_function f decl then Some k else function_number (k + 1) decls f

-- the number of the declaration of the function that a cycle calls
abbrev pub step_number : List DeclForm → Option ℕ
step_number decls = option_and_then (function_number 0 decls) (step_of decls)

-- the function that the declaration of this number declares
abbrev pub declared_at : List DeclForm → ℕ → Option Function
declared_at decls k = option_and_then (function_at k) (slice_get decls k)

-- a table that finds the declarations of functions
abbrev pub FindsFunctions : List DeclForm → List (Item ℕ) → Type 0
FindsFunctions decls named = (f : Name) → found named f ≡ function_number 0 decls f

-- the names of parameters
abbrev pub param_names : List Param → List Name
param_names params = map (λ (param : Param). param.name) params

-- the names of the parameters of a function, none of any other declaration
abbrev pub params_declared : DeclForm → List Name
params_declared (d.Fun f params result body) = param_names params
params_declared _ = []

-- the names of the members, constructors or fields of a declared type
abbrev pub parts_declared : TypeDecl → List Name
parts_declared (type.Enum x members) = members
parts_declared (type.Union x ctors) = names_of_fields ctors
parts_declared (type.Rec x fields) = names_of_fields fields

-- tables, one for each list of names, that find the first positions in it
abbrev pub FindEach : List (List Name) → List (List (Item ℕ)) → Type 0
FindEach [] [] = Unit {0}
FindEach [] (table ∷ tables) = ⊥
FindEach (names ∷ more) [] = ⊥
FindEach (names ∷ more) (table ∷ tables) = FindsPositions names table × FindEach more tables

-- tables of the parameters of each declaration
abbrev pub AreParamTables : List DeclForm → List (List (Item ℕ)) → Type 0
AreParamTables decls tables = FindEach (map params_declared decls) tables

-- tables of the parts of each declared type
abbrev pub ArePartTables : List TypeDecl → List (List (Item ℕ)) → Type 0
ArePartTables types tables = FindEach (map parts_declared types) tables

-- a table that finds the first constructor of each name
abbrev pub FindsCtors : List TypeDecl → List (Item CtorPlace) → Type 0
FindsCtors types named = (k : Name) → found named k ≡ ctor_from 0 types k

-- the tables of the registers
pub record AreRegisterTables (decls : List DeclForm) (tables : RegisterTables) : Type 0 where
  pub names : tables.names ≡ register_names decls
  pub positions : FindsPositions (register_names decls) tables.positions
  pub types : tables.types ≡ register_types decls

-- the tables of the functions
pub record AreFunctionTables (decls : List DeclForm) (tables : FunctionTables) : Type 0 where
  pub numbers : FindsFunctions decls tables.numbers
  pub step : tables.step ≡ step_number decls
  pub params : AreParamTables decls tables.params

-- the tables of declared types
pub record AreTypeTables (types : List TypeDecl) (tables : TypeTables) : Type 0 where
  pub positions : FindsPositions (map name_of_type types) tables.positions
  pub parts : ArePartTables types tables.parts
  pub ctors : FindsCtors types tables.ctors

-- the tables of these declarations
pub record IsRunTables (decls : List DeclForm) (tables : RunTables) : Type 0 where
  pub registers : AreRegisterTables decls tables.registers
  pub memory : tables.memory ≡ memory_of decls
  pub outside : tables.outside ≡ outside_places decls
  pub functions : AreFunctionTables decls tables.functions
  pub types : AreTypeTables (types_of_decls decls) tables.types
