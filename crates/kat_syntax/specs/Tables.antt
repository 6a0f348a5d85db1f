-- What the declarations of a specification name, in order of declaration.
use Rattle.std.specs.Prelude.{ℕ, Bool, false, ◌+◌, if◌then◌else◌, List, [], ◌∷◌, map, Option, Some, None, option_and_then}
use Rattle.std.specs.Str.{bytes_eq}
use Rattle.kat_ast.specs.declared.type_name.Param.{Param}
use Rattle.kat_ast.specs.declared.type_name.TypeName.{TypeName}
use Rattle.kat_ast.specs.declared.decl.RegisterKind.{RegisterKind}
use Rattle.kat_ast.specs.declared.decl.DeclForm.{DeclForm}
use Rattle.kat_ast.specs.declared.decl.DeclForm.TheVariants.{Register, Fun, Step}
use Rattle.kat_ast.specs.declared.stm.Stm.{Stm}
use Rattle.kat_ast.specs.Types.{trees_of_type, trees_of_params}

-- a name is the list of its bytes
abbrev pub Name : Type 0
Name = List ℕ

-- a declared register
pub record RegisterDecl : Type 0 where
  pub name : Name
  pub type : TypeName
  pub kind : RegisterKind

-- the declared registers, in order
abbrev pub registers_of : List DeclForm → List RegisterDecl
registers_of [] = []
registers_of (Register x type kind ∷ decls) =
    record { name = x; type = type; kind = kind } ∷ registers_of decls
registers_of (_ ∷ decls) = registers_of decls

-- the names of the registers, in order of declaration
abbrev pub register_names : List DeclForm → List Name
register_names decls = map (λ (register : RegisterDecl). register.name) (registers_of decls)

-- a declared function, with the numbers of its declaration and of its body's tree
pub record Function : Type 0 where
  pub decl : ℕ
  pub params : List Param
  pub body : Stm
  pub body_at : ℕ

-- the function that a declaration of this number declares, if it declares one
abbrev pub function_at : ℕ → DeclForm → Option Function
function_at k (Fun x params result body) =
    Some (record {
      decl = k;
      params = params;
      body = body;
      body_at = 3 + trees_of_params params + trees_of_type result;
    })
function_at k _ = None

-- whether a declaration is a function of this name
abbrev pub is_function : Name → DeclForm → Bool
is_function f (Fun x params result body) = bytes_eq x f
is_function f _ = false

-- the first function of this name, the first declaration having the number k
abbrev pub function_from : ℕ → List DeclForm → Name → Option Function
function_from k [] f = None
function_from k (decl ∷ decls) f =
    if is_function f decl then function_at k decl else function_from (k + 1) decls f

-- the name in the first `(step f)`
abbrev pub step_of : List DeclForm → Option Name
step_of [] = None
step_of (Step f ∷ decls) = Some f
step_of (_ ∷ decls) = step_of decls

-- the function that a cycle calls, if there is one
abbrev pub step_function_of : List DeclForm → Option Function
step_function_of decls = option_and_then (function_from 0 decls) (step_of decls)
