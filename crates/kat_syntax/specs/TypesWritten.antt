-- Types as they are written: their faults, their sizes, and what is in scope.
use Rattle.std.specs.Prelude.{ℕ, ◌+◌, ◌||◌, not, max, Bool, if◌then◌else◌, List, [], ◌∷◌, ◌++◌, map, sum, take, Option, None, Some, is_some, slice_get, unwrap_or}
use Rattle.std.specs.Str.{bytes_eq}
use Rattle.kat_value.specs.declared.types.Ty.{Ty}
use Rattle.kat_value.specs.declared.types.Ty.TheVariants as ty
use Rattle.kat_value.specs.Widths.{is_width}
use Rattle.kat_ast.specs.declared.type_name.TypeName.{TypeName}
use Rattle.kat_ast.specs.declared.type_name.TypeName.TheVariants.{Bits, Named}
use Rattle.kat_ast.specs.declared.type_name.Param.{Param}
use Rattle.kat_ast.specs.declared.decl.DeclForm.{DeclForm}
use Rattle.kat_ast.specs.declared.decl.DeclForm.TheVariants as d
use Rattle.kat_ast.specs.Types.{trees_of_param}
use Rattle.kat_syntax.specs.Tables.{Name}
use Rattle.kat_syntax.specs.TypeRules.{Fault, unless}
use Rattle.kat_syntax.specs.declared.type_rule.TypeRule.TheVariants.{NameTaken, TypeUnknown, NoWidth}
use Rattle.kat_syntax.specs.Declares.{TypedName, type_of_name, is_type_decl}
use Rattle.kat_syntax.specs.Around.{Around, is_declared, type_called}

-- the faults of a written type that stands at this tree
abbrev pub type_faults_at : Around → ℕ → TypeName → List Fault
type_faults_at around at (Bits w) = unless (is_width w) (at + 2) NoWidth
type_faults_at around at (Named x) =
    unless (is_some (type_called around x)) at TypeUnknown
type_faults_at around at _ = []

-- the type that a written type is here
abbrev pub type_here : Around → TypeName → Option Ty
type_here around type = type_of_name around.decls around.number type

-- the names in scope beside the declared ones, with their types; the first of a name counts
abbrev pub Scope : Type 0
Scope = List TypedName

-- the type of the first local of this name, if there is one
abbrev pub local_type : Scope → Name → Option (Option Ty)
local_type [] x = None
local_type (local ∷ scope) x = if bytes_eq local.name x then Some local.type else local_type scope x

-- whether a name is in scope: each declared name is, everywhere
abbrev pub is_in_scope : Around → Scope → Name → Bool
is_in_scope around scope x = is_declared around x || is_some (local_type scope x)

-- a local with the type that it is declared with
abbrev pub local_of : Around → Param → TypedName
local_of around param = record { name = param.name; type = type_here around param.ty }

-- the fault of a local at this tree that hides a name in scope
abbrev pub hiding : Around → Scope → ℕ → Name → List Fault
hiding around scope at x = unless (not (is_in_scope around scope x)) at NameTaken

-- the faults of parameters behind names in scope, the list of the first standing at this tree
abbrev pub param_faults : Around → Scope → ℕ → List Param → List Fault
param_faults around scope at [] = []
param_faults around scope at (param ∷ params) =
    hiding around scope (at + 1) param.name
    ++ (type_faults_at around (at + 2) param.ty
    ++ param_faults around (scope ++ local_of around param ∷ []) (at + trees_of_param param) params)

-- the scope behind parameters
abbrev pub with_params : Around → Scope → List Param → Scope
with_params around scope params = scope ++ map (local_of around) params

-- the size of a declared type, by the sizes of the types before
abbrev pub size_of_type : List ℕ → Option Ty → ℕ
size_of_type sizes (Some (ty.Union p)) = unwrap_or (slice_get sizes p) 1
size_of_type sizes (Some (ty.Rec p)) = unwrap_or (slice_get sizes p) 1
size_of_type sizes _ = 1

-- the size of a written type in the declaration of this number
abbrev pub size_of_name : List DeclForm → ℕ → List ℕ → TypeName → ℕ
size_of_name decls k sizes type = size_of_type sizes (type_of_name decls k type)

-- the greatest of sizes
abbrev pub greatest : List ℕ → ℕ
greatest [] = 0
greatest (size ∷ sizes) = max size (greatest sizes)

-- the sizes of parts with their types
abbrev pub part_sizes : List DeclForm → ℕ → List ℕ → List Param → List ℕ
part_sizes decls k sizes parts = map (λ (part : Param). size_of_name decls k sizes part.ty) parts

-- the size of the type that a declaration declares: 1, for a record also the sum over its fields,
-- for a union also the largest payload
abbrev pub size_of_decl : List DeclForm → ℕ → List ℕ → DeclForm → ℕ
size_of_decl decls k sizes (d.Union x ctors) = 1 + greatest (part_sizes decls k sizes ctors)
size_of_decl decls k sizes (d.Record x fields) = 1 + sum (part_sizes decls k sizes fields)
size_of_decl decls k sizes _ = 1

-- sizes of declared types with those of declarations more, the first having the number k
abbrev pub sizes_with : List DeclForm → ℕ → List ℕ → List DeclForm → List ℕ
sizes_with all k sizes [] = sizes
sizes_with all k sizes (decl ∷ decls) =
    sizes_with all (k + 1)
    (if is_type_decl decl then sizes ++ size_of_decl all k sizes decl ∷ [] else sizes) decls

-- the size of the type that a declaration declares here
abbrev pub size_here : Around → DeclForm → ℕ
size_here around decl =
    size_of_decl around.decls around.number
    (sizes_with around.decls 0 [] (take around.number around.decls)) decl
