-- What a declaration's form tells of what it declares.
use Rattle.std.specs.Prelude.{List, [], Option, None, Some}
use Rattle.kat_ast.specs.declared.type_name.TypeName.{TypeName}
use Rattle.kat_ast.specs.declared.type_name.Param.{Param}
use Rattle.kat_ast.specs.declared.decl.DeclForm.{DeclForm}
use Rattle.kat_ast.specs.declared.decl.DeclForm.TheVariants as d
use Rattle.kat_syntax.specs.Tables.{Name}

-- the members of an enum
abbrev pub members_of : DeclForm → List Name
members_of (d.Enum x members) = members
members_of _ = []

-- the constructors of a union
abbrev pub ctors_of : DeclForm → List Param
ctors_of (d.Union x ctors) = ctors
ctors_of _ = []

-- the fields of a record type
abbrev pub fields_of : DeclForm → List Param
fields_of (d.Record x fields) = fields
fields_of _ = []

-- the parameters of a region
abbrev pub region_params : DeclForm → Option (List Param)
region_params (d.Region x params i e) = Some params
region_params _ = None

-- the inputs and outputs of a predicate
abbrev pub predicate_params : DeclForm → Option (List Param × List Param)
predicate_params (d.Predicate x inputs outputs definition) = Some (inputs, outputs)
predicate_params _ = None

-- the parameters of a function, and the type of its result
abbrev pub function_types : DeclForm → Option (List Param × TypeName)
function_types (d.Fun x params result body) = Some (params, result)
function_types _ = None

-- the parameters of a lemma
abbrev pub lemma_params : DeclForm → Option (List Param)
lemma_params (d.Lemma x params names pre post steps) = Some params
lemma_params _ = None
