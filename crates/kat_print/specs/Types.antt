-- The text of types and parameters, by the texts of their parts. It is that of their trees.
use Rattle.std.specs.Prelude.{ℕ, List, [], ◌∷◌, map, codes}
use Rattle.std.specs.Fmt.{decimal}
use Rattle.kat_ast.specs.declared.type_name.TypeName.{TypeName}
use Rattle.kat_ast.specs.declared.type_name.TypeName.TheVariants as t
use Rattle.kat_ast.specs.declared.type_name.Param.{Param}
use Rattle.kat_print.specs.Lists.{bracketed, listed}

-- the text of a type
abbrev pub text_of_type : TypeName → List ℕ
text_of_type t.Unit = codes "unit"
text_of_type t.Bool = codes "bool"
text_of_type (t.Bits n) = listed (codes "bits") (decimal n ∷ [])
text_of_type (t.Named x) = x

-- `(x T)`
abbrev pub text_of_param : Param → List ℕ
text_of_param param = listed param.name (text_of_type param.ty ∷ [])

-- `((x T) ..)`
abbrev pub text_of_params : List Param → List ℕ
text_of_params params = bracketed (map text_of_param params)
