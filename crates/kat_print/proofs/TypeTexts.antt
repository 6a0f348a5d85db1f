-- The texts of types and parameters are those of their trees.
use Rattle.std.proofs.Common.{◌≡◌, List, [], ◌∷◌, map, sym, ap, ◌∙◌, refl}
use Rattle.std.specs.Prelude.{codes}
use Rattle.std.specs.Fmt.{decimal}
use Rattle.kat_tree.specs.Written.{text_of_tree}
use Rattle.kat_ast.specs.declared.type_name.TypeName.{TypeName}
use Rattle.kat_ast.specs.declared.type_name.TypeName.TheVariants as t
use Rattle.kat_ast.specs.declared.type_name.Param.{Param}
use Rattle.kat_ast.specs.Parts.{word, number}
use Rattle.kat_ast.specs.Types.{tree_of_type, tree_of_param, tree_of_params}
use Rattle.kat_print.specs.Lists.{bracketed}
use Rattle.kat_print.specs.Types.{text_of_type, text_of_param, text_of_params}
use Rattle.kat_print.proofs.Forms.{of_word, of_number, of_list, of_one, both, pair}

pub of_type : (type : TypeName) → text_of_tree (tree_of_type type) ≡ text_of_type type
of_type t.Unit = of_word (codes "unit")
of_type t.Bool = of_word (codes "bool")
of_type (t.Bits n) = sym (of_one (codes "bits") (number n) (decimal n) (of_number n))
of_type (t.Named x) = of_word x

of_param : (x : Param) → text_of_tree (tree_of_param x) ≡ text_of_param x
of_param x = pair (word x.name) (tree_of_type x.ty) x.name (text_of_type x.ty) (of_word x.name) (of_type x.ty)

of_each : (xs : List Param) → map text_of_tree (map tree_of_param xs) ≡ map text_of_param xs
of_each [] = refl
of_each (x ∷ xs) = both (tree_of_param x) (map tree_of_param xs) (text_of_param x) (map text_of_param xs) (of_param x) (of_each xs)

pub of_params : (xs : List Param) → text_of_tree (tree_of_params xs) ≡ text_of_params xs
of_params xs = of_list (map tree_of_param xs) ∙ ap bracketed (of_each xs)
