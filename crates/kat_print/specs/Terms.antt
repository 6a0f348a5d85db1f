-- The text of terms: a variable is `v` and its number, and every other term is the canonical text
-- of its expression, with the names of the table of types.
use Rattle.std.specs.Prelude.{ℕ, List, [], ◌∷◌, ◌++◌, map, codes, Option, Some, None, option_and_then, slice_get, unwrap_or}
use Rattle.std.specs.Fmt.{decimal}
use Rattle.kat_ast.specs.declared.expr.Expr.TheOpen.{Expr-F, Name, Unit, Truth, Bits, Of, Make, Rec, Apply, Get}
use Rattle.kat_value.specs.declared.op.Op.{Op}
use Rattle.kat_value.specs.declared.op.Op.TheVariants.{Get as GetField}
use Rattle.kat_value.specs.declared.types.Field.{Field}
use Rattle.kat_value.specs.declared.types.TypeDecl.{TypeDecl}
use Rattle.kat_value.specs.declared.types.TypeDecl.TheVariants.{Enum as EnumDecl, Union as UnionDecl, Rec as RecDecl}
use Rattle.kat_value.specs.declared.value.Value.{Value, out-Value}
use Rattle.kat_value.specs.declared.value.Value.TheOpen.{Value-F, Unit as UnitLayer, Bool as TruthLayer, Bits as BitsLayer, Member as MemberLayer}
use Rattle.kat_value.specs.Typing.{ctor_at, fields_at}
use Rattle.kat_term.specs.declared.term.Term.{Term}
use Rattle.kat_term.specs.declared.term.Term.TheOpen.{Term-F, Var, Lit, Apply as Application, Make as Making, Rec as Record}
use Rattle.kat_term.specs.declared.term.Term.TheFolds.{fold-Term}
use Rattle.kat_print.specs.Expressions.{expr_text}

-- the name of a declared type, empty where there is none
abbrev pub name_of_decl : Option TypeDecl → List ℕ
name_of_decl (Some (EnumDecl name members)) = name
name_of_decl (Some (UnionDecl name ctors)) = name
name_of_decl (Some (RecDecl name fields)) = name
name_of_decl None = []

-- the name of the type at a position of the table
abbrev pub name_of_type : List TypeDecl → ℕ → List ℕ
name_of_type types of = name_of_decl (slice_get types of)

-- the names of the members of a declaration, none where it is no enum
abbrev pub members_of : Option TypeDecl → List (List ℕ)
members_of (Some (EnumDecl name members)) = members
members_of (Some (UnionDecl name ctors)) = []
members_of (Some (RecDecl name fields)) = []
members_of None = []

-- the name of a member of the enum at a position
abbrev pub name_of_member : List TypeDecl → ℕ → ℕ → List ℕ
name_of_member types of index = unwrap_or (slice_get (members_of (slice_get types of)) index) []

-- the name of a constructor or a field, empty where there is none
abbrev pub name_of_found : Option Field → List ℕ
name_of_found (Some found) = found.name
name_of_found None = []

-- the name of a constructor of the union at a position
abbrev pub name_of_ctor : List TypeDecl → ℕ → ℕ → List ℕ
name_of_ctor types of ctor = name_of_found (ctor_at types of ctor)

-- the name of a field of the record at a position
abbrev pub name_of_field : List TypeDecl → ℕ → ℕ → List ℕ
name_of_field types of field =
    name_of_found (option_and_then (λ fields. slice_get fields field) (fields_at types of))

-- the expression of a literal; the value of a union or a record is none
abbrev pub expr_of_value : List TypeDecl → Value-F Value → Expr-F (List ℕ)
expr_of_value types UnitLayer = Unit
expr_of_value types (TruthLayer b) = Truth b
expr_of_value types (BitsLayer w n) = Bits w n
expr_of_value types (MemberLayer of index) =
    Of (name_of_type types of) (name_of_member types of index)
expr_of_value types _ = Name []

-- the expression of an operation: a field of a record is named
abbrev pub expr_of_application : List TypeDecl → Op → List (List ℕ) → Expr-F (List ℕ)
expr_of_application types (GetField of field) (value ∷ []) =
    Get (name_of_type types of) (name_of_field types of field) value
expr_of_application types op args = Apply op args

-- the expression of one layer of a term, with the text of each part in its place
abbrev pub expr_of_layer : List TypeDecl → Term-F (List ℕ) → Expr-F (List ℕ)
expr_of_layer types (Var i) = Name (codes "v" ++ decimal i)
expr_of_layer types (Lit x) = expr_of_value types (out-Value x)
expr_of_layer types (Application op args) = expr_of_application types op args
expr_of_layer types (Making of ctor inner) = Make (name_of_ctor types of ctor) inner
expr_of_layer types (Record of fields) = Rec (name_of_type types of) fields

-- the text of a term
abbrev pub text_of_term : List TypeDecl → Term → List ℕ
text_of_term types = fold-Term (List ℕ) (λ layer. expr_text (expr_of_layer types layer))
