-- What a specification declares: one list of all names with what each is, and one look-up by the
-- kind that is wanted. The types in it are as far as something fixes them: a declared type counts
-- where it is declared earlier than the declaration that names it.
use Rattle.std.specs.Prelude.{ℕ, ◌+◌, Bool, true, false, nat_lt, if◌then◌else◌, List, [], ◌∷◌, ◌++◌, map, Option, None, Some, option_and_then}
use Rattle.std.specs.Option.{option_or}
use Rattle.std.specs.Str.{bytes_eq}
use Rattle.kat_value.specs.declared.types.Ty.{Ty}
use Rattle.kat_value.specs.declared.types.Ty.TheVariants as ty
use Rattle.kat_value.specs.Signatures.{bits_of}
use Rattle.kat_ast.specs.declared.type_name.TypeName.{TypeName}
use Rattle.kat_ast.specs.declared.type_name.TypeName.TheVariants.{Unit as UnitName, Bool as BoolName, Bits as BitsName, Named}
use Rattle.kat_ast.specs.declared.type_name.Param.{Param}
use Rattle.kat_ast.specs.declared.decl.RegisterKind.{RegisterKind}
use Rattle.kat_ast.specs.declared.decl.DeclForm.{DeclForm}
use Rattle.kat_ast.specs.declared.decl.DeclForm.TheVariants as d
use Rattle.kat_ast.specs.Types.{trees_of_param}
use Rattle.kat_syntax.specs.Tables.{Name}

-- a declared type: the number of its declaration, its name, and the type that it is
pub record TypeHead : Type 0 where
  pub decl : ℕ
  pub name : Name
  pub type : Ty

-- the declared types, the first declaration having the number k and the first type the position p
abbrev pub type_heads_from : ℕ → ℕ → List DeclForm → List TypeHead
type_heads_from k p [] = []
type_heads_from k p (d.Enum x members ∷ decls) =
    record { decl = k; name = x; type = ty.Enum p } ∷ type_heads_from (k + 1) (p + 1) decls
type_heads_from k p (d.Union x ctors ∷ decls) =
    record { decl = k; name = x; type = ty.Union p } ∷ type_heads_from (k + 1) (p + 1) decls
type_heads_from k p (d.Record x fields ∷ decls) =
    record { decl = k; name = x; type = ty.Rec p } ∷ type_heads_from (k + 1) (p + 1) decls
type_heads_from k p (_ ∷ decls) = type_heads_from (k + 1) p decls

-- the declared types, in order of declaration
abbrev pub type_heads : List DeclForm → List TypeHead
type_heads decls = type_heads_from 0 0 decls

-- the first declared type of this name
abbrev pub type_named : List TypeHead → Name → Option TypeHead
type_named [] x = None
type_named (head ∷ heads) x = if bytes_eq head.name x then Some head else type_named heads x

-- a declared type, where it is declared before the declaration of this number
abbrev pub if_before : ℕ → TypeHead → Option Ty
if_before k head = if nat_lt head.decl k then Some head.type else None

-- the type of this name that is declared before the declaration of this number
abbrev pub type_before : List DeclForm → ℕ → Name → Option Ty
type_before decls k x = option_and_then (if_before k) (type_named (type_heads decls) x)

-- the type that a written type is, in the declaration of this number
abbrev pub type_of_name : List DeclForm → ℕ → TypeName → Option Ty
type_of_name decls k UnitName = Some ty.Unit
type_of_name decls k BoolName = Some ty.Bool
type_of_name decls k (BitsName w) = bits_of w
type_of_name decls k (Named x) = type_before decls k x

-- a name with its type, where something fixes it
pub record TypedName : Type 0 where
  pub name : Name
  pub type : Option Ty

-- parameters with their types, in the declaration of this number
abbrev pub typed_params : List DeclForm → ℕ → List Param → List TypedName
typed_params decls k params =
    map (λ (param : Param). record { name = param.name; type = type_of_name decls k param.ty })
    params

-- the types alone
abbrev pub types_of : List TypedName → List (Option Ty)
types_of params = map (λ (param : TypedName). param.type) params

-- the fields of the declared types, none for those that are no records; the first declaration
-- having the number k
abbrev pub fields_from : List DeclForm → ℕ → List DeclForm → List (List TypedName)
fields_from all k [] = []
fields_from all k (d.Enum x members ∷ decls) = [] ∷ fields_from all (k + 1) decls
fields_from all k (d.Union x ctors ∷ decls) = [] ∷ fields_from all (k + 1) decls
fields_from all k (d.Record x fields ∷ decls) =
    typed_params all k fields ∷ fields_from all (k + 1) decls
fields_from all k (_ ∷ decls) = fields_from all (k + 1) decls

-- what a declared name is
pub data Meant : Type 0 where
  AType : Meant
  -- a member of the enum at this position among the types
  AMember : (of : ℕ) → Meant
  -- a constructor of the union at this position among the types
  ACtor : (of : ℕ) (payload : Option Ty) → Meant
  ARegister : (kind : RegisterKind) (type : Option Ty) → Meant
  ARegion : (params : List TypedName) → Meant
  APredicate : (inputs outputs : List TypedName) → Meant
  AFunction : (params : List TypedName) (result : Option Ty) → Meant
  ALemma : (params : List TypedName) → Meant
  ABlock : Meant

-- a declared name: where it stands, by declaration and tree, and what it is
pub record Declared : Type 0 where
  pub decl : ℕ
  pub tree : ℕ
  pub name : Name
  pub is : Meant

-- the members of an enum, the first standing at this tree
abbrev pub members_from : ℕ → ℕ → ℕ → List Name → List Declared
members_from k p tree [] = []
members_from k p tree (x ∷ members) =
    record { decl = k; tree = tree; name = x; is = AMember p } ∷ members_from k p (tree + 1) members

-- the constructors of a union, the list of the first standing at this tree
abbrev pub ctors_from : List DeclForm → ℕ → ℕ → ℕ → List Param → List Declared
ctors_from decls k p at [] = []
ctors_from decls k p at (ctor ∷ ctors) =
    record {
      decl = k;
      tree = at + 1;
      name = ctor.name;
      is = ACtor p (type_of_name decls k ctor.ty);
    }
    ∷ ctors_from decls k p (at + trees_of_param ctor) ctors

-- the name that a declaration has itself
abbrev pub named_here : ℕ → Name → Meant → Declared
named_here k x meant = record { decl = k; tree = 2; name = x; is = meant }

-- what a declaration of this number declares, the next type having the position p
abbrev pub declared_in : List DeclForm → ℕ → ℕ → DeclForm → List Declared
declared_in decls k p (d.Enum x members) =
    named_here k x AType ∷ members_from k p 4 members
declared_in decls k p (d.Union x ctors) =
    named_here k x AType ∷ ctors_from decls k p 4 ctors
declared_in decls k p (d.Record x fields) = named_here k x AType ∷ []
declared_in decls k p (d.Register x type kind) =
    named_here k x (ARegister kind (type_of_name decls k type)) ∷ []
declared_in decls k p (d.Region x params i e) =
    named_here k x (ARegion (typed_params decls k params)) ∷ []
declared_in decls k p (d.Predicate x inputs outputs definition) =
    named_here k x (APredicate (typed_params decls k inputs) (typed_params decls k outputs)) ∷ []
declared_in decls k p (d.Fun x params result body) =
    named_here k x (AFunction (typed_params decls k params) (type_of_name decls k result)) ∷ []
declared_in decls k p (d.Lemma x params names pre post steps) =
    named_here k x (ALemma (typed_params decls k params)) ∷ []
declared_in decls k p (d.Block block) = named_here k block.name ABlock ∷ []
declared_in decls k p _ = []

-- whether a declaration declares a type
abbrev pub is_type_decl : DeclForm → Bool
is_type_decl (d.Enum x members) = true
is_type_decl (d.Union x ctors) = true
is_type_decl (d.Record x fields) = true
is_type_decl _ = false

-- what declarations declare among all of them, the first having the number k and the next type the
-- position p
abbrev pub declared_from : List DeclForm → ℕ → ℕ → List DeclForm → List Declared
declared_from all k p [] = []
declared_from all k p (decl ∷ decls) =
    declared_in all k p decl
    ++ declared_from all (k + 1) (if is_type_decl decl then p + 1 else p) decls

-- all that is declared, in order of declaration and tree
abbrev pub declared_by : List DeclForm → List Declared
declared_by decls = declared_from decls 0 0 decls

-- what is wanted of a name: of what it is, in the declaration of this number
abbrev pub Kind : Type 0 → Type 0
Kind A = ℕ → Meant → Option A

-- the first of this name that is of the kind wanted
abbrev pub look_up : {A : Type 0} → Kind A → List Declared → Name → Option A
look_up kind [] x = None
look_up kind (declared ∷ more) x =
    if bytes_eq declared.name x
    then option_or (kind declared.decl declared.is) (look_up kind more x)
    else look_up kind more x
