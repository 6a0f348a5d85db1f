-- What stands around a declaration: all declarations, and its number. What it may name, by kind;
-- only types, the memory, predicates and lemmas have to be declared earlier.
use Rattle.std.specs.Prelude.{ℕ, ◌==◌, Bool, false, nat_lt, if◌then◌else◌, List, [], ◌∷◌, filter, map, slice_get, unwrap_or, Option, None, Some, option_and_then}
use Rattle.std.specs.List.{list_any}
use Rattle.std.specs.Str.{bytes_eq}
use Rattle.kat_value.specs.declared.types.Ty.{Ty}
use Rattle.kat_value.specs.declared.types.Ty.TheVariants as ty
use Rattle.kat_ast.specs.declared.decl.RegisterKind.{RegisterKind}
use Rattle.kat_ast.specs.declared.decl.DeclForm.{DeclForm}
use Rattle.kat_syntax.specs.Tables.{Name}
use Rattle.kat_syntax.specs.Declares.{TypedName, Declared, Meant, AMember, ACtor, ARegister, ARegion, APredicate, AFunction, ALemma, ABlock, Kind, declared_by, look_up, type_before, fields_from}

-- all declarations, and the number of the one that is looked at
pub record Around : Type 0 where
  pub decls : List DeclForm
  pub number : ℕ

-- a declared register
pub record RegisterSeen : Type 0 where
  pub kind : RegisterKind
  pub type : Option Ty

-- a function, with its parameters
pub record FunctionSeen : Type 0 where
  pub params : List TypedName
  pub result : Option Ty

-- a predicate or a lemma: the number of its declaration, and what it takes
pub record ProofSeen : Type 0 where
  pub decl : ℕ
  pub inputs : List TypedName
  pub outputs : List TypedName

-- a constructor: its union's position among the types, and its payload's type
pub record CtorSeen : Type 0 where
  pub of : ℕ
  pub payload : Option Ty

-- the enum of a member
abbrev pub a_member : Kind ℕ
a_member k (AMember of) = Some of
a_member k _ = None

-- a constructor of a union
abbrev pub a_ctor : Kind CtorSeen
a_ctor k (ACtor of payload) = Some (record { of = of; payload = payload })
a_ctor k _ = None

-- a register
abbrev pub a_register : Kind RegisterSeen
a_register k (ARegister kind type) = Some (record { kind = kind; type = type })
a_register k _ = None

-- the parameters of a region
abbrev pub a_region : Kind (List TypedName)
a_region k (ARegion params) = Some params
a_region k _ = None

-- a predicate
abbrev pub a_predicate : Kind ProofSeen
a_predicate k (APredicate inputs outputs) =
    Some (record { decl = k; inputs = inputs; outputs = outputs })
a_predicate k _ = None

-- a function
abbrev pub a_function : Kind FunctionSeen
a_function k (AFunction params result) = Some (record { params = params; result = result })
a_function k _ = None

-- a lemma
abbrev pub a_lemma : Kind ProofSeen
a_lemma k (ALemma params) = Some (record { decl = k; inputs = params; outputs = [] })
a_lemma k _ = None

-- a block
abbrev pub a_block : Kind ℕ
a_block k ABlock = Some k
a_block k _ = None

-- what a name means, as what is wanted
abbrev pub meant : {A : Type 0} → Kind A → Around → Name → Option A
meant kind around x = look_up kind (declared_by around.decls) x

-- whether any declaration declares this name
abbrev pub is_declared : Around → Name → Bool
is_declared around x = list_any (λ (one : Declared). bytes_eq one.name x) (declared_by around.decls)

-- whether a declaration stands before the one that is looked at
abbrev pub is_before : Around → ℕ → Bool
is_before around k = nat_lt k around.number

-- whether a name is a member of the enum at this position
abbrev pub is_member_of : ℕ → Meant → Bool
is_member_of p (AMember q) = p == q
is_member_of p _ = false

-- whether a name is a constructor of the union at this position
abbrev pub is_ctor_of : ℕ → Meant → Bool
is_ctor_of p (ACtor q payload) = p == q
is_ctor_of p _ = false

-- the names that are of a kind, in order of declaration
abbrev pub names_that : (Meant → Bool) → Around → List Name
names_that test around =
    map (λ (one : Declared). one.name)
    (filter (λ (one : Declared). test one.is) (declared_by around.decls))

-- the first of this name, whatever it is
abbrev pub first_named : List Declared → Name → Option Declared
first_named [] x = None
first_named (one ∷ more) x = if bytes_eq one.name x then Some one else first_named more x

-- a record type: its position among the types, and its fields
pub record RecordSeen : Type 0 where
  pub of : ℕ
  pub fields : List TypedName

-- the fields of the record type at this position
abbrev pub fields_at : Around → ℕ → List TypedName
fields_at around p = unwrap_or (slice_get (fields_from around.decls 0 around.decls) p) []

-- a type as a record type
abbrev pub as_record : Around → Ty → Option RecordSeen
as_record around (ty.Rec p) = Some (record { of = p; fields = fields_at around p })
as_record around _ = None

-- a type as an enum, by its position among the types
abbrev pub as_enum : Ty → Option ℕ
as_enum (ty.Enum p) = Some p
as_enum _ = None

-- a type as a union, by its position among the types
abbrev pub as_union : Ty → Option ℕ
as_union (ty.Union p) = Some p
as_union _ = None

-- the type of this name that is declared earlier
abbrev pub type_called : Around → Name → Option Ty
type_called around x = type_before around.decls around.number x

-- the record type of this name that is declared earlier
abbrev pub record_called : Around → Name → Option RecordSeen
record_called around x = option_and_then (as_record around) (type_called around x)

-- the enum of this name that is declared earlier
abbrev pub enum_called : Around → Name → Option ℕ
enum_called around x = option_and_then as_enum (type_called around x)
