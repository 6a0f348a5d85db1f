-- What a typed specification says of its declared types and of the types of its registers.
use Rattle.std.proofs.Common.{◌≡◌, ◌⊎◌, ℕ, ◌+◌, ◌<◌, ◌&&◌, Bool, true, false, if◌then◌else◌, is_some, List, [], ◌∷◌, ◌++◌, length, Option, None, Some, inl, inr, refl, sym, ap, subst, ◌∙◌, arith, append_assoc, length-append}
use Rattle.std.specs.Prelude.{nat_lt, option_and_then, slice_get, unwrap_or}
use Rattle.std.specs.List.{AllByRecursion}
use Rattle.std.specs.Str.{bytes_eq}
use Rattle.std.proofs.lemmas.Bool.{and_parts, and_from, lt-ltb}
use Rattle.kat_value.specs.declared.types.Ty.{Ty}
use Rattle.kat_value.specs.declared.types.Ty.TheVariants as ty
use Rattle.kat_value.specs.declared.types.TypeDecl.{TypeDecl}
use Rattle.kat_value.specs.declared.types.TypeDecl.TheVariants as type
use Rattle.kat_value.specs.Widths.{is_width}
use Rattle.kat_ast.specs.declared.type_name.TypeName.{TypeName}
use Rattle.kat_ast.specs.declared.type_name.TypeName.TheVariants.{Unit as UnitName, Bool as BoolName, Bits as BitsName, Named}
use Rattle.kat_ast.specs.declared.type_name.Param.{Param}
use Rattle.kat_ast.specs.declared.decl.DeclForm.{DeclForm}
use Rattle.kat_ast.specs.declared.decl.DeclForm.TheVariants as d
use Rattle.kat_ast.specs.Declarations.{IsDecl}
use Rattle.kat_ast.specs.Parts.{is_name, is_nonempty}
use Rattle.kat_syntax.specs.declared.type_rule.TypeRule.TheVariants.{NoWidth, TypeUnknown}
use Rattle.kat_syntax.specs.Tables.{Name}
use Rattle.kat_syntax.specs.Declares.{TypeHead, type_heads_from, type_heads, type_named, if_before}
use Rattle.kat_syntax.specs.TypesWritten.{type_faults_at}
use Rattle.kat_syntax.specs.States.{register_types_from, register_types}
use Rattle.kat_syntax.specs.TypeTable.{no_type, named_type, fields_of, types_from, types_of_decls, is_enum, is_union, is_record, may_stand_in}
use Rattle.kat_laws.specs.CleanDeclarations.{AreClean}
use Rattle.kat_laws.proofs.Clean.{empty_first, inner_clean, met}
use Rattle.kat_laws.proofs.FirstValues.{HasPart, get_last}

-- a type may stand behind all declared types
abbrev pub StandsLast : List TypeDecl → Ty → Type 0
StandsLast types t = may_stand_in types (length types) t ≡ true

-- a head is one of these
abbrev IsAmong : TypeHead → List TypeHead → Type 0
IsAmong h [] = ⊥
IsAmong h (one ∷ heads) = (h ≡ one) ⊎ IsAmong h heads

pub some_is : {A : Type 0} (x y : A) → Some x ≡ Some y → x ≡ y
some_is x y e = cc

named_by : (b : Bool) (one h : TypeHead) (rest : Option TypeHead) (P : Type 0) →
    (if b then Some one else rest) ≡ Some h → (rest ≡ Some h → P) → (h ≡ one) ⊎ P
named_by true one h rest P e there = inl (sym (some_is one h e))
named_by false one h rest P e there = inr (there e)

-- the first of a name is among them
named_among : (heads : List TypeHead) (x : Name) (h : TypeHead) → type_named heads x ≡ Some h →
    IsAmong h heads
named_among [] x h e = absurd (let f : None ≡ Some h = e in cc)
named_among (one ∷ heads) x h e =
    named_by (bytes_eq one.name x) one h (type_named heads x) (IsAmong h heads) e
    (named_among heads x h)

-- the type behind those before is of its kind
here_stands : (types before : List TypeDecl) (one : TypeDecl) (rest : List TypeDecl) (p : ℕ)
    (is_kind : Option TypeDecl → Bool) →
    length before ≡ p → before ++ one ∷ rest ≡ types → is_kind (Some one) ≡ true →
    (nat_lt p (length types) && is_kind (slice_get types p)) ≡ true
here_stands types before one rest p is_kind long whole is =
    let counted : length types ≡ length before + length (one ∷ rest) = ap length (sym whole) ∙
    length-append before (one ∷ rest) in
    let less : p < length types = omega (arith, counted, long) in
    let at : slice_get types p ≡ Some one =
    ap (slice_get types) (sym long) ∙ ap (λ (ts : List TypeDecl). slice_get ts (length before))
    (sym whole) ∙ get_last before one rest in
    and_from (nat_lt p (length types)) (is_kind (slice_get types p)) (lt-ltb p (length types) less)
    (ap is_kind at ∙ is)

-- each declared type may stand behind all of them
heads_stand : (types : List TypeDecl) (all : List DeclForm) (k p : ℕ) (decls : List DeclForm)
    (before : List TypeDecl) (h : TypeHead) →
    length before ≡ p → before ++ types_from all k decls ≡ types →
    IsAmong h (type_heads_from k p decls) → StandsLast types h.type
heads_stand types all k p [] before h long whole among = absurd among
heads_stand types all k p (d.Enum x members ∷ decls) before h long whole (inl same) =
    subst (λ (one : TypeHead). StandsLast types one.type) (sym same)
    (here_stands types before (type.Enum x members) (types_from all (k + 1) decls) p is_enum long
    whole refl)
heads_stand types all k p (d.Enum x members ∷ decls) before h long whole (inr among) =
    heads_stand types all (k + 1) (p + 1) decls (before ++ type.Enum x members ∷ []) h
    (length-append before (type.Enum x members ∷ []) ∙ ap (λ n. n + 1) long)
    (append_assoc before (type.Enum x members ∷ []) (types_from all (k + 1) decls) ∙ whole) among
heads_stand types all k p (d.Union x ctors ∷ decls) before h long whole (inl same) =
    subst (λ (one : TypeHead). StandsLast types one.type) (sym same)
    (here_stands types before (type.Union x (fields_of all k ctors)) (types_from all (k + 1) decls)
    p is_union long whole refl)
heads_stand types all k p (d.Union x ctors ∷ decls) before h long whole (inr among) =
    heads_stand types all (k + 1) (p + 1) decls (before ++ type.Union x (fields_of all k ctors) ∷
    []) h
    (length-append before (type.Union x (fields_of all k ctors) ∷ []) ∙ ap (λ n. n + 1) long)
    (append_assoc before (type.Union x (fields_of all k ctors) ∷ []) (types_from all (k + 1) decls)
    ∙ whole) among
heads_stand types all k p (d.Record x fields ∷ decls) before h long whole (inl same) =
    subst (λ (one : TypeHead). StandsLast types one.type) (sym same)
    (here_stands types before (type.Rec x (fields_of all k fields)) (types_from all (k + 1) decls) p
    is_record long whole refl)
heads_stand types all k p (d.Record x fields ∷ decls) before h long whole (inr among) =
    heads_stand types all (k + 1) (p + 1) decls (before ++ type.Rec x (fields_of all k fields) ∷ [])
    h
    (length-append before (type.Rec x (fields_of all k fields) ∷ []) ∙ ap (λ n. n + 1) long)
    (append_assoc before (type.Rec x (fields_of all k fields) ∷ []) (types_from all (k + 1) decls) ∙
    whole) among
heads_stand types all k p (_ ∷ decls) before h long whole among = heads_stand types all (k + 1) p
    decls before h long whole among

-- a declared type that is found earlier
before_by : (types : List TypeDecl) (h : TypeHead) (b : Bool) → StandsLast types h.type →
    is_some (if b then Some h.type else None) ≡ true →
    StandsLast types (unwrap_or (if b then Some h.type else None) no_type)
before_by types h true stands e = stands
before_by types h false stands e = absurd (cc)

found_by : (types : List TypeDecl) (k : ℕ) (f : Option TypeHead) → ((h : TypeHead) → f ≡ Some h →
    StandsLast types h.type) →
    is_some (option_and_then (if_before k) f) ≡ true → StandsLast types
    (unwrap_or (option_and_then (if_before k) f) no_type)
found_by types k None known e = absurd (let f : false ≡ true = e in cc)
found_by types k (Some h) known e = before_by types h (nat_lt h.decl k) (known h refl) e

-- a written type without a fault
written_stands : (all : List DeclForm) (k at : ℕ) (name : TypeName) → type_faults_at
    (record { decls = all; number = k }) at name ≡ [] →
    StandsLast (types_of_decls all) (named_type all k name)
written_stands all k at UnitName e = refl
written_stands all k at BoolName e = refl
written_stands all k at (BitsName w) e =
    let is = met (is_width w) (at + 2) NoWidth e in
    ap (λ b. may_stand_in (types_of_decls all) (length (types_of_decls all))
    (unwrap_or (if b then Some (ty.Bits w) else None) no_type)) is ∙ is
written_stands all k at (Named x) e =
    found_by (types_of_decls all) k (type_named (type_heads all) x)
    (λ h found. heads_stand (types_of_decls all) all 0 0 all [] h refl refl
    (named_among (type_heads all) x h found))
    (met _ at TypeUnknown e)

registers_from : (all : List DeclForm) (k : ℕ) (decls : List DeclForm) → AreClean all k decls →
    AllByRecursion (StandsLast (types_of_decls all)) (register_types_from all k decls)
registers_from all k [] clean = tt
registers_from all k (d.Register x type kind ∷ decls) clean = (
  written_stands all k 3 type (empty_first _ _ (inner_clean all k (d.Register x type kind)
      clean.0)),
  registers_from all (k + 1) decls clean.1,
)
registers_from all k (_ ∷ decls) clean = registers_from all (k + 1) decls clean.1

-- the types of the registers of a typed specification may stand behind all declared types
pub registers_stand : (decls : List DeclForm) → AreClean decls 0 decls → AllByRecursion
    (StandsLast (types_of_decls decls)) (register_types decls)
registers_stand decls clean = registers_from decls 0 decls clean

-- each declared type has a part
members_there : (x : Name) (members : List Name) → is_nonempty members ≡ true →
    HasPart (type.Enum x members)
members_there x [] e = absurd (cc)
members_there x (member ∷ members) e = tt

ctors_there : (all : List DeclForm) (k : ℕ) (x : Name) (ctors : List Param) → is_nonempty ctors ≡
    true → HasPart (type.Union x (fields_of all k ctors))
ctors_there all k x [] e = absurd (cc)
ctors_there all k x (ctor ∷ ctors) e = tt

pub types_have_parts : (all : List DeclForm) (k : ℕ) (decls : List DeclForm) → AllByRecursion IsDecl
    decls → AllByRecursion HasPart (types_from all k decls)
types_have_parts all k [] are = tt
types_have_parts all k (d.Enum x members ∷ decls) are = (
  members_there x members (and_parts _ _ (and_parts (is_name x) _ are.0.formed).1).0,
  types_have_parts all (k + 1) decls are.1,
)
types_have_parts all k (d.Union x ctors ∷ decls) are = (
  ctors_there all k x ctors (and_parts _ _ (and_parts (is_name x) _ are.0.formed).1).0,
  types_have_parts all (k + 1) decls are.1,
)
types_have_parts all k (d.Record x fields ∷ decls) are =
    (tt, types_have_parts all (k + 1) decls are.1)
types_have_parts all k (_ ∷ decls) are = types_have_parts all (k + 1) decls are.1
