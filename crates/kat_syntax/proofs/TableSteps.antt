-- What one more declaration, type or name does to the tables that a cycle looks names up in.
use Rattle.std.proofs.Common.{◌≡◌, ◌∙◌, ℕ, zero, suc, ◌+◌, ◌<◌, ◌≤◌, Bool, true, false, List, [], ◌∷◌, ◌++◌, map, drop, length, get_or, slice_get, Option, Some, None, refl, ap, sym, subst, if◌then◌else◌, append_assoc, arith}
use Rattle.std.proofs.lemmas.List.{append-nil}
use Rattle.std.specs.Prelude.{option_and_then, unwrap_or}
use Rattle.std.specs.Option.{option_map, option_or}
use Rattle.std.specs.Str.{bytes_eq}
use Rattle.kat_value.specs.declared.types.Field.{Field}
use Rattle.kat_value.specs.declared.types.TypeDecl.{TypeDecl}
use Rattle.kat_value.specs.declared.types.TypeDecl.TheVariants as type
use Rattle.kat_ast.specs.declared.type_name.TypeName.{TypeName}
use Rattle.kat_ast.specs.declared.type_name.Param.{Param}
use Rattle.kat_ast.specs.declared.stm.Stm.{Stm}
use Rattle.kat_ast.specs.declared.decl.RegisterKind.{RegisterKind}
use Rattle.kat_ast.specs.declared.decl.DeclForm.{DeclForm}
use Rattle.kat_ast.specs.declared.decl.DeclForm.TheVariants as d
use Rattle.kat_names.specs.Names.{position_of}
use Rattle.kat_syntax.specs.NamedItems.{Item, found, added}
use Rattle.kat_syntax.specs.NamedValues.{ctor_from, names_of_fields, names_at}
use Rattle.kat_syntax.specs.RunTables.{FindsPositions, FindsCtors, FindEach, ArePartTables, parts_declared, function_number}
use Rattle.kat_syntax.specs.Tables.{Name, is_function, register_names}
use Rattle.kat_syntax.specs.declared.run_tables.CtorPlace.{CtorPlace}
use Rattle.kat_syntax.proofs.Positions.{FindsWith, finds_next, finds_same, first_from, next_of, next_position, or_either, or_none, position_is}

-- the positions of the registers so far, and of those that are left
pub record RegistersSoFar (all : List DeclForm) (k position : ℕ) (named : List (Item ℕ)) :
    Type 0 where
  pub finds : FindsWith named (first_from position (register_names (drop k all)))
      (first_from 0 (register_names all))
  pub few : position ≤ k

-- a declaration that is no register
not_register : (decl : DeclForm) (rest : List DeclForm) →
    ((x : Name) (type : TypeName) (kind : RegisterKind) → decl ≡ d.Register x type kind → ⊥) →
    register_names (decl ∷ rest) ≡ register_names rest
not_register (d.Register x type kind) rest other = absurd (other x type kind refl)
not_register _ rest other = refl

pub one_register : (all : List DeclForm) (k position : ℕ) (decl form : DeclForm) (x : Name)
    (type : TypeName) (kind : RegisterKind) (named : List (Item ℕ)) →
    RegistersSoFar all k position named → k < length all → decl ≡ get_or all k decl →
    form ≡ decl → form ≡ d.Register x type kind →
    RegistersSoFar all (k + 1) (position + 1) (added named x position)
one_register all k position decl form x type kind named so within is seen register = record {
  finds = next_position position (register_names (drop k all)) (register_names (drop (k + 1) all)) x
      named (first_from 0 (register_names all))
      (ap register_names (next_of all k decl within is)
      ∙ ap (λ one. register_names (one ∷ drop (k + 1) all)) (sym seen ∙ register))
      so.finds;
  few = omega (arith, so.few);
}

pub no_register : (all : List DeclForm) (k position : ℕ) (decl form : DeclForm)
    (named : List (Item ℕ)) → RegistersSoFar all k position named → k < length all →
    decl ≡ get_or all k decl → form ≡ decl →
    ((x : Name) (type : TypeName) (kind : RegisterKind) → form ≡ d.Register x type kind → ⊥) →
    RegistersSoFar all (k + 1) position named
no_register all k position decl form named so within is seen other =
    let rest : register_names (drop k all) ≡ register_names (drop (k + 1) all) =
    ap register_names (next_of all k decl within is)
    ∙ not_register decl (drop (k + 1) all) (λ x type kind same. other x type kind (seen ∙ same)) in
    record {
      finds = subst (λ names. FindsWith named (first_from position names)
          (first_from 0 (register_names all))) rest so.finds;
      few = omega (arith, so.few);
    }

-- a declaration that is no function
not_function : (decl : DeclForm) (f : Name) →
    ((x : Name) (params : List Param) (result : TypeName) (body : Stm) →
    decl ≡ d.Fun x params result body → ⊥) →
    is_function f decl ≡ false
not_function (d.Fun x params result body) f other = absurd (other x params result body refl)
not_function _ f other = refl

-- the functions so far, and those that are left
abbrev pub FunctionsSoFar : List DeclForm → ℕ → List (Item ℕ) → Type 0
FunctionsSoFar all k named =
    FindsWith named (function_number k (drop k all)) (function_number 0 all)

-- the search behind a declaration
behind : (all : List DeclForm) (k : ℕ) (decl : DeclForm) (f : Name) → k < length all →
    decl ≡ get_or all k decl →
    function_number k (drop k all) f
    ≡ (if is_function f decl then Some k else function_number (k + 1) (drop (k + 1) all) f)
behind all k decl f within is = ap (λ ds. function_number k ds f) (next_of all k decl within is)

pub one_function : (all : List DeclForm) (k : ℕ) (decl form : DeclForm) (x : Name)
    (params : List Param) (result : TypeName) (body : Stm) (named : List (Item ℕ)) →
    FunctionsSoFar all k named → k < length all → decl ≡ get_or all k decl → form ≡ decl →
    form ≡ d.Fun x params result body → FunctionsSoFar all (k + 1) (added named x k)
one_function all k decl form x params result body named so within is seen function =
    finds_next named (function_number k (drop k all)) (function_number (k + 1) (drop (k + 1) all))
    (function_number 0 all) x k so
    (λ f. behind all k decl f within is
    ∙ ap (λ one. if is_function f one then Some k else function_number (k + 1) (drop (k + 1) all) f)
    (sym seen ∙ function))

pub no_function : (all : List DeclForm) (k : ℕ) (decl form : DeclForm) (named : List (Item ℕ)) →
    FunctionsSoFar all k named → k < length all → decl ≡ get_or all k decl → form ≡ decl →
    ((x : Name) (params : List Param) (result : TypeName) (body : Stm) →
    form ≡ d.Fun x params result body → ⊥) →
    FunctionsSoFar all (k + 1) named
no_function all k decl form named so within is seen other =
    finds_same named (function_number k (drop k all)) (function_number (k + 1) (drop (k + 1) all))
    (function_number 0 all) so
    (λ f. behind all k decl f within is
    ∙ ap (λ b. if b then Some k else function_number (k + 1) (drop (k + 1) all) f)
    (not_function decl f (λ x params result body same. other x params result body (seen ∙ same))))

-- a constructor of the union at a position
abbrev pub in_union : ℕ → ℕ → CtorPlace
in_union of at = record { of = of; ctor = at }

-- the constructors so far, and those that are left
abbrev pub CtorsSoFar : List TypeDecl → ℕ → List (Item CtorPlace) → Type 0
CtorsSoFar all p named = FindsWith named (ctor_from p (drop p all)) (ctor_from 0 all)

pub one_union : (all : List TypeDecl) (p : ℕ) (decl : TypeDecl) (x : Name) (ctors : List Field)
    (named more : List (Item CtorPlace)) → CtorsSoFar all p named → p < length all →
    decl ≡ get_or all p decl → decl ≡ type.Union x ctors →
    ((k : Name) → found more k
    ≡ option_or (found named k) (option_map (in_union p) (position_of (names_of_fields ctors) k))) →
    CtorsSoFar all (p + 1) more
one_union all p decl x ctors named more so within is union added_all = record {
  finds = λ k.
      let here : Option CtorPlace =
      option_map (in_union p) (position_of (names_of_fields ctors) k) in
      let later : Option CtorPlace = ctor_from (p + 1) (drop (p + 1) all) k in
      ap (λ o. option_or o later) (added_all k) ∙ or_either (found named k) here later
      ∙ ap (option_or (found named k))
      (sym (ap (λ ts. ctor_from p ts k) (next_of all p decl within is
      ∙ ap (λ one. one ∷ drop (p + 1) all) union)))
      ∙ so.finds k;
}

-- a type that is no union has no constructors
not_union : (p : ℕ) (decl : TypeDecl) (rest : List TypeDecl) (k : Name) →
    ((x : Name) (ctors : List Field) → decl ≡ type.Union x ctors → ⊥) →
    ctor_from p (decl ∷ rest) k ≡ ctor_from (p + 1) rest k
not_union p (type.Enum x members) rest k other = refl
not_union p (type.Union x ctors) rest k other = absurd (other x ctors refl)
not_union p (type.Rec x fields) rest k other = refl

pub no_union : (all : List TypeDecl) (p : ℕ) (decl : TypeDecl) (named : List (Item CtorPlace)) →
    CtorsSoFar all p named → p < length all → decl ≡ get_or all p decl →
    ((x : Name) (ctors : List Field) → decl ≡ type.Union x ctors → ⊥) →
    CtorsSoFar all (p + 1) named
no_union all p decl named so within is other =
    finds_same named (ctor_from p (drop p all)) (ctor_from (p + 1) (drop (p + 1) all))
    (ctor_from 0 all) so
    (λ k. ap (λ ts. ctor_from p ts k) (next_of all p decl within is)
    ∙ not_union p decl (drop (p + 1) all) k other)

-- where no type is left, each constructor is found
pub all_ctors : (all rest : List TypeDecl) (p : ℕ) (named : List (Item CtorPlace)) →
    FindsWith named (ctor_from p rest) (ctor_from 0 all) → rest ≡ [] → FindsCtors all named
all_ctors all rest p named so none k =
    sym (or_none (found named k))
    ∙ ap (option_or (found named k)) (sym (ap (λ ts. ctor_from p ts k) none)) ∙ so.finds k

-- the constructors of one union, those so far and those that are left, behind what was there
abbrev pub first_in_union : ℕ → ℕ → List Field → Name → Option CtorPlace
first_in_union of at ctors k = option_map (in_union of) (first_from at (names_of_fields ctors) k)

abbrev pub all_with : List (Item CtorPlace) → ℕ → List Field → Name → Option CtorPlace
all_with named of ctors k = option_or (found named k) (first_in_union of 0 ctors k)

abbrev pub UnionSoFar : List (Item CtorPlace) → ℕ → List Field → ℕ → List (Item CtorPlace) → Type 0
UnionSoFar before of ctors at named =
    FindsWith named (first_in_union of at (drop at ctors)) (all_with before of ctors)

-- one constructor more
pub one_ctor : (before : List (Item CtorPlace)) (of : ℕ) (ctors : List Field) (at : ℕ)
    (named : List (Item CtorPlace)) (field : Field) → UnionSoFar before of ctors at named →
    at < length ctors → field ≡ get_or ctors at field →
    UnionSoFar before of ctors (at + 1) (added named field.name (in_union of at))
one_ctor before of ctors at named field so within is =
    finds_next named (first_in_union of at (drop at ctors))
    (first_in_union of (at + 1) (drop (at + 1) ctors)) (all_with before of ctors) field.name
    (in_union of at) so
    (λ k. ap (λ fields. first_in_union of at fields k) (next_of ctors at field within is)
    ∙ by (bytes_eq field.name k)
    (first_from (at + 1) (names_of_fields (drop (at + 1) ctors)) k)) where
      by : (b : Bool) (later : Option ℕ) → option_map (in_union of) (if b then Some at else later)
          ≡ (if b then Some (in_union of at) else option_map (in_union of) later)
      by true later = refl
      by false later = refl

-- where none is left
pub whole_union : (before : List (Item CtorPlace)) (of : ℕ) (ctors rest : List Field) (at : ℕ)
    (named : List (Item CtorPlace)) →
    FindsWith named (first_in_union of at rest) (all_with before of ctors) → rest ≡ [] →
    (k : Name) → found named k
    ≡ option_or (found before k) (option_map (in_union of) (position_of (names_of_fields ctors) k))
whole_union before of ctors rest at named so none k =
    sym (or_none (found named k))
    ∙ ap (option_or (found named k)) (sym (ap (λ fields. first_in_union of at fields k) none))
    ∙ so.finds k
    ∙ ap (λ o. option_or (found before k) (option_map (in_union of) o))
    (position_is (names_of_fields ctors) k)

-- tables of what is there, with any of what is left, are tables of all
pub record FindsEach {T : Type 0} (names_of : T → List Name) (rest all : List T)
    (tables : List (List (Item ℕ))) : Type 0 where
  pub each : (more : List (List (Item ℕ))) → FindEach (map names_of rest) more →
      FindEach (map names_of all) (tables ++ more)

-- one table more
pub each_next : {T : Type 0} (names_of : T → List Name) (all : List T) (k : ℕ) (one : T)
    (tables : List (List (Item ℕ))) (table : List (Item ℕ)) →
    FindsEach names_of (drop k all) all tables → k < length all → one ≡ get_or all k one →
    FindsPositions (names_of one) table →
    FindsEach names_of (drop (k + 1) all) all (tables ++ table ∷ [])
each_next names_of all k one tables table so within is finds = record {
  each = λ more later.
      subst (FindEach (map names_of all)) (sym (append_assoc tables (table ∷ []) more))
      (so.each (table ∷ more)
      (subst (λ ts. FindEach (map names_of ts) (table ∷ more)) (sym (next_of all k one within is))
      (finds, later)));
}

-- where nothing is left
pub each_found : {T : Type 0} (names_of : T → List Name) (rest all : List T)
    (tables : List (List (Item ℕ))) → FindsEach names_of rest all tables → rest ≡ [] →
    FindEach (map names_of all) tables
each_found names_of rest all tables so none =
    subst (FindEach (map names_of all)) (append-nil tables)
    (so.each [] (subst (λ ts. FindEach (map names_of ts) []) (sym none) tt))

-- a table stands exactly where there is something of that it finds the names
abbrev pub FindsThere : {T : Type 0} → (T → List Name) → Option T → Option (List (Item ℕ)) → Type 0
FindsThere names_of None None = Unit {0}
FindsThere names_of None (Some table) = ⊥
FindsThere names_of (Some one) None = ⊥
FindsThere names_of (Some one) (Some table) = FindsPositions (names_of one) table

-- what stands at a position
pub each_at : {T : Type 0} (names_of : T → List Name) (all : List T)
    (tables : List (List (Item ℕ))) (k : ℕ) → FindEach (map names_of all) tables →
    FindsThere names_of (slice_get all k) (slice_get tables k)
each_at names_of [] [] zero each = tt
each_at names_of [] [] (suc k) each = tt
each_at names_of [] (table ∷ tables) k each = absurd each
each_at names_of (one ∷ all) [] k each = absurd each
each_at names_of (one ∷ all) (table ∷ tables) zero each = each.0
each_at names_of (one ∷ all) (table ∷ tables) (suc k) each = each_at names_of all tables k each.1

-- what a table at a position finds, or nothing
pub part_found : (types : List TypeDecl) (tables : List (List (Item ℕ))) (of : ℕ) (x : Name) →
    ArePartTables types tables →
    option_and_then (λ table. found table x) (slice_get tables of)
    ≡ position_of (names_at parts_declared types of) x
part_found types tables of x are =
    by (slice_get types of) (slice_get tables of) (each_at parts_declared types tables of are) where
      by : (one : Option TypeDecl) (table : Option (List (Item ℕ))) →
          FindsThere parts_declared one table →
          option_and_then (λ table. found table x) table
          ≡ position_of (unwrap_or (option_map parts_declared one) []) x
      by None None there = refl
      by None (Some table) there = absurd there
      by (Some one) None there = absurd there
      by (Some one) (Some table) there = there x
