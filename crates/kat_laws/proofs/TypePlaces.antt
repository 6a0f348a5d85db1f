-- The names of a specification's types and constructors stand at one place each.
use Rattle.std.proofs.Common.{◌≡◌, ◌∙◌, ℕ, zero, suc, ◌+◌, ◌<◌, ◌≤◌, true, List, [], ◌∷◌, map, slice_get, Some, None, ap, subst, arith}
use Rattle.std.specs.List.{AllByRecursion}
use Rattle.std.specs.Option.{option_map, option_or}
use Rattle.std.proofs.lemmas.Option.{none-some, same_Some, slice_get-map}
use Rattle.kat_names.specs.Names.{position_of}
use Rattle.kat_value.specs.declared.types.Field.{Field}
use Rattle.kat_value.specs.declared.types.TypeDecl.{TypeDecl}
use Rattle.kat_value.specs.declared.types.TypeDecl.TheVariants as type
use Rattle.kat_value.specs.Typing.{ctor_at, ctors_in}
use Rattle.kat_ast.specs.Types.{trees_of_param}
use Rattle.kat_ast.specs.declared.type_name.Param.{Param}
use Rattle.kat_ast.specs.declared.decl.DeclForm.{DeclForm}
use Rattle.kat_ast.specs.declared.decl.DeclForm.TheVariants as d
use Rattle.kat_syntax.specs.Around.{first_named}
use Rattle.kat_syntax.specs.Declares.{AType, Declared, declared_by, ctors_from, members_from, named_here}
use Rattle.kat_syntax.specs.NamedValues.{ctor_from, ctors_of, members_of, name_of_type, names_at, names_of_fields, type_position}
use Rattle.kat_syntax.specs.Tables.{Name}
use Rattle.kat_syntax.specs.TypeTable.{fields_of, types_from}
use Rattle.kat_syntax.specs.TypingDeclarations.{stands_at, taken_names}
use Rattle.kat_syntax.specs.declared.type_rule.TypeRule.TheVariants.{NameTaken}
use Rattle.kat_laws.specs.CleanDeclarations.{AreClean}
use Rattle.kat_laws.specs.TextLaw.{HasValueNames}
use Rattle.kat_laws.proofs.Clean.{empty_first, empty_second, met, names_clean}
use Rattle.kat_laws.proofs.DeclaredNames.{one_place}
use Rattle.kat_laws.proofs.NamePlaces.{found_apart, found_at, found_nowhere, name_of_part, one_of}

-- the first of this name stands in the declaration of this number
abbrev IsFirstIn : List DeclForm → ℕ → Name → Type 0
IsFirstIn all k x = (tree : ℕ) × (stands_at k tree (first_named (declared_by all) x) ≡ true)

-- no name is first in two declarations
one_number : (all : List DeclForm) (k m : ℕ) (x : Name) → k < m → IsFirstIn all k x →
    IsFirstIn all m x → ⊥
one_number all k m x less here there =
    let same = (one_place (first_named (declared_by all) x) k m here.0 there.0 here.1 there.1).0 in
    omega (arith, same, less)

-- the names that a type and its constructors have
abbrev names_with_ctors : TypeDecl → List Name
names_with_ctors one = name_of_type one ∷ ctors_of one

-- the types have their names from declarations in order, the first no earlier than this one
abbrev AreInOrder : List DeclForm → ℕ → List TypeDecl → Type 0
AreInOrder all k [] = Unit {0}
AreInOrder all k (one ∷ types) =
    (m : ℕ) × (k ≤ m) × AllByRecursion (IsFirstIn all m) (names_with_ctors one)
    × AreInOrder all (m + 1) types

from_earlier : (all : List DeclForm) (k : ℕ) (types : List TypeDecl) →
    AreInOrder all (k + 1) types → AreInOrder all k types
from_earlier all k [] are = tt
from_earlier all k (one ∷ types) are = (are.0, omega (arith, are.1), are.2, are.3)

-- the name of a type that is declared here
type_here : (all : List DeclForm) (k : ℕ) (x : Name) (more : List Declared) →
    taken_names (record { decls = all; number = k }) (named_here k x AType ∷ more) ≡ [] →
    IsFirstIn all k x
type_here all k x more clean = (2, met _ 2 NameTaken (empty_first _ _ clean))

ctors_here : (all : List DeclForm) (k p at : ℕ) (ctors : List Param) →
    taken_names (record { decls = all; number = k }) (ctors_from all k p at ctors) ≡ [] →
    AllByRecursion (IsFirstIn all k) (names_of_fields (fields_of all k ctors))
ctors_here all k p at [] clean = tt
ctors_here all k p at (ctor ∷ ctors) clean = (
  (at + 1, met _ (at + 1) NameTaken (empty_first _ _ clean)),
  ctors_here all k p (at + trees_of_param ctor) ctors (empty_second _ _ clean),
)

-- the types of a specification are in order
pub types_in_order : (all : List DeclForm) (k : ℕ) (decls : List DeclForm) →
    AreClean all k decls → AreInOrder all k (types_from all k decls)
types_in_order all k [] clean = tt
types_in_order all k (d.Enum x members ∷ decls) clean = (
  k,
  omega arith,
  (
    type_here all k x (members_from k 0 4 members) (names_clean all k (d.Enum x members) clean.0),
    tt,
  ),
  types_in_order all (k + 1) decls clean.1,
)
types_in_order all k (d.Union x ctors ∷ decls) clean = (
  k,
  omega arith,
  (
    type_here all k x (ctors_from all k 0 4 ctors) (names_clean all k (d.Union x ctors) clean.0),
    ctors_here all k 0 4 ctors
        (empty_second _ _ (names_clean all k (d.Union x ctors) clean.0)),
  ),
  types_in_order all (k + 1) decls clean.1,
)
types_in_order all k (d.Record x fields ∷ decls) clean = (
  k,
  omega arith,
  (
    type_here all k x [] (names_clean all k (d.Record x fields) clean.0),
    tt,
  ),
  types_in_order all (k + 1) decls clean.1,
)
types_in_order all k (_ ∷ decls) clean =
    from_earlier all k (types_from all (k + 1) decls) (types_in_order all (k + 1) decls clean.1)

-- a name's declaration is no earlier than this one
abbrev IsFirstFrom : List DeclForm → ℕ → Name → Type 0
IsFirstFrom all k x = (m : ℕ) × (k ≤ m) × IsFirstIn all m x

type_from : (all : List DeclForm) (k : ℕ) (types : List TypeDecl) (p : ℕ) (x : Name) →
    AreInOrder all k types → slice_get (map name_of_type types) p ≡ Some x → IsFirstFrom all k x
type_from all k [] p x are at = absurd (none-some x at)
type_from all k (one ∷ types) zero x are at =
    (are.0, are.1, subst (IsFirstIn all are.0) (same_Some (name_of_type one) x at) are.2.0)
type_from all k (one ∷ types) (suc p) x are at =
    let more = type_from all (are.0 + 1) types p x are.3 at in
    let low = more.1 in
    let lower = are.1 in
    (more.0, omega (arith, low, lower), more.2)

types_apart : (all : List DeclForm) (k : ℕ) (types : List TypeDecl) (j p : ℕ) (x : Name) →
    AreInOrder all k types → j < p → slice_get (map name_of_type types) j ≡ Some x →
    slice_get (map name_of_type types) p ≡ Some x → ⊥
types_apart all k types j zero x are less here there = absurd (omega (arith, less))
types_apart all k [] j (suc p) x are less here there = absurd (none-some x here)
types_apart all k (one ∷ types) zero (suc p) x are less here there =
    let more = type_from all (are.0 + 1) types p x are.3 there in
    let low = more.1 in
    one_number all are.0 more.0 x (omega (arith, low))
    (subst (IsFirstIn all are.0) (same_Some (name_of_type one) x here) are.2.0) more.2
types_apart all k (one ∷ types) (suc j) (suc p) x are less here there =
    types_apart all (are.0 + 1) types j p x are.3 (omega (arith, less)) here there

-- a type's name is found at the type's place
pub types_found : (all : List DeclForm) (k : ℕ) (types : List TypeDecl) (p : ℕ) (one : TypeDecl) →
    AreInOrder all k types → slice_get types p ≡ Some one →
    type_position types (name_of_type one) ≡ Some p
types_found all k types p one are at =
    let there : slice_get (map name_of_type types) p ≡ Some (name_of_type one) =
    slice_get-map name_of_type types p ∙ ap (option_map name_of_type) at in
    found_at (map name_of_type types) (name_of_type one) p there
    (λ j less here. types_apart all k types j p (name_of_type one) are less here there)

-- the name of a constructor is among those of its type
ctor_among : (one : TypeDecl) (c : ℕ) (ctor : Field) →
    slice_get (ctors_in (Some one)) c ≡ Some ctor → slice_get (ctors_of one) c ≡ Some ctor.name
ctor_among (type.Enum x members) c ctor at = absurd (none-some ctor at)
ctor_among (type.Union x ctors) c ctor at = name_of_part ctors c ctor at
ctor_among (type.Rec x fields) c ctor at = absurd (none-some ctor at)

ctor_found : (one : TypeDecl) (c : ℕ) (ctor : Field) → HasValueNames one →
    slice_get (ctors_in (Some one)) c ≡ Some ctor →
    position_of (ctors_of one) ctor.name ≡ Some c
ctor_found (type.Enum x members) c ctor named at = absurd (none-some ctor at)
ctor_found (type.Union x ctors) c ctor named at =
    found_apart (names_of_fields ctors) ctor.name c named.distinct (name_of_part ctors c ctor at)
ctor_found (type.Rec x fields) c ctor named at = absurd (none-some ctor at)

ctor_first_from : (all : List DeclForm) (k : ℕ) (types : List TypeDecl) (p c : ℕ) (ctor : Field) →
    AreInOrder all k types → ctor_at types p c ≡ Some ctor → IsFirstFrom all k ctor.name
ctor_first_from all k [] p c ctor are at = absurd (none-some ctor at)
ctor_first_from all k (one ∷ types) zero c ctor are at = (
  are.0,
  are.1,
  one_of (IsFirstIn all are.0) (ctors_of one) c ctor.name are.2.1 (ctor_among one c ctor at),
)
ctor_first_from all k (one ∷ types) (suc p) c ctor are at =
    let more = ctor_first_from all (are.0 + 1) types p c ctor are.3 at in
    let low = more.1 in
    let lower = are.1 in
    (more.0, omega (arith, low, lower), more.2)

ctors_found_from : (all : List DeclForm) (k q : ℕ) (types : List TypeDecl) (p c : ℕ)
    (ctor : Field) → AreInOrder all k types → AllByRecursion HasValueNames types →
    ctor_at types p c ≡ Some ctor →
    ctor_from q types ctor.name ≡ Some (record { of = q + p; ctor = c })
ctors_found_from all k q [] p c ctor are named at = absurd (none-some ctor at)
ctors_found_from all k q (one ∷ types) zero c ctor are named at =
    let same : q ≡ q + 0 = omega arith in
    ap (λ o. option_or (option_map (λ i. record { of = q; ctor = i }) o)
    (ctor_from (q + 1) types ctor.name)) (ctor_found one c ctor named.0 at)
    ∙ ap (λ n. Some (record { of = n; ctor = c })) same
ctors_found_from all k q (one ∷ types) (suc p) c ctor are named at =
    let more = ctor_first_from all (are.0 + 1) types p c ctor are.3 at in
    let low = more.1 in
    let none : position_of (ctors_of one) ctor.name ≡ None =
    found_nowhere (ctors_of one) ctor.name
    (λ i here. one_number all are.0 more.0 ctor.name (omega (arith, low))
    (one_of (IsFirstIn all are.0) (ctors_of one) i ctor.name are.2.1 here) more.2) in
    let same : q + 1 + p ≡ q + suc p = omega arith in
    ap (λ o. option_or (option_map (λ i. record { of = q; ctor = i }) o)
    (ctor_from (q + 1) types ctor.name)) none
    ∙ ctors_found_from all (are.0 + 1) (q + 1) types p c ctor are.3 named.1 at
    ∙ ap (λ n. Some (record { of = n; ctor = c })) same

-- a constructor's name is found at the constructor's place
pub ctors_found : (all : List DeclForm) (k : ℕ) (types : List TypeDecl) (p c : ℕ) (ctor : Field) →
    AreInOrder all k types → AllByRecursion HasValueNames types → ctor_at types p c ≡ Some ctor →
    ctor_from 0 types ctor.name ≡ Some (record { of = p; ctor = c })
ctors_found all k types p c ctor are named at =
    let same : 0 + p ≡ p = omega arith in
    ctors_found_from all k 0 types p c ctor are named at
    ∙ ap (λ n. Some (record { of = n; ctor = c })) same

-- a member's name is found at the member's place
pub members_found : (types : List TypeDecl) (p c : ℕ) (x : Name) →
    AllByRecursion HasValueNames types → slice_get (names_at members_of types p) c ≡ Some x →
    position_of (names_at members_of types p) x ≡ Some c
members_found [] p c x named at = absurd (none-some x at)
members_found (type.Enum e members ∷ types) zero c x named at =
    found_apart members x c named.0.distinct at
members_found (type.Union u ctors ∷ types) zero c x named at = absurd (none-some x at)
members_found (type.Rec r fields ∷ types) zero c x named at = absurd (none-some x at)
members_found (one ∷ types) (suc p) c x named at = members_found types p c x named.1 at
