-- What the names in a table of types say of the places that they name.
use Rattle.std.proofs.Common.{◌≡◌, ℕ, zero, suc, ◌<◌, true, false, Option, Some, None, List, [], ◌∷◌, length, get_or, eqb, refl, sym, ap, ◌∙◌, subst, arith}
use Rattle.std.specs.Prelude.{if◌then◌else◌, nat_lt, map, slice_get, unwrap_or, option_and_then}
use Rattle.std.specs.List.{AllByRecursion}
use Rattle.std.specs.Option.{option_map}
use Rattle.std.proofs.lemmas.Bool.{cond-true, false≢true, ltb-true, eq-eqb}
use Rattle.std.proofs.lemmas.Option.{slice_get-get_or, slice_get_within}
use Rattle.kat_names.specs.Names.{position_of}
use Rattle.kat_value.specs.declared.types.Field.{Field}
use Rattle.kat_value.specs.declared.types.TypeDecl.{TypeDecl}
use Rattle.kat_value.specs.declared.types.TypeDecl.TheVariants.{Enum, Union, Rec}
use Rattle.kat_value.specs.Typing.{members_in, member_count, ctors_in, ctor_at, fields_in, fields_at}
use Rattle.kat_syntax.specs.declared.run_tables.CtorPlace.{CtorPlace}
use Rattle.kat_syntax.specs.NamedValues.{ctors_of, members_of, name_of_type, names_at, names_of_fields, type_position}
use Rattle.kat_syntax.specs.Tables.{Name}
use Rattle.kat_syntax.specs.TypeTable.{may_stand_in, parts_of_type}
use Rattle.kat_print.specs.Terms.{name_of_decl, name_of_member, members_of as printed_members, name_of_type as printed_type}
use Rattle.kat_image.specs.ReadsBack.{HasPlainNames, HasTypeNames, IsPlainWord}
use Rattle.kat_image.specs.ValueText.{ctor_of, is_name_of}

-- what holds of each holds of the one at a place
pub all_at : {X : Type 0} → (P : X → Type 0) (xs : List X) (i : ℕ) (x : X) → AllByRecursion P xs →
    slice_get xs i ≡ Some x → P x
all_at P [] i x all at = absurd (let f : None ≡ Some x = at in cc)
all_at P (y ∷ ys) zero x all at = let same : y ≡ x = (let f : Some y ≡ Some x = at in cc) in
    subst P same all.0
all_at P (y ∷ ys) (suc i) x all at = all_at P ys i x all.1 at

some_same : {X : Type 0} → (x y : X) → Some x ≡ Some y → x ≡ y
some_same x y e = cc

none_some : {X : Type 0} → (x : X) → None ≡ Some x → ⊥
none_some x e = cc

-- a name of a part
name_at : (parts : List Field) (k : ℕ) (part : Field) → slice_get parts k ≡ Some part →
    slice_get (names_of_fields parts) k ≡ Some part.name
name_at [] k part at = absurd (none_some part at)
name_at (one ∷ parts) zero part at = ap (λ (f : Field). Some f.name) (some_same one part at)
name_at (one ∷ parts) (suc k) part at = name_at parts k part at

-- the enum that has a member, and its name
member_found : (o : Option TypeDecl) (i : ℕ) → nat_lt i (members_in o) ≡ true →
    (type : TypeDecl) × (name : Name) × (o ≡ Some type)
    × (slice_get (members_of type) i ≡ Some name)
    × (unwrap_or (slice_get (printed_members o) i) [] ≡ name)
member_found None i h = absurd (omega (arith, ltb-true i 0 h))
member_found (Some (Enum x members)) i h =
    let at : slice_get members i ≡ Some (get_or members i []) =
    slice_get-get_or members i [] (ltb-true i (length members) h) in
    (Enum x members, get_or members i [], refl, at, ap (λ o. unwrap_or o []) at)
member_found (Some (Union x ctors)) i h = absurd (omega (arith, ltb-true i 0 h))
member_found (Some (Rec x fields)) i h = absurd (omega (arith, ltb-true i 0 h))

-- the union that has a constructor
ctor_found : (o : Option TypeDecl) (k : ℕ) (ctor : Field) → slice_get (ctors_in o) k ≡ Some ctor →
    (type : TypeDecl) × (o ≡ Some type) × (slice_get (ctors_of type) k ≡ Some ctor.name)
    × (slice_get (parts_of_type type) k ≡ Some ctor)
ctor_found None k ctor at = absurd (none_some ctor at)
ctor_found (Some (Enum x members)) k ctor at = absurd (none_some ctor at)
ctor_found (Some (Union x ctors)) k ctor at = (Union x ctors, refl, name_at ctors k ctor at, at)
ctor_found (Some (Rec x fields)) k ctor at = absurd (none_some ctor at)

-- the record type that has fields
fields_found : (o : Option TypeDecl) (fields : List Field) → fields_in o ≡ Some fields →
    (type : TypeDecl) × (o ≡ Some type) × (parts_of_type type ≡ fields)
fields_found None fields at = absurd (none_some fields at)
fields_found (Some (Enum x members)) fields at = absurd (none_some fields at)
fields_found (Some (Union x ctors)) fields at = absurd (none_some fields at)
fields_found (Some (Rec x own)) fields at = (Rec x own, refl, some_same own fields at)

-- the printed name of a declared type is its name
printed_name : (type : TypeDecl) → name_of_decl (Some type) ≡ name_of_type type
printed_name (Enum x members) = refl
printed_name (Union x ctors) = refl
printed_name (Rec x fields) = refl

module _ (types : List TypeDecl) (named : HasTypeNames types) where
  -- a name of a member that is read back
  pub member_named : (p i : ℕ) → nat_lt i (member_count types p) ≡ true →
      IsPlainWord (name_of_member types p i)
      × (position_of (names_at members_of types p) (name_of_member types p i) ≡ Some i)
  member_named p i h =
      let found = member_found (slice_get types p) i h in
      let type : TypeDecl = found.0 in
      let name : Name = found.1 in
      let own : HasPlainNames type = all_at HasPlainNames types p type named.words found.2 in
      let plain : IsPlainWord name = all_at IsPlainWord (members_of type) i name own.members found.3
      in
      let list : names_at members_of types p ≡ members_of type =
      ap (λ o. unwrap_or (option_map members_of o) []) found.2 in
      let place : position_of (names_at members_of types p) name ≡ Some i =
      named.members_differ p i name (ap (λ l. slice_get l i) list ∙ found.3) in
      let is : name_of_member types p i ≡ name = found.4 in (
        subst IsPlainWord (sym is) plain,
        subst (λ n. position_of (names_at members_of types p) n ≡ Some i) (sym is) place,
      )

  -- what a constructor's name says
  pub ctor_named : (p k : ℕ) (ctor : Field) → ctor_at types p k ≡ Some ctor →
      IsPlainWord ctor.name × (ctor_of types p ctor.name ≡ Some k) × (p < length types)
      × (may_stand_in types p ctor.ty ≡ true)
  ctor_named p k ctor at =
      let found = ctor_found (slice_get types p) k ctor at in
      let type : TypeDecl = found.0 in
      let own : HasPlainNames type = all_at HasPlainNames types p type named.words found.1 in
      let place : CtorPlace = record { of = p; ctor = k } in (
        all_at IsPlainWord (ctors_of type) k ctor.name own.ctors found.2,
        ap (option_and_then (λ (place : CtorPlace). if eqb place.of p then Some place.ctor else
            None)) (named.ctors_differ p k ctor at)
            ∙ cond-true (eqb p p) (Some k) None (eq-eqb p p refl),
        slice_get_within types p type found.1,
        all_at (λ (part : Field). may_stand_in types p part.ty ≡ true) (parts_of_type type) k ctor
            (named.earlier p type found.1) found.3,
      )

  -- what a record type's name says
  pub record_named : (p : ℕ) (fields : List Field) → fields_at types p ≡ Some fields →
      IsPlainWord (printed_type types p) × (is_name_of types p (printed_type types p) ≡ true)
      × (p < length types)
      × AllByRecursion (λ (part : Field). may_stand_in types p part.ty ≡ true) fields
  record_named p fields at =
      let found = fields_found (slice_get types p) fields at in
      let type : TypeDecl = found.0 in
      let own : HasPlainNames type = all_at HasPlainNames types p type named.words found.1 in
      let is : printed_type types p ≡ name_of_type type =
      ap name_of_decl found.1 ∙ printed_name type in
      let there : is_name_of types p (name_of_type type) ≡ true =
      ap (λ o. unwrap_or (option_map (λ q. eqb q p) o) false) (named.types_differ p type found.1)
      ∙ eq-eqb p p refl in (
        subst IsPlainWord (sym is) own.name,
        subst (λ n. is_name_of types p n ≡ true) (sym is) there,
        slice_get_within types p type found.1,
        subst (AllByRecursion (λ (part : Field). may_stand_in types p part.ty ≡ true)) found.2
            (named.earlier p type found.1),
      )
