-- The values that the tables of types give to members, constructors, records and fields are of the
-- types that typing finds.
use Rattle.std.proofs.Common.{◌≡◌, ◌∙◌, ℕ, zero, suc, ◌&&◌, is_some, nat_lt, Bool, true, false, cond, List, [], ◌∷◌, map, length, slice_get, Option, Some, None, refl, ap, sym, subst, if◌then◌else◌, arith}
use Rattle.std.specs.Prelude.{◌==◌, option_and_then, position, unwrap_or}
use Rattle.std.specs.List.{AllByRecursion, position_or_len}
use Rattle.std.specs.Option.{option_flatten, option_map}
use Rattle.std.specs.Str.{bytes_eq}
use Rattle.std.proofs.lemmas.Bool.{and_from, eq-eqb, false≢true}
use Rattle.std.proofs.lemmas.Option.{none-some}
use Rattle.kat_names.specs.Names.{position_of}
use Rattle.kat_value.specs.declared.op.Op.TheVariants as op
use Rattle.kat_value.specs.declared.types.Field.{Field}
use Rattle.kat_value.specs.declared.types.Ty.{Ty}
use Rattle.kat_value.specs.declared.types.Ty.TheVariants as ty
use Rattle.kat_value.specs.declared.types.TypeDecl.{TypeDecl}
use Rattle.kat_value.specs.declared.types.TypeDecl.TheVariants as type
use Rattle.kat_value.specs.declared.value.Value.{Value, out-Value, map-Value, fold_out-Value}
use Rattle.kat_value.specs.declared.value.Value.TheOpen as layer
use Rattle.kat_value.specs.declared.value.Value.TheVariants as value
use Rattle.kat_value.specs.declared.value.Value.TheViews.{outs-Made, outs-Member, outs-Rec}
use Rattle.kat_value.specs.Making.{value_of_making, value_of_record}
use Rattle.kat_value.specs.OperationTypes.{ExactOperations}
use Rattle.kat_value.specs.Operations.{value_of_op}
use Rattle.kat_value.specs.Shown.{ShownTypes}
use Rattle.kat_value.specs.Signatures.{agree}
use Rattle.kat_value.specs.Typing.{HasType, all_pass, ctor_at, ctors_in, fields_at, fields_in, has_type, layer_has_type, members_in, pass_record, passes_ctor}
use Rattle.kat_ast.specs.declared.type_name.Param.{Param}
use Rattle.kat_ast.specs.declared.decl.DeclForm.{DeclForm}
use Rattle.kat_syntax.specs.declared.run_tables.CtorPlace.{CtorPlace}
use Rattle.kat_syntax.specs.Around.{Around, CtorSeen, RecordSeen, a_ctor, a_member, as_enum, as_record, enum_called, fields_at as seen_fields_at, meant, record_called, type_called}
use Rattle.kat_syntax.specs.Declares.{TypeHead, TypedName, fields_from, if_before, type_heads, type_named, type_of_name, typed_params, types_of}
use Rattle.kat_syntax.specs.NamedValues.{field_names_of, got_value, made_value, member_value, members_of, name_of_type, names_at, names_of_fields, rec_value}
use Rattle.kat_syntax.specs.Tables.{Name}
use Rattle.kat_syntax.specs.TypesWritten.{local_type}
use Rattle.kat_syntax.specs.TypeTable.{NamesEarlierTypes, fields_of, field_of, may_stand_in, named_type, no_type, types_of_decls}
use Rattle.kat_safety.proofs.AppliedTypes.{AreTyped, HasTyped, applied}
use Rattle.kat_safety.proofs.Lookups.{IsHeaded, ctors_of_decls, headed, members_of_decls, name_next}
use Rattle.kat_safety.proofs.TypedExpressions.{AreWanted, IsGiven, LooksAlike}

some_is : {A : Type 0} (x y : A) → Some x ≡ Some y → x ≡ y
some_is x y e = cc

-- a type that is called by its name is the first declared one of that name
head_called : (decls : List DeclForm) (k : ℕ) (x : Name) (t : Ty) →
    type_called (record { decls = decls; number = k }) x ≡ Some t →
    (h : TypeHead) × (type_named (type_heads decls) x ≡ Some h) × (h.type ≡ t)
head_called decls k x t e = by (type_named (type_heads decls) x) refl e where
  before : (h : TypeHead) (b : Bool) → (if b then Some h.type else None) ≡ Some t → h.type ≡ t
  before h true e = some_is h.type t e
  before h false e = absurd (none-some t e)

  by : (o : Option TypeHead) → type_named (type_heads decls) x ≡ o →
      option_and_then (if_before k) o ≡ Some t →
      (h : TypeHead) × (type_named (type_heads decls) x ≡ Some h) × (h.type ≡ t)
  by None is e = absurd (none-some t e)
  by (Some h) is e = (h, is, before h (nat_lt h.decl k) e)

type_at : (decls : List DeclForm) (k : ℕ) (x : Name) (t : Ty) →
    type_called (record { decls = decls; number = k }) x ≡ Some t →
    IsHeaded decls (types_of_decls decls) (fields_from decls 0 decls) 0 x t
type_at decls k x t e =
    let found = head_called decls k x t e in
    subst (λ (u : Ty). IsHeaded decls (types_of_decls decls) (fields_from decls 0 decls) 0 x u)
    found.2 (headed decls 0 0 decls x found.0 found.1)

enum_is : (o : Option Ty) (p : ℕ) → option_and_then as_enum o ≡ Some p → o ≡ Some (ty.Enum p)
enum_is None p e = absurd (none-some p e)
enum_is (Some (ty.Enum q)) p e = ap (λ n. Some (ty.Enum n)) (some_is q p e)
enum_is (Some ty.Unit) p e = absurd (none-some p e)
enum_is (Some ty.Bool) p e = absurd (none-some p e)
enum_is (Some (ty.Bits w)) p e = absurd (none-some p e)
enum_is (Some (ty.Union q)) p e = absurd (none-some p e)
enum_is (Some (ty.Rec q)) p e = absurd (none-some p e)

record_is : (around : Around) (o : Option Ty) (seen : RecordSeen) →
    option_and_then (as_record around) o ≡ Some seen →
    (o ≡ Some (ty.Rec seen.of)) × (seen.fields ≡ seen_fields_at around seen.of)
record_is around None seen e = absurd (none-some seen e)
record_is around (Some (ty.Rec q)) seen e =
    let same : record { of = q; fields = seen_fields_at around q } ≡ seen = some_is _ seen e in (
      ap (λ (s : RecordSeen). Some (ty.Rec s.of)) same,
      sym (ap (λ (s : RecordSeen). s.fields) same)
          ∙ ap (λ (s : RecordSeen). seen_fields_at around s.of) same,
    )
record_is around (Some ty.Unit) seen e = absurd (none-some seen e)
record_is around (Some ty.Bool) seen e = absurd (none-some seen e)
record_is around (Some (ty.Bits w)) seen e = absurd (none-some seen e)
record_is around (Some (ty.Enum q)) seen e = absurd (none-some seen e)
record_is around (Some (ty.Union q)) seen e = absurd (none-some seen e)

-- a position that is found is one of the list
placed : {X : Type 0} (p : X → Bool) (xs : List X) (at : ℕ) → position p xs ≡ Some at →
    nat_lt at (length xs) ≡ true
placed p xs at e =
    by (position_or_len p xs) (length xs) (nat_lt (position_or_len p xs) (length xs)) refl e where
      by : (m l : ℕ) (b : Bool) → nat_lt m l ≡ b → cond b (Some m) None ≡ Some at →
          nat_lt at l ≡ true
      by m l true less e = subst (λ n. nat_lt n l ≡ true) (some_is m at e) less
      by m l false less e = absurd (none-some at e)

-- what holds of all holds of one
all_at : {A : Type 0} (P : A → Type 0) (xs : List A) (at : ℕ) (x : A) → AllByRecursion P xs →
    slice_get xs at ≡ Some x → P x
all_at P [] at x are there = absurd (none-some x there)
all_at P (y ∷ xs) zero x are there = subst P (some_is y x there) are.0
all_at P (y ∷ xs) (suc at) x are there = all_at P xs at x are.1 there

-- a type that may stand in a declared type is fixed
is_fixed : (types : List TypeDecl) (p : ℕ) (o : Option Ty) →
    may_stand_in types p (unwrap_or o no_type) ≡ true → o ≡ Some (unwrap_or o no_type)
is_fixed types p None e = absurd (false≢true e)
is_fixed types p (Some t) e = refl

-- whether a value is of a type, by its layer
by_layer : (types : List TypeDecl) (v : Value) (y : layer.Value-F Value) (t : Ty) →
    out-Value v ≡ y →
    layer_has_type types (map-Value Value (Ty → Bool) (has_type types) y) t ≡ true → HasType types t v
by_layer types v y t out is =
    ap (λ (test : Ty → Bool). test t) (fold_out-Value (Ty → Bool) (layer_has_type types) v)
    ∙ ap (λ z. layer_has_type types (map-Value Value (Ty → Bool) (has_type types) z) t) out ∙ is

module _ (shown : ShownTypes) (exact : ExactOperations) (decls : List DeclForm) (k : ℕ)
    (earlier : NamesEarlierTypes (types_of_decls decls)) where
  abbrev types : List TypeDecl
  types = types_of_decls decls

  abbrev around : Around
  around = record { decls = decls; number = k }

  member_alike : (e a : Name) (p : ℕ) → enum_called around e ≡ Some p →
      meant a_member around a ≡ Some p → HasTyped types (ty.Enum p) (member_value types e a)
  member_alike e a p called is =
      let head = type_at decls k e (ty.Enum p) (enum_is (type_called around e) p called) in
      let one = members_of_decls decls decls 0 0 a p is in
      let first = head.place in
      let second = one.place in
      let here : head.index ≡ p = omega (arith, first) in
      let there : one.index ≡ p = omega (arith, second) in
      let declared : slice_get types p ≡ Some (type.Enum one.name one.members) =
      subst (λ n. slice_get types n ≡ Some (type.Enum one.name one.members)) there one.declared in
      record {
        value = value.Member p one.at;
        there = ap (option_and_then (λ (q : ℕ). option_map (value.Member q)
            (position_of (names_at members_of types q) a))) (head.found ∙ ap Some here)
            ∙ ap (λ (o : Option TypeDecl). option_map (value.Member p)
            (position_of (unwrap_or (option_map members_of o) []) a)) declared
            ∙ ap (option_map (value.Member p)) one.found;
        typed = by_layer types (value.Member p one.at) (layer.Member p one.at) (ty.Enum p)
            (outs-Member p one.at)
            (and_from (p == p) (nat_lt one.at (members_in (slice_get types p))) (eq-eqb p p refl)
            (ap (λ (o : Option TypeDecl). nat_lt one.at (members_in o)) declared
            ∙ placed (bytes_eq a) one.members one.at one.found));
      }

  ctor_alike : (c : Name) (seen : CtorSeen) (t : Ty) (x : Value) → meant a_ctor around c ≡ Some seen →
      agree seen.payload (Some t) ≡ true → HasType types t x →
      HasTyped types (ty.Union seen.of) (made_value types c x)
  ctor_alike c seen t x is agrees typed =
      let one = ctors_of_decls decls decls 0 0 c seen is in
      let place = one.place in
      let there : one.index ≡ seen.of = omega (arith, place) in
      let declared : slice_get types seen.of ≡ Some (type.Union one.name one.fields) =
      subst (λ n. slice_get types n ≡ Some (type.Union one.name one.fields)) there one.declared in
      let stands : may_stand_in types seen.of one.field.ty ≡ true =
      all_at (λ (part : Field). may_stand_in types seen.of part.ty ≡ true) one.fields one.ctor
      one.field (earlier seen.of (type.Union one.name one.fields) declared) one.there in
      let fixed : seen.payload ≡ Some (unwrap_or seen.payload no_type) =
      is_fixed types seen.of seen.payload
      (subst (λ (u : Ty). may_stand_in types seen.of u ≡ true) one.is stands) in
      let same : one.field.ty ≡ t = one.is ∙ shown.told (unwrap_or seen.payload no_type) t
      (subst (λ (o : Option Ty). agree o (Some t) ≡ true) fixed agrees) in
      let passes : passes_ctor (has_type types x) (ctor_at types seen.of one.ctor) ≡ true =
      ap (λ (o : Option TypeDecl). passes_ctor (has_type types x) (slice_get (ctors_in o) one.ctor))
      declared ∙ ap (passes_ctor (has_type types x)) one.there
      ∙ ap (has_type types x) same ∙ typed in
      record {
        value = value.Made seen.of one.ctor x;
        there = ap (option_and_then (λ (place : CtorPlace).
            value_of_making types place.of place.ctor x)) one.found
            ∙ ap (λ b. if b then Some (value.Made seen.of one.ctor x) else None) passes;
        typed = by_layer types (value.Made seen.of one.ctor x) (layer.Made seen.of one.ctor x)
            (ty.Union seen.of) (outs-Made seen.of one.ctor x)
            (and_from (seen.of == seen.of)
            (passes_ctor (has_type types x) (ctor_at types seen.of one.ctor))
            (eq-eqb seen.of seen.of refl) passes);
      }

  -- a record type that is called by its name
  record IsRecordCalled (r : Name) (seen : RecordSeen) : Type 0 where
    pub number : ℕ
    pub params : List Param
    pub found : position_of (map name_of_type types) r ≡ Some seen.of
    pub fields : fields_at types seen.of ≡ Some (fields_of decls number params)
    pub names : names_at field_names_of types seen.of
        ≡ names_of_fields (fields_of decls number params)
    pub seen_as : seen.fields ≡ typed_params decls number params
    pub stand : AllByRecursion (λ (part : Field). may_stand_in types seen.of part.ty ≡ true)
        (fields_of decls number params)

  called : (r : Name) (seen : RecordSeen) → record_called around r ≡ Some seen →
      IsRecordCalled r seen
  called r seen e =
      let is = record_is around (type_called around r) seen e in
      let head = type_at decls k r (ty.Rec seen.of) is.0 in
      let place = head.place in
      let here : head.index ≡ seen.of = omega (arith, place) in
      let at = head.parts in
      let declared : slice_get types seen.of
      ≡ Some (type.Rec at.name (fields_of decls at.number at.params)) =
      subst (λ n. slice_get types n
      ≡ Some (type.Rec at.name (fields_of decls at.number at.params))) here at.declared in
      let fields : slice_get (fields_from decls 0 decls) seen.of
      ≡ Some (typed_params decls at.number at.params) =
      subst (λ n. slice_get (fields_from decls 0 decls) n
      ≡ Some (typed_params decls at.number at.params)) here at.seen in
      record {
        number = at.number;
        params = at.params;
        found = head.found ∙ ap Some here;
        fields = ap fields_in declared;
        names = ap (λ (o : Option TypeDecl). unwrap_or (option_map field_names_of o) []) declared;
        seen_as = is.1 ∙ ap (λ (o : Option (List TypedName)). unwrap_or o []) fields;
        stand = earlier seen.of (type.Rec at.name (fields_of decls at.number at.params)) declared;
      }

  -- values of the types that fields want are of the types of the fields
  fields_pass : (p m : ℕ) (params : List Param) (ts : List Ty) (xs : List Value) →
      AllByRecursion (λ (part : Field). may_stand_in types p part.ty ≡ true)
      (fields_of decls m params) →
      AreWanted (types_of (typed_params decls m params)) ts → AreTyped types ts xs →
      all_pass (map (has_type types) xs) (fields_of decls m params) ≡ true
  fields_pass p m [] [] [] stand wanted typed = refl
  fields_pass p m [] [] (x ∷ xs) stand wanted typed = absurd typed
  fields_pass p m [] (t ∷ ts) xs stand wanted typed = absurd wanted
  fields_pass p m (param ∷ params) [] xs stand wanted typed = absurd wanted
  fields_pass p m (param ∷ params) (t ∷ ts) [] stand wanted typed = absurd typed
  fields_pass p m (param ∷ params) (t ∷ ts) (x ∷ xs) stand wanted typed =
      let fixed = is_fixed types p (type_of_name decls m param.ty) stand.0 in
      let same : named_type decls m param.ty ≡ t = shown.told (named_type decls m param.ty) t
      (subst (λ (o : Option Ty). agree o (Some t) ≡ true) fixed wanted.0) in
      and_from (has_type types x (named_type decls m param.ty))
      (all_pass (map (has_type types) xs) (fields_of decls m params))
      (ap (has_type types x) same ∙ typed.0)
      (fields_pass p m params ts xs stand.1 wanted.1 typed.1)

  fields_alike : (r : Name) (seen : RecordSeen) (ts : List Ty) (xs : List Value) →
      record_called around r ≡ Some seen → AreWanted (types_of seen.fields) ts →
      AreTyped types ts xs → HasTyped types (ty.Rec seen.of) (rec_value types r xs)
  fields_alike r seen ts xs e wanted typed =
      let one = called r seen e in
      let passes : pass_record (map (has_type types) xs) (fields_at types seen.of) ≡ true =
      ap (pass_record (map (has_type types) xs)) one.fields
      ∙ fields_pass seen.of one.number one.params ts xs one.stand
      (subst (λ (fs : List TypedName). AreWanted (types_of fs) ts) one.seen_as wanted) typed in
      record {
        value = value.Rec seen.of xs;
        there = ap (option_and_then (λ (p : ℕ). value_of_record types p xs)) one.found
            ∙ ap (λ b. if b then Some (value.Rec seen.of xs) else None) passes;
        typed = by_layer types (value.Rec seen.of xs) (layer.Rec seen.of xs) (ty.Rec seen.of)
            (outs-Rec seen.of xs)
            (and_from (seen.of == seen.of)
            (pass_record (map (has_type types) xs) (fields_at types seen.of))
            (eq-eqb seen.of seen.of refl) passes);
      }

  -- a field of a name: its position, and its type
  record IsFieldAt (m : ℕ) (params : List Param) (f : Name) : Type 0 where
    pub at : ℕ
    pub found : position_of (names_of_fields (fields_of decls m params)) f ≡ Some at
    pub type : Option Ty
    pub local : local_type (typed_params decls m params) f ≡ Some type
    pub field : Field
    pub there : slice_get (fields_of decls m params) at ≡ Some field
    pub is : field.ty ≡ unwrap_or type no_type

  field_found : (m : ℕ) (params : List Param) (f : Name) →
      is_some (local_type (typed_params decls m params) f) ≡ true → IsFieldAt m params f
  field_found m [] f some = absurd (false≢true some)
  field_found m (param ∷ params) f some =
      by (bytes_eq param.name f) refl (field_found m params f) some where
        names : List Name
        names = names_of_fields (fields_of decls m params)

        next : (b : Bool) → bytes_eq param.name f ≡ b → position_of (param.name ∷ names) f
            ≡ (if b then Some 0 else option_map suc (position_of names f))
        next b same = name_next param.name names f
            ∙ ap (λ b. if b then Some 0 else option_map suc (position_of names f)) same

        local : (b : Bool) → bytes_eq param.name f ≡ b →
            local_type (typed_params decls m (param ∷ params)) f
            ≡ (if b then Some (type_of_name decls m param.ty)
            else local_type (typed_params decls m params) f)
        local b same = ap (λ b. if b then Some (type_of_name decls m param.ty)
            else local_type (typed_params decls m params) f) same

        by : (b : Bool) → bytes_eq param.name f ≡ b →
            (is_some (local_type (typed_params decls m params) f) ≡ true → IsFieldAt m params f) →
            is_some (if b then Some (type_of_name decls m param.ty)
            else local_type (typed_params decls m params) f) ≡ true → IsFieldAt m (param ∷ params) f
        by true same later some = record {
          at = 0;
          found = next true same;
          type = type_of_name decls m param.ty;
          local = local true same;
          field = field_of decls m param;
          there = refl;
          is = refl;
        }
        by false same later some =
            let far = later some in record {
              at = suc far.at;
              found = next false same ∙ ap (option_map suc) far.found;
              type = far.type;
              local = local false same ∙ far.local;
              field = far.field;
              there = far.there;
              is = far.is;
            }

  field_alike : (r f : Name) (seen : RecordSeen) (x : Value) → record_called around r ≡ Some seen →
      is_some (local_type seen.fields f) ≡ true → HasType types (ty.Rec seen.of) x →
      IsGiven types (option_flatten (local_type seen.fields f)) (got_value types r f x)
  field_alike r f seen x e some typed =
      let one = called r seen e in
      let at = field_found one.number one.params f
      (subst (λ (fs : List TypedName). is_some (local_type fs f) ≡ true) one.seen_as some) in
      let stands : may_stand_in types seen.of at.field.ty ≡ true =
      all_at (λ (part : Field). may_stand_in types seen.of part.ty ≡ true)
      (fields_of decls one.number one.params) at.at at.field one.stand at.there in
      let fixed : at.type ≡ Some (unwrap_or at.type no_type) =
      is_fixed types seen.of at.type
      (subst (λ (u : Ty). may_stand_in types seen.of u ≡ true) at.is stands) in
      let has = applied shown types exact (op.Get seen.of at.at) (ty.Rec seen.of ∷ []) (x ∷ [])
      at.field.ty (typed, tt)
      (and_from (agree (Some (ty.Rec seen.of)) (Some (ty.Rec seen.of)) && true) true
      (and_from (agree (Some (ty.Rec seen.of)) (Some (ty.Rec seen.of))) true
      (shown.same (ty.Rec seen.of)) refl) refl)
      (ap (λ (o : Option (List Field)). option_map (λ (found : Field). found.ty)
      (option_and_then (λ (fields : List Field). slice_get fields at.at) o)) one.fields
      ∙ ap (option_map (λ (found : Field). found.ty)) at.there) in
      record {
        type = at.field.ty;
        fixed = ap (λ (fs : List TypedName). option_flatten (local_type fs f)) one.seen_as
            ∙ ap option_flatten at.local ∙ fixed ∙ ap Some (sym at.is);
        value = has.value;
        there = ap (option_and_then (λ (p : ℕ). option_and_then (λ (at : ℕ).
            value_of_op (op.Get p at) (x ∷ []))
            (position_of (names_at field_names_of types p) f))) one.found
            ∙ ap (λ (ns : List Name). option_and_then (λ (at : ℕ).
            value_of_op (op.Get seen.of at) (x ∷ [])) (position_of ns f)) one.names
            ∙ ap (option_and_then (λ (at : ℕ). value_of_op (op.Get seen.of at) (x ∷ []))) at.found
            ∙ has.there;
        typed = has.typed;
      }

  -- what typing finds of names has values of its types
  pub looks_alike : LooksAlike decls k
  looks_alike = record {
    member = member_alike;
    ctor = ctor_alike;
    fields = fields_alike;
    field = field_alike;
  }
