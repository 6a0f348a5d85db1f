-- The rules on constructors and records keep values.
use Rattle.std.proofs.Common.{◌≡◌, ◌∙◌, ℕ, zero, suc, Bool, true, false, List, [], ◌∷◌, map, Option, Some, None, refl, ap, sym, subst, if◌then◌else◌}
use Rattle.std.specs.Prelude.{◌==◌, ◌&&◌, slice_get, option_and_then}
use Rattle.std.specs.Option.{option_map}
use Rattle.std.proofs.lemmas.Bool.{and_parts, and_from, eqb-true, eq-eqb}
use Rattle.kat_value.specs.declared.op.Op.TheVariants.{And, Eq, Get}
use Rattle.kat_value.specs.declared.types.Field.{Field}
use Rattle.kat_value.specs.declared.types.Ty.{Ty}
use Rattle.kat_value.specs.declared.types.Ty.TheVariants as ty
use Rattle.kat_value.specs.declared.types.TypeDecl.{TypeDecl}
use Rattle.kat_value.specs.declared.value.Value.{Value, out-Value, out-roll-Value, map-Value, fold_out-Value}
use Rattle.kat_value.specs.declared.value.Value.TheVariants.{Bool as Truth, Made as MadeValue, Rec as RecValue, rolls-Made as rolls-MadeValue, rolls-Rec as rolls-RecValue}
use Rattle.kat_value.specs.declared.value.Value.TheOpen.{Value-F, Unit as UnitLayer, Bool as TruthLayer, Bits as BitsLayer, Member as MemberLayer, Made as MadeLayer, Rec as RecLayer}
use Rattle.kat_value.specs.Equality.{value_eq, TestsEquality, all_hold}
use Rattle.kat_value.specs.Widths.{is_number}
use Rattle.kat_value.specs.Signatures.{same_type}
use Rattle.kat_value.specs.Typing.{has_type, layer_has_type, passes_ctor, pass_record, all_pass, ctor_at, fields_at}
use Rattle.kat_term.specs.declared.term.Term.{Term}
use Rattle.kat_term.specs.declared.term.Term.TheOpen.{Make, Rec}
use Rattle.kat_term.specs.declared.term.Term.TheVariants.{Make as Maker, Rec as Recorder, rolls-Make, rolls-Rec}
use Rattle.kat_term.specs.declared.term.Term.TheFolds.{fold-roll-Term}
use Rattle.kat_value.specs.Operations.{field_of}
use Rattle.kat_value.specs.Shown.{type_of_layer, type_of_value, one_type}
use Rattle.kat_value.specs.Making.{all_there, value_of_making, value_of_record}
use Rattle.kat_term.specs.Values.{Valuation, IsKept, value_layer, value_of}
use Rattle.kat_term.specs.Views.{one, two, truth}
use Rattle.kat_rules.specs.Equations.{equations_of, eq_of_makes, eq_of_recs}
use Rattle.kat_rules.specs.Keeps.{Keeps}
use Rattle.kat_rules.specs.Truths.{get_of_rec}
use Rattle.kat_rules.proofs.Equals.{same_truth, some_told, equals_from, on_equals}
use Rattle.kat_rules.proofs.Meaning.{truth_value, one_parts, and_from_truths}
use Rattle.kat_rules.proofs.OrderLaws.{equal_test}
use Rattle.kat_rules.proofs.Patterns.{some_is, only_is, if_is, in_two, in_made, in_rec, in_field}
use Rattle.kat_rules.proofs.TermLaws.{TermLaws}

-- the layers of values
out-Made : (of ctor : ℕ) (x : Value) → out-Value (MadeValue of ctor x) ≡ MadeLayer of ctor x
out-Made of ctor x = ap out-Value (sym (rolls-MadeValue of ctor x)) ∙ out-roll-Value (MadeLayer of ctor x)

out-Rec : (of : ℕ) (xs : List Value) → out-Value (RecValue of xs) ≡ RecLayer of xs
out-Rec of xs = ap out-Value (sym (rolls-RecValue of xs)) ∙ out-roll-Value (RecLayer of xs)

made_told : (of k l : ℕ) (x y : Value) → MadeValue of k x ≡ MadeValue of l y → (k ≡ l) × (x ≡ y)
made_told of k l x y e = layers (sym (out-Made of k x) ∙ ap out-Value e ∙ out-Made of l y) where
  layers : MadeLayer of k x ≡ MadeLayer of l y → (k ≡ l) × (x ≡ y)
  layers h = (cc, cc)

rec_told : (of : ℕ) (xs ys : List Value) → RecValue of xs ≡ RecValue of ys → xs ≡ ys
rec_told of xs ys e = layers (sym (out-Rec of xs) ∙ ap out-Value e ∙ out-Rec of ys) where
  layers : RecLayer of xs ≡ RecLayer of ys → xs ≡ ys
  layers h = cc

-- a value of a type shows it
same_self : (t : Ty) → same_type t t ≡ true
same_self ty.Unit = refl
same_self ty.Bool = refl
same_self (ty.Bits w) = eq-eqb w w refl
same_self (ty.Enum i) = eq-eqb i i refl
same_self (ty.Union i) = eq-eqb i i refl
same_self (ty.Rec i) = eq-eqb i i refl

abbrev tested : List TypeDecl → Value-F Value → Value-F (Ty → Bool)
tested types = map-Value Value (Ty → Bool) (has_type types)

layer_shows : (types : List TypeDecl) (y : Value-F Value) (t : Ty) → layer_has_type types (tested types y) t ≡ true → type_of_layer y ≡ t
layer_shows types UnitLayer ty.Unit h = refl
layer_shows types (TruthLayer b) ty.Bool h = refl
layer_shows types (BitsLayer w n) (ty.Bits u) h = ap ty.Bits (eqb-true w u (and_parts (w == u) (is_number w n) h).0)
layer_shows types (MemberLayer of index) (ty.Enum u) h = ap ty.Enum (eqb-true of u (and_parts _ _ h).0)
layer_shows types (MadeLayer of ctor x) (ty.Union u) h = ap ty.Union (eqb-true of u (and_parts _ _ h).0)
layer_shows types (RecLayer of xs) (ty.Rec u) h = ap ty.Rec (eqb-true of u (and_parts _ _ h).0)
layer_shows types _ _ h = cc

shows : (types : List TypeDecl) (t : Ty) (x : Value) → has_type types x t ≡ true → type_of_value x ≡ t
shows types t x has = layer_shows types (out-Value x) t (sym (ap (λ (test : Ty → Bool). test t) (fold_out-Value (Ty → Bool) (layer_has_type types) x)) ∙ has)

one_type_of : (types : List TypeDecl) (t : Ty) (x y : Value) → has_type types x t ≡ true → has_type types y t ≡ true → one_type x y ≡ true
one_type_of types t x y first second =
    ap (λ s. same_type s (type_of_value y)) (shows types t x first) ∙ ap (same_type t) (shows types t y second) ∙ same_self t

ctor_type : (types : List TypeDecl) (ctor : Option Field) (x y : Value) → passes_ctor (has_type types x) ctor ≡ true → passes_ctor (has_type types y) ctor ≡ true → one_type x y ≡ true
ctor_type types (Some ctor) x y first second = one_type_of types ctor.ty x y first second
ctor_type types None x y first second = cc

-- the test of equality of lists
equal_lists : TestsEquality → (xs ys : List Value) → all_hold (map value_eq xs) ys ≡ true → xs ≡ ys
equal_lists values [] [] h = refl
equal_lists values [] (y ∷ ys) h = cc
equal_lists values (x ∷ xs) [] h = cc
equal_lists values (x ∷ xs) (y ∷ ys) h =
    let parts = and_parts (value_eq x y) (all_hold (map value_eq xs) ys) h in
    ap (λ z. z ∷ xs) ((values x y).0 parts.0) ∙ ap (λ zs. y ∷ zs) (equal_lists values xs ys parts.1)

list_equals_itself : TestsEquality → (xs : List Value) → all_hold (map value_eq xs) xs ≡ true
list_equals_itself values [] = refl
list_equals_itself values (x ∷ xs) = and_from (value_eq x x) (all_hold (map value_eq xs) xs) ((values x x).1 refl) (list_equals_itself values xs)

same_records : TestsEquality → (of : ℕ) (xs ys : List Value) → all_hold (map value_eq xs) ys ≡ value_eq (RecValue of xs) (RecValue of ys)
same_records values of xs ys =
    same_truth (all_hold (map value_eq xs) ys) (value_eq (RecValue of xs) (RecValue of ys))
    (λ h. (values (RecValue of xs) (RecValue of ys)).1 (ap (RecValue of) (equal_lists values xs ys h)))
    (λ h. subst (λ zs. all_hold (map value_eq xs) zs ≡ true) (rec_told of xs ys ((values (RecValue of xs) (RecValue of ys)).0 h)) (list_equals_itself values xs))

-- the first and the others of values that are all there
pub record FirstThere (o : Option Value) (os : List (Option Value)) (xs : List Value) : Type 0 where
  pub x : Value
  pub rest : List Value
  pub first : o ≡ Some x
  pub more : all_there os ≡ Some rest
  pub is : x ∷ rest ≡ xs

pub list_told : (xs ys : List Value) → Some xs ≡ Some ys → xs ≡ ys
list_told xs ys e = cc

pub first_there : (o : Option Value) (os : List (Option Value)) (xs : List Value) → all_there (o ∷ os) ≡ Some xs → FirstThere o os xs
first_there None os xs e = cc
first_there (Some x) os xs e = by (all_there os) refl e where
  by : (p : Option (List Value)) → all_there os ≡ p → option_map (λ ys. x ∷ ys) p ≡ Some xs → FirstThere (Some x) os xs
  by None is h = cc
  by (Some rest) is h = record { x = x; rest = rest; first = refl; more = is; is = list_told (x ∷ rest) xs h }

module _ (types : List TypeDecl) (v : Valuation) where
  abbrev Kept : Term → Term → Type 0
  Kept l r = IsKept (value_of types v l) (value_of types v r)

  -- the payload of a constructor, and the fields of a record
  record MadeAt (of ctor : ℕ) (a : Term) (y : Value) : Type 0 where
    x : Value
    inner : value_of types v a ≡ Some x
    passes : passes_ctor (has_type types x) (ctor_at types of ctor) ≡ true
    is : y ≡ MadeValue of ctor x

  made_at : (of ctor : ℕ) (a : Term) (y : Value) → value_of types v (Maker of ctor a) ≡ Some y → MadeAt of ctor a y
  made_at of ctor a y has =
      by (value_of types v a) refl (sym (ap (value_of types v) (sym (rolls-Make of ctor a)) ∙ fold-roll-Term (Option Value) (value_layer types v) (Make of ctor a)) ∙ has) where
        passed : (x : Value) → value_of types v a ≡ Some x → (b : Bool) → passes_ctor (has_type types x) (ctor_at types of ctor) ≡ b →
            (if b then Some (MadeValue of ctor x) else None) ≡ Some y → MadeAt of ctor a y
        passed x at true test h = record { x = x; inner = at; passes = test; is = some_told y (MadeValue of ctor x) (sym h) }
        passed x at false test h = cc

        by : (o : Option Value) → value_of types v a ≡ o → option_and_then (value_of_making types of ctor) o ≡ Some y → MadeAt of ctor a y
        by None at h = cc
        by (Some x) at h = passed x at (passes_ctor (has_type types x) (ctor_at types of ctor)) refl h

  record RecordAt (of : ℕ) (ts : List Term) (y : Value) : Type 0 where
    xs : List Value
    fields : all_there (map (value_of types v) ts) ≡ Some xs
    passes : pass_record (map (has_type types) xs) (fields_at types of) ≡ true
    is : y ≡ RecValue of xs

  record_at : (of : ℕ) (ts : List Term) (y : Value) → value_of types v (Recorder of ts) ≡ Some y → RecordAt of ts y
  record_at of ts y has =
      by (all_there (map (value_of types v) ts)) refl (sym (ap (value_of types v) (sym (rolls-Rec of ts)) ∙ fold-roll-Term (Option Value) (value_layer types v) (Rec of ts)) ∙ has) where
        passed : (xs : List Value) → all_there (map (value_of types v) ts) ≡ Some xs → (b : Bool) → pass_record (map (has_type types) xs) (fields_at types of) ≡ b →
            (if b then Some (RecValue of xs) else None) ≡ Some y → RecordAt of ts y
        passed xs at true test h = record { xs = xs; fields = at; passes = test; is = some_told y (RecValue of xs) (sym h) }
        passed xs at false test h = cc

        by : (o : Option (List Value)) → all_there (map (value_of types v) ts) ≡ o → option_and_then (value_of_record types of) o ≡ Some y → RecordAt of ts y
        by None at h = cc
        by (Some xs) at h = passed xs at (pass_record (map (has_type types) xs) (fields_at types of)) refl h

  -- a field of a record
  field_value : (ts : List Term) (xs : List Value) (i : ℕ) (a : Term) (x : Value) → all_there (map (value_of types v) ts) ≡ Some xs →
      slice_get ts i ≡ Some a → slice_get xs i ≡ Some x → value_of types v a ≡ Some x
  field_value [] xs i a x there found has = cc
  field_value (t ∷ ts) xs zero a x there found has =
      let c = first_there (value_of types v t) (map (value_of types v) ts) xs there in
      let same : t ≡ a = cc in
      ap (value_of types v) (sym same) ∙ c.first ∙ ap (λ l. slice_get l 0) c.is ∙ has
  field_value (t ∷ ts) xs (suc i) a x there found has =
      let c = first_there (value_of types v t) (map (value_of types v) ts) xs there in
      field_value ts c.rest i a x c.more found (ap (λ l. slice_get l (suc i)) c.is ∙ has)

  get-law : (of field : ℕ) (ts : List Term) (a : Term) → slice_get ts field ≡ Some a → Kept (one (Get of field) (Recorder of ts)) a
  get-law of field ts a found x has =
      let o = one_parts types v (Get of field) (Recorder of ts) x has in
      let r = record_at of ts o.y o.at in
      let is : field_of of field (RecLayer of r.xs) ≡ Some x = sym (ap (field_of of field) (ap out-Value r.is ∙ out-Rec of r.xs)) ∙ o.is in
      field_value ts r.xs field a x r.fields found (sym (ap (λ b. if b then slice_get r.xs field else None) (equal_test of of refl)) ∙ is)

  module _ (laws : TermLaws) where
    -- constructors
    makes-law : (of k l : ℕ) (a b : Term) → Kept (two Eq (Maker of k a) (Maker of l b)) (if k == l then two Eq a b else truth false)
    makes-law of k l a b =
        on_equals types v (Maker of k a) (Maker of l b) (if k == l then two Eq a b else truth false)
        (λ y z first second one_shown.
        let m = made_at of k a y first in
        let n = made_at of l b z second in
        by m.x n.x m.inner n.inner m.passes n.passes (k == l) refl
        ∙ ap (λ t. Some (Truth t)) (ap (λ u. value_eq u (MadeValue of l n.x)) (sym m.is) ∙ ap (value_eq y) (sym n.is))) where
          by : (x y : Value) → value_of types v a ≡ Some x → value_of types v b ≡ Some y →
              passes_ctor (has_type types x) (ctor_at types of k) ≡ true → passes_ctor (has_type types y) (ctor_at types of l) ≡ true →
              (t : Bool) → (k == l) ≡ t → value_of types v (if t then two Eq a b else truth false) ≡ Some (Truth (value_eq (MadeValue of k x) (MadeValue of l y)))
          by x y first second x_passes y_passes true test =
              let same : k ≡ l = eqb-true k l test in
              equals_from types v a b x y first second (ctor_type types (ctor_at types of k) x y x_passes (ap (λ j. passes_ctor (has_type types y) (ctor_at types of j)) same ∙ y_passes))
              ∙ ap (λ t. Some (Truth t))
              (same_truth (value_eq x y) (value_eq (MadeValue of k x) (MadeValue of l y))
              (λ h. (laws.values (MadeValue of k x) (MadeValue of l y)).1 (ap (λ j. MadeValue of j x) same ∙ ap (MadeValue of l) ((laws.values x y).0 h)))
              (λ h. (laws.values x y).1 (made_told of k l x y ((laws.values (MadeValue of k x) (MadeValue of l y)).0 h)).1))
          by x y first second x_passes y_passes false test = truth_value types v false ∙ ap (λ t. Some (Truth t)) (apart (value_eq (MadeValue of k x) (MadeValue of l y)) refl) where
            apart : (t : Bool) → value_eq (MadeValue of k x) (MadeValue of l y) ≡ t → false ≡ t
            apart false h = refl
            apart true h = sym test ∙ equal_test k l (made_told of k l x y ((laws.values (MadeValue of k x) (MadeValue of l y)).0 h)).0

    -- records
    and_true : (p : Bool) → p ≡ (p && true)
    and_true true = refl
    and_true false = refl

    fields-law : (ts us : List Term) (xs ys : List Value) (fields : List Field) (r : Term) →
        all_there (map (value_of types v) ts) ≡ Some xs → all_there (map (value_of types v) us) ≡ Some ys →
        all_pass (map (has_type types) xs) fields ≡ true → all_pass (map (has_type types) ys) fields ≡ true →
        equations_of ts us ≡ Some r → value_of types v r ≡ Some (Truth (all_hold (map value_eq xs) ys))
    fields-law [] us xs ys fields r first second x_pass y_pass e = cc
    fields-law (a ∷ ts) [] xs ys fields r first second x_pass y_pass e = cc
    fields-law (a ∷ []) (b ∷ []) xs ys fields r first second x_pass y_pass e =
        let c = first_there (value_of types v a) [] xs first in
        let d = first_there (value_of types v b) [] ys second in
        let c_rest : [] ≡ c.rest = list_told [] c.rest c.more in
        let d_rest : [] ≡ d.rest = list_told [] d.rest d.more in
        let c_is : c.x ∷ [] ≡ xs = ap (λ l. c.x ∷ l) c_rest ∙ c.is in
        let d_is : d.x ∷ [] ≡ ys = ap (λ l. d.x ∷ l) d_rest ∙ d.is in
        some_is (λ u. value_of types v u ≡ Some (Truth (all_hold (map value_eq xs) ys))) (two Eq a b) r e
        (last c.x d.x fields c.first d.first (ap (λ l. all_pass (map (has_type types) l) fields) c_is ∙ x_pass) (ap (λ l. all_pass (map (has_type types) l) fields) d_is ∙ y_pass)
        ∙ ap (λ l. Some (Truth (all_hold (map value_eq l) (d.x ∷ [])))) c_is ∙ ap (λ l. Some (Truth (all_hold (map value_eq xs) l))) d_is) where
          last : (x y : Value) (fields : List Field) → value_of types v a ≡ Some x → value_of types v b ≡ Some y →
              all_pass (map (has_type types) (x ∷ [])) fields ≡ true → all_pass (map (has_type types) (y ∷ [])) fields ≡ true →
              value_of types v (two Eq a b) ≡ Some (Truth (all_hold (map value_eq (x ∷ [])) (y ∷ [])))
          last x y [] first second x_pass y_pass = cc
          last x y (field ∷ fields) first second x_pass y_pass =
              equals_from types v a b x y first second
              (one_type_of types field.ty x y (and_parts (has_type types x field.ty) (all_pass [] fields) x_pass).0 (and_parts (has_type types y field.ty) (all_pass [] fields) y_pass).0)
              ∙ ap (λ t. Some (Truth t)) (and_true (value_eq x y))
    fields-law (a ∷ []) (b ∷ d ∷ us) xs ys fields r first second x_pass y_pass e = cc
    fields-law (a ∷ t ∷ ts) (b ∷ us) xs ys fields r first second x_pass y_pass e =
        let c = first_there (value_of types v a) (map (value_of types v) (t ∷ ts)) xs first in
        let d = first_there (value_of types v b) (map (value_of types v) us) ys second in
        by c.x d.x c.rest d.rest fields c.first d.first
        (λ others rest x_part y_part is. fields-law (t ∷ ts) us c.rest d.rest others rest c.more d.more x_part y_part is)
        (ap (λ l. all_pass (map (has_type types) l) fields) c.is ∙ x_pass) (ap (λ l. all_pass (map (has_type types) l) fields) d.is ∙ y_pass) (equations_of (t ∷ ts) us) refl e
        ∙ ap (λ l. Some (Truth (all_hold (map value_eq l) (d.x ∷ d.rest)))) c.is ∙ ap (λ l. Some (Truth (all_hold (map value_eq xs) l))) d.is where
          by : (x y : Value) (xs ys : List Value) (fields : List Field) → value_of types v a ≡ Some x → value_of types v b ≡ Some y →
              ((others : List Field) (rest : Term) → all_pass (map (has_type types) xs) others ≡ true → all_pass (map (has_type types) ys) others ≡ true →
              equations_of (t ∷ ts) us ≡ Some rest → value_of types v rest ≡ Some (Truth (all_hold (map value_eq xs) ys))) →
              all_pass (map (has_type types) (x ∷ xs)) fields ≡ true → all_pass (map (has_type types) (y ∷ ys)) fields ≡ true →
              (o : Option Term) → equations_of (t ∷ ts) us ≡ o → option_map (λ rest. two And (two Eq a b) rest) o ≡ Some r →
              value_of types v r ≡ Some (Truth (all_hold (map value_eq (x ∷ xs)) (y ∷ ys)))
          by x y xs ys [] first second next x_pass y_pass o is h = cc
          by x y xs ys (field ∷ fields) first second next x_pass y_pass None is h = cc
          by x y xs ys (field ∷ fields) first second next x_pass y_pass (Some rest) is h =
              let x_parts = and_parts (has_type types x field.ty) (all_pass (map (has_type types) xs) fields) x_pass in
              let y_parts = and_parts (has_type types y field.ty) (all_pass (map (has_type types) ys) fields) y_pass in
              some_is (λ u. value_of types v u ≡ Some (Truth (all_hold (map value_eq (x ∷ xs)) (y ∷ ys)))) (two And (two Eq a b) rest) r h
              (and_from_truths types v (two Eq a b) rest (value_eq x y) (all_hold (map value_eq xs) ys)
              (equals_from types v a b x y first second (one_type_of types field.ty x y x_parts.0 y_parts.0))
              (next fields rest x_parts.1 y_parts.1 is))

    recs-law : (of : ℕ) (ts us : List Term) (r : Term) → equations_of ts us ≡ Some r → Kept (two Eq (Recorder of ts) (Recorder of us)) r
    recs-law of ts us r e =
        on_equals types v (Recorder of ts) (Recorder of us) r
        (λ y z first second one_shown.
        let m = record_at of ts y first in
        let n = record_at of us z second in
        by m.xs n.xs m.fields n.fields (fields_at types of) m.passes n.passes
        ∙ ap (λ t. Some (Truth t)) (same_records laws.values of m.xs n.xs ∙ ap (λ u. value_eq u (RecValue of n.xs)) (sym m.is) ∙ ap (value_eq y) (sym n.is))) where
          by : (xs ys : List Value) → all_there (map (value_of types v) ts) ≡ Some xs → all_there (map (value_of types v) us) ≡ Some ys → (declared : Option (List Field)) →
              pass_record (map (has_type types) xs) declared ≡ true → pass_record (map (has_type types) ys) declared ≡ true →
              value_of types v r ≡ Some (Truth (all_hold (map value_eq xs) ys))
          by xs ys first second (Some fields) x_pass y_pass = fields-law ts us xs ys fields r first second x_pass y_pass e
          by xs ys first second None x_pass y_pass = cc

pub get_of_rec_keeps : TermLaws → Keeps get_of_rec
get_of_rec_keeps laws types vars v given t r e =
    in_field t _ r (λ u. IsKept (value_of types v u) (value_of types v r)) e
    (λ of field a g. in_rec a _ r (λ u. IsKept (value_of types v (one (Get of field) u)) (value_of types v r)) g
    (λ m h. if_is (IsKept (value_of types v (one (Get of field) (Recorder m.of m.fields))) (value_of types v r)) (m.of == of) _ r h
    (λ same found. let is : m.of ≡ of = eqb-true m.of of same in
    subst (λ k. IsKept (value_of types v (one (Get k field) (Recorder m.of m.fields))) (value_of types v r)) is (get-law types v m.of field m.fields r found))))

pub eq_of_makes_keeps : TermLaws → Keeps eq_of_makes
eq_of_makes_keeps laws types vars v given t r e =
    in_two laws.operations Eq t _ r (λ u. IsKept (value_of types v u) (value_of types v r)) e
    (λ a b g. in_made a _ r (λ u. IsKept (value_of types v (two Eq u b)) (value_of types v r)) g
    (λ k h. in_made b _ r (λ u. IsKept (value_of types v (two Eq (Maker k.of k.ctor k.inner) u)) (value_of types v r)) h
    (λ l i. only_is (λ u. IsKept (value_of types v (two Eq (Maker k.of k.ctor k.inner) (Maker l.of l.ctor l.inner))) (value_of types v u)) (k.of == l.of) _ r i
    (λ same. let is : k.of ≡ l.of = eqb-true k.of l.of same in
    subst (λ j. IsKept (value_of types v (two Eq (Maker k.of k.ctor k.inner) (Maker j l.ctor l.inner))) (value_of types v (if k.ctor == l.ctor then two Eq k.inner l.inner else truth false))) is
    (makes-law types v laws k.of k.ctor l.ctor k.inner l.inner)))))

pub eq_of_recs_keeps : TermLaws → Keeps eq_of_recs
eq_of_recs_keeps laws types vars v given t r e =
    in_two laws.operations Eq t _ r (λ u. IsKept (value_of types v u) (value_of types v r)) e
    (λ a b g. in_rec a _ r (λ u. IsKept (value_of types v (two Eq u b)) (value_of types v r)) g
    (λ k h. in_rec b _ r (λ u. IsKept (value_of types v (two Eq (Recorder k.of k.fields) u)) (value_of types v r)) h
    (λ l i. if_is (IsKept (value_of types v (two Eq (Recorder k.of k.fields) (Recorder l.of l.fields))) (value_of types v r)) (k.of == l.of) _ r i
    (λ same j. let is : k.of ≡ l.of = eqb-true k.of l.of same in
    subst (λ of. IsKept (value_of types v (two Eq (Recorder k.of k.fields) (Recorder of l.fields))) (value_of types v r)) is
    (recs-law types v laws k.of k.fields l.fields r j)))))
