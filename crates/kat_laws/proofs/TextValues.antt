-- What the text of a value tells, where its type is known.
use Rattle.std.proofs.Common.{◌≡◌, ℕ, zero, suc, ◌+◌, ◌*◌, ◌/◌, ◌^◌, ◌<◌, ◌≤◌, Bool, true, false, List, [], ◌∷◌, ◌++◌, length, map, get_or, drop, Option, Some, None, refl, sym, ap, subst, ◌∙◌, arith, append_assoc}
use Rattle.std.specs.Prelude.{nat_lt, slice_get}
use Rattle.std.specs.List.{AllByRecursion}
use Rattle.std.proofs.Math.Nat.{pow-le-pow_right}
use Rattle.std.proofs.lemmas.Bool.{and_parts, eqb-true, ltb-true, false≢true}
use Rattle.std.proofs.lemmas.List.{append_cancel_left}
use Rattle.std.proofs.lemmas.Nat.{pow-add}
use Rattle.kat_text.specs.Hexadecimal.{hex_digits}
use Rattle.kat_tree.specs.Written.{behind_spaces}
use Rattle.kat_value.specs.declared.types.Field.{Field}
use Rattle.kat_value.specs.declared.types.Ty.{Ty}
use Rattle.kat_value.specs.declared.types.Ty.TheVariants.{Unit as unit, Bool as bool, Bits as bits, Enum as enum, Union as union, Rec as rec}
use Rattle.kat_value.specs.declared.types.TypeDecl.{TypeDecl}
use Rattle.kat_value.specs.declared.types.TypeDecl.TheVariants.{Enum as EnumDecl, Union as UnionDecl, Rec as RecDecl}
use Rattle.kat_value.specs.declared.value.Value.{Value, out-Value, roll-Value, roll-out-Value, map-Value, fold-roll-Value, ind-Value}
use Rattle.kat_value.specs.declared.value.Value.TheVariants.{Bits as Number, rolls-Bits}
use Rattle.kat_value.specs.declared.value.Value.TheOpen.{Value-F, Unit as Unit', Bool as Truth, Bits, Member, Made, Rec}
use Rattle.kat_value.specs.Typing.{HasType, has_type, layer_has_type, members_in, ctors_in, ctor_at, fields_at, passes_ctor, all_pass, pass_record}
use Rattle.kat_value.specs.Widths.{is_number, is_width}
use Rattle.kat_print.specs.Lists.{listed}
use Rattle.kat_print.specs.Terms.{members_of, name_of_type, name_of_member, name_of_ctor}
use Rattle.kat_print.specs.Values.{text_of_layer, text_of_value}
use Rattle.kat_laws.specs.TextLaw.{AreNames, HasValueNames, names_of_parts}
use Rattle.kat_laws.proofs.KindsOfTypes.{some_is}
use Rattle.kat_laws.proofs.TextNumbers.{Stops, front_told, length-hex_digits, hex_digits_told}
use Rattle.kat_laws.proofs.TextNames.{IsNamed, name_in, named_at, names_told, part_name, part_within}

pub number_below : (w n : ℕ) → is_number w n ≡ true → n < 2 ^ w
number_below w n number = ltb-true n (2 ^ w) (and_parts (is_width w) (nat_lt n (2 ^ w)) number).1

-- a digit has four bits
digit_power : (count : ℕ) → 16 ^ count ≡ 2 ^ (4 * count)
digit_power zero = refl
digit_power (suc count) =
    let more : 4 * suc count ≡ 4 * count + 4 = omega arith in
    let split : 2 ^ (4 * suc count) ≡ 2 ^ (4 * count) * 2 ^ 4 = ap (λ k. 2 ^ k) more ∙ pow-add 2
    (4 * count) 4 in
    omega (arith, digit_power count, split)

-- the digits are enough for the width
within_digits : (w n : ℕ) → n < 2 ^ w → n < 16 ^ ((w + 3) / 4)
within_digits w n h =
    let enough : 2 ^ w ≤ 2 ^ (4 * ((w + 3) / 4)) = pow-le-pow_right (omega arith) (omega arith) in
    omega (arith, digit_power ((w + 3) / 4), enough)

-- the text of bits tells their number, where the width is known
digits_told : (w m n : ℕ) (r s : List ℕ) → is_number w m ≡ true → is_number w n ≡ true →
    hex_digits ((w + 3) / 4) m ++ r ≡ hex_digits ((w + 3) / 4) n ++ s → (m ≡ n) × (r ≡ s)
digits_told w m n r s p q e =
    let count : ℕ = (w + 3) / 4 in
    let parts = front_told (hex_digits count m) (hex_digits count n) r s
    (length-hex_digits count m ∙ sym (length-hex_digits count n)) e in (
      hex_digits_told count m n (within_digits w m (number_below w m p))
          (within_digits w n (number_below w n q)) parts.0,
      parts.1,
    )

-- the text of bits
number_text : (types : List TypeDecl) (w n : ℕ) (r : List ℕ) →
    text_of_value types (Number w n) ++ r ≡ 48 ∷ 120 ∷ (hex_digits ((w + 3) / 4) n ++ r)
number_text types w n r =
    ap (λ t. t ++ r) (ap (text_of_value types) (sym (rolls-Bits w n))
    ∙ fold-roll-Value (List ℕ) (text_of_layer types) (Bits w n))

pub number_told : (types : List TypeDecl) (w m n : ℕ) (r s : List ℕ) → is_number w m ≡ true →
    is_number w n ≡ true →
    text_of_value types (Number w m) ++ r ≡ text_of_value types (Number w n) ++ s →
    (m ≡ n) × (r ≡ s)
number_told types w m n r s p q e =
    digits_told w m n r s p q
    (ap (drop 2) (sym (number_text types w m r) ∙ e ∙ number_text types w n s))

-- the name of a member tells it
members_told : (o : Option TypeDecl) → IsNamed o → (i j : ℕ) (r s : List ℕ) →
    nat_lt i (members_in o) ≡ true → nat_lt j (members_in o) ≡ true → Stops r → Stops s →
    name_in (members_of o) i ++ r ≡ name_in (members_of o) j ++ s → (i ≡ j) × (r ≡ s)
members_told None named i j r s p q f g e = absurd (omega (arith, ltb-true i 0 p))
members_told (Some (EnumDecl x members)) named i j r s p q f g e =
    names_told members named i j r s (ltb-true i (length members) p)
    (ltb-true j (length members) q) f g e
members_told (Some (UnionDecl x ctors)) named i j r s p q f g e =
    absurd (omega (arith, ltb-true i 0 p))
members_told (Some (RecDecl x fields)) named i j r s p q f g e =
    absurd (omega (arith, ltb-true i 0 p))

-- the constructor that a value passes
passing : (test : Ty → Bool) (o : Option Field) → passes_ctor test o ≡ true →
    (ctor : Field) × (o ≡ Some ctor) × (test ctor.ty ≡ true)
passing test None h = absurd (false≢true h)
passing test (Some ctor) h = (ctor, refl, h)

no_ctor : (k : ℕ) (ctor : Field) → slice_get [] k ≡ Some ctor → ⊥
no_ctor k ctor at = let f : None ≡ Some ctor = at in cc

-- constructors that are there have names
ctor_names : (o : Option TypeDecl) → IsNamed o → (k : ℕ) (ctor : Field) →
    slice_get (ctors_in o) k ≡ Some ctor → AreNames (names_of_parts (ctors_in o))
ctor_names None named k ctor at = absurd (no_ctor k ctor at)
ctor_names (Some (EnumDecl x members)) named k ctor at = absurd (no_ctor k ctor at)
ctor_names (Some (UnionDecl x ctors)) named k ctor at = named
ctor_names (Some (RecDecl x fields)) named k ctor at = absurd (no_ctor k ctor at)

-- the fields of the record that values pass
passing_fields : (tests : List (Ty → Bool)) (o : Option (List Field)) →
    pass_record tests o ≡ true → (fields : List Field) × (o ≡ Some fields) ×
    (all_pass tests fields ≡ true)
passing_fields tests None h = absurd (false≢true h)
passing_fields tests (Some fields) h = (fields, refl, h)

-- texts behind spaces do not go on with a word
stops_behind : (texts : List (List ℕ)) (r : List ℕ) → Stops (behind_spaces texts ++ 41 ∷ r)
stops_behind [] r = omega arith
stops_behind (text ∷ texts) r = omega arith

one_listed : (head text r : List ℕ) → listed head (text ∷ []) ++ r ≡ 40 ∷
    (head ++ 32 ∷ (text ++ 41 ∷ r))
one_listed head text r = simp append_assoc refl

all_listed : (head : List ℕ) (texts : List (List ℕ)) (r : List ℕ) → listed head texts ++ r ≡ 40 ∷
    (head ++ (behind_spaces texts ++ 41 ∷ r))
all_listed head texts r = simp append_assoc refl

one_behind : (text : List ℕ) (texts : List (List ℕ)) (r : List ℕ) →
    behind_spaces (text ∷ texts) ++ 41 ∷ r ≡ 32 ∷ (text ++ (behind_spaces texts ++ 41 ∷ r))
one_behind text texts r = simp append_assoc refl

truth_told : (types : List TypeDecl) (a b : Bool) (r s : List ℕ) →
    text_of_layer types (Truth a) ++ r ≡ text_of_layer types (Truth b) ++ s → (a ≡ b) × (r ≡ s)
truth_told types true true r s e = (refl, ap (drop 4) e)
truth_told types true false r s e = let first : 116 ≡ 102 = ap (λ l. get_or l 0 0) e in
    absurd (omega (arith, first))
truth_told types false true r s e = let first : 102 ≡ 116 = ap (λ l. get_or l 0 0) e in
    absurd (omega (arith, first))
truth_told types false false r s e = (refl, ap (drop 5) e)

module _ (types : List TypeDecl) (named : AllByRecursion HasValueNames types) where
  -- the text of a value
  abbrev text : Value → List ℕ
  text = text_of_value types

  -- the text of a layer
  abbrev layer_text : Value-F Value → List ℕ
  layer_text layer = text_of_layer types (map-Value Value (List ℕ) text layer)

  -- the test of types at one layer
  abbrev layer_is : Value-F Value → Ty → Type 0
  layer_is layer type = layer_has_type types (map-Value Value (Ty → Bool) (has_type types) layer)
      type ≡ true

  -- a value that its text tells, where the type is known
  abbrev IsTold : Value → Type 0
  IsTold u = (v : Value) (type : Ty) (r s : List ℕ) → HasType types type u → HasType types type v →
      Stops r → Stops s → text u ++ r ≡ text v ++ s → (u ≡ v) × (r ≡ s)

  -- such a value
  abbrev Told : Type 0
  Told = (v : Value) × IsTold v

  -- the values of a layer
  abbrev told : Value-F Told → Value-F Value
  told = map-Value Told Value (λ e. e.0)

  -- a layer that its text tells among those of a type
  abbrev TellsLayer : Value-F Value → Value-F Value → Ty → Type 0
  TellsLayer x z type = (r s : List ℕ) → layer_is x type → layer_is z type → Stops r → Stops s →
      layer_text x ++ r ≡ layer_text z ++ s → (x ≡ z) × (r ≡ s)

  unit_layer : (y : Value-F Told) (z : Value-F Value) → TellsLayer (told y) z unit
  unit_layer Unit' Unit' r s p q f g e = (refl, ap (drop 4) e)
  unit_layer Unit' _ r s p q f g e = absurd (false≢true q)
  unit_layer _ _ r s p q f g e = absurd (false≢true p)

  bool_layer : (y : Value-F Told) (z : Value-F Value) → TellsLayer (told y) z bool
  bool_layer (Truth a) (Truth b) r s p q f g e =
      let parts = truth_told types a b r s e in
      (ap Truth parts.0, parts.1)
  bool_layer (Truth a) _ r s p q f g e = absurd (false≢true q)
  bool_layer _ _ r s p q f g e = absurd (false≢true p)

  bits_layer : (w : ℕ) (y : Value-F Told) (z : Value-F Value) → TellsLayer (told y) z (bits w)
  bits_layer w (Bits u m) (Bits v n) r s p q f g e =
      let a = and_parts _ _ p in
      let b = and_parts _ _ q in
      let left : u ≡ w = eqb-true u w a.0 in
      let right : v ≡ w = eqb-true v w b.0 in
      let shown : ℕ → ℕ → List ℕ → List ℕ = λ k i t. hex_digits ((k + 3) / 4) i ++ t in
      let parts = digits_told w m n r s (subst (λ k. is_number k m ≡ true) left a.1)
      (subst (λ k. is_number k n ≡ true) right b.1)
      (ap (λ k. shown k m r) (sym left) ∙ ap (drop 2) e ∙ ap (λ k. shown k n s) right) in
      (ap (λ k. Bits k m) left ∙ ap (Bits w) parts.0 ∙ ap (λ k. Bits k n) (sym right), parts.1)
  bits_layer w (Bits u m) _ r s p q f g e = absurd (false≢true q)
  bits_layer w _ _ r s p q f g e = absurd (false≢true p)

  enum_layer : (k : ℕ) (y : Value-F Told) (z : Value-F Value) → TellsLayer (told y) z (enum k)
  enum_layer k (Member t i) (Member u j) r s p q f g e =
      let a = and_parts _ _ p in
      let b = and_parts _ _ q in
      let left : t ≡ k = eqb-true t k a.0 in
      let right : u ≡ k = eqb-true u k b.0 in
      let parts = members_told (slice_get types k) (named_at types k named) i j r s
      (subst (λ o. nat_lt i (members_in (slice_get types o)) ≡ true) left a.1)
      (subst (λ o. nat_lt j (members_in (slice_get types o)) ≡ true) right b.1) f g
      (ap (λ o. name_of_member types o i ++ r) (sym left) ∙ e
      ∙ ap (λ o. name_of_member types o j ++ s) right) in (
        ap (λ o. Member o i) left ∙ ap (Member k) parts.0 ∙ ap (λ o. Member o j) (sym right),
        parts.1,
      )
  enum_layer k (Member t i) _ r s p q f g e = absurd (false≢true q)
  enum_layer k _ _ r s p q f g e = absurd (false≢true p)

  -- a value behind a constructor
  made_told : (k c d : ℕ) (one : Told) (v : Value) (r s : List ℕ) →
      passes_ctor (has_type types one.0) (ctor_at types k c) ≡ true →
      passes_ctor (has_type types v) (ctor_at types k d) ≡ true → Stops r → Stops s →
      listed (name_of_ctor types k c) (text one.0 ∷ []) ++ r
      ≡ listed (name_of_ctor types k d) (text v ∷ []) ++ s →
      (c ≡ d) × (one.0 ≡ v) × (r ≡ s)
  made_told k c d one v r s p q f g e =
      let ctors : List Field = ctors_in (slice_get types k) in
      let names : List (List ℕ) = names_of_parts ctors in
      let here = passing (has_type types one.0) (slice_get ctors c) p in
      let there = passing (has_type types v) (slice_get ctors d) q in
      let behind : Value → List ℕ → List ℕ = λ u t. 32 ∷ (text u ++ 41 ∷ t) in
      let shown : ℕ → Value → List ℕ → List ℕ = λ i u t. name_of_ctor types k i ++ behind u t in
      let words : shown c one.0 r ≡ shown d v s =
      ap (drop 1) (sym (one_listed (name_of_ctor types k c) (text one.0) r) ∙ e
      ∙ one_listed (name_of_ctor types k d) (text v) s) in
      let parts = names_told names
      (ctor_names (slice_get types k) (named_at types k named) c here.0 here.1) c d
      (behind one.0 r) (behind v s) (part_within ctors c here.0 here.1)
      (part_within ctors d there.0 there.1) (omega arith) (omega arith)
      (ap (λ name. name ++ behind one.0 r) (sym (part_name ctors c)) ∙ words
      ∙ ap (λ name. name ++ behind v s) (part_name ctors d)) in
      let same : there.0 ≡ here.0 =
      some_is there.0 here.0 (sym there.1 ∙ ap (slice_get ctors) (sym parts.0) ∙ here.1) in
      let inner = one.1 v here.0.ty (41 ∷ r) (41 ∷ s) here.2
      (subst (λ (ctor : Field). has_type types v ctor.ty ≡ true) same there.2) (omega arith)
      (omega arith) (ap (drop 1) parts.1) in
      (parts.0, inner.0, ap (drop 1) inner.1)

  union_layer : (k : ℕ) (y : Value-F Told) (z : Value-F Value) → TellsLayer (told y) z (union k)
  union_layer k (Made t c one) (Made u d v) r s p q f g e =
      let a = and_parts _ _ p in
      let b = and_parts _ _ q in
      let left : t ≡ k = eqb-true t k a.0 in
      let right : u ≡ k = eqb-true u k b.0 in
      let shown : ℕ → ℕ → Value → List ℕ → List ℕ = λ o i w l. listed (name_of_ctor types o i)
      (text w ∷ []) ++ l in
      let parts = made_told k c d one v r s
      (subst (λ o. passes_ctor (has_type types one.0) (ctor_at types o c) ≡ true) left a.1)
      (subst (λ o. passes_ctor (has_type types v) (ctor_at types o d) ≡ true) right b.1) f g
      (ap (λ o. shown o c one.0 r) (sym left) ∙ e ∙ ap (λ o. shown o d v s) right) in (
        ap (λ o. Made o c one.0) left ∙ ap (λ i. Made k i one.0) parts.0 ∙ ap (Made k d) parts.1
            ∙ ap (λ o. Made o d v) (sym right),
        parts.2,
      )
  union_layer k (Made t c one) _ r s p q f g e = absurd (false≢true q)
  union_layer k _ _ r s p q f g e = absurd (false≢true p)

  -- the values of a record's fields
  fields_told : (ones : List Told) (vs : List Value) (fields : List Field) (r s : List ℕ) →
      all_pass (map (has_type types) (map (λ e. e.0) ones)) fields ≡ true →
      all_pass (map (has_type types) vs) fields ≡ true →
      behind_spaces (map text (map (λ e. e.0) ones)) ++ 41 ∷ r ≡ behind_spaces (map text vs)
      ++ 41 ∷ s →
      (map (λ e. e.0) ones ≡ vs) × (r ≡ s)
  fields_told [] [] fields r s p q e = (refl, ap (drop 1) e)
  fields_told [] (v ∷ vs) [] r s p q e = absurd (false≢true q)
  fields_told [] (v ∷ vs) (field ∷ fields) r s p q e = absurd (false≢true p)
  fields_told (one ∷ ones) vs [] r s p q e = absurd (false≢true p)
  fields_told (one ∷ ones) [] (field ∷ fields) r s p q e = absurd (false≢true q)
  fields_told (one ∷ ones) (v ∷ vs) (field ∷ fields) r s p q e =
      let a = and_parts _ _ p in
      let b = and_parts _ _ q in
      let us : List Value = map (λ e. e.0) ones in
      let left : List ℕ = behind_spaces (map text us) ++ 41 ∷ r in
      let right : List ℕ = behind_spaces (map text vs) ++ 41 ∷ s in
      let head = one.1 v field.ty left right a.0 b.0 (stops_behind (map text us) r)
      (stops_behind (map text vs) s)
      (ap (drop 1) (sym (one_behind (text one.0) (map text us) r) ∙ e
      ∙ one_behind (text v) (map text vs) s)) in
      let tail = fields_told ones vs fields r s a.1 b.1 head.1 in
      let first : one.0 ≡ v = head.0 in
      let rest : us ≡ vs = tail.0 in
      (cc, tail.1)

  rec_layer : (k : ℕ) (y : Value-F Told) (z : Value-F Value) → TellsLayer (told y) z (rec k)
  rec_layer k (Rec t ones) (Rec u vs) r s p q f g e =
      let a = and_parts _ _ p in
      let b = and_parts _ _ q in
      let left : t ≡ k = eqb-true t k a.0 in
      let right : u ≡ k = eqb-true u k b.0 in
      let us : List Value = map (λ e. e.0) ones in
      let shown : ℕ → List Value → List ℕ → List ℕ = λ o ws l. listed (name_of_type types o)
      (map text ws) ++ l in
      let here = passing_fields (map (has_type types) us) (fields_at types k)
      (subst (λ o. pass_record (map (has_type types) us) (fields_at types o) ≡ true) left a.1) in
      let there : pass_record (map (has_type types) vs) (fields_at types k) ≡ true =
      subst (λ o. pass_record (map (has_type types) vs) (fields_at types o) ≡ true) right b.1 in
      let words : shown k us r ≡ shown k vs s =
      ap (λ o. shown o us r) (sym left) ∙ e ∙ ap (λ o. shown o vs s) right in
      let behind = append_cancel_left (name_of_type types k)
      (behind_spaces (map text us) ++ 41 ∷ r) (behind_spaces (map text vs) ++ 41 ∷ s)
      (ap (drop 1) (sym (all_listed (name_of_type types k) (map text us) r) ∙ words
      ∙ all_listed (name_of_type types k) (map text vs) s)) in
      let parts = fields_told ones vs here.0 r s here.2
      (subst (λ o. pass_record (map (has_type types) vs) o ≡ true) here.1 there) behind in
      (ap (λ o. Rec o us) left ∙ ap (Rec k) parts.0 ∙ ap (λ o. Rec o vs) (sym right), parts.1)
  rec_layer k (Rec t ones) _ r s p q f g e = absurd (false≢true q)
  rec_layer k _ _ r s p q f g e = absurd (false≢true p)

  layer_told : (type : Ty) (y : Value-F Told) (z : Value-F Value) → TellsLayer (told y) z type
  layer_told unit y z = unit_layer y z
  layer_told bool y z = bool_layer y z
  layer_told (bits w) y z = bits_layer w y z
  layer_told (enum k) y z = enum_layer k y z
  layer_told (union k) y z = union_layer k y z
  layer_told (rec k) y z = rec_layer k y z

  roll_text : (x : Value-F Value) (r : List ℕ) → text (roll-Value x) ++ r ≡ layer_text x ++ r
  roll_text x r = ap (λ t. t ++ r) (fold-roll-Value (List ℕ) (text_of_layer types) x)

  roll_type : (x : Value-F Value) (type : Ty) → HasType types type (roll-Value x) →
      layer_is x type
  roll_type x type h =
      sym (ap (λ (test : Ty → Bool). test type)
      (fold-roll-Value (Ty → Bool) (layer_has_type types) x)) ∙ h

  -- the text of a value of a known type is told apart from what stands behind it, and tells the
  -- value
  pub value_told : (u : Value) → IsTold u
  value_told = ind-Value IsTold (λ x y is v type r s p q f g e.
      let z : Value-F Value = out-Value v in
      let same : roll-Value z ≡ v = roll-out-Value v in
      let tells : TellsLayer x z type =
      subst (λ layer. TellsLayer layer z type) is (layer_told type y z) in
      let parts = tells r s (roll_type x type p)
      (roll_type z type (subst (HasType types type) (sym same) q)) f g
      (sym (roll_text x r) ∙ e ∙ ap (λ w. text w ++ s) (sym same) ∙ roll_text z s) in
      (ap roll-Value parts.0 ∙ same, parts.1))
