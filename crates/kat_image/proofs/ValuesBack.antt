-- The text of a value is read back, by its type.
use Rattle.std.proofs.Common.{◌≡◌, ℕ, zero, suc, ◌+◌, ◌*◌, ◌/◌, ◌^◌, ◌<◌, ◌≤◌, Bool, true, false, if◌then◌else◌, List, [], ◌∷◌, ◌++◌, length, map, eqb, Option, Some, None, refl, sym, ap, subst, ◌∙◌, arith, append_assoc, append-nil}
use Rattle.std.specs.Prelude.{⊤, codes, nat_lt, nat_le, option_and_then, slice_get}
use Rattle.std.specs.List.{AllByRecursion}
use Rattle.std.specs.Option.{option_map}
use Rattle.std.proofs.Math.Nat.{pow-le-pow_right}
use Rattle.std.proofs.lemmas.Bool.{and_parts, cond-true, eqb-true, leb-true, ltb-true, false≢true}
use Rattle.std.proofs.lemmas.Nat.{pow-add}
use Rattle.kat_text.specs.Hexadecimal.{hex_digits}
use Rattle.kat_tree.specs.Written.{behind_spaces}
use Rattle.kat_value.specs.declared.types.Field.{Field}
use Rattle.kat_value.specs.declared.types.Ty.{Ty}
use Rattle.kat_value.specs.declared.types.Ty.TheVariants.{Unit as unit, Bool as bool, Bits as bits, Enum as enum, Union as union, Rec as rec}
use Rattle.kat_value.specs.declared.types.TypeDecl.{TypeDecl}
use Rattle.kat_value.specs.declared.value.Value.{Value, roll-Value, map-Value, fold-roll-Value, ind-Value}
use Rattle.kat_value.specs.declared.value.Value.TheVariants as value
use Rattle.kat_value.specs.declared.value.Value.TheOpen.{Value-F, Unit as Unit', Bool as Truth, Bits, Member, Made, Rec}
use Rattle.kat_value.specs.Typing.{HasType, has_type, layer_has_type, member_count, ctor_at, fields_at, passes_ctor, all_pass, pass_record}
use Rattle.kat_value.specs.Widths.{is_number, is_width}
use Rattle.kat_syntax.specs.NamedValues.{members_of, names_at}
use Rattle.kat_syntax.specs.TypeTable.{may_stand_in}
use Rattle.kat_print.specs.Lists.{listed}
use Rattle.kat_print.specs.Terms.{name_of_found, name_of_type, name_of_member, name_of_ctor}
use Rattle.kat_print.specs.Values.{text_of_layer, text_of_value}
use Rattle.kat_image.specs.Lines.{value_in, whole_value}
use Rattle.kat_image.specs.ReadsBack.{EndsBefore, HasTypeNames, IsPlainWord, ValuesComeBack}
use Rattle.kat_image.specs.ValueText.{Reader, closed_front, ctor_of, fields_front, is_name_of, layer_front, made_front, payload_front, record_front, value_front, value_of_word, word_value}
use Rattle.kat_image.specs.Words.{Front, behind, head_front, number_of}
use Rattle.kat_image.proofs.NamesBack.{ctor_named, member_named, record_named}
use Rattle.kat_image.proofs.PlainWords.{letters_plain}
use Rattle.kat_image.proofs.WordsBack.{digits_back, hex_word, words_back}

-- numbers of a width
number_below : (w n : ℕ) → is_number w n ≡ true → n < 2 ^ w
number_below w n number = ltb-true n (2 ^ w) (and_parts (is_width w) (nat_lt n (2 ^ w)) number).1

width_within : (w n : ℕ) → is_number w n ≡ true → (1 ≤ w) × (w ≤ 64)
width_within w n number =
    let width = and_parts (nat_le 1 w) (nat_le w 64)
    (and_parts (is_width w) (nat_lt n (2 ^ w)) number).0 in
    (leb-true 1 w width.0, leb-true w 64 width.1)

digit_power : (count : ℕ) → 16 ^ count ≡ 2 ^ (4 * count)
digit_power zero = refl
digit_power (suc count) =
    let more : 4 * suc count ≡ 4 * count + 4 = omega arith in
    let split : 2 ^ (4 * suc count) ≡ 2 ^ (4 * count) * 2 ^ 4 = ap (λ k. 2 ^ k) more ∙ pow-add 2
    (4 * count) 4 in
    omega (arith, digit_power count, split)

within_digits : (w n : ℕ) → n < 2 ^ w → n < 16 ^ ((w + 3) / 4)
within_digits w n h =
    let enough : 2 ^ w ≤ 2 ^ (4 * ((w + 3) / 4)) = pow-le-pow_right (omega arith) (omega arith) in
    omega (arith, digit_power ((w + 3) / 4), enough)

within_words : (w n : ℕ) → w ≤ 64 → n < 2 ^ w → n < 2 ^ 64
within_words w n small h =
    let most : 2 ^ w ≤ 2 ^ 64 = pow-le-pow_right (omega arith) small in
    omega (arith, most, h)

-- the digits of a number of a width are read as it
digits_of_width : (w n : ℕ) → is_number w n ≡ true →
    number_of (codes "0x" ++ hex_digits ((w + 3) / 4) n) ≡ Some n
digits_of_width w n number =
    let width = width_within w n number in
    let below : n < 2 ^ w = number_below w n number in
    let low : 1 ≤ w = width.0 in
    digits_back ((w + 3) / 4) n (omega (arith, low)) (within_digits w n below)
    (within_words w n width.1 below)

-- the constructor that a value passes
passing : (test : Ty → Bool) (o : Option Field) → passes_ctor test o ≡ true →
    (ctor : Field) × (o ≡ Some ctor) × (test ctor.ty ≡ true)
passing test None h = absurd (false≢true h)
passing test (Some ctor) h = (ctor, refl, h)

-- the fields of the record that values pass
passing_fields : (tests : List (Ty → Bool)) (o : Option (List Field)) →
    pass_record tests o ≡ true → (fields : List Field) × (o ≡ Some fields) ×
    (all_pass tests fields ≡ true)
passing_fields tests None h = absurd (false≢true h)
passing_fields tests (Some fields) h = (fields, refl, h)

-- texts behind spaces end a word
ends_behind : (texts : List (List ℕ)) (r : List ℕ) → EndsBefore (behind_spaces texts ++ 41 ∷ r)
ends_behind [] r = refl
ends_behind (text ∷ texts) r = refl

one_listed : (head text r : List ℕ) → listed head (text ∷ []) ++ r ≡ 40 ∷
    (head ++ 32 ∷ (text ++ 41 ∷ r))
one_listed head text r = simp append_assoc refl

all_listed : (head : List ℕ) (texts : List (List ℕ)) (r : List ℕ) → listed head texts ++ r ≡ 40 ∷
    (head ++ (behind_spaces texts ++ 41 ∷ r))
all_listed head texts r = simp append_assoc refl

one_behind : (text : List ℕ) (texts : List (List ℕ)) (r : List ℕ) →
    behind_spaces (text ∷ texts) ++ 41 ∷ r ≡ 32 ∷ (text ++ (behind_spaces texts ++ 41 ∷ r))
one_behind text texts r = simp append_assoc refl

-- so many levels under the first are enough for a type, of so many that are declared
abbrev Enough : ℕ → Ty → ℕ → Type 0
Enough count unit level = ⊤
Enough count bool level = ⊤
Enough count (bits w) level = ⊤
Enough count (enum p) level = ⊤
Enough count (union p) level = p < count → p + 1 ≤ level
Enough count (rec p) level = p < count → p + 1 ≤ level

enough_first : (count : ℕ) (type : Ty) → Enough count type count
enough_first count unit = tt
enough_first count bool = tt
enough_first count (bits w) = tt
enough_first count (enum p) = tt
enough_first count (union p) = λ less. omega (arith, less)
enough_first count (rec p) = λ less. omega (arith, less)

-- a level less is enough for what stands in a type
enough_within : (types : List TypeDecl) (p level : ℕ) (type : Ty) →
    may_stand_in types p type ≡ true → p + 1 ≤ suc level → Enough (length types) type level
enough_within types p level unit h le = tt
enough_within types p level bool h le = tt
enough_within types p level (bits w) h le = tt
enough_within types p level (enum q) h le = tt
enough_within types p level (union q) h le =
    let less : q < p = ltb-true q p (and_parts _ _ h).0 in
    λ there. omega (arith, less, le)
enough_within types p level (rec q) h le =
    let less : q < p = ltb-true q p (and_parts _ _ h).0 in
    λ there. omega (arith, less, le)

module _ (types : List TypeDecl) (named : HasTypeNames types) where
  -- the text of a value
  abbrev text : Value → List ℕ
  text = text_of_value types

  -- the text of a layer
  abbrev layer_text : Value-F Value → List ℕ
  layer_text layer = text_of_layer types (map-Value Value (List ℕ) text layer)

  -- the test of types at one layer
  abbrev layer_is : Value-F Value → Ty → Type 0
  layer_is layer type = layer_has_type types (map-Value Value (Ty → Bool) (has_type types) layer)
      type ≡ true

  -- a value that is read back
  abbrev IsRead : Value → Type 0
  IsRead v = (type : Ty) (r : List ℕ) (level : ℕ) → HasType types type v →
      Enough (length types) type level → EndsBefore r →
      value_front (suc level) types type (text v ++ r) ≡ Some (v, r)

  -- such a value
  abbrev Read : Type 0
  Read = (v : Value) × IsRead v

  -- the values of a layer
  abbrev parts : Value-F Read → Value-F Value
  parts = map-Value Read Value (λ e. e.0)

  -- a layer that is read back
  abbrev ReadsLayer : Value-F Value → Ty → Type 0
  ReadsLayer x type = (r : List ℕ) (level : ℕ) → layer_is x type →
      Enough (length types) type level → EndsBefore r →
      layer_front (value_front level types) types type (layer_text x ++ r)
      ≡ Some (roll-Value x, r)

  word_read : (type : Ty) (word r : List ℕ) (v : Value) → IsPlainWord word → EndsBefore r →
      value_of_word types type word ≡ Some v → word_value types type (word ++ r) ≡ Some (v, r)
  word_read type word r v plain ends is =
      ap (option_and_then (λ (word : List ℕ × List ℕ). option_map (λ v. (v, word.1))
      (value_of_word types type word.0))) (words_back word r plain ends)
      ∙ ap (option_map (λ v. (v, r))) is

  unit_layer : (y : Value-F Read) → ReadsLayer (parts y) unit
  unit_layer Unit' r level p enough ends =
      word_read unit (codes "unit") r value.Unit
      (letters_plain (codes "unit") refl) ends refl
      ∙ ap (λ v. Some (v, r)) (sym value.rolls-Unit)
  unit_layer _ r level p enough ends = absurd (false≢true p)

  bool_layer : (y : Value-F Read) → ReadsLayer (parts y) bool
  bool_layer (Truth true) r level p enough ends =
      word_read bool (codes "true") r (value.Bool true)
      (letters_plain (codes "true") refl) ends refl
      ∙ ap (λ v. Some (v, r)) (sym (value.rolls-Bool true))
  bool_layer (Truth false) r level p enough ends =
      word_read bool (codes "false") r (value.Bool false)
      (letters_plain (codes "false") refl) ends refl
      ∙ ap (λ v. Some (v, r)) (sym (value.rolls-Bool false))
  bool_layer _ r level p enough ends = absurd (false≢true p)

  bits_layer : (w : ℕ) (y : Value-F Read) → ReadsLayer (parts y) (bits w)
  bits_layer w (Bits u n) r level p enough ends =
      let a = and_parts _ _ p in
      let same : u ≡ w = eqb-true u w a.0 in
      let number : is_number w n ≡ true = subst (λ k. is_number k n ≡ true) same a.1 in
      let spelled : value_of_word types (bits w) (codes "0x" ++ hex_digits ((w + 3) / 4) n)
      ≡ Some (value.Bits w n) =
      ap (option_and_then (λ n. if is_number w n then Some (value.Bits w n) else None))
      (digits_of_width w n number)
      ∙ cond-true (is_number w n) (Some (value.Bits w n)) None number in
      subst (λ k. word_value types (bits w) (codes "0x" ++ hex_digits ((k + 3) / 4) n ++ r)
      ≡ Some (roll-Value (Bits k n), r)) (sym same)
      (word_read (bits w) (codes "0x" ++ hex_digits ((w + 3) / 4) n) r (value.Bits w n)
      (hex_word ((w + 3) / 4) n) ends spelled
      ∙ ap (λ v. Some (v, r)) (sym (value.rolls-Bits w n)))
  bits_layer w _ r level p enough ends = absurd (false≢true p)

  enum_layer : (p : ℕ) (y : Value-F Read) → ReadsLayer (parts y) (enum p)
  enum_layer p (Member t i) r level h enough ends =
      let a = and_parts _ _ h in
      let same : t ≡ p = eqb-true t p a.0 in
      let less : nat_lt i (member_count types p) ≡ true =
      subst (λ k. nat_lt i (member_count types k) ≡ true) same a.1 in
      let name = member_named types named p i less in
      subst (λ k. word_value types (enum p) (name_of_member types k i ++ r)
      ≡ Some (roll-Value (Member k i), r)) (sym same)
      (word_read (enum p) (name_of_member types p i) r (value.Member p i) name.0 ends
      (ap (option_map (value.Member p)) name.1)
      ∙ ap (λ v. Some (v, r)) (sym (value.rolls-Member p i)))
  enum_layer p _ r level h enough ends = absurd (false≢true h)

  -- a value behind a space, and a closing bracket
  payload_read : (type : Ty) (one : Read) (r : List ℕ) (level : ℕ) → HasType types type one.0 →
      Enough (length types) type level →
      payload_front (value_front (suc level) types) type (32 ∷ (text one.0 ++ 41 ∷ r))
      ≡ Some (one.0, r)
  payload_read type one r level typed enough =
      ap (option_and_then (λ (one : Value × List ℕ). option_map (λ rest. (one.0, rest))
      (behind 41 one.1))) (one.1 type (41 ∷ r) level typed enough refl)

  made_read : (p k : ℕ) (one : Read) (r : List ℕ) (level : ℕ) →
      passes_ctor (has_type types one.0) (ctor_at types p k) ≡ true →
      (p < length types → p + 1 ≤ level) →
      made_front (value_front level types) types p
      (listed (name_of_ctor types p k) (text one.0 ∷ []) ++ r) ≡ Some (value.Made p k one.0, r)
  made_read p k one r zero h enough =
      let here = passing (has_type types one.0) (ctor_at types p k) h in
      let name = ctor_named types named p k here.0 here.1 in
      absurd (omega (arith, enough name.2))
  made_read p k one r (suc level) h enough =
      let here = passing (has_type types one.0) (ctor_at types p k) h in
      let ctor : Field = here.0 in
      let name = ctor_named types named p k ctor here.1 in
      let read : Reader = value_front (suc level) types in
      let rest : List ℕ = 32 ∷ (text one.0 ++ 41 ∷ r) in
      let made : ℕ → Ty → Front Value = λ k type.
      option_map (λ (one : Value × List ℕ). (value.Made p k one.0, one.1))
      (payload_front read type rest) in
      let payload : payload_front read ctor.ty rest ≡ Some (one.0, r) =
      payload_read ctor.ty one r level here.2
      (enough_within types p level ctor.ty name.3 (enough name.2)) in
      ap (made_front read types p)
      (one_listed (name_of_ctor types p k) (text one.0) r
      ∙ ap (λ n. 40 ∷ (n ++ rest)) (ap name_of_found here.1))
      ∙ ap (option_and_then (λ (head : List ℕ × List ℕ).
      option_and_then (λ ctor.
      option_and_then (λ (field : Field).
      option_map (λ (one : Value × List ℕ). (value.Made p ctor one.0, one.1))
      (payload_front read field.ty head.1))
      (ctor_at types p ctor))
      (ctor_of types p head.0))) (words_back ctor.name rest name.0 refl)
      ∙ ap (option_and_then (λ k. option_and_then (λ (field : Field). made k field.ty)
      (ctor_at types p k))) name.1
      ∙ ap (option_and_then (λ (field : Field). made k field.ty)) here.1
      ∙ ap (option_map (λ (one : Value × List ℕ). (value.Made p k one.0, one.1))) payload

  union_layer : (p : ℕ) (y : Value-F Read) → ReadsLayer (parts y) (union p)
  union_layer p (Made t k one) r level h enough ends =
      let a = and_parts _ _ h in
      let same : t ≡ p = eqb-true t p a.0 in
      let passes : passes_ctor (has_type types one.0) (ctor_at types p k) ≡ true =
      subst (λ o. passes_ctor (has_type types one.0) (ctor_at types o k) ≡ true) same a.1 in
      subst (λ o. made_front (value_front level types) types p
      (listed (name_of_ctor types o k) (text one.0 ∷ []) ++ r)
      ≡ Some (roll-Value (Made o k one.0), r)) (sym same)
      (made_read p k one r level passes enough
      ∙ ap (λ v. Some (v, r)) (sym (value.rolls-Made p k one.0)))
  union_layer p _ r level h enough ends = absurd (false≢true h)

  -- the values of fields
  fields_read : (p level : ℕ) (ones : List Read) (fields : List Field) (r : List ℕ) →
      all_pass (map (has_type types) (map (λ e. e.0) ones)) fields ≡ true →
      AllByRecursion (λ (part : Field). may_stand_in types p part.ty ≡ true) fields →
      p + 1 ≤ suc level →
      fields_front (value_front (suc level) types) fields
      (behind_spaces (map text (map (λ e. e.0) ones)) ++ 41 ∷ r)
      ≡ Some (map (λ e. e.0) ones, 41 ∷ r)
  fields_read p level [] [] r h may le = refl
  fields_read p level [] (field ∷ fields) r h may le = absurd (false≢true h)
  fields_read p level (one ∷ ones) [] r h may le = absurd (false≢true h)
  fields_read p level (one ∷ ones) (field ∷ fields) r h may le =
      let a = and_parts _ _ h in
      let vs : List Value = map (λ e. e.0) ones in
      let read : Reader = value_front (suc level) types in
      let rest : List ℕ = behind_spaces (map text vs) ++ 41 ∷ r in
      let first : read field.ty (text one.0 ++ rest) ≡ Some (one.0, rest) =
      one.1 field.ty rest level a.0 (enough_within types p level field.ty may.0 le)
      (ends_behind (map text vs) r) in
      ap (fields_front read (field ∷ fields)) (one_behind (text one.0) (map text vs) r)
      ∙ ap (option_and_then (λ (one : Value × List ℕ).
      option_map (λ (more : List Value × List ℕ). (one.0 ∷ more.0, more.1))
      (fields_front read fields one.1))) first
      ∙ ap (option_map (λ (more : List Value × List ℕ). (one.0 ∷ more.0, more.1)))
      (fields_read p level ones fields r a.1 may.1 le)

  rec_read : (p : ℕ) (ones : List Read) (r : List ℕ) (level : ℕ) →
      pass_record (map (has_type types) (map (λ e. e.0) ones)) (fields_at types p) ≡ true →
      (p < length types → p + 1 ≤ level) →
      record_front (value_front level types) types p
      (listed (name_of_type types p) (map text (map (λ e. e.0) ones)) ++ r)
      ≡ Some (value.Rec p (map (λ e. e.0) ones), r)
  rec_read p ones r zero h enough =
      let here = passing_fields (map (has_type types) (map (λ e. e.0) ones)) (fields_at types p) h
      in
      let name = record_named types named p here.0 here.1 in
      absurd (omega (arith, enough name.2))
  rec_read p ones r (suc level) h enough =
      let vs : List Value = map (λ e. e.0) ones in
      let here = passing_fields (map (has_type types) vs) (fields_at types p) h in
      let fields : List Field = here.0 in
      let own = record_named types named p fields here.1 in
      let name : List ℕ = name_of_type types p in
      let read : Reader = value_front (suc level) types in
      let rest : List ℕ = behind_spaces (map text vs) ++ 41 ∷ r in
      let all : Option (List Field) → Front Value =
      option_and_then (λ (fields : List Field).
      option_map (λ (all : List Value × List ℕ). (value.Rec p all.0, all.1))
      (closed_front read fields rest)) in
      let closed : closed_front read fields rest ≡ Some (vs, r) =
      ap (option_and_then (λ (all : List Value × List ℕ). option_map (λ rest. (all.0, rest))
      (behind 41 all.1))) (fields_read p level ones fields r here.2 own.3 (enough own.2)) in
      ap (record_front read types p) (all_listed name (map text vs) r)
      ∙ ap (option_and_then (λ (head : List ℕ × List ℕ).
      if is_name_of types p head.0
      then option_and_then (λ (fields : List Field).
      option_map (λ (all : List Value × List ℕ). (value.Rec p all.0, all.1))
      (closed_front read fields head.1))
      (fields_at types p)
      else None)) (words_back name rest own.0 (ends_behind (map text vs) r))
      ∙ cond-true (is_name_of types p name) (all (fields_at types p)) None own.1
      ∙ ap all here.1
      ∙ ap (option_map (λ (all : List Value × List ℕ). (value.Rec p all.0, all.1))) closed

  rec_layer : (p : ℕ) (y : Value-F Read) → ReadsLayer (parts y) (rec p)
  rec_layer p (Rec t ones) r level h enough ends =
      let a = and_parts _ _ h in
      let same : t ≡ p = eqb-true t p a.0 in
      let vs : List Value = map (λ e. e.0) ones in
      let passes : pass_record (map (has_type types) vs) (fields_at types p) ≡ true =
      subst (λ o. pass_record (map (has_type types) vs) (fields_at types o) ≡ true) same a.1 in
      subst (λ o. record_front (value_front level types) types p
      (listed (name_of_type types o) (map text vs) ++ r)
      ≡ Some (roll-Value (Rec o vs), r)) (sym same)
      (rec_read p ones r level passes enough
      ∙ ap (λ v. Some (v, r)) (sym (value.rolls-Rec p vs)))
  rec_layer p _ r level h enough ends = absurd (false≢true h)

  layer_read : (type : Ty) (y : Value-F Read) → ReadsLayer (parts y) type
  layer_read unit y = unit_layer y
  layer_read bool y = bool_layer y
  layer_read (bits w) y = bits_layer w y
  layer_read (enum p) y = enum_layer p y
  layer_read (union p) y = union_layer p y
  layer_read (rec p) y = rec_layer p y

  roll_text : (x : Value-F Value) (r : List ℕ) → text (roll-Value x) ++ r ≡ layer_text x ++ r
  roll_text x r = ap (λ t. t ++ r) (fold-roll-Value (List ℕ) (text_of_layer types) x)

  roll_type : (x : Value-F Value) (type : Ty) → HasType types type (roll-Value x) →
      layer_is x type
  roll_type x type h =
      sym (ap (λ (test : Ty → Bool). test type)
      (fold-roll-Value (Ty → Bool) (layer_has_type types) x)) ∙ h

  value_read : (v : Value) → IsRead v
  value_read = ind-Value IsRead (λ x y is type r level h enough ends.
      let reads : ReadsLayer x type =
      subst (λ layer. ReadsLayer layer type) is (layer_read type y) in
      ap (value_front (suc level) types type) (roll_text x r)
      ∙ reads r level (roll_type x type h) enough ends)

  pub values_back : ValuesComeBack types
  values_back type v typed =
      let count : ℕ = length types in
      let level : count + 1 ≡ suc count = omega arith in
      let read : value_front (count + 1) types type (text v) ≡ Some (v, []) =
      ap (λ n. value_front n types type (text v)) level
      ∙ ap (value_front (suc count) types type) (sym (append-nil (text v)))
      ∙ value_read v type [] count typed (enough_first count type) tt in
      ap (option_and_then (whole_value types type)) read
      ∙ cond-true (has_type types v type) (Some v) None typed
