-- A register's line is read back, and is one line.
use Rattle.std.proofs.Common.{◌≡◌, ◌≢◌, ℕ, zero, suc, ◌+◌, ◌/◌, ◌<◌, Bool, true, false, cond, get_or, List, [], ◌∷◌, ◌++◌, length, map, slice_get, Option, None, Some, refl, ap, sym, subst, ◌∙◌, arith, append_assoc}
use Rattle.std.specs.Prelude.{IsTrue, codes, nat_lt, option_and_then, unwrap_or}
use Rattle.std.specs.List.{AllByRecursion, position_or_len}
use Rattle.std.specs.Option.{option_map}
use Rattle.std.specs.Str.{bytes_eq}
use Rattle.std.proofs.lemmas.Bool.{lt-ltb}
use Rattle.std.proofs.lemmas.List.Elements.{All-append, All-cons, All-nil}
use Rattle.std.proofs.lemmas.List.Sums.{position_or_len_is}
use Rattle.std.proofs.lemmas.Option.{get_or_from_slice_get, slice_get-get_or, slice_get_within}
use Rattle.std.proofs.lemmas.Slice.Eq.{bytes_eq-Decides}
use Rattle.kat_names.specs.Names.{AllDiffer, position_of}
use Rattle.kat_tree.specs.Written.{behind_spaces}
use Rattle.kat_value.specs.declared.types.Field.{Field}
use Rattle.kat_value.specs.declared.types.Ty.{Ty}
use Rattle.kat_value.specs.declared.types.TypeDecl.{TypeDecl}
use Rattle.kat_value.specs.declared.types.TypeDecl.TheVariants.{Enum, Union, Rec}
use Rattle.kat_value.specs.declared.value.Value.{Value, roll-Value, map-Value, fold-roll-Value, ind-Value}
use Rattle.kat_value.specs.declared.value.Value.TheOpen.{Value-F, Unit as Unit', Bool as Truth, Bits, Member, Made, Rec as Rec'}
use Rattle.kat_value.specs.Typing.{has_type, ctor_at, ctors_in}
use Rattle.kat_ast.specs.Spec.{Spec}
use Rattle.kat_syntax.specs.NamedValues.{ctors_of}
use Rattle.kat_syntax.specs.States.{register_position, register_types}
use Rattle.kat_syntax.specs.Tables.{Name, register_names}
use Rattle.kat_syntax.specs.TypeTable.{types_of_decls}
use Rattle.kat_print.specs.Lists.{listed}
use Rattle.kat_print.specs.Terms.{members_of as printed_members, name_of_ctor, name_of_decl, name_of_found, name_of_member, name_of_type as printed_type}
use Rattle.kat_print.specs.Values.{text_of_layer, text_of_value}
use Rattle.kat_image.specs.declared.setting.Setting.{Setting}
use Rattle.kat_image.specs.declared.setting.Setting.TheVariants.{Register}
use Rattle.kat_image.specs.Image.{Lacks}
use Rattle.kat_image.specs.Lines.{register_setting, said_by, setting_of, value_in}
use Rattle.kat_image.specs.ReadsBack.{HasImageNames, HasPlainNames, HasTypeNames, IsPlainWord, RegisterLinesComeBack, register_text}
use Rattle.kat_image.specs.Words.{behind, word_front}
use Rattle.kat_image.proofs.NamesBack.{all_at}
use Rattle.kat_image.proofs.PlainWords.{letters_plain}
use Rattle.kat_image.proofs.ValuesBack.{values_back}
use Rattle.kat_image.proofs.WordsBack.{hex_word, words_back}

-- a test that is never passed
failed : (b : Bool) → (b ≡ true → ⊥) → b ≡ false
failed true never = absurd (never refl)
failed false never = refl

-- a name among others that differ is found at its place
found_apart : (names : List Name) (x : Name) (i : ℕ) → AllDiffer names →
    slice_get names i ≡ Some x → position_of names x ≡ Some i
found_apart names x i differ at =
    let within : i < length names = slice_get_within names i x at in
    let is : position_or_len (bytes_eq x) names ≡ i =
    position_or_len_is (bytes_eq x) names i [] (omega (arith, within))
    (λ k less. failed (bytes_eq x (get_or names k []))
    (λ e. differ k i [] less within
    (sym ((bytes_eq-Decides x (get_or names k [])).0 e)
    ∙ sym (get_or_from_slice_get names i x [] at))))
    (λ w. (bytes_eq-Decides x (get_or names i [])).1
    (sym (get_or_from_slice_get names i x [] at))) in
    ap (λ n. cond (nat_lt n (length names)) (Some n) None) is
    ∙ ap (λ b. cond b (Some i) None) (lt-ltb i (length names) within)

-- names without a newline
none_lacks : Lacks 10 []
none_lacks = All-nil (λ b. b ≢ 10)

lacks_both : (a b : List ℕ) → Lacks 10 a → Lacks 10 b → Lacks 10 (a ++ b)
lacks_both a b = All-append (λ c. c ≢ 10) a b

lacks_space : (a : List ℕ) → Lacks 10 a → Lacks 10 (32 ∷ a)
lacks_space a = All-cons (λ c. c ≢ 10) 32 a (λ e. omega (arith, e))

behind_lacks : (parts : List (List ℕ)) → AllByRecursion (Lacks 10) parts →
    Lacks 10 (behind_spaces parts)
behind_lacks [] all = none_lacks
behind_lacks (part ∷ parts) all =
    lacks_space (part ++ behind_spaces parts)
    (lacks_both part (behind_spaces parts) all.0 (behind_lacks parts all.1))

listed_lacks : (head : List ℕ) (parts : List (List ℕ)) → Lacks 10 head →
    AllByRecursion (Lacks 10) parts → Lacks 10 (listed head parts)
listed_lacks head parts first all =
    All-cons (λ c. c ≢ 10) 40 ((head ++ behind_spaces parts) ++ 41 ∷ []) (λ e. omega (arith, e))
    (lacks_both (head ++ behind_spaces parts) (41 ∷ [])
    (lacks_both head (behind_spaces parts) first (behind_lacks parts all))
    (All-cons (λ c. c ≢ 10) 41 [] (λ e. omega (arith, e)) none_lacks))

-- what may be there lacks a newline where each does that is there
maybe_lacks : (o : Option (List ℕ)) → ((x : List ℕ) → o ≡ Some x → Lacks 10 x) →
    Lacks 10 (unwrap_or o [])
maybe_lacks None each = none_lacks
maybe_lacks (Some x) each = each x refl

module _ (types : List TypeDecl) (named : HasTypeNames types) where
  -- the names of a declared type that may be there
  type_lacks : (p : ℕ) (o : Option TypeDecl) → slice_get types p ≡ o → Lacks 10 (name_of_decl o)
  type_lacks p None at = none_lacks
  type_lacks p (Some (Enum x members)) at =
      (all_at HasPlainNames types p (Enum x members) named.words at).name.one_line
  type_lacks p (Some (Union x ctors)) at =
      (all_at HasPlainNames types p (Union x ctors) named.words at).name.one_line
  type_lacks p (Some (Rec x fields)) at =
      (all_at HasPlainNames types p (Rec x fields) named.words at).name.one_line

  member_lacks : (p i : ℕ) (o : Option TypeDecl) → slice_get types p ≡ o →
      Lacks 10 (unwrap_or (slice_get (printed_members o) i) [])
  member_lacks p i None at = none_lacks
  member_lacks p i (Some (Enum x members)) at =
      let own = all_at HasPlainNames types p (Enum x members) named.words at in
      maybe_lacks (slice_get members i)
      (λ name there. (all_at IsPlainWord members i name own.members there).one_line)
  member_lacks p i (Some (Union x ctors)) at = none_lacks
  member_lacks p i (Some (Rec x fields)) at = none_lacks

  ctor_lacks : (p k : ℕ) (o : Option TypeDecl) → slice_get types p ≡ o →
      Lacks 10 (name_of_found (slice_get (ctors_in o) k))
  ctor_lacks p k None at = none_lacks
  ctor_lacks p k (Some (Enum x members)) at = none_lacks
  ctor_lacks p k (Some (Union x ctors)) at =
      parts ctors k (all_at HasPlainNames types p (Union x ctors) named.words at).ctors
    where
      parts : (ctors : List Field) (k : ℕ) →
          AllByRecursion IsPlainWord (map (λ (ctor : Field). ctor.name) ctors) →
          Lacks 10 (name_of_found (slice_get ctors k))
      parts [] k all = none_lacks
      parts (ctor ∷ ctors) zero all = all.0.one_line
      parts (ctor ∷ ctors) (suc k) all = parts ctors k all.1
  ctor_lacks p k (Some (Rec x fields)) at = none_lacks

  -- the text of a value lacks a newline
  abbrev TextLacks : Value → Type 0
  TextLacks v = Lacks 10 (text_of_value types v)

  abbrev Part : Type 0
  Part = (v : Value) × TextLacks v

  abbrev layer_text : Value-F Value → List ℕ
  layer_text layer = text_of_layer types (map-Value Value (List ℕ) (text_of_value types) layer)

  texts_lack : (parts : List Part) →
      AllByRecursion (Lacks 10) (map (text_of_value types) (map (λ (part : Part). part.0) parts))
  texts_lack [] = tt
  texts_lack (part ∷ parts) = (part.1, texts_lack parts)

  layer_lacks : (y : Value-F Part) →
      Lacks 10 (layer_text (map-Value Part Value (λ part. part.0) y))
  layer_lacks Unit' = (letters_plain (codes "unit") refl).one_line
  layer_lacks (Truth true) = (letters_plain (codes "true") refl).one_line
  layer_lacks (Truth false) = (letters_plain (codes "false") refl).one_line
  layer_lacks (Bits w n) = (hex_word ((w + 3) / 4) n).one_line
  layer_lacks (Member p i) = member_lacks p i (slice_get types p) refl
  layer_lacks (Made p k one) =
      listed_lacks (name_of_ctor types p k) (text_of_value types one.0 ∷ [])
      (ctor_lacks p k (slice_get types p) refl) (one.1, tt)
  layer_lacks (Rec' p ones) =
      listed_lacks (printed_type types p)
      (map (text_of_value types) (map (λ (part : Part). part.0) ones))
      (type_lacks p (slice_get types p) refl) (texts_lack ones)

  text_lacks : (v : Value) → TextLacks v
  text_lacks = ind-Value TextLacks (λ x y is.
      subst (Lacks 10) (sym (fold-roll-Value (List ℕ) (text_of_layer types) x))
      (subst (λ layer. Lacks 10 (layer_text layer)) is (layer_lacks y)))

module _ (spec : Spec) (names : HasImageNames spec) where
  abbrev types : List TypeDecl
  types = types_of_decls spec.decls

  -- what is read behind a register's name
  abbrev at_place : List ℕ → Option ℕ → Option Setting
  at_place text o =
      option_and_then (λ at.
      option_and_then (λ type.
      option_and_then (λ rest. option_map (Register at) (value_in types type rest)) (behind 32 text))
      (slice_get (register_types spec.decls) at)) o

  register_back : (at : ℕ) (name : Name) (type : Ty) (value : Value) →
      slice_get (register_names spec.decls) at ≡ Some name →
      slice_get (register_types spec.decls) at ≡ Some type → IsTrue (has_type types value type) →
      register_setting spec (name ++ 32 ∷ text_of_value types value) ≡ Some (Register at value)
  register_back at name type value named typed is =
      let text : List ℕ = 32 ∷ text_of_value types value in
      ap (option_and_then (λ (name : List ℕ × List ℕ).
      at_place name.1 (register_position spec.decls name.0)))
      (words_back name text
      (all_at IsPlainWord (register_names spec.decls) at name names.registers named) refl)
      ∙ ap (at_place text)
      (found_apart (register_names spec.decls) name at names.registers_differ named)
      ∙ ap (option_and_then (λ type. option_map (Register at)
      (value_in types type (text_of_value types value)))) typed
      ∙ ap (option_map (Register at)) (values_back types names.types type value is)

  -- the line in two words and a value
  line_is : (name : Name) (value : Value) → register_text types name value
      ≡ codes "reg" ++ 32 ∷ (name ++ 32 ∷ text_of_value types value)
  line_is name value =
      append_assoc (codes "reg " ++ name) (codes " ") (text_of_value types value)
      ∙ append_assoc (codes "reg ") name (32 ∷ text_of_value types value)

  line_read : (name : Name) (value : Value) →
      setting_of spec (codes "reg" ++ 32 ∷ (name ++ 32 ∷ text_of_value types value))
      ≡ register_setting spec (name ++ 32 ∷ text_of_value types value)
  line_read name value =
      ap (option_and_then (λ (keyword : List ℕ × List ℕ).
      option_and_then (said_by spec keyword.0) (behind 32 keyword.1)))
      (words_back (codes "reg") (32 ∷ (name ++ 32 ∷ text_of_value types value))
      (letters_plain (codes "reg") refl) refl)

  line_lacks : (at : ℕ) (name : Name) (value : Value) →
      slice_get (register_names spec.decls) at ≡ Some name →
      Lacks 10 (codes "reg" ++ 32 ∷ (name ++ 32 ∷ text_of_value types value))
  line_lacks at name value named =
      let plain = all_at IsPlainWord (register_names spec.decls) at name names.registers named in
      let rest : List ℕ = 32 ∷ text_of_value types value in
      lacks_both (codes "reg") (32 ∷ (name ++ rest)) (letters_plain (codes "reg") refl).one_line
      (lacks_space (name ++ rest) (lacks_both name rest plain.one_line
      (lacks_space (text_of_value types value) (text_lacks types names.types value))))

-- a register's line is read back, and is one line
pub register_lines_back : (spec : Spec) → HasImageNames spec → RegisterLinesComeBack spec
register_lines_back spec names at name type value named typed is = (
  ap (setting_of spec) (line_is spec names name value)
      ∙ line_read spec names name value
      ∙ register_back spec names at name type value named typed is,
  subst (Lacks 10) (sym (line_is spec names name value)) (line_lacks spec names at name value named),
)
