-- The first value of each type is of that type.
use Rattle.std.proofs.Common.{◌≡◌, ℕ, zero, suc, ◌+◌, ◌<◌, ◌&&◌, ◌^◌, eqb, Bool, true, false, if◌then◌else◌, List, [], ◌∷◌, ◌++◌, length, map, Option, Some, None, inl, inr, refl, sym, ap, subst, ◌∙◌, arith, append_assoc, length-append}
use Rattle.std.specs.Prelude.{nat_lt, option_and_then, slice_get}
use Rattle.std.specs.Option.{option_map, option_flatten}
use Rattle.std.specs.List.{AllByRecursion}
use Rattle.std.proofs.lemmas.Bool.{and_parts, and_from, eq-eqb, ltb-true, lt-ltb, false≢true, cases_lt}
use Rattle.std.proofs.lemmas.List.{append-nil}
use Rattle.std.proofs.lemmas.Nat.{pow_pos}
use Rattle.kat_value.specs.declared.types.Field.{Field}
use Rattle.kat_value.specs.declared.types.Ty.{Ty}
use Rattle.kat_value.specs.declared.types.Ty.TheVariants as ty
use Rattle.kat_value.specs.declared.types.TypeDecl.{TypeDecl}
use Rattle.kat_value.specs.declared.types.TypeDecl.TheVariants as type
use Rattle.kat_value.specs.declared.value.Value.{Value, fold-roll-Value}
use Rattle.kat_value.specs.declared.value.Value.TheVariants.{Unit as UnitValue, Bool as Truth, Bits as Number, Member, Made, Rec, rolls-Unit, rolls-Bool, rolls-Bits, rolls-Member, rolls-Made, rolls-Rec}
use Rattle.kat_value.specs.declared.value.Value.TheOpen.{Unit as UnitLayer, Bool as TruthLayer, Bits as NumberLayer, Member as MemberLayer, Made as MadeLayer, Rec as RecLayer}
use Rattle.kat_value.specs.Making.{all_there}
use Rattle.kat_value.specs.Typing.{has_type, all_pass, layer_has_type, member_count, ctor_at, fields_at, passes_ctor, pass_record, members_in, ctors_in, fields_in}
use Rattle.kat_value.specs.Widths.{is_number, is_width}
use Rattle.kat_syntax.specs.FirstValues.{first_by, first_of_decl, firsts_with}
use Rattle.kat_syntax.specs.TypeTable.{is_enum, is_union, is_record, may_stand_in, parts_of_type}

-- the values of each type
unit_has_type : (types : List TypeDecl) → has_type types UnitValue ty.Unit ≡ true
unit_has_type types =
    ap (λ (v : Value). has_type types v ty.Unit) (sym rolls-Unit)
    ∙ ap (λ (test : Ty → Bool). test ty.Unit) (fold-roll-Value (Ty → Bool) (layer_has_type types)
    UnitLayer)

truth_has_type : (types : List TypeDecl) (b : Bool) → has_type types (Truth b) ty.Bool ≡ true
truth_has_type types b =
    ap (λ (v : Value). has_type types v ty.Bool) (sym (rolls-Bool b))
    ∙ ap (λ (test : Ty → Bool). test ty.Bool) (fold-roll-Value (Ty → Bool) (layer_has_type types)
    (TruthLayer b))

pub number_has_type : (types : List TypeDecl) (w n : ℕ) → is_number w n ≡ true → has_type types
    (Number w n) (ty.Bits w) ≡ true
number_has_type types w n number =
    ap (λ (v : Value). has_type types v (ty.Bits w)) (sym (rolls-Bits w n))
    ∙ ap (λ (test : Ty → Bool). test (ty.Bits w)) (fold-roll-Value (Ty → Bool)
    (layer_has_type types) (NumberLayer w n))
    ∙ and_from (eqb w w) (is_number w n) (eq-eqb w w refl) number

member_has_type : (types : List TypeDecl) (p i : ℕ) → nat_lt i (member_count types p) ≡ true →
    has_type types (Member p i) (ty.Enum p) ≡ true
member_has_type types p i within =
    ap (λ (v : Value). has_type types v (ty.Enum p)) (sym (rolls-Member p i))
    ∙ ap (λ (test : Ty → Bool). test (ty.Enum p)) (fold-roll-Value (Ty → Bool)
    (layer_has_type types) (MemberLayer p i))
    ∙ and_from (eqb p p) (nat_lt i (member_count types p)) (eq-eqb p p refl) within

made_has_type : (types : List TypeDecl) (p c : ℕ) (w : Value) → passes_ctor (has_type types w)
    (ctor_at types p c) ≡ true → has_type types (Made p c w) (ty.Union p) ≡ true
made_has_type types p c w passes =
    ap (λ (v : Value). has_type types v (ty.Union p)) (sym (rolls-Made p c w))
    ∙ ap (λ (test : Ty → Bool). test (ty.Union p))
    (fold-roll-Value (Ty → Bool) (layer_has_type types) (MadeLayer p c w))
    ∙ and_from (eqb p p) (passes_ctor (has_type types w) (ctor_at types p c)) (eq-eqb p p refl)
    passes

rec_has_type : (types : List TypeDecl) (p : ℕ) (ws : List Value) →
    pass_record (map (has_type types) ws) (fields_at types p) ≡ true → has_type types (Rec p ws)
    (ty.Rec p) ≡ true
rec_has_type types p ws passes =
    ap (λ (v : Value). has_type types v (ty.Rec p)) (sym (rolls-Rec p ws))
    ∙ ap (λ (test : Ty → Bool). test (ty.Rec p)) (fold-roll-Value (Ty → Bool) (layer_has_type types)
    (RecLayer p ws))
    ∙ and_from (eqb p p) (pass_record (map (has_type types) ws) (fields_at types p))
    (eq-eqb p p refl) passes

-- a width has the number 0
pub zero_is_number : (w : ℕ) → is_width w ≡ true → is_number w 0 ≡ true
zero_is_number w wide =
    let some : 0 < 2 ^ w = pow_pos w in
    and_from (is_width w) (nat_lt 0 (2 ^ w)) wide (lt-ltb 0 (2 ^ w) some)

-- a type has a first value, which is of it
pub record HasFirst (types : List TypeDecl) (firsts : List (Option Value)) (t : Ty) : Type 0 where
  pub value : Value
  pub first : first_by firsts t ≡ Some value
  pub typed : has_type types value t ≡ true

-- each type that may stand in the type at a position has one
abbrev pub AreFirsts : List TypeDecl → ℕ → List (Option Value) → Type 0
AreFirsts types p firsts = (t : Ty) → may_stand_in types p t ≡ true → HasFirst types firsts t

-- the types of values that are not declared
bits_first : (types : List TypeDecl) (firsts : List (Option Value)) (w : ℕ) → is_width w ≡ true →
    HasFirst types firsts (ty.Bits w)
bits_first types firsts w wide = record {
  value = Number w 0;
  first = ap (λ b. if b then Some (Number w 0) else None) wide;
  typed = number_has_type types w 0 (zero_is_number w wide);
}

-- the type that a declared type at a position is
abbrev pub type_at : ℕ → TypeDecl → Ty
type_at p (type.Enum x members) = ty.Enum p
type_at p (type.Union x ctors) = ty.Union p
type_at p (type.Rec x fields) = ty.Rec p

-- an enum has a member, and a union a constructor
abbrev pub HasPart : TypeDecl → Type 0
HasPart (type.Enum x []) = ⊥
HasPart (type.Enum x (member ∷ members)) = Unit {0}
HasPart (type.Union x []) = ⊥
HasPart (type.Union x (ctor ∷ ctors)) = Unit {0}
HasPart (type.Rec x fields) = Unit {0}

-- the first value of a declared type, by those of the types before
pub record HasOwnFirst (types : List TypeDecl) (p : ℕ) (firsts : List (Option Value))
    (one : TypeDecl) : Type 0 where
  pub value : Value
  pub first : first_of_decl p firsts one ≡ Some value
  pub typed : has_type types value (type_at p one) ≡ true

-- the parts of a declared type may stand in it
abbrev pub PartsStand : List TypeDecl → ℕ → List Field → Type 0
PartsStand types p parts = AllByRecursion (λ (part : Field). may_stand_in types p part.ty ≡ true)
    parts

-- the first values of fields
pub record HasFields (types : List TypeDecl) (firsts : List (Option Value)) (fields : List Field) :
    Type 0 where
  pub values : List Value
  pub there : all_there (map (λ (field : Field). first_by firsts field.ty) fields) ≡ Some values
  pub pass : all_pass (map (has_type types) values) fields ≡ true

fields_first : (types : List TypeDecl) (p : ℕ) (firsts : List (Option Value)) → AreFirsts types p
    firsts → (fields : List Field) → PartsStand types p fields → HasFields types firsts fields
fields_first types p firsts are [] stand = record { values = []; there = refl; pass = refl }
fields_first types p firsts are (field ∷ fields) stand =
    let one = are field.ty stand.0 in
    let more = fields_first types p firsts are fields stand.1 in
    let rest : Option (List Value) = all_there (map (λ (f : Field). first_by firsts f.ty) fields) in
    record {
      values = one.value ∷ more.values;
      there = ap (λ (o : Option Value). option_and_then (λ x. option_map (λ xs. x ∷ xs) rest) o)
          one.first
          ∙ ap (λ (o : Option (List Value)). option_map (λ xs. one.value ∷ xs) o) more.there;
      pass = and_from (has_type types one.value field.ty)
          (all_pass (map (has_type types) more.values) fields) one.typed more.pass;
    }

own_first : (types : List TypeDecl) (p : ℕ) (firsts : List (Option Value)) (one : TypeDecl) →
    AreFirsts types p firsts → slice_get types p ≡ Some one → HasPart one →
    PartsStand types p (parts_of_type one) → HasOwnFirst types p firsts one
own_first types p firsts (type.Enum x []) are at part stand = absurd part
own_first types p firsts (type.Enum x (member ∷ members)) are at part stand =
    let some : nat_lt 0 (length (member ∷ members)) ≡ true = lt-ltb 0 (length (member ∷ members))
    (omega arith) in
    record {
      value = Member p 0;
      first = refl;
      typed = member_has_type types p 0 (ap (λ (o : Option TypeDecl). nat_lt 0 (members_in o)) at ∙
          some);
    }
own_first types p firsts (type.Union x []) are at part stand = absurd part
own_first types p firsts (type.Union x (ctor ∷ ctors)) are at part stand =
    let one = are ctor.ty stand.0 in
    record {
      value = Made p 0 one.value;
      first = ap (option_map (Made p 0)) one.first;
      typed = made_has_type types p 0 one.value
          (ap (λ (o : Option TypeDecl). passes_ctor (has_type types one.value)
          (slice_get (ctors_in o) 0)) at ∙ one.typed);
    }
own_first types p firsts (type.Rec x fields) are at part stand =
    let all = fields_first types p firsts are fields stand in
    record {
      value = Rec p all.values;
      first = ap (option_map (Rec p)) all.there;
      typed = rec_has_type types p all.values
          (ap (λ (o : Option TypeDecl). pass_record (map (has_type types) all.values) (fields_in o))
          at ∙ all.pass);
    }

-- a place of a list with one more item
get_front : {X : Type 0} → (xs ys : List X) (i : ℕ) → i < length xs → slice_get (xs ++ ys) i ≡
    slice_get xs i
get_front [] ys i less = absurd (omega arith)
get_front (x ∷ xs) ys zero less = refl
get_front (x ∷ xs) ys (suc i) less = get_front xs ys i (omega arith)

pub get_last : {X : Type 0} → (xs : List X) (x : X) (ys : List X) → slice_get (xs ++ x ∷ ys)
    (length xs) ≡ Some x
get_last [] x ys = refl
get_last (y ∷ xs) x ys = get_last xs x ys

-- one more declared type, which has this first value
module _ (types : List TypeDecl) (p : ℕ) (firsts : List (Option Value)) (one : TypeDecl)
    (are : AreFirsts types p firsts) (long : length firsts ≡ p)
    (at : slice_get types p ≡ Some one) (own : HasOwnFirst types p firsts one) where
  abbrev longer : List (Option Value)
  longer = firsts ++ Some own.value ∷ []

  next_by : (make : ℕ → Ty) (is_kind : Option TypeDecl → Bool) →
      ((all : List (Option Value)) (q : ℕ) → first_by all (make q) ≡ option_flatten
      (slice_get all q)) →
      (is_kind (Some one) ≡ true → type_at p one ≡ make p) →
      ((q : ℕ) → (nat_lt q p && is_kind (slice_get types q)) ≡ true → HasFirst types firsts
      (make q)) →
      (q : ℕ) → (nat_lt q (p + 1) && is_kind (slice_get types q)) ≡ true → HasFirst types longer
      (make q)
  next_by make is_kind by_position is old q stands =
      let parts = and_parts (nat_lt q (p + 1)) (is_kind (slice_get types q)) stands in
      let within : q < p + 1 = ltb-true q (p + 1) parts.0 in
      elim (cases_lt q p) [
        | inl less ↦
            let before = old q (and_from (nat_lt q p) (is_kind (slice_get types q))
            (lt-ltb q p less) parts.1) in
            record {
              value = before.value;
              first = by_position longer q ∙ ap option_flatten
                  (get_front firsts (Some own.value ∷ []) q (omega (arith, long)))
                  ∙ sym (by_position firsts q) ∙ before.first;
              typed = before.typed;
            }
        | inr more ↦
            let here : q ≡ p = omega (arith, within) in
            let kind : is_kind (Some one) ≡ true = ap is_kind (sym at) ∙ ap
            (λ i. is_kind (slice_get types i)) (sym here) ∙ parts.1 in
            record {
              value = own.value;
              first = by_position longer q ∙ ap (λ i. option_flatten (slice_get longer i))
                  (here ∙ sym long)
                  ∙ ap option_flatten (get_last firsts (Some own.value) []);
              typed = subst (λ i. has_type types own.value (make i) ≡ true) (sym here)
                  (subst (λ t. has_type types own.value t ≡ true) (is kind) own.typed);
            }
      ]

  enum_is : (declared : TypeDecl) → is_enum (Some declared) ≡ true → type_at p declared ≡ ty.Enum p
  enum_is (type.Enum x members) e = refl
  enum_is (type.Union x ctors) e = absurd (false≢true e)
  enum_is (type.Rec x fields) e = absurd (false≢true e)

  union_is : (declared : TypeDecl) → is_union (Some declared) ≡ true → type_at p declared ≡ ty.Union
      p
  union_is (type.Enum x members) e = absurd (false≢true e)
  union_is (type.Union x ctors) e = refl
  union_is (type.Rec x fields) e = absurd (false≢true e)

  record_is : (declared : TypeDecl) → is_record (Some declared) ≡ true → type_at p declared ≡ ty.Rec
      p
  record_is (type.Enum x members) e = absurd (false≢true e)
  record_is (type.Union x ctors) e = absurd (false≢true e)
  record_is (type.Rec x fields) e = refl

  next_firsts : AreFirsts types (p + 1) longer
  next_firsts ty.Unit stands = record {
    value = UnitValue;
    first = refl;
    typed = unit_has_type types;
  }
  next_firsts ty.Bool stands = record {
    value = Truth false;
    first = refl;
    typed = truth_has_type
        types false;
  }
  next_firsts (ty.Bits w) stands = bits_first types longer w stands
  next_firsts (ty.Enum q) stands = next_by ty.Enum is_enum (λ all i. refl) (enum_is one)
      (λ i h. are (ty.Enum i) h) q stands
  next_firsts (ty.Union q) stands = next_by ty.Union is_union (λ all i. refl) (union_is one)
      (λ i h. are (ty.Union i) h) q stands
  next_firsts (ty.Rec q) stands = next_by ty.Rec is_record (λ all i. refl) (record_is one)
      (λ i h. are (ty.Rec i) h) q stands

-- what is known of each declared type
abbrev pub ArePlain : List TypeDecl → Type 0
ArePlain types = (p : ℕ) (one : TypeDecl) → slice_get types p ≡ Some one → HasPart one ×
    PartsStand types p (parts_of_type one)

all_firsts : (types : List TypeDecl) → ArePlain types → (rest before : List TypeDecl)
    (firsts : List (Option Value)) → before ++ rest ≡ types → length before ≡ length firsts →
    AreFirsts types (length firsts) firsts → AreFirsts types (length types)
    (firsts_with firsts rest)
all_firsts types plain [] before firsts whole long are =
    let same : length firsts ≡ length types = sym long ∙ ap length (sym (append-nil before) ∙ whole)
    in
    subst (λ n. AreFirsts types n firsts) same are
all_firsts types plain (one ∷ rest) before firsts whole long are =
    let p = length firsts in
    let at : slice_get types p ≡ Some one =
    ap (slice_get types) (sym long) ∙ ap (λ (ts : List TypeDecl). slice_get ts (length before))
    (sym whole) ∙ get_last before one rest in
    let known = plain p one at in
    let own = own_first types p firsts one are at known.0 known.1 in
    let next : AreFirsts types (p + 1) (firsts ++ Some own.value ∷ []) = next_firsts types p firsts
    one are refl at own in
    let now : AreFirsts types (p + 1) (firsts ++ first_of_decl p firsts one ∷ []) =
    subst (λ (o : Option Value). AreFirsts types (p + 1) (firsts ++ o ∷ [])) (sym own.first) next in
    let count : p + 1 ≡ length (firsts ++ first_of_decl p firsts one ∷ []) =
    sym (length-append firsts (first_of_decl p firsts one ∷ [])) in
    all_firsts types plain rest (before ++ one ∷ []) (firsts ++ first_of_decl p firsts one ∷ [])
    (append_assoc before (one ∷ []) rest ∙ whole)
    (length-append before (one ∷ []) ∙ ap (λ n. n + 1) long ∙ count)
    (subst (λ n. AreFirsts types n (firsts ++ first_of_decl p firsts one ∷ [])) count now)

-- before any type is declared
no_firsts : (types : List TypeDecl) → AreFirsts types 0 []
no_firsts types ty.Unit stands = record {
  value = UnitValue;
  first = refl;
  typed = unit_has_type
      types;
}
no_firsts types ty.Bool stands = record {
  value = Truth false;
  first = refl;
  typed = truth_has_type
      types false;
}
no_firsts types (ty.Bits w) stands = bits_first types [] w stands
no_firsts types (ty.Enum q) stands = absurd (let less = ltb-true q 0 (and_parts _ _ stands).0 in
    omega (arith, less))
no_firsts types (ty.Union q) stands = absurd (let less = ltb-true q 0 (and_parts _ _ stands).0 in
    omega (arith, less))
no_firsts types (ty.Rec q) stands = absurd (let less = ltb-true q 0 (and_parts _ _ stands).0 in
    omega (arith, less))

-- each type that may be named behind all declared types has a first value
pub types_have_firsts : (types : List TypeDecl) → ArePlain types → AreFirsts types (length types)
    (firsts_with [] types)
types_have_firsts types plain = all_firsts types plain types [] [] refl refl (no_firsts types)
