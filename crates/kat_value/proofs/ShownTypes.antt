-- The type that a value shows.
use Rattle.std.proofs.Common.{◌≡◌, ◌∙◌, ℕ, Bool, true, false, List, map, refl, ap, sym, subst}
use Rattle.std.specs.Prelude.{◌==◌}
use Rattle.std.proofs.lemmas.Bool.{and_parts, and_from, eqb-true, eq-eqb}
use Rattle.kat_value.specs.declared.types.Ty.{Ty}
use Rattle.kat_value.specs.declared.types.Ty.TheVariants as ty
use Rattle.kat_value.specs.declared.types.TypeDecl.{TypeDecl}
use Rattle.kat_value.specs.declared.value.Value.{Value, out-Value, out-roll-Value, map-Value, fold_out-Value}
use Rattle.kat_value.specs.declared.value.Value.TheVariants.{Unit as UnitValue, Bool as Truth, Bits, Made, Rec, rolls-Unit, rolls-Bool, rolls-Bits, rolls-Made, rolls-Rec}
use Rattle.kat_value.specs.declared.value.Value.TheOpen.{Value-F, Unit as UnitLayer, Bool as TruthLayer, Bits as BitsLayer, Member as MemberLayer, Made as MadeLayer, Rec as RecLayer}
use Rattle.kat_value.specs.Widths.{is_number}
use Rattle.kat_value.specs.Signatures.{same_type}
use Rattle.kat_value.specs.Typing.{HasType, has_type, layer_has_type, passes_ctor, pass_record, ctor_at, fields_at}
use Rattle.kat_value.specs.Shown.{type_of_layer, type_of_value, IsValue, ShownTypes}

-- the layers of values
pub out-Unit : out-Value UnitValue ≡ UnitLayer
out-Unit = ap out-Value (sym rolls-Unit) ∙ out-roll-Value UnitLayer

pub out-Truth : (b : Bool) → out-Value (Truth b) ≡ TruthLayer b
out-Truth b = ap out-Value (sym (rolls-Bool b)) ∙ out-roll-Value (TruthLayer b)

pub out-Bits : (w n : ℕ) → out-Value (Bits w n) ≡ BitsLayer w n
out-Bits w n = ap out-Value (sym (rolls-Bits w n)) ∙ out-roll-Value (BitsLayer w n)

pub out-Made : (t k : ℕ) (x : Value) → out-Value (Made t k x) ≡ MadeLayer t k x
out-Made t k x = ap out-Value (sym (rolls-Made t k x)) ∙ out-roll-Value (MadeLayer t k x)

pub out-Rec : (t : ℕ) (xs : List Value) → out-Value (Rec t xs) ≡ RecLayer t xs
out-Rec t xs = ap out-Value (sym (rolls-Rec t xs)) ∙ out-roll-Value (RecLayer t xs)

-- two types that are the same
pub same_self : (t : Ty) → same_type t t ≡ true
same_self ty.Unit = refl
same_self ty.Bool = refl
same_self (ty.Bits w) = eq-eqb w w refl
same_self (ty.Enum i) = eq-eqb i i refl
same_self (ty.Union i) = eq-eqb i i refl
same_self (ty.Rec i) = eq-eqb i i refl

pub same_told : (t u : Ty) → same_type t u ≡ true → t ≡ u
same_told ty.Unit ty.Unit h = refl
same_told ty.Bool ty.Bool h = refl
same_told (ty.Bits v) (ty.Bits w) h = ap ty.Bits (eqb-true v w h)
same_told (ty.Enum i) (ty.Enum j) h = ap ty.Enum (eqb-true i j h)
same_told (ty.Union i) (ty.Union j) h = ap ty.Union (eqb-true i j h)
same_told (ty.Rec i) (ty.Rec j) h = ap ty.Rec (eqb-true i j h)
same_told _ _ h = cc

-- a layer of a value with the tests of the types of its parts
abbrev pub tested : List TypeDecl → Value-F Value → Value-F (Ty → Bool)
tested types = map-Value Value (Ty → Bool) (has_type types)

pub has_type-out : (types : List TypeDecl) (x : Value) (t : Ty) → has_type types x t ≡ layer_has_type types (tested types (out-Value x)) t
has_type-out types x t = ap (λ (test : Ty → Bool). test t) (fold_out-Value (Ty → Bool) (layer_has_type types) x)

-- a layer is of the type that it shows, or of none
layer_shows : (types : List TypeDecl) (y : Value-F Value) (t : Ty) → layer_has_type types (tested types y) t ≡ true → type_of_layer y ≡ t
layer_shows types UnitLayer ty.Unit h = refl
layer_shows types (TruthLayer b) ty.Bool h = refl
layer_shows types (BitsLayer w n) (ty.Bits v) h = ap ty.Bits (eqb-true w v (and_parts (w == v) (is_number w n) h).0)
layer_shows types (MemberLayer of index) (ty.Enum u) h = ap ty.Enum (eqb-true of u (and_parts _ _ h).0)
layer_shows types (MadeLayer of ctor x) (ty.Union u) h = ap ty.Union (eqb-true of u (and_parts _ _ h).0)
layer_shows types (RecLayer of xs) (ty.Rec u) h = ap ty.Rec (eqb-true of u (and_parts _ _ h).0)
layer_shows types _ _ h = cc

pub shows : (types : List TypeDecl) (t : Ty) (x : Value) → HasType types t x → type_of_value x ≡ t
shows types t x has = layer_shows types (out-Value x) t (sym (has_type-out types x t) ∙ has)

-- a value of a type is of the type that it shows
pub is_value : (types : List TypeDecl) (t : Ty) (x : Value) → HasType types t x → IsValue types x
is_value types t x has = subst (λ u. has_type types x u ≡ true) (sym (shows types t x has)) has

pub value_by_layer : (types : List TypeDecl) (x : Value) → layer_has_type types (tested types (out-Value x)) (type_of_layer (out-Value x)) ≡ true → IsValue types x
value_by_layer types x h = has_type-out types x (type_of_value x) ∙ h

pub value_at_layer : (types : List TypeDecl) (x : Value) (y : Value-F Value) → out-Value x ≡ y → layer_has_type types (tested types y) (type_of_layer y) ≡ true → IsValue types x
value_at_layer types x y is h = value_by_layer types x (subst (λ z. layer_has_type types (tested types z) (type_of_layer z) ≡ true) (sym is) h)

-- of such a value the test of a type is that of the type it shows
pub test_is : (types : List TypeDecl) (x : Value) → IsValue types x → (t : Ty) → has_type types x t ≡ same_type (type_of_value x) t
test_is types x is t = by (has_type types x t) (same_type (type_of_value x) t) refl refl where
  by : (a b : Bool) → has_type types x t ≡ a → same_type (type_of_value x) t ≡ b → a ≡ b
  by true true h k = refl
  by false false h k = refl
  by true false h k = let e : type_of_value x ≡ t = shows types t x h in sym (same_self t) ∙ ap (λ u. same_type u t) (sym e) ∙ k
  by false true h k = let e : type_of_value x ≡ t = same_told (type_of_value x) t k in sym h ∙ ap (has_type types x) (sym e) ∙ is

-- what the values of truths and numbers show
pub truth_is_value : (types : List TypeDecl) (b : Bool) → IsValue types (Truth b)
truth_is_value types b = value_at_layer types (Truth b) (TruthLayer b) (out-Truth b) refl

pub bits_are_value : (types : List TypeDecl) (w n : ℕ) → is_number w n ≡ true → IsValue types (Bits w n)
bits_are_value types w n is = value_at_layer types (Bits w n) (BitsLayer w n) (out-Bits w n) (and_from (w == w) (is_number w n) (eq-eqb w w refl) is)

pub shown-Truth : (b : Bool) → type_of_value (Truth b) ≡ ty.Bool
shown-Truth b = ap type_of_layer (out-Truth b)

pub shown-Bits : (w n : ℕ) → type_of_value (Bits w n) ≡ ty.Bits w
shown-Bits w n = ap type_of_layer (out-Bits w n)

pub shown-Made : (t k : ℕ) (x : Value) → type_of_value (Made t k x) ≡ ty.Union t
shown-Made t k x = ap type_of_layer (out-Made t k x)

pub shown-Rec : (t : ℕ) (xs : List Value) → type_of_value (Rec t xs) ≡ ty.Rec t
shown-Rec t xs = ap type_of_layer (out-Rec t xs)

-- a constructor on a payload of its type, and a record of fields of theirs, are values
pub made_is_value : (types : List TypeDecl) (t k : ℕ) (x : Value) → passes_ctor (has_type types x) (ctor_at types t k) ≡ true → IsValue types (Made t k x)
made_is_value types t k x h =
    value_at_layer types (Made t k x) (MadeLayer t k x) (out-Made t k x) (and_from (t == t) (passes_ctor (has_type types x) (ctor_at types t k)) (eq-eqb t t refl) h)

pub rec_is_value : (types : List TypeDecl) (t : ℕ) (xs : List Value) → pass_record (map (has_type types) xs) (fields_at types t) ≡ true → IsValue types (Rec t xs)
rec_is_value types t xs h =
    value_at_layer types (Rec t xs) (RecLayer t xs) (out-Rec t xs) (and_from (t == t) (pass_record (map (has_type types) xs) (fields_at types t)) (eq-eqb t t refl) h)

pub shown_types : ShownTypes
shown_types = record { same = same_self; told = same_told; test = test_is; value = is_value; shows = shows }
