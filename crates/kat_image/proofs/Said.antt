-- What the places and values of a setting are.
use Rattle.std.proofs.Common.{◌≡◌, ℕ, zero, suc, ◌+◌, ◌-◌, ◌&&◌, Bool, true, false, if◌then◌else◌, List, [], ◌∷◌, length, take, drop, Option, None, Some, refl, ap, ◌∙◌, subst, arith}
use Rattle.std.specs.Prelude.{codes, nat_le, nat_lt, option_and_then, slice_get, unwrap_or, IsTrue}
use Rattle.std.specs.List.{AllByRecursion}
use Rattle.std.specs.Option.{option_map}
use Rattle.std.specs.Str.{bytes_eq}
use Rattle.std.proofs.lemmas.Bool.{and_parts, leb-true}
use Rattle.hex.specs.Hex.{decode_of}
use Rattle.kat_value.specs.declared.types.Ty.{Ty}
use Rattle.kat_value.specs.declared.types.TypeDecl.{TypeDecl}
use Rattle.kat_value.specs.declared.value.Value.{Value}
use Rattle.kat_value.specs.Typing.{has_type}
use Rattle.kat_value.specs.Widths.{is_number, is_width}
use Rattle.kat_ast.specs.Spec.{Spec}
use Rattle.kat_syntax.specs.Memories.{Memory}
use Rattle.kat_syntax.specs.States.{register_position, register_types, cell_count, cell_width, memory_of}
use Rattle.kat_syntax.specs.TypeTable.{types_of_decls}
use Rattle.kat_image.specs.declared.setting.Setting.{Setting}
use Rattle.kat_image.specs.declared.setting.Setting.TheVariants.{Register, Cells}
use Rattle.kat_image.specs.Words.{behind, index_of, word_front}
use Rattle.kat_image.specs.ValueText.{value_front}
use Rattle.kat_image.specs.Lines.{value_in, whole_value, cell_in, cells_in, size_of_cell, bytes_behind, decoded, numbers_in, placed_in, placed, register_setting, cells_setting, said_by, setting_of, SetsPlaces}

nothing : {A P : Type 0} → (x : A) → ◌≡◌ {A = Option A} None (Some x) → P
nothing x e = absurd (cc)

-- where one reading behind another gives something, both do
pub both_give : {A B P : Type 0} → (f : A → Option B) (o : Option A) (b : B) →
    option_and_then f o ≡ Some b → ((a : A) → o ≡ Some a → f a ≡ Some b → P) → P
both_give f None b e then_it = nothing b e
both_give f (Some a) b e then_it = then_it a refl e

pub maps_to : {A B P : Type 0} → (f : A → B) (o : Option A) (b : B) → option_map f o ≡ Some b →
    ((a : A) → o ≡ Some a → f a ≡ b → P) → P
maps_to f None b e then_it = nothing b e
maps_to f (Some a) b e then_it = let same : f a ≡ b = cc in then_it a refl same

pub chosen : {A : Type 0} → (b : Bool) (x y : A) → (if b then Some x else None) ≡ Some y →
    (b ≡ true) × (x ≡ y)
chosen true x y e = (refl, cc)
chosen false x y e = nothing y e

-- a value that was read is of its type
whole_typed : (types : List TypeDecl) (type : Ty) (read : Value × List ℕ) (v : Value) →
    (a b : Bool) → has_type types read.0 type ≡ b →
    (if a then None else if b then Some read.0 else None) ≡ Some v → has_type types v type ≡ true
whole_typed types type read v true b is e = nothing v e
whole_typed types type read v false b is e =
    let h = chosen b read.0 v e in
    subst (λ x. has_type types x type ≡ true) h.1 (is ∙ h.0)

value_typed : (types : List TypeDecl) (type : Ty) (text : List ℕ) (v : Value) →
    value_in types type text ≡ Some v → has_type types v type ≡ true
value_typed types type text v e =
    both_give (whole_value types type) (value_front (length types + 1) types type text) v e
    (λ read _ f.
    whole_typed types type read v (nat_lt 0 (length read.1)) (has_type types read.0 type) refl f)

module _ (spec : Spec) where
  of_register : (text : List ℕ) (s : Setting) → register_setting spec text ≡ Some s →
      SetsPlaces spec s
  of_register text s e =
      both_give _ (word_front text) s e (λ name _ e1.
      both_give _ (register_position spec.decls name.0) s e1 (λ at _ e2.
      both_give _ (slice_get (register_types spec.decls) at) s e2 (λ type there e3.
      both_give _ (behind 32 name.1) s e3 (λ rest _ e4.
      maps_to (Register at) (value_in (types_of_decls spec.decls) type rest) s e4 (λ v read is.
      subst (SetsPlaces spec) is (record {
        type = type;
        there = there;
        typed = value_typed (types_of_decls spec.decls) type rest v read;
      }))))))

-- numbers that were read fit
cell_fits : (width n : ℕ) (bytes : List ℕ) → cell_in width bytes ≡ Some n →
    is_number width n ≡ true
cell_fits width n bytes e =
    let number = bytes_behind 0 (take (size_of_cell width) bytes) in
    let h = chosen (nat_le (size_of_cell width) (length bytes) && is_number width number) number n
    e in
    subst (λ k. is_number width k ≡ true) h.1
    (and_parts (nat_le (size_of_cell width) (length bytes)) (is_number width number) h.0).1

cells_fit : (width left : ℕ) (bytes numbers : List ℕ) → cells_in width left bytes ≡ Some numbers →
    AllByRecursion (λ n. IsTrue (is_number width n)) numbers
cells_fit width left [] numbers e =
    let none : [] ≡ numbers = cc in
    subst (AllByRecursion (λ n. IsTrue (is_number width n))) none tt
cells_fit width zero (b ∷ bytes) numbers e = nothing numbers e
cells_fit width (suc left) (b ∷ bytes) numbers e =
    both_give _ (cell_in width (b ∷ bytes)) numbers e (λ n cell f.
    maps_to (λ more. n ∷ more) (cells_in width left (drop (size_of_cell width) (b ∷ bytes))) numbers
    f (λ more rest is.
    subst (AllByRecursion (λ n. IsTrue (is_number width n))) is (
      cell_fits width n (b ∷ bytes) cell,
      cells_fit width left (drop (size_of_cell width) (b ∷ bytes)) more rest,
    )))

numbers_fit : (width : ℕ) (bytes numbers : List ℕ) → numbers_in width bytes ≡ Some numbers →
    AllByRecursion (λ n. IsTrue (is_number width n)) numbers
numbers_fit width bytes numbers e = by (is_width width && nat_lt 0 (length bytes)) e
  where
    by : (b : Bool) → (if b then cells_in width (length bytes) bytes else None) ≡ Some numbers →
        AllByRecursion (λ n. IsTrue (is_number width n)) numbers
    by true f = cells_fit width (length bytes) bytes numbers f
    by false f = nothing numbers f

module _ (spec : Spec) where
  memory_count : (memory : Memory) → memory_of spec.decls ≡ Some memory →
      cell_count spec.decls ≡ memory.hi - memory.lo
  memory_count memory e =
      ap (λ o. unwrap_or (option_map (λ (m : Memory). m.hi - m.lo) o) 0) e

  of_cells : (text : List ℕ) (s : Setting) → cells_setting spec text ≡ Some s → SetsPlaces spec s
  of_cells text s e =
      both_give _ (word_front text) s e (λ word _ e1.
      both_give _ (index_of word.0) s e1 (λ index _ e2.
      both_give _ (behind 32 word.1) s e2 (λ hex _ e3.
      both_give (placed spec index) _ s e3 (λ numbers e4 e5.
      both_give (numbers_in (cell_width spec.decls)) (decoded (decode_of hex)) numbers e4
      (λ bytes _ e6.
      both_give (placed_in numbers index) (memory_of spec.decls) s e5 (λ memory there e7.
      let low = nat_le memory.lo index in
      let high = nat_le (index + length numbers) memory.hi in
      let h = chosen (low && high) (Cells (index - memory.lo) numbers) s e7 in
      let parts = and_parts low high h.0 in
      let lo = leb-true memory.lo index parts.0 in
      let hi = leb-true (index + length numbers) memory.hi parts.1 in
      subst (SetsPlaces spec) h.1 (record {
        within = omega (arith, lo, hi, memory_count memory there);
        fitting = numbers_fit (cell_width spec.decls) bytes numbers e6;
      })))))))

  by_word : (reg cells : Bool) (text : List ℕ) (s : Setting) →
      (if reg then register_setting spec text else if cells then cells_setting spec text else None)
      ≡ Some s → SetsPlaces spec s
  by_word true cells text s e = of_register spec text s e
  by_word false true text s e = of_cells text s e
  by_word false false text s e = nothing s e

  -- what a line sets are places of the machine
  pub sets_places : (line : List ℕ) (s : Setting) → setting_of spec line ≡ Some s →
      SetsPlaces spec s
  sets_places line s e =
      both_give _ (word_front line) s e (λ keyword _ e1.
      both_give (said_by spec keyword.0) (behind 32 keyword.1) s e1 (λ rest _ e2.
      by_word (bytes_eq keyword.0 (codes "reg")) (bytes_eq keyword.0 (codes "cells")) rest s e2))
