-- The types of an operation's arguments, one after another.
use Rattle.std.proofs.Common.{◌≡◌, ℕ, ◌+◌, ◌<◌, ◌≤◌, ◌&&◌, min, true, nat_le, List, [], ◌∷◌, ◌++◌, length, take, refl, sym, ap, ◌∙◌, arith, Option, Some, None}
use Rattle.std.proofs.Math.ListN.{set, length-set}
use Rattle.std.proofs.lemmas.List.{length-append, take_more_set, take_all, take-append-le}
use Rattle.kat_value.specs.declared.signature.Signature.{Signature}
use Rattle.kat_value.specs.declared.signature.Signature.TheVariants.{Slice, Cat, Extension}
use Rattle.kat_value.specs.declared.types.Ty.{Ty}
use Rattle.kat_value.specs.declared.types.Ty.TheVariants.{Bits}
use Rattle.kat_value.specs.Signatures.{fixed_behind, fixed_from, fixed_by, has_place, widths_fit}
use Rattle.kat_expr_types.specs.declared.args.ArgTypes.{ArgTypes}
use Rattle.kat_expr_types.specs.Operands.{Keeps}

-- the type that is fixed behind one argument more
fixed_more : (s : Signature) (at : ℕ) (fixed : Option Ty) (types : List (Option Ty))
    (type : Option Ty) →
    fixed_from s at fixed (types ++ type ∷ [])
    ≡ fixed_behind s (at + length types) (fixed_from s at fixed types) type
fixed_more s at fixed [] type = ap (λ n. fixed_behind s n fixed type) (omega arith)
fixed_more s at fixed (first ∷ types) type =
    let next : Option Ty = fixed_behind s at fixed first in
    fixed_more s (at + 1) next types type
    ∙ ap (λ n. fixed_behind s n (fixed_from s (at + 1) next types) type) (omega arith)

pub fixed_last : (s : Signature) (types : List (Option Ty)) (type : Option Ty) →
    fixed_by s (types ++ type ∷ []) ≡ fixed_behind s (length types) (fixed_by s types) type
fixed_last s types type =
    fixed_more s 0 None types type
    ∙ ap (λ n. fixed_behind s n (fixed_by s types) type) (omega arith)

module _ (s : Signature) (types : List (Option Ty)) (type fixed : Option Ty) (kept : ArgTypes) where
  abbrev all : List (Option Ty)
  all = types ++ type ∷ []

  fixed_is : Keeps s types kept → fixed ≡ fixed_behind s kept.count kept.fixed type → fixed
      ≡ fixed_by s all
  fixed_is keeps is =
      is ∙ ap (λ n. fixed_behind s n kept.fixed type) keeps.count
      ∙ ap (λ f. fixed_behind s (length types) f type) keeps.fixed ∙ sym (fixed_last s types type)

  -- one of the first three arguments more
  pub keeps_place : Keeps s types kept → fixed ≡ fixed_behind s kept.count kept.fixed type →
      kept.count < 3 →
      Keeps s all (record {
        count = kept.count + 1;
        first = set kept.first kept.count type;
        fixed = fixed;
      })
  keeps_place keeps is few =
      let more = length-append types (type ∷ []) in
      let n = keeps.count in
      let room = keeps.room in
      let here : kept.count < length kept.first = omega arith in
      let least : min (length all) 3 ≡ kept.count + 1 = omega (arith, more) in
      let before : min (length types) 3 ≡ kept.count = omega arith in
      let short : length types ≤ 3 = omega arith in
      let long : length all ≤ 3 = omega (arith, more) in
      record {
        count = omega (arith, more);
        room = length-set kept.first kept.count type ∙ keeps.room;
        first = ap (λ k. take k (set kept.first kept.count type)) least
            ∙ take_more_set kept.first kept.count type here
            ∙ ap (λ ts. ts ++ type ∷ []) (ap (λ k. take k kept.first) (sym before) ∙ keeps.first
            ∙ take_all 3 types short)
            ∙ sym (take_all 3 all long);
        fixed = fixed_is keeps is;
      }

  -- an argument behind the first three
  pub keeps_beyond : Keeps s types kept → fixed ≡ fixed_behind s kept.count kept.fixed type →
      3 ≤ kept.count →
      Keeps s all (record { count = kept.count + 1; first = kept.first; fixed = fixed })
  keeps_beyond keeps is many =
      let more = length-append types (type ∷ []) in
      let n = keeps.count in
      let least : min (length all) 3 ≡ min (length types) 3 = omega (arith, more) in
      let beyond : 3 ≤ length types = omega arith in
      record {
        count = omega (arith, more);
        room = keeps.room;
        first = ap (λ k. take k kept.first) least ∙ keeps.first
            ∙ sym (take-append-le 3 types (type ∷ []) beyond);
        fixed = fixed_is keeps is;
      }

-- a place is asked of one argument alone
place_many : (place : ℕ) (a b : Option Ty) (types : List (Option Ty)) →
    has_place place (a ∷ b ∷ types) ≡ true
place_many place None b types = refl
place_many place (Some (Bits w)) b types = refl
place_many place (Some _) b types = refl

cat_many : (a b c : Option Ty) (types : List (Option Ty)) → widths_fit Cat (a ∷ b ∷ c ∷ types)
    ≡ true
cat_many None b c types = refl
cat_many (Some (Bits v)) None c types = refl
cat_many (Some (Bits v)) (Some (Bits w)) c types = refl
cat_many (Some (Bits v)) (Some _) c types = refl
cat_many (Some _) b c types = refl

extension_many : (width : ℕ) (a b : Option Ty) (types : List (Option Ty)) →
    widths_fit (Extension width) (a ∷ b ∷ types) ≡ true
extension_many width None b types = refl
extension_many width (Some (Bits v)) b types = refl
extension_many width (Some _) b types = refl

widths_many : (s : Signature) (a b c : Option Ty) (types : List (Option Ty)) →
    widths_fit s (a ∷ b ∷ c ∷ []) ≡ widths_fit s (a ∷ b ∷ c ∷ types)
widths_many (Slice hi lo) a b c types =
    ap (λ p. nat_le lo hi && p) (place_many hi a b (c ∷ []) ∙ sym (place_many hi a b (c ∷ types)))
widths_many Cat a b c types = cat_many a b c [] ∙ sym (cat_many a b c types)
widths_many (Extension width) a b c types =
    extension_many width a b (c ∷ []) ∙ sym (extension_many width a b (c ∷ types))
widths_many _ a b c types = refl

-- the first three arguments tell whether the widths go together
pub widths_first : (s : Signature) (types : List (Option Ty)) → widths_fit s (take 3 types)
    ≡ widths_fit s types
widths_first s [] = refl
widths_first s (a ∷ []) = refl
widths_first s (a ∷ b ∷ []) = refl
widths_first s (a ∷ b ∷ c ∷ types) = widths_many s a b c types
