-- What names in a list tell: the words of a list tell their positions.
use Rattle.std.proofs.Common.{◌≡◌, ℕ, zero, suc, ◌<◌, List, [], ◌∷◌, ◌++◌, length, Option, Some, None, inl, inr, refl, sym, subst, ◌∙◌, arith}
use Rattle.std.specs.Prelude.{slice_get, slice_index_or, unwrap_or}
use Rattle.std.specs.List.{All, AllByRecursion}
use Rattle.std.proofs.lemmas.Bool.{cases_lt}
use Rattle.kat_value.specs.declared.types.Field.{Field}
use Rattle.kat_value.specs.declared.types.TypeDecl.{TypeDecl}
use Rattle.kat_names.specs.Names.{AllDiffer}
use Rattle.kat_syntax.specs.Tables.{Name}
use Rattle.kat_print.specs.Terms.{name_of_found}
use Rattle.kat_laws.specs.TextLaw.{AreNames, IsWord, HasValueNames, names_of_parts}
use Rattle.kat_laws.proofs.TextNumbers.{Stops, word_told}

-- the name at a position
abbrev pub name_in : List Name → ℕ → Name
name_in names i = unwrap_or (slice_get names i) []

name_or : (names : List Name) (i : ℕ) (d : Name) → i < length names →
    name_in names i ≡ slice_index_or names i d
name_or [] i d less = absurd (omega arith)
name_or (name ∷ names) zero d less = refl
name_or (name ∷ names) (suc i) d less = name_or names i d (omega arith)

word_in : (names : List Name) (i : ℕ) → All IsWord names → i < length names →
    IsWord (name_in names i)
word_in names i words less = subst IsWord (sym (name_or names i [] less)) (words i [] less)

-- one name stands at one position
position_told : (names : List Name) (i j : ℕ) → AllDiffer names → i < length names →
    j < length names → name_in names i ≡ name_in names j → i ≡ j
position_told names i j differ p q e =
    let same : slice_index_or names i [] ≡ slice_index_or names j [] =
    sym (name_or names i [] p) ∙ e ∙ name_or names j [] q in
    elim (cases_lt i j) [
      | inl less ↦ absurd (differ i j [] less q same)
      | inr other ↦ elim (cases_lt j i) [
        | inl less ↦ absurd (differ j i [] less p (sym same))
        | inr more ↦ omega (arith, other, more)
      ]
    ]

-- the name at a position of a list tells the position
pub names_told : (names : List Name) → AreNames names → (i j : ℕ) (r s : List ℕ) →
    i < length names → j < length names → Stops r → Stops s →
    name_in names i ++ r ≡ name_in names j ++ s → (i ≡ j) × (r ≡ s)
names_told names are i j r s p q f g e =
    let parts = word_told (name_in names i) (name_in names j) r s (word_in names i are.words p)
    (word_in names j are.words q) f g e in
    (position_told names i j are.distinct p q parts.0, parts.1)

-- a declared type that is there has names that tell its values
abbrev pub IsNamed : Option TypeDecl → Type 0
IsNamed None = Unit {0}
IsNamed (Some one) = HasValueNames one

pub named_at : (types : List TypeDecl) (k : ℕ) → AllByRecursion HasValueNames types →
    IsNamed (slice_get types k)
named_at [] k are = tt
named_at (one ∷ types) zero are = are.0
named_at (one ∷ types) (suc k) are = named_at types k are.1

-- the name of a part that is found
pub part_name : (parts : List Field) (k : ℕ) →
    name_of_found (slice_get parts k) ≡ name_in (names_of_parts parts) k
part_name [] k = refl
part_name (part ∷ parts) zero = refl
part_name (part ∷ parts) (suc k) = part_name parts k

pub part_within : (parts : List Field) (k : ℕ) (part : Field) → slice_get parts k ≡ Some part →
    k < length (names_of_parts parts)
part_within [] k part at = absurd (let f : None ≡ Some part = at in cc)
part_within (one ∷ parts) zero part at = omega arith
part_within (one ∷ parts) (suc k) part at = omega (arith, part_within parts k part at)
