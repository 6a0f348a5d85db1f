-- Equality of operations and of terms, as tests that compute.
use Rattle.std.specs.Prelude.{ℕ, Bool, true, false, IsTrue, ◌≡◌, ◌↔◌, ◌==◌, ◌&&◌, List, [], ◌∷◌, map}
use Rattle.kat_value.specs.declared.op.Op.{Op}
use Rattle.kat_value.specs.declared.op.Op.TheVariants.{Not, And, Or, Eq, Ult, Ule, Slt, Sle, Add, Sub, Mul, Band, Bor, Bxor, Bnot, Shl, Shr, Sar, Slice, Cat, Zext, Sext, Ite, Get}
use Rattle.kat_value.specs.Equality.{value_eq}
use Rattle.kat_term.specs.declared.term.Term.{Term}
use Rattle.kat_term.specs.declared.term.Term.TheOpen.{Term-F, Var, Lit, Apply, Make, Rec}
use Rattle.kat_term.specs.declared.term.Term.TheViews.{out-Term}
use Rattle.kat_term.specs.declared.term.Term.TheFolds.{fold-Term}

-- what tells an operation: its number in the language's list, and its widths, bounds or positions,
-- 0 where it has none
pub record Key : Type 0 where
  pub place : ℕ
  pub high : ℕ
  pub low : ℕ

-- a key of these numbers
abbrev pub key : ℕ → ℕ → ℕ → Key
key place high low = record { place = place; high = high; low = low }

-- the key of an operation
abbrev pub key_of_op : Op → Key
key_of_op Not = key 1 0 0
key_of_op And = key 2 0 0
key_of_op Or = key 3 0 0
key_of_op Eq = key 4 0 0
key_of_op Ult = key 5 0 0
key_of_op Ule = key 6 0 0
key_of_op Slt = key 7 0 0
key_of_op Sle = key 8 0 0
key_of_op Add = key 9 0 0
key_of_op Sub = key 10 0 0
key_of_op Mul = key 11 0 0
key_of_op Band = key 12 0 0
key_of_op Bor = key 13 0 0
key_of_op Bxor = key 14 0 0
key_of_op Bnot = key 15 0 0
key_of_op Shl = key 16 0 0
key_of_op Shr = key 17 0 0
key_of_op Sar = key 18 0 0
key_of_op (Slice hi lo) = key 19 hi lo
key_of_op Cat = key 20 0 0
key_of_op (Zext width) = key 21 width 0
key_of_op (Sext width) = key 22 width 0
key_of_op Ite = key 23 0 0
key_of_op (Get of field) = key 24 of field

-- whether two keys are equal
abbrev pub key_eq : Key → Key → Bool
key_eq a b = (a.place == b.place) && ((a.high == b.high) && (a.low == b.low))

-- whether two operations are the same
abbrev pub op_eq : Op → Op → Bool
op_eq a b = key_eq (key_of_op a) (key_of_op b)

-- whether each test holds of the term at its place, there being as many terms as tests
abbrev pub all_hold : List (Term → Bool) → List Term → Bool
all_hold [] [] = true
all_hold [] (t ∷ ts) = false
all_hold (test ∷ tests) [] = false
all_hold (test ∷ tests) (t ∷ ts) = test t && all_hold tests ts

-- one layer of a term, with a test of equality for each part, against one layer of another
abbrev pub same_layer : Term-F (Term → Bool) → Term-F Term → Bool
same_layer (Var i) (Var j) = i == j
same_layer (Lit x) (Lit y) = value_eq x y
same_layer (Apply o tests) (Apply p args) = op_eq o p && all_hold tests args
same_layer (Make t k test) (Make u l inner) = (t == u) && ((k == l) && test inner)
same_layer (Rec t tests) (Rec u fields) = (t == u) && all_hold tests fields
same_layer _ _ = false

-- whether two terms are equal
abbrev pub term_eq : Term → Term → Bool
term_eq = fold-Term (Term → Bool) (λ layer t. same_layer layer (out-Term t))

-- whether two lists of terms are equal
abbrev pub terms_eq : List Term → List Term → Bool
terms_eq xs ys = all_hold (map term_eq xs) ys

-- the test of operations holds of the same, and of no others
abbrev pub TestsOperations : Type 0
TestsOperations = (o p : Op) → IsTrue (op_eq o p) ↔ (o ≡ p)

-- the test of terms holds of equal terms, and of no others
abbrev pub TestsTerms : Type 0
TestsTerms = (t u : Term) → IsTrue (term_eq t u) ↔ (t ≡ u)
