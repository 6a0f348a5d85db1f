-- What the words of operations tell.
use Rattle.std.proofs.Common.{◌≡◌, ◌∙◌, ℕ, Bool, true, false, IsTrue, List, [], ◌∷◌, Option, Some, None, refl, sym, ap, subst, inl, inr, if◌then◌else◌, unwrap_or}
use Rattle.std.specs.List.{AllByRecursion}
use Rattle.std.specs.Str.{bytes_eq}
use Rattle.std.proofs.lemmas.Bool.{cases_Bool, cond-true, cond-false, false≢true}
use Rattle.std.proofs.lemmas.Slice.Eq.{bytes_eq-Decides}
use Rattle.kat_value.specs.declared.op.Op.{Op}
use Rattle.kat_value.specs.declared.op.Op.TheVariants.{Not, And, Or, Eq, Ult, Ule, Slt, Sle, Add, Sub, Mul, Band, Bor, Bxor, Bnot, Shl, Shr, Sar, Slice, Cat, Zext, Sext, Ite, Get}
use Rattle.kat_value.specs.Words.{word_of_op, bare, numbers_of_op, with_numbers, arity_of, is_written, written_ops, op_among, op_of_word}

-- the word of an operation begins it
pub found : (op : Op) → IsTrue (is_written op) → op_of_word (word_of_op op) ≡ Some (bare op)
found (Get of field) h = absurd (false≢true h)
found _ h = refl

-- an operation, and the same without its numbers
pub numbers_back : (op : Op) → with_numbers (bare op) (numbers_of_op op) ≡ op
numbers_back (Slice hi lo) = refl
numbers_back (Zext width) = refl
numbers_back (Sext width) = refl
numbers_back _ = refl

pub same_word : (op : Op) → word_of_op (bare op) ≡ word_of_op op
same_word (Slice hi lo) = refl
same_word (Zext width) = refl
same_word (Sext width) = refl
same_word _ = refl

pub same_arity : (op : Op) → arity_of (bare op) ≡ arity_of op
same_arity (Slice hi lo) = refl
same_arity (Zext width) = refl
same_arity (Sext width) = refl
same_arity _ = refl

-- what is found among operations has the word, and is one of them
pub record Found (P : Op → Type 0) (word : List ℕ) (op : Op) : Type 0 where
  pub word_is : word ≡ word_of_op op
  pub holds : P op

among : (P : Op → Type 0) (ops : List Op) (word : List ℕ) (op : Op) → AllByRecursion P ops → op_among ops word ≡ Some op → Found P word op
among P [] word op all e = absurd (cc)
among P (first ∷ ops) word op all e =
    elim (cases_Bool (bytes_eq word (word_of_op first))) [
      | inl same ↦
          let is : Some first ≡ Some op = sym (cond-true (bytes_eq word (word_of_op first)) _ _ same) ∙ e in
          let one : first ≡ op = ap (λ o. unwrap_or o first) is in
          record { word_is = (bytes_eq-Decides word (word_of_op first)).0 same ∙ ap word_of_op one; holds = subst P one all.0 }
      | inr other ↦ among P ops word op all.1 (sym (cond-false (bytes_eq word (word_of_op first)) _ _ other) ∙ e)
    ]

-- each operation that is written so has zeros for numbers in the list
abbrev IsBare : Op → Type 0
IsBare op = IsTrue (is_written op) × (bare op ≡ op)

all_bare : AllByRecursion IsBare written_ops
all_bare = (
  (refl, refl),
  (
    (refl, refl),
    (
      (refl, refl),
      (
        (refl, refl),
        (
          (refl, refl),
          (
            (refl, refl),
            (
              (refl, refl),
              (
                (refl, refl),
                (
                  (refl, refl),
                  (
                    (refl, refl),
                    (
                      (refl, refl),
                      (
                        (refl, refl),
                        (
                          (refl, refl),
                          (
                            (refl, refl),
                            (
                              (refl, refl),
                              (
                                (refl, refl),
                                ((refl, refl), ((refl, refl), ((refl, refl), ((refl, refl), ((refl, refl), ((refl, refl), ((refl, refl), tt))))))),
                              ),
                            ),
                          ),
                        ),
                      ),
                    ),
                  ),
                ),
              ),
            ),
          ),
        ),
      ),
    ),
  ),
)

-- what a word begins
pub begun : (word : List ℕ) (op : Op) → op_of_word word ≡ Some op → Found IsBare word op
begun word op e = among IsBare written_ops word op all_bare e

pub begun_word : (word : List ℕ) (op : Op) → op_of_word word ≡ Some op → word ≡ word_of_op op
begun_word word op e = (begun word op e).word_is

pub begun_written : (word : List ℕ) (op : Op) → op_of_word word ≡ Some op → IsTrue (is_written op)
begun_written word op e = (begun word op e).holds.0

pub begun_zeros : (word : List ℕ) (op : Op) → op_of_word word ≡ Some op → bare op ≡ op
begun_zeros word op e = (begun word op e).holds.1
