-- What is known where a view is there.
use Rattle.std.proofs.Common.{◌≡◌, ◌∙◌, ◌⊎◌, inl, inr, ℕ, Bool, true, false, List, [], ◌∷◌, Option, Some, None, refl, ap, sym, if◌then◌else◌}
use Rattle.std.specs.Prelude.{option_and_then}
use Rattle.std.specs.Option.{option_map, option_or}
use Rattle.kat_value.specs.declared.op.Op.{Op}
use Rattle.kat_value.specs.declared.value.Value.{Value}
use Rattle.kat_value.specs.declared.value.Value.TheVariants.{Bits}
use Rattle.kat_term.specs.declared.term.Term.{Term}
use Rattle.kat_term.specs.declared.term.Term.TheOpen.{Term-F, Lit, Apply}
use Rattle.kat_term.specs.declared.term.Term.TheViews.{out-Term, roll-Term, roll-out-Term}
use Rattle.kat_term.specs.declared.term.Term.TheVariants.{Lit as LitTerm, Apply as ApplyTerm, rolls-Lit, rolls-Apply}
use Rattle.kat_term.specs.Equality.{op_eq, TestsOperations}
use Rattle.kat_term.specs.Views.{one, two, bits, value_in, literal_of, args_in, args_of, one_item, two_items, number_in}
use Rattle.kat_known.specs.Views.{with_one, with_two, with_number, where_so}

pub record OneThere {B : Type 0} (op : Op) (t : Term) (go : Term → Option B) (r : B) : Type 0 where
  pub a : Term
  pub is : t ≡ one op a
  pub gives : go a ≡ Some r

pub record TwoThere {B : Type 0} (op : Op) (t : Term) (go : Term → Term → Option B)
    (r : B) : Type 0 where
  pub a : Term
  pub b : Term
  pub is : t ≡ two op a b
  pub gives : go a b ≡ Some r

pub record NumberThere {B : Type 0} (t : Term) (go : ℕ → B) (r : B) : Type 0 where
  pub w : ℕ
  pub n : ℕ
  pub is : t ≡ bits w n
  pub gives : go n ≡ r

module _ (operations : TestsOperations) where
  args_there : (op : Op) (t : Term) (ts : List Term) → args_of op t ≡ Some ts → t ≡ ApplyTerm op ts
  args_there op t ts e = by (out-Term t) (roll-out-Term t) e where
    by : (y : Term-F Term) → roll-Term y ≡ t → args_in op y ≡ Some ts → t ≡ ApplyTerm op ts
    by (Apply found args) is h = test (op_eq found op) refl h where
      test : (b : Bool) → op_eq found op ≡ b → (if b then Some args else None) ≡ Some ts →
          t ≡ ApplyTerm op ts
      test true same g =
          let equal : args ≡ ts = cc in
          sym is ∙ rolls-Apply found args
          ∙ ap (λ o. ApplyTerm o args) ((operations found op).0 same) ∙ ap (ApplyTerm op) equal
      test false same g = cc
    by _ is h = cc

  pub with_one_there : {B : Type 0} (op : Op) (t : Term) (go : Term → Option B) (r : B) →
      with_one op t go ≡ Some r → OneThere op t go r
  with_one_there {B} op t go r e = by (args_of op t) refl e where
    by : (o : Option (List Term)) → args_of op t ≡ o →
        option_and_then go (option_and_then one_item o) ≡ Some r → OneThere op t go r
    by None is h = cc
    by (Some []) is h = cc
    by (Some (a ∷ [])) is h = record { a = a; is = args_there op t (a ∷ []) is; gives = h }
    by (Some (a ∷ b ∷ more)) is h = cc

  pub with_two_there : {B : Type 0} (op : Op) (t : Term) (go : Term → Term → Option B) (r : B) →
      with_two op t go ≡ Some r → TwoThere op t go r
  with_two_there {B} op t go r e = by (args_of op t) refl e where
    by : (o : Option (List Term)) → args_of op t ≡ o →
        option_and_then (λ (args : Term × Term). go args.0 args.1) (option_and_then two_items o)
        ≡ Some r → TwoThere op t go r
    by None is h = cc
    by (Some []) is h = cc
    by (Some (a ∷ [])) is h = cc
    by (Some (a ∷ b ∷ [])) is h =
        record { a = a; b = b; is = args_there op t (a ∷ b ∷ []) is; gives = h }
    by (Some (a ∷ b ∷ c ∷ more)) is h = cc

literal_there : (t : Term) (x : Value) → literal_of t ≡ Some x → t ≡ LitTerm x
literal_there t x e = by (out-Term t) (roll-out-Term t) e where
  by : (y : Term-F Term) → roll-Term y ≡ t → value_in y ≡ Some x → t ≡ LitTerm x
  by (Lit y) is h = let same : y ≡ x = cc in sym is ∙ rolls-Lit y ∙ ap LitTerm same
  by _ is h = cc

pub with_number_there : {B : Type 0} (t : Term) (go : ℕ → B) (r : B) → with_number t go ≡ Some r →
    NumberThere t go r
with_number_there {B} t go r e = by (literal_of t) refl e where
  by : (o : Option Value) → literal_of t ≡ o →
      option_map (λ (literal : ℕ × ℕ). go literal.1) (option_and_then number_in o) ≡ Some r →
      NumberThere t go r
  by None is h = cc
  by (Some (Bits w n)) is h =
      record {
        w = w;
        n = n;
        is = literal_there t (Bits w n) is;
        gives = let same : go n ≡ r = cc in
            same;
      }
  by (Some _) is h = cc

pub either_there : {B : Type 0} (a b : Option B) (r : B) → option_or a b ≡ Some r →
    (a ≡ Some r) ⊎ (b ≡ Some r)
either_there None b r e = inr e
either_there (Some x) b r e = inl e

pub so_there : {B : Type 0} (holds : Bool) (o : Option B) (r : B) → where_so holds o ≡ Some r →
    (holds ≡ true) × (o ≡ Some r)
so_there true o r e = (refl, e)
so_there false o r e = cc

pub not_so : {B : Type 0} (holds : Bool) (o : Option B) → holds ≡ false → None ≡ where_so holds o
not_so true o e = cc
not_so false o e = refl

-- what is equal to what is there, or is not
pub that_none : {A : Type 0} (found o : Option A) → found ≡ o → found ≡ None → None ≡ o
that_none found o is none = sym none ∙ is

pub that_some : {A : Type 0} (found o : Option A) (x : A) → found ≡ o → found ≡ Some x → Some x ≡ o
that_some found o x is some = sym some ∙ is
