-- The numbers that stand within an operation on bits that has a value.
use Rattle.std.proofs.Common.{◌≡◌, ◌∙◌, ℕ, ◌%◌, ◌^◌, true, List, Some, ap, sym}
use Rattle.std.proofs.Math.Nat.{mod-lt}
use Rattle.std.proofs.lemmas.Nat.{pow_pos}
use Rattle.kat_value.specs.declared.op.Op.{Op}
use Rattle.kat_value.specs.declared.types.TypeDecl.{TypeDecl}
use Rattle.kat_value.specs.declared.value.Value.{Value}
use Rattle.kat_value.specs.declared.value.Value.TheVariants.{Bits}
use Rattle.kat_value.specs.Numbers.{number_of_op}
use Rattle.kat_value.specs.Widths.{is_number}
use Rattle.kat_term.specs.declared.term.Term.{Term}
use Rattle.kat_term.specs.Values.{Valuation, value_of}
use Rattle.kat_term.specs.Views.{two}
use Rattle.kat_rules.proofs.Meaning.{IsOnNumbers, numbers_of_two, numbers_from}
use Rattle.kat_rules.proofs.OrderLaws.{number_of_less}

-- the number that an operation makes of two
abbrev pub made : Op → ℕ → ℕ → ℕ → Value
made op w m n = Bits w (number_of_op op w m n)

-- a remainder is a number of its width
pub remainder_fits : (w m n : ℕ) → is_number w m ≡ true → is_number w (n % 2 ^ w) ≡ true
remainder_fits w m n fits = number_of_less w m (n % 2 ^ w) fits (mod-lt n (pow_pos w))

-- two values of bits that are one
pub bits_told : (w n u m : ℕ) → Some (Bits w n) ≡ Some (Bits u m) → (w ≡ u) × (n ≡ m)
bits_told w n u m e = (cc, cc)

module _ (types : List TypeDecl) (v : Valuation) where
  pub record Inside (op : Op) (a b : Term) (u s : ℕ) : Type 0 where
    pub m : ℕ
    pub n : ℕ
    pub first : value_of types v a ≡ Some (Bits u m)
    pub second : value_of types v b ≡ Some (Bits u n)
    pub first_fits : is_number u m ≡ true
    pub second_fits : is_number u n ≡ true
    pub gives : number_of_op op u m n ≡ s

  pub numbers_inside : (op : Op) → IsOnNumbers types v op (made op) → (a b : Term) (u s : ℕ) → value_of types v (two op a b) ≡ Some (Bits u s) → Inside op a b u s
  numbers_inside op is a b u s has =
      let i = numbers_of_two types v op (made op) is a b (Bits u s) has in
      let same = bits_told i.w (number_of_op op i.w i.m i.n) u s (sym (numbers_from types v op (made op) is a b i.w i.m i.n i.first i.second i.first_fits i.second_fits) ∙ has) in
      record {
        m = i.m;
        n = i.n;
        first = i.first ∙ ap (λ k. Some (Bits k i.m)) same.0;
        second = i.second ∙ ap (λ k. Some (Bits k i.n)) same.0;
        first_fits = ap (λ k. is_number k i.m) (sym same.0) ∙ i.first_fits;
        second_fits = ap (λ k. is_number k i.n) (sym same.0) ∙ i.second_fits;
        gives = ap (λ k. number_of_op op k i.m i.n) (sym same.0) ∙ same.1;
      }
