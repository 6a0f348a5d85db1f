-- The bounds of a term hold of its number.
use Rattle.std.proofs.Common.{◌≡◌, ℕ, zero, suc, ◌+◌, ◌-◌, ◌^◌, ◌<◌, ◌≤◌, Bool, true, false, List, [], ◌∷◌, map, Option, Some, None, refl, sym, subst, if◌then◌else◌, arith}
use Rattle.std.specs.Prelude.{◌==◌, nat_le, nat_lt, length, unwrap_or}
use Rattle.std.proofs.Math.Nat.{max-le, le-min}
use Rattle.std.proofs.Math.Pow.{pow_mono}
use Rattle.std.proofs.lemmas.Bool.{eqb-true, and_parts, leb-true, ltb-true}
use Rattle.kat_value.specs.declared.op.Op.{Op}
use Rattle.kat_value.specs.declared.op.Op.TheVariants.{Zext}
use Rattle.kat_value.specs.declared.types.Ty.{Ty}
use Rattle.kat_value.specs.declared.types.TypeDecl.{TypeDecl}
use Rattle.kat_value.specs.declared.value.Value.{Value}
use Rattle.kat_value.specs.declared.value.Value.TheVariants.{Bits}
use Rattle.kat_value.specs.Widths.{widest, is_width}
use Rattle.kat_term.specs.declared.term.Term.{Term}
use Rattle.kat_term.specs.declared.term.Term.TheOpen.{Lit}
use Rattle.kat_term.specs.declared.term.Term.TheVariants.{Var as VarTerm, Lit as LitTerm, Apply as ApplyTerm, Make as MakeTerm, Rec as RecTerm}
use Rattle.kat_term.specs.Types.{IsValuation}
use Rattle.kat_term.specs.Values.{Valuation, value_of}
use Rattle.kat_term.specs.Worlds.{AreTrueUnder}
use Rattle.kat_rules.specs.Widths.{width_of}
use Rattle.kat_known.specs.declared.bounds.Interval.{Interval}
use Rattle.kat_known.specs.declared.facts.Fact.{Fact}
use Rattle.kat_known.specs.declared.facts.Fact.TheVariants.{Above, AtLeast, Below, AtMost, Exactly, Differs}
use Rattle.kat_known.specs.Bounded.{IsIn}
use Rattle.kat_known.specs.Bounds.{from_to, fact_of, inwards, taken_in, read_all, same_interval, read_times, read_often, all_of_width, all_numbers, is_zext, begins_with, bounds_layer, bounds_of}
use Rattle.kat_known.specs.Parts.{part}
use Rattle.kat_known.proofs.FactLaws.{Holds, fact_holds, literal_number}
use Rattle.kat_known.proofs.LawsBelow.{LawsBelow}
use Rattle.kat_known.proofs.PartLaws.{Each, induct, found-Var, found-Lit, found-Apply, found-Make, found-Rec}
use Rattle.kat_known.proofs.Typed.{number_fits}

inwards_in : (low high k n : ℕ) → (n ≡ k → ⊥) → low ≤ n → n ≤ high →
    IsIn (inwards k (from_to low high)) n
inwards_in low high k n differs over under =
    all (low == high) (low == k) refl (high == k) refl where
      all : (a b : Bool) → (low == k) ≡ b → (c : Bool) → (high == k) ≡ c →
          IsIn (if a then from_to low high else if b then from_to
          (low + 1) high else if c then from_to low (high - 1) else from_to low high) n
      all true b is_b c is_c = (over, under)
      all false true is_b c is_c =
          let e : low ≡ k = eqb-true low k is_b in (omega (arith, e, over, differs), under)
      all false false is_b true is_c =
          let e : high ≡ k = eqb-true high k is_c in (over, omega (arith, e, under, differs))
      all false false is_b false is_c = (over, under)

taken_in_in : (o : Option Fact) (i : Interval) (n : ℕ) → ((f : Fact) → o ≡ Some f → Holds f n) →
    IsIn i n → IsIn (taken_in o i) n
taken_in_in None i n told is = is
taken_in_in (Some (Above k)) i n told is =
    let l : k < n = told (Above k) refl in (max-le is.0 (omega (arith, l)), is.1)
taken_in_in (Some (Below k)) i n told is =
    let l : n < k = told (Below k) refl in (is.0, le-min is.1 (omega (arith, l)))
taken_in_in (Some (AtLeast k)) i n told is = (max-le is.0 (told (AtLeast k) refl), is.1)
taken_in_in (Some (AtMost k)) i n told is = (is.0, le-min is.1 (told (AtMost k) refl))
taken_in_in (Some (Exactly k)) i n told is =
    let e : n ≡ k = told (Exactly k) refl in
    (max-le is.0 (omega (arith, e)), le-min is.1 (omega (arith, e)))
taken_in_in (Some (Differs k)) i n told is =
    inwards_in i.low i.high k n (told (Differs k) refl) is.0 is.1

-- a number of a width is among those of a width that is no less
in_width : (u w n : ℕ) → w ≤ u → w ≤ widest → n < 2 ^ w → IsIn (all_of_width u) n
in_width u w n longer small less =
    let most = pow_mono (le-min longer small) in
    (omega arith, omega (arith, less, most))

module _ (laws : LawsBelow) (types : List TypeDecl) (v : Valuation) where
  module _ (t : Term) (w n : ℕ) (has : value_of types v t ≡ Some (Bits w n)) where
    read_all_in : (list : List Term) (i : Interval) → AreTrueUnder types v list → IsIn i n →
        IsIn (read_all t list i) n
    read_all_in [] i holds is = is
    read_all_in (formula ∷ list) i holds is =
        read_all_in list (taken_in (fact_of t formula) i) holds.1
        (taken_in_in (fact_of t formula) i n
        (λ fact e. fact_holds laws types v t w n has formula fact e holds.0) is)

    read_times_in : (times : ℕ) (list : List Term) (i : Interval) → AreTrueUnder types v list →
        IsIn i n → IsIn (read_times times t list i) n
    read_times_in zero list i holds is = is
    read_times_in (suc times) list i holds is =
        by (same_interval (read_all t list i) i)
        (read_times_in times list (read_all t list i) holds (read_all_in list i holds is)) where
          by : (b : Bool) → IsIn (read_times times t list (read_all t list i)) n →
              IsIn (if b then i else read_times times t list (read_all t list i)) n
          by true more = is
          by false more = more

    read_often_in : (list : List Term) (i : Interval) → AreTrueUnder types v list → IsIn i n →
        IsIn (read_often t list i) n
    read_often_in list i holds is = read_times_in (length list + length list) list i holds is

  module _ (vars : List Ty) (fits : IsValuation types vars v) (list : List Term)
      (holds : AreTrueUnder types v list) where
    abbrev IsBounded : Term → Type 0
    IsBounded t = (w n : ℕ) → value_of types v t ≡ Some (Bits w n) → IsIn (bounds_of vars list t) n

    -- all numbers of a term's width
    all_in : (t : Term) (w n : ℕ) → value_of types v t ≡ Some (Bits w n) →
        IsIn (all_numbers vars t) n
    all_in t w n has =
        let number = and_parts (is_width w) (nat_lt n (2 ^ w))
        (number_fits laws types vars v fits t w n has) in
        let small : w ≤ widest = leb-true w widest
        (and_parts (nat_le 1 w) (nat_le w widest) number.0).1 in
        by (width_of vars t) refl small (ltb-true n (2 ^ w) number.1) where
          by : (o : Option ℕ) → width_of vars t ≡ o → w ≤ widest → n < 2 ^ w →
              IsIn (all_of_width (unwrap_or o widest)) n
          by None is small less = in_width widest w n small small less
          by (Some u) is small less =
              let p = laws.told types vars v fits t (Bits w n) has u is in
              let same : w ≡ u = let e : Bits w n ≡ Bits u p.0 = p.1 in cc in
              in_width u w n (omega (arith, same)) small less

    begins_in : (op : Op) (ts : List Term) (w n : ℕ) → Each IsBounded ts →
        value_of types v (ApplyTerm op ts) ≡ Some (Bits w n) →
        IsIn (begins_with (is_zext op) (all_numbers vars (ApplyTerm op ts))
        (map (part (bounds_layer vars list)) ts)) n
    begins_in op [] w n all has = all_in (ApplyTerm op []) w n has
    begins_in op (t ∷ s ∷ more) w n all has = all_in (ApplyTerm op (t ∷ s ∷ more)) w n has
    begins_in (Zext u) (t ∷ []) w n all has =
        let z = (laws.meanings types v).extension u t (Bits w n) has in
        let same : z.n ≡ n = let h : Bits w n ≡ Bits u z.n = z.is in cc in
        subst (IsIn (bounds_of vars list t)) same (all.0 z.w z.n z.has)
    begins_in op (t ∷ []) w n all has = all_in (ApplyTerm op (t ∷ [])) w n has

    at_layer : (t : Term) (i : Interval) → bounds_of vars list t ≡ i →
        ((w n : ℕ) → value_of types v t ≡ Some (Bits w n) → IsIn i n) → IsBounded t
    at_layer t i is sound =
        subst (λ j. (w n : ℕ) → value_of types v t ≡ Some (Bits w n) → IsIn j n) (sym is) sound

    lit_in : (x : Value) (w n : ℕ) → value_of types v (LitTerm x) ≡ Some (Bits w n) →
        IsIn (bounds_layer vars list (LitTerm x) (Lit x)) n
    lit_in (Bits u m) w n has =
        let e : n ≡ m = (literal_number laws types v (LitTerm (Bits u m)) u m w n refl has).1 in
        (omega (arith, e), omega (arith, e))
    lit_in x w n has = read_often_in _ w n has list _ holds (all_in (LitTerm x) w n has)

    -- the number of a term is within its bounds
    pub bounds_in : (t : Term) (w n : ℕ) → value_of types v t ≡ Some (Bits w n) →
        IsIn (bounds_of vars list t) n
    bounds_in = induct IsBounded
        (λ i. at_layer (VarTerm i) _ (found-Var (bounds_layer vars list) i)
        (λ w n has. read_often_in _ w n has list _ holds (all_in (VarTerm i) w n has)))
        (λ x. at_layer (LitTerm x) _ (found-Lit (bounds_layer vars list) x) (lit_in x))
        (λ op ts all. at_layer (ApplyTerm op ts) _ (found-Apply (bounds_layer vars list) op ts)
        (λ w n has. read_often_in _ w n has list _ holds (begins_in op ts w n all has)))
        (λ of ctor t is. at_layer (MakeTerm of ctor t) _
        (found-Make (bounds_layer vars list) of ctor t)
        (λ w n has. read_often_in _ w n has list _ holds (all_in (MakeTerm of ctor t) w n has)))
        (λ of ts all. at_layer (RecTerm of ts) _ (found-Rec (bounds_layer vars list) of ts)
        (λ w n has. read_often_in _ w n has list _ holds (all_in (RecTerm of ts) w n has)))
