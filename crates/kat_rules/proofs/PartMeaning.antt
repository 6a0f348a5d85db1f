-- The value of a slice, of a join, of an extension and of a shift.
use Rattle.std.proofs.Common.{◌≡◌, ◌∙◌, ℕ, ◌+◌, ◌-◌, ◌*◌, ◌/◌, ◌%◌, ◌^◌, ◌<◌, ◌≤◌, Bool, true, false, List, Some, None, refl, ap, sym, if◌then◌else◌, nat_le, nat_lt, arith}
use Rattle.std.specs.Prelude.{◌&&◌}
use Rattle.std.proofs.lemmas.Bool.{and_parts, and_from, lt-ltb, le-leb, ltb-true, leb-true}
use Rattle.std.proofs.lemmas.Nat.{pow_pos, mod_below}
use Rattle.kat_value.specs.declared.op.Op.{Op}
use Rattle.kat_value.specs.declared.op.Op.TheVariants.{Slice, Cat, Zext, Sext}
use Rattle.kat_value.specs.declared.types.TypeDecl.{TypeDecl}
use Rattle.kat_value.specs.declared.value.Value.{Value, out-Value, roll-Value, roll-out-Value}
use Rattle.kat_value.specs.declared.value.Value.TheVariants.{Bits, rolls-Bits}
use Rattle.kat_value.specs.declared.value.Value.TheOpen.{Value-F, Bits as BitsLayer}
use Rattle.kat_value.specs.Numbers.{sign_extended}
use Rattle.kat_value.specs.Widths.{is_number}
use Rattle.kat_value.specs.Widths.{widest, is_width}
use Rattle.kat_term.specs.declared.term.Term.{Term}
use Rattle.kat_value.specs.Operations.{of_parts}
use Rattle.kat_term.specs.Values.{Valuation, IsKept, value_of}
use Rattle.kat_term.specs.Views.{one, two}
use Rattle.kat_rules.proofs.Meaning.{out-Bits, two_parts, two_from, number_of_one, number_from, IsOnNumber}

-- what a number of a width tells, and what makes one
pub positive : (w n : ℕ) → is_number w n ≡ true → 1 ≤ w
positive w n is = leb-true 1 w (and_parts (nat_le 1 w) (nat_le w widest) (and_parts (is_width w) (nat_lt n (2 ^ w)) is).0).0

pub small : (w n : ℕ) → is_number w n ≡ true → w ≤ widest
small w n is = leb-true w widest (and_parts (nat_le 1 w) (nat_le w widest) (and_parts (is_width w) (nat_lt n (2 ^ w)) is).0).1

pub number_made : (w n : ℕ) → 1 ≤ w → w ≤ widest → n < 2 ^ w → is_number w n ≡ true
number_made w n low high less =
    and_from (is_width w) (nat_lt n (2 ^ w)) (and_from (nat_le 1 w) (nat_le w widest) (le-leb 1 w low) (le-leb w widest high)) (lt-ltb n (2 ^ w) less)

-- numbers of one width, and one number
pub same_bits : (u w m n : ℕ) → u ≡ w → m ≡ n → Some (Bits u m) ≡ Some (Bits w n)
same_bits u w m n width number = ap (λ k. Some (Bits k m)) width ∙ ap (λ k. Some (Bits w k)) number

bits_told : (u w m n : ℕ) → Bits u m ≡ Bits w n → (w ≡ u) × (n ≡ m)
bits_told u w m n e = (cc, cc)

some_told : (y z : Value) → Some y ≡ Some z → y ≡ z
some_told y z e = cc

-- bits from hi down to lo, both within
abbrev pub slice_takes : ℕ → ℕ → ℕ → Bool
slice_takes hi lo w = nat_le lo hi && nat_lt hi w

abbrev pub slice_gives : ℕ → ℕ → ℕ → ℕ → Value
slice_gives hi lo w n = Bits (hi - lo + 1) (n / 2 ^ lo % 2 ^ (hi - lo + 1))

-- widths that an extension takes
abbrev pub longer_takes : ℕ → ℕ → Bool
longer_takes v w = nat_le w v && nat_le v widest

pub slice_taken : (hi lo w : ℕ) → lo ≤ hi → hi < w → slice_takes hi lo w ≡ true
slice_taken hi lo w ordered inside = and_from (nat_le lo hi) (nat_lt hi w) (le-leb lo hi ordered) (lt-ltb hi w inside)

pub longer_taken : (v w : ℕ) → w ≤ v → v ≤ widest → longer_takes v w ≡ true
longer_taken v w longer within = and_from (nat_le w v) (nat_le v widest) (le-leb w v longer) (le-leb v widest within)

module _ (types : List TypeDecl) (v : Valuation) where
  abbrev Kept : Term → Term → Type 0
  Kept l r = IsKept (value_of types v l) (value_of types v r)

  -- the number under an operation on one number that has this value
  record Under (takes : ℕ → Bool) (f : ℕ → ℕ → Value) (a : Term) (x : Value) : Type 0 where
    w : ℕ
    n : ℕ
    is : value_of types v a ≡ Some (Bits w n)
    number : is_number w n ≡ true
    taken : takes w ≡ true
    gives : f w n ≡ x

  under : (op : Op) (takes : ℕ → Bool) (f : ℕ → ℕ → Value) → IsOnNumber types v op takes f → (a : Term) (x : Value) → value_of types v (one op a) ≡ Some x → Under takes f a x
  under op takes f is_on a x has =
      let i = number_of_one types v op takes f is_on a x has in
      let forward = number_from types v op takes f is_on a i.w i.n i.is i.fits i.taken in
      record { w = i.w; n = i.n; is = i.is; number = i.fits; taken = i.taken; gives = some_told (f i.w i.n) x (sym forward ∙ has) }

  -- slices
  pub record SliceOf (hi lo : ℕ) (a : Term) (u k : ℕ) : Type 0 where
    pub w : ℕ
    pub n : ℕ
    pub is : value_of types v a ≡ Some (Bits w n)
    pub number : is_number w n ≡ true
    pub ordered : lo ≤ hi
    pub inside : hi < w
    pub width : u ≡ hi - lo + 1
    pub gives : k ≡ n / 2 ^ lo % 2 ^ (hi - lo + 1)

  pub slice_of : (hi lo : ℕ) (a : Term) (u k : ℕ) → value_of types v (one (Slice hi lo) a) ≡ Some (Bits u k) → SliceOf hi lo a u k
  slice_of hi lo a u k has =
      let i = under (Slice hi lo) (slice_takes hi lo) (slice_gives hi lo) (λ y. refl) a (Bits u k) has in
      let taken = and_parts (nat_le lo hi) (nat_lt hi i.w) i.taken in
      let told = bits_told (hi - lo + 1) u (i.n / 2 ^ lo % 2 ^ (hi - lo + 1)) k i.gives in
      record { w = i.w; n = i.n; is = i.is; number = i.number; ordered = leb-true lo hi taken.0; inside = ltb-true hi i.w taken.1; width = told.0; gives = told.1 }

  pub slice_from : (hi lo : ℕ) (a : Term) (w n : ℕ) → value_of types v a ≡ Some (Bits w n) → is_number w n ≡ true → lo ≤ hi → hi < w →
      value_of types v (one (Slice hi lo) a) ≡ Some (Bits (hi - lo + 1) (n / 2 ^ lo % 2 ^ (hi - lo + 1)))
  slice_from hi lo a w n is number ordered inside =
      number_from types v (Slice hi lo) (slice_takes hi lo) (slice_gives hi lo) (λ y. refl) a w n is number (slice_taken hi lo w ordered inside)

  pub slice_number : (hi lo w n : ℕ) → is_number w n ≡ true → lo ≤ hi → hi < w → is_number (hi - lo + 1) (n / 2 ^ lo % 2 ^ (hi - lo + 1)) ≡ true
  slice_number hi lo w n number ordered inside =
      number_made (hi - lo + 1) (n / 2 ^ lo % 2 ^ (hi - lo + 1)) (omega arith) (omega (arith, inside, small w n number))
      (mod_below (n / 2 ^ lo) (2 ^ (hi - lo + 1)) (pow_pos (hi - lo + 1)))

  pub on_slice_value : (hi lo : ℕ) (a r : Term) →
      ((w n : ℕ) → value_of types v a ≡ Some (Bits w n) → is_number w n ≡ true → lo ≤ hi → hi < w →
      value_of types v r ≡ Some (Bits (hi - lo + 1) (n / 2 ^ lo % 2 ^ (hi - lo + 1)))) →
      Kept (one (Slice hi lo) a) r
  on_slice_value hi lo a r gives x has =
      let i = under (Slice hi lo) (slice_takes hi lo) (slice_gives hi lo) (λ y. refl) a x has in
      let taken = and_parts (nat_le lo hi) (nat_lt hi i.w) i.taken in
      gives i.w i.n i.is i.number (leb-true lo hi taken.0) (ltb-true hi i.w taken.1) ∙ ap Some i.gives

  -- extensions by zeros and by copies of the top bit
  pub record LongerOf (f : ℕ → ℕ → ℕ) (width : ℕ) (a : Term) (u k : ℕ) : Type 0 where
    pub w : ℕ
    pub n : ℕ
    pub is : value_of types v a ≡ Some (Bits w n)
    pub number : is_number w n ≡ true
    pub longer : w ≤ width
    pub within : width ≤ widest
    pub same : u ≡ width
    pub gives : k ≡ f w n

  abbrev longer_gives : ℕ → (ℕ → ℕ → ℕ) → ℕ → ℕ → Value
  longer_gives width f w n = Bits width (f w n)

  longer_of : (op : Op) (width : ℕ) (f : ℕ → ℕ → ℕ) → IsOnNumber types v op (longer_takes width) (longer_gives width f) →
      (a : Term) (u k : ℕ) → value_of types v (one op a) ≡ Some (Bits u k) → LongerOf f width a u k
  longer_of op width f is_on a u k has =
      let i = under op (longer_takes width) (longer_gives width f) is_on a (Bits u k) has in
      let taken = and_parts (nat_le i.w width) (nat_le width widest) i.taken in
      let told = bits_told width u (f i.w i.n) k i.gives in
      record { w = i.w; n = i.n; is = i.is; number = i.number; longer = leb-true i.w width taken.0; within = leb-true width widest taken.1; same = told.0; gives = told.1 }

  pub zext_number : (width : ℕ) (a : Term) (u k : ℕ) → value_of types v (one (Zext width) a) ≡ Some (Bits u k) → LongerOf (λ w n. n) width a u k
  zext_number width = longer_of (Zext width) width (λ w n. n) (λ y. refl)

  pub sext_number : (width : ℕ) (a : Term) (u k : ℕ) → value_of types v (one (Sext width) a) ≡ Some (Bits u k) → LongerOf (λ w n. sign_extended w width n) width a u k
  sext_number width = longer_of (Sext width) width (λ w n. sign_extended w width n) (λ y. refl)

  pub zext_from : (width : ℕ) (a : Term) (w n : ℕ) → value_of types v a ≡ Some (Bits w n) → is_number w n ≡ true → w ≤ width → width ≤ widest →
      value_of types v (one (Zext width) a) ≡ Some (Bits width n)
  zext_from width a w n is number longer within =
      number_from types v (Zext width) (longer_takes width) (longer_gives width (λ w n. n)) (λ y. refl) a w n is number (longer_taken width w longer within)

  pub sext_from : (width : ℕ) (a : Term) (w n : ℕ) → value_of types v a ≡ Some (Bits w n) → is_number w n ≡ true → w ≤ width → width ≤ widest →
      value_of types v (one (Sext width) a) ≡ Some (Bits width (sign_extended w width n))
  sext_from width a w n is number longer within =
      number_from types v (Sext width) (longer_takes width) (longer_gives width (λ w n. sign_extended w width n)) (λ y. refl) a w n is number
      (longer_taken width w longer within)

  on_longer_value : (op : Op) (width : ℕ) (f : ℕ → ℕ → ℕ) → IsOnNumber types v op (longer_takes width) (longer_gives width f) → (a r : Term) →
      ((w n : ℕ) → value_of types v a ≡ Some (Bits w n) → is_number w n ≡ true → w ≤ width → width ≤ widest → value_of types v r ≡ Some (Bits width (f w n))) →
      Kept (one op a) r
  on_longer_value op width f is_on a r gives x has =
      let i = under op (longer_takes width) (longer_gives width f) is_on a x has in
      let taken = and_parts (nat_le i.w width) (nat_le width widest) i.taken in
      gives i.w i.n i.is i.number (leb-true i.w width taken.0) (leb-true width widest taken.1) ∙ ap Some i.gives

  pub on_zext_value : (width : ℕ) (a r : Term) →
      ((w n : ℕ) → value_of types v a ≡ Some (Bits w n) → is_number w n ≡ true → w ≤ width → width ≤ widest → value_of types v r ≡ Some (Bits width n)) →
      Kept (one (Zext width) a) r
  on_zext_value width = on_longer_value (Zext width) width (λ w n. n) (λ y. refl)

  pub on_sext_value : (width : ℕ) (a r : Term) →
      ((w n : ℕ) → value_of types v a ≡ Some (Bits w n) → is_number w n ≡ true → w ≤ width → width ≤ widest →
      value_of types v r ≡ Some (Bits width (sign_extended w width n))) →
      Kept (one (Sext width) a) r
  on_sext_value width = on_longer_value (Sext width) width (λ w n. sign_extended w width n) (λ y. refl)

  -- joins
  bits_of_layer : (y : Value) (w n : ℕ) → out-Value y ≡ BitsLayer w n → y ≡ Bits w n
  bits_of_layer y w n is = sym (roll-out-Value y) ∙ ap roll-Value is ∙ rolls-Bits w n

  record Joined (a b : Term) (x : Value) : Type 0 where
    w : ℕ
    m : ℕ
    u : ℕ
    n : ℕ
    first : value_of types v a ≡ Some (Bits w m)
    second : value_of types v b ≡ Some (Bits u n)
    first_number : is_number w m ≡ true
    second_number : is_number u n ≡ true
    within : w + u ≤ widest
    made : Bits (w + u) (m * 2 ^ u + n) ≡ x

  joined : (a b : Term) (x : Value) → value_of types v (two Cat a b) ≡ Some x → Joined a b x
  joined a b x has = let o = two_parts types v Cat a b x has in by o.y o.z o.first o.second (out-Value o.y) (out-Value o.z) refl refl o.is where
    by : (y z : Value) → value_of types v a ≡ Some y → value_of types v b ≡ Some z → (k l : Value-F Value) → out-Value y ≡ k → out-Value z ≡ l → of_parts k l ≡ Some x → Joined a b x
    by y z first second (BitsLayer w m) (BitsLayer u n) high low h = at ((is_number w m && is_number u n) && nat_le (w + u) widest) refl h where
      at : (c : Bool) → ((is_number w m && is_number u n) && nat_le (w + u) widest) ≡ c → (if c then Some (Bits (w + u) (m * 2 ^ u + n)) else None) ≡ Some x → Joined a b x
      at true is g =
          let tests = and_parts (is_number w m && is_number u n) (nat_le (w + u) widest) is in
          let numbers = and_parts (is_number w m) (is_number u n) tests.0 in
          record {
            w = w;
            m = m;
            u = u;
            n = n;
            first = first ∙ ap Some (bits_of_layer y w m high);
            second = second ∙ ap Some (bits_of_layer z u n low);
            first_number = numbers.0;
            second_number = numbers.1;
            within = leb-true (w + u) widest tests.1;
            made = some_told (Bits (w + u) (m * 2 ^ u + n)) x g;
          }
      at false is g = cc
    by y z first second _ _ high low h = cc

  pub record CatOf (a b : Term) (k l : ℕ) : Type 0 where
    pub w : ℕ
    pub m : ℕ
    pub u : ℕ
    pub n : ℕ
    pub first : value_of types v a ≡ Some (Bits w m)
    pub second : value_of types v b ≡ Some (Bits u n)
    pub first_number : is_number w m ≡ true
    pub second_number : is_number u n ≡ true
    pub width : k ≡ w + u
    pub gives : l ≡ m * 2 ^ u + n

  pub cat_of : (a b : Term) (k l : ℕ) → value_of types v (two Cat a b) ≡ Some (Bits k l) → CatOf a b k l
  cat_of a b k l has =
      let i = joined a b (Bits k l) has in
      let told = bits_told (i.w + i.u) k (i.m * 2 ^ i.u + i.n) l i.made in
      record { w = i.w; m = i.m; u = i.u; n = i.n; first = i.first; second = i.second; first_number = i.first_number; second_number = i.second_number; width = told.0; gives = told.1 }

  pub cat_from : (a b : Term) (w m u n : ℕ) → value_of types v a ≡ Some (Bits w m) → value_of types v b ≡ Some (Bits u n) →
      is_number w m ≡ true → is_number u n ≡ true → w + u ≤ widest → value_of types v (two Cat a b) ≡ Some (Bits (w + u) (m * 2 ^ u + n))
  cat_from a b w m u n first second first_number second_number within =
      two_from types v Cat a b (Bits w m) (Bits u n) first second
      ∙ ap (λ y. of_parts y (out-Value (Bits u n))) (out-Bits w m) ∙ ap (of_parts (BitsLayer w m)) (out-Bits u n)
      ∙ ap (λ c. if c then Some (Bits (w + u) (m * 2 ^ u + n)) else None)
      (and_from (is_number w m && is_number u n) (nat_le (w + u) widest) (and_from (is_number w m) (is_number u n) first_number second_number) (le-leb (w + u) widest within))

  pub on_cat_value : (a b r : Term) →
      ((w m u n : ℕ) → value_of types v a ≡ Some (Bits w m) → value_of types v b ≡ Some (Bits u n) → is_number w m ≡ true → is_number u n ≡ true → w + u ≤ widest →
      value_of types v r ≡ Some (Bits (w + u) (m * 2 ^ u + n))) →
      Kept (two Cat a b) r
  on_cat_value a b r gives x has =
      let i = joined a b x has in
      gives i.w i.m i.u i.n i.first i.second i.first_number i.second_number i.within ∙ ap Some i.made
