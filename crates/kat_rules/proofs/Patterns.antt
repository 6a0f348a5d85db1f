-- What is shown of a term where a pattern is there is shown of it.
use Rattle.std.proofs.Common.{◌≡◌, ◌∙◌, ℕ, Bool, true, false, List, [], ◌∷◌, Option, Some, None, refl, ap, sym, subst, if◌then◌else◌}
use Rattle.std.specs.Prelude.{◌==◌, option_and_then}
use Rattle.std.specs.Option.{option_or}
use Rattle.std.proofs.lemmas.Bool.{eqb-true}
use Rattle.kat_value.specs.declared.op.Op.{Op}
use Rattle.kat_value.specs.declared.op.Op.TheVariants.{Slice, Zext, Sext, Get}
use Rattle.kat_value.specs.declared.types.Ty.{Ty}
use Rattle.kat_value.specs.declared.value.Value.{Value}
use Rattle.kat_value.specs.declared.value.Value.TheVariants.{Bool as Truth, Bits}
use Rattle.kat_value.specs.Widths.{is_number}
use Rattle.kat_term.specs.declared.term.Term.{Term}
use Rattle.kat_term.specs.declared.term.Term.TheOpen.{Term-F, Lit, Apply, Make, Rec}
use Rattle.kat_term.specs.declared.term.Term.TheViews.{out-Term, roll-Term, roll-out-Term}
use Rattle.kat_term.specs.declared.term.Term.TheVariants.{Apply as ApplyTerm, Lit as LitTerm, Make as Maker, Rec as Recorder, rolls-Apply, rolls-Lit, rolls-Make, rolls-Rec}
use Rattle.kat_term.specs.Equality.{op_eq, TestsOperations}
use Rattle.kat_term.specs.Views.{MadeTerm, RecTerm, ThreeTerms, one, two, three, truth, bits, args_in, args_of, value_in, literal_of, one_item, two_items, three_items, number_in, truth_in, making_in, made_of, record_in, rec_of}
use Rattle.kat_rules.specs.Patterns.{SliceTerm, LongerTerm, FieldTerm, only_if, on_one, on_two, on_three, on_truth, fitting, on_bits, on_bits_of, on_made, on_rec, slice_in, zext_in, sext_in, field_in, on_slice, on_zext, on_sext, on_field}
use Rattle.kat_rules.specs.Widths.{width_of, on_width}

-- a right side that is there
pub some_is : (C : Term → Type 0) (t r : Term) → Some t ≡ Some r → C t → C r
some_is C t r e c = subst C (let same : t ≡ r = cc in same) c

pub only_is : (C : Term → Type 0) (b : Bool) (t r : Term) → only_if b t ≡ Some r → (b ≡ true → C t) → C r
only_is C true t r e c = some_is C t r e (c refl)
only_is C false t r e c = cc

pub if_is : (C : Type 0) (b : Bool) (o : Option Term) (r : Term) → (if b then o else None) ≡ Some r → (b ≡ true → o ≡ Some r → C) → C
if_is C true o r e c = c refl e
if_is C false o r e c = cc

pub either_is : (C : Type 0) (a b : Option Term) (r : Term) → option_or a b ≡ Some r → (a ≡ Some r → C) → (b ≡ Some r → C) → C
either_is C None b r e first second = second e
either_is C (Some x) b r e first second = first e

-- a literal
value_there : (x : Term-F Term) (value : Value) → value_in x ≡ Some value → roll-Term x ≡ LitTerm value
value_there (Lit x) value e = let same : x ≡ value = cc in rolls-Lit x ∙ ap LitTerm same
value_there _ value e = cc

pub literal_there : (t : Term) (value : Value) → literal_of t ≡ Some value → t ≡ LitTerm value
literal_there t value e = sym (roll-out-Term t) ∙ value_there (out-Term t) value e

pub in_truth : (t : Term) (go : Bool → Option Term) (r : Term) (C : Term → Type 0) → on_truth t go ≡ Some r → ((p : Bool) → go p ≡ Some r → C (truth p)) → C t
in_truth t go r C e c = by (literal_of t) refl e where
  by : (o : Option Value) → literal_of t ≡ o → option_and_then go (option_and_then truth_in o) ≡ Some r → C t
  by None is h = cc
  by (Some (Truth p)) is h = subst C (sym (literal_there t (Truth p) is)) (c p h)
  by (Some _) is h = cc

pub in_bits : (t : Term) (go : ℕ → ℕ → Option Term) (r : Term) (C : Term → Type 0) → on_bits t go ≡ Some r →
    ((w n : ℕ) → is_number w n ≡ true → go w n ≡ Some r → C (bits w n)) → C t
in_bits t go r C e c = by (literal_of t) refl e where
  fits : (w n : ℕ) → t ≡ bits w n → (b : Bool) → is_number w n ≡ b →
      option_and_then (λ (l : ℕ × ℕ). go l.0 l.1) (if b then Some (w, n) else None) ≡ Some r → C t
  fits w n is true number h = subst C (sym is) (c w n number h)
  fits w n is false number h = cc

  by : (o : Option Value) → literal_of t ≡ o →
      option_and_then (λ (l : ℕ × ℕ). go l.0 l.1) (option_and_then fitting (option_and_then number_in o)) ≡ Some r → C t
  by None is h = cc
  by (Some (Bits w n)) is h = fits w n (literal_there t (Bits w n) is) (is_number w n) refl h
  by (Some _) is h = cc

pub in_bits_of : (w : ℕ) (t : Term) (go : ℕ → Option Term) (r : Term) (C : Term → Type 0) → on_bits_of w t go ≡ Some r →
    ((n : ℕ) → is_number w n ≡ true → go n ≡ Some r → C (bits w n)) → C t
in_bits_of w t go r C e c =
    in_bits t (λ u n. if u == w then go n else None) r C e
    (λ u n number h. if_is (C (bits u n)) (u == w) (go n) r h
    (λ same g. let is : u ≡ w = eqb-true u w same in
    subst (λ k. C (bits k n)) (sym is) (c n (ap (λ k. is_number k n) (sym is) ∙ number) g)))

-- the width of a term
pub in_width : (vars : List Ty) (t : Term) (go : ℕ → Option Term) (r : Term) (C : Type 0) → on_width vars t go ≡ Some r →
    ((w : ℕ) → width_of vars t ≡ Some w → go w ≡ Some r → C) → C
in_width vars t go r C e c = by (width_of vars t) refl e where
  by : (o : Option ℕ) → width_of vars t ≡ o → option_and_then go o ≡ Some r → C
  by None is h = cc
  by (Some w) is h = c w is h

-- a constructor, and a record
made_there : (x : Term-F Term) (m : MadeTerm) → making_in x ≡ Some m → roll-Term x ≡ Maker m.of m.ctor m.inner
made_there (Make of ctor inner) m e = let same : record { of = of; ctor = ctor; inner = inner } ≡ m = cc in rolls-Make of ctor inner ∙ ap (λ (k : MadeTerm). Maker k.of k.ctor k.inner) same
made_there _ m e = cc

pub in_made : (t : Term) (go : MadeTerm → Option Term) (r : Term) (C : Term → Type 0) → on_made t go ≡ Some r →
    ((m : MadeTerm) → go m ≡ Some r → C (Maker m.of m.ctor m.inner)) → C t
in_made t go r C e c = by (made_of t) refl e where
  by : (o : Option MadeTerm) → made_of t ≡ o → option_and_then go o ≡ Some r → C t
  by None is h = cc
  by (Some m) is h = subst C (sym (sym (roll-out-Term t) ∙ made_there (out-Term t) m is)) (c m h)

rec_there : (x : Term-F Term) (m : RecTerm) → record_in x ≡ Some m → roll-Term x ≡ Recorder m.of m.fields
rec_there (Rec of fields) m e = let same : record { of = of; fields = fields } ≡ m = cc in rolls-Rec of fields ∙ ap (λ (k : RecTerm). Recorder k.of k.fields) same
rec_there _ m e = cc

pub in_rec : (t : Term) (go : RecTerm → Option Term) (r : Term) (C : Term → Type 0) → on_rec t go ≡ Some r →
    ((m : RecTerm) → go m ≡ Some r → C (Recorder m.of m.fields)) → C t
in_rec t go r C e c = by (rec_of t) refl e where
  by : (o : Option RecTerm) → rec_of t ≡ o → option_and_then go o ≡ Some r → C t
  by None is h = cc
  by (Some m) is h = subst C (sym (sym (roll-out-Term t) ∙ rec_there (out-Term t) m is)) (c m h)

-- operations
module _ (ops : TestsOperations) where
  args_there : (op : Op) (x : Term-F Term) (args : List Term) → args_in op x ≡ Some args → roll-Term x ≡ ApplyTerm op args
  args_there op (Apply found args) given e = by (op_eq found op) refl e where
    by : (b : Bool) → op_eq found op ≡ b → (if b then Some args else None) ≡ Some given → roll-Term (Apply found args) ≡ ApplyTerm op given
    by true is h =
        let same : args ≡ given = cc in
        rolls-Apply found args ∙ ap (λ o. ApplyTerm o args) ((ops found op).0 is) ∙ ap (ApplyTerm op) same
    by false is h = cc
  args_there op _ given e = cc

  args_of_there : (op : Op) (t : Term) (args : List Term) → args_of op t ≡ Some args → t ≡ ApplyTerm op args
  args_of_there op t args e = sym (roll-out-Term t) ∙ args_there op (out-Term t) args e

  pub in_one : (op : Op) (t : Term) (go : Term → Option Term) (r : Term) (C : Term → Type 0) → on_one op t go ≡ Some r → ((a : Term) → go a ≡ Some r → C (one op a)) → C t
  in_one op t go r C e c = by (args_of op t) refl e where
    by : (o : Option (List Term)) → args_of op t ≡ o → option_and_then go (option_and_then one_item o) ≡ Some r → C t
    by None is h = cc
    by (Some []) is h = cc
    by (Some (a ∷ [])) is h = subst C (sym (args_of_there op t (a ∷ []) is)) (c a h)
    by (Some (a ∷ b ∷ more)) is h = cc

  pub in_two : (op : Op) (t : Term) (go : Term → Term → Option Term) (r : Term) (C : Term → Type 0) → on_two op t go ≡ Some r →
      ((a b : Term) → go a b ≡ Some r → C (two op a b)) → C t
  in_two op t go r C e c = by (args_of op t) refl e where
    by : (o : Option (List Term)) → args_of op t ≡ o → option_and_then (λ (args : Term × Term). go args.0 args.1) (option_and_then two_items o) ≡ Some r → C t
    by None is h = cc
    by (Some []) is h = cc
    by (Some (a ∷ [])) is h = cc
    by (Some (a ∷ b ∷ [])) is h = subst C (sym (args_of_there op t (a ∷ b ∷ []) is)) (c a b h)
    by (Some (a ∷ b ∷ d ∷ more)) is h = cc

  pub in_three : (op : Op) (t : Term) (go : Term → Term → Term → Option Term) (r : Term) (C : Term → Type 0) → on_three op t go ≡ Some r →
      ((a b d : Term) → go a b d ≡ Some r → C (three op a b d)) → C t
  in_three op t go r C e c = by (args_of op t) refl e where
    by : (o : Option (List Term)) → args_of op t ≡ o →
        option_and_then (λ (args : ThreeTerms). go args.first args.second args.third) (option_and_then three_items o) ≡ Some r → C t
    by None is h = cc
    by (Some []) is h = cc
    by (Some (a ∷ [])) is h = cc
    by (Some (a ∷ b ∷ [])) is h = cc
    by (Some (a ∷ b ∷ d ∷ [])) is h = subst C (sym (args_of_there op t (a ∷ b ∷ d ∷ []) is)) (c a b d h)
    by (Some (a ∷ b ∷ d ∷ f ∷ more)) is h = cc

-- operations whose numbers may be any
pub in_slice : (t : Term) (go : ℕ → ℕ → Term → Option Term) (r : Term) (C : Term → Type 0) → on_slice t go ≡ Some r →
    ((hi lo : ℕ) (a : Term) → go hi lo a ≡ Some r → C (one (Slice hi lo) a)) → C t
in_slice t go r C e c = subst C (roll-out-Term t) (by (out-Term t) e) where
  by : (x : Term-F Term) → option_and_then (λ (s : SliceTerm). go s.hi s.lo s.of) (slice_in x) ≡ Some r → C (roll-Term x)
  by (Apply (Slice hi lo) []) h = cc
  by (Apply (Slice hi lo) (a ∷ [])) h = subst C (sym (rolls-Apply (Slice hi lo) (a ∷ []))) (c hi lo a h)
  by (Apply (Slice hi lo) (a ∷ b ∷ more)) h = cc
  by _ h = cc

pub in_zext : (t : Term) (go : ℕ → Term → Option Term) (r : Term) (C : Term → Type 0) → on_zext t go ≡ Some r →
    ((w : ℕ) (a : Term) → go w a ≡ Some r → C (one (Zext w) a)) → C t
in_zext t go r C e c = subst C (roll-out-Term t) (by (out-Term t) e) where
  by : (x : Term-F Term) → option_and_then (λ (z : LongerTerm). go z.width z.of) (zext_in x) ≡ Some r → C (roll-Term x)
  by (Apply (Zext w) []) h = cc
  by (Apply (Zext w) (a ∷ [])) h = subst C (sym (rolls-Apply (Zext w) (a ∷ []))) (c w a h)
  by (Apply (Zext w) (a ∷ b ∷ more)) h = cc
  by _ h = cc

pub in_sext : (t : Term) (go : ℕ → Term → Option Term) (r : Term) (C : Term → Type 0) → on_sext t go ≡ Some r →
    ((w : ℕ) (a : Term) → go w a ≡ Some r → C (one (Sext w) a)) → C t
in_sext t go r C e c = subst C (roll-out-Term t) (by (out-Term t) e) where
  by : (x : Term-F Term) → option_and_then (λ (z : LongerTerm). go z.width z.of) (sext_in x) ≡ Some r → C (roll-Term x)
  by (Apply (Sext w) []) h = cc
  by (Apply (Sext w) (a ∷ [])) h = subst C (sym (rolls-Apply (Sext w) (a ∷ []))) (c w a h)
  by (Apply (Sext w) (a ∷ b ∷ more)) h = cc
  by _ h = cc

pub in_field : (t : Term) (go : ℕ → ℕ → Term → Option Term) (r : Term) (C : Term → Type 0) → on_field t go ≡ Some r →
    ((of field : ℕ) (a : Term) → go of field a ≡ Some r → C (one (Get of field) a)) → C t
in_field t go r C e c = subst C (roll-out-Term t) (by (out-Term t) e) where
  by : (x : Term-F Term) → option_and_then (λ (f : FieldTerm). go f.of f.field f.from) (field_in x) ≡ Some r → C (roll-Term x)
  by (Apply (Get of field) []) h = cc
  by (Apply (Get of field) (a ∷ [])) h = subst C (sym (rolls-Apply (Get of field) (a ∷ []))) (c of field a h)
  by (Apply (Get of field) (a ∷ b ∷ more)) h = cc
  by _ h = cc
