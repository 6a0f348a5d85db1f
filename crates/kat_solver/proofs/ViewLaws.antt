-- What a term is where a view of it is there.
use Rattle.std.proofs.Common.{◌≡◌, ◌∙◌, ◌⊎◌, inl, inr, ℕ, Bool, true, false, List, [], ◌∷◌, Option, Some, None, refl, ap, sym, if◌then◌else◌}
use Rattle.std.specs.Prelude.{option_and_then}
use Rattle.std.specs.Option.{option_map, option_or}
use Rattle.kat_value.specs.declared.op.Op.{Op}
use Rattle.kat_value.specs.declared.value.Value.{Value}
use Rattle.kat_value.specs.declared.value.Value.TheVariants.{Bool as Truth}
use Rattle.kat_term.specs.declared.term.Term.{Term}
use Rattle.kat_term.specs.declared.term.Term.TheOpen.{Term-F, Var, Lit, Apply}
use Rattle.kat_term.specs.declared.term.Term.TheViews.{out-Term, roll-Term, roll-out-Term}
use Rattle.kat_term.specs.declared.term.Term.TheVariants.{Apply as ApplyTerm, Lit as LitTerm, Var as VarTerm, rolls-Apply, rolls-Lit, rolls-Var}
use Rattle.kat_term.specs.Equality.{op_eq, TestsOperations}
use Rattle.kat_term.specs.Views.{ThreeTerms, one, two, three, truth, variable_in, var_of, value_in, literal_of, args_in, args_of, one_item, two_items, three_items, arg_of, three_args_of, truth_in, truth_of}
use Rattle.kat_known.specs.Views.{with_one, with_two, where_so}

pub either_there : {B : Type 0} (a b : Option B) (r : B) → option_or a b ≡ Some r →
    (a ≡ Some r) ⊎ (b ≡ Some r)
either_there None b r e = inr e
either_there (Some x) b r e = inl e

pub so_there : {B : Type 0} (holds : Bool) (o : Option B) (r : B) → where_so holds o ≡ Some r →
    (holds ≡ true) × (o ≡ Some r)
so_there true o r e = (refl, e)
so_there false o r e = cc

-- variables and literals
variable_there : (x : Term-F Term) (i : ℕ) → variable_in x ≡ Some i → roll-Term x ≡ VarTerm i
variable_there (Var j) i e = let same : j ≡ i = cc in rolls-Var j ∙ ap VarTerm same
variable_there _ i e = cc

pub var_there : (t : Term) (i : ℕ) → var_of t ≡ Some i → t ≡ VarTerm i
var_there t i e = sym (roll-out-Term t) ∙ variable_there (out-Term t) i e

value_there : (x : Term-F Term) (value : Value) → value_in x ≡ Some value →
    roll-Term x ≡ LitTerm value
value_there (Lit x) value e = let same : x ≡ value = cc in rolls-Lit x ∙ ap LitTerm same
value_there _ value e = cc

literal_there : (t : Term) (value : Value) → literal_of t ≡ Some value → t ≡ LitTerm value
literal_there t value e = sym (roll-out-Term t) ∙ value_there (out-Term t) value e

pub truth_there : (t : Term) (p : Bool) → truth_of t ≡ Some p → t ≡ truth p
truth_there t p e = by (literal_of t) refl e where
  by : (o : Option Value) → literal_of t ≡ o → option_and_then truth_in o ≡ Some p → t ≡ truth p
  by None is h = cc
  by (Some (Truth q)) is h = let same : q ≡ p = cc in literal_there t (Truth q) is ∙ ap truth same
  by (Some _) is h = cc

-- operations
pub record OneThere {B : Type 0} (op : Op) (t : Term) (go : Term → Option B) (r : B) : Type 0 where
  pub a : Term
  pub is : t ≡ one op a
  pub gives : go a ≡ Some r

pub record TwoThere {B : Type 0} (op : Op) (t : Term) (go : Term → Term → Option B)
    (r : B) : Type 0 where
  pub a : Term
  pub b : Term
  pub is : t ≡ two op a b
  pub gives : go a b ≡ Some r

pub record ThreeThere (op : Op) (t first : Term) : Type 0 where
  pub b : Term
  pub c : Term
  pub is : t ≡ three op first b c

module _ (ops : TestsOperations) where
  args_there : (op : Op) (x : Term-F Term) (args : List Term) → args_in op x ≡ Some args →
      roll-Term x ≡ ApplyTerm op args
  args_there op (Apply found args) given e = by (op_eq found op) refl e where
    by : (b : Bool) → op_eq found op ≡ b → (if b then Some args else None) ≡ Some given →
        roll-Term (Apply found args) ≡ ApplyTerm op given
    by true is h =
        let same : args ≡ given = cc in
        rolls-Apply found args ∙ ap (λ o. ApplyTerm o args) ((ops found op).0 is)
        ∙ ap (ApplyTerm op) same
    by false is h = cc
  args_there op _ given e = cc

  args_of_there : (op : Op) (t : Term) (args : List Term) → args_of op t ≡ Some args →
      t ≡ ApplyTerm op args
  args_of_there op t args e = sym (roll-out-Term t) ∙ args_there op (out-Term t) args e

  pub arg_there : (op : Op) (t a : Term) → arg_of op t ≡ Some a → t ≡ one op a
  arg_there op t a e = by (args_of op t) refl e where
    by : (o : Option (List Term)) → args_of op t ≡ o → option_and_then one_item o ≡ Some a →
        t ≡ one op a
    by None is h = cc
    by (Some []) is h = cc
    by (Some (b ∷ [])) is h = let same : b ≡ a = cc in
        args_of_there op t (b ∷ []) is ∙ ap (one op) same
    by (Some (b ∷ c ∷ more)) is h = cc

  pub with_one_there : {B : Type 0} (op : Op) (t : Term) (go : Term → Option B) (r : B) →
      with_one op t go ≡ Some r → OneThere op t go r
  with_one_there {B} op t go r e = by (arg_of op t) refl e where
    by : (o : Option Term) → arg_of op t ≡ o → option_and_then go o ≡ Some r → OneThere op t go r
    by None is h = cc
    by (Some a) is h = record { a = a; is = arg_there op t a is; gives = h }

  pub with_two_there : {B : Type 0} (op : Op) (t : Term) (go : Term → Term → Option B) (r : B) →
      with_two op t go ≡ Some r → TwoThere op t go r
  with_two_there {B} op t go r e = by (args_of op t) refl e where
    by : (o : Option (List Term)) → args_of op t ≡ o →
        option_and_then (λ (args : Term × Term). go args.0 args.1) (option_and_then two_items o)
        ≡ Some r → TwoThere op t go r
    by None is h = cc
    by (Some []) is h = cc
    by (Some (a ∷ [])) is h = cc
    by (Some (a ∷ b ∷ [])) is h = record
        { a = a; b = b; is = args_of_there op t (a ∷ b ∷ []) is; gives = h }
    by (Some (a ∷ b ∷ c ∷ more)) is h = cc

  pub three_there : (op : Op) (t first : Term) →
      option_map (λ (three : ThreeTerms). three.first) (three_args_of op t) ≡ Some first →
      ThreeThere op t first
  three_there op t first e = by (args_of op t) refl e where
    by : (o : Option (List Term)) → args_of op t ≡ o →
        option_map (λ (three : ThreeTerms). three.first) (option_and_then three_items o)
        ≡ Some first → ThreeThere op t first
    by None is h = cc
    by (Some []) is h = cc
    by (Some (a ∷ [])) is h = cc
    by (Some (a ∷ b ∷ [])) is h = cc
    by (Some (a ∷ b ∷ c ∷ [])) is h =
        let same : a ≡ first = cc in
        record {
          b = b;
          c = c;
          is = args_of_there op t (a ∷ b ∷ c ∷ []) is
              ∙ ap (λ u. three op u b c) same;
        }
    by (Some (a ∷ b ∷ c ∷ d ∷ more)) is h = cc
