-- A fresh value is a term of its type, and has every value of that type.
use Rattle.std.proofs.Common.{◌≡◌, ◌∙◌, ℕ, zero, suc, ◌+◌, true, List, [], ◌∷◌, ◌++◌, length, map, Option, Some, None, refl, ap, sym, subst, if◌then◌else◌, arith}
use Rattle.std.specs.Prelude.{Ok, slice_get, option_and_then, ◌==◌}
use Rattle.std.specs.Option.{option_map}
use Rattle.std.proofs.lemmas.Bool.{and_parts, and_from, eqb-true}
use Rattle.std.proofs.lemmas.List.{append_assoc, length-append}
use Rattle.kat_value.specs.declared.types.Field.{Field}
use Rattle.kat_value.specs.declared.types.Ty.{Ty}
use Rattle.kat_value.specs.declared.types.Ty.TheVariants as ty
use Rattle.kat_value.specs.declared.types.TypeDecl.{TypeDecl}
use Rattle.kat_value.specs.declared.value.Value.{Value, out-Value, roll-Value, roll-out-Value}
use Rattle.kat_value.specs.declared.value.Value.TheVariants.{Unit as UnitValue, Rec as RecValue, rolls-Unit, rolls-Rec}
use Rattle.kat_value.specs.declared.value.Value.TheOpen.{Value-F, Unit as UnitLayer, Rec as RecLayer}
use Rattle.kat_value.specs.Signatures.{same_type}
use Rattle.kat_value.specs.Typing.{HasType, has_type, layer_has_type, all_pass, pass_record, fields_at}
use Rattle.kat_term.specs.declared.term.Term.{Term}
use Rattle.kat_term.specs.declared.term.Term.TheVariants.{Var as VarTerm}
use Rattle.kat_term.specs.Fresh.{Fresh, FreshList, fresh_variable, fresh_fields, fresh_rec, fresh_within, fresh_of}
use Rattle.kat_term.specs.Growth.{FreshValuesExtend, FreshValuesAreTerms, WorldsStay, WorldsHaveValuations, AnswersFresh, ExtendsBy, with_fresh}
use Rattle.kat_value.specs.Shown.{type_of_layer, type_of_value}
use Rattle.kat_value.specs.OperationTypes.{type_of_record}
use Rattle.kat_term.specs.Types.{type_of, IsTermOf, IsValuation}
use Rattle.kat_value.specs.Making.{all_there, value_of_record}
use Rattle.kat_term.specs.Values.{Valuation, is_literal, value_of}
use Rattle.kat_term.specs.Views.{unit}
use Rattle.kat_term.specs.Worlds.{World, HaveValues, IsFormulaOf, AreFormulasOf}
use Rattle.kat_term.proofs.GrowthLaws.{values_stay, types_stay, truths_stay}
use Rattle.kat_term.proofs.Layers.{value_of-Var, value_of-Lit, value_of-Rec, type_of-Var, type_of-Lit, type_of-Rec}
use Rattle.kat_term.proofs.ValueLayers.{tested, has_type-out, out-Unit, same_self}

-- the place behind a list
get_behind : {A : Type 0} (xs : List A) (y : A) (n : ℕ) → length xs ≡ n → slice_get (xs ++ y ∷ []) n ≡ Some y
get_behind [] y zero e = refl
get_behind [] y (suc n) e = absurd (let h : 0 ≡ suc n = e in omega (arith, h))
get_behind (x ∷ xs) y zero e = absurd (let h : suc (length xs) ≡ 0 = e in omega (arith, h))
get_behind (x ∷ xs) y (suc n) e = get_behind xs y n (let h : suc (length xs) ≡ suc n = e in omega (arith, h))

-- valuations are joined
pub joined_valuations : (types : List TypeDecl) (vars more : List Ty) (v w : Valuation) → IsValuation types vars v → IsValuation types more w → IsValuation types (vars ++ more) (v ++ w)
joined_valuations types [] more [] w first second = second
joined_valuations types [] more (x ∷ v) w first second = absurd first
joined_valuations types (t ∷ vars) more [] w first second = absurd first
joined_valuations types (t ∷ vars) more (x ∷ v) w first second = (first.0, joined_valuations types vars more v w first.1 second)

pub valuation_length : (types : List TypeDecl) (vars : List Ty) (v : Valuation) → IsValuation types vars v → length v ≡ length vars
valuation_length types [] [] is = refl
valuation_length types [] (x ∷ v) is = absurd is
valuation_length types (t ∷ vars) [] is = absurd is
valuation_length types (t ∷ vars) (x ∷ v) is = ap suc (valuation_length types vars v is.1)

module _ (types : List TypeDecl) where
  -- the unit term
  unit_value : (v : Valuation) → value_of types v unit ≡ Some UnitValue
  unit_value v = value_of-Lit types v UnitValue ∙ ap (λ y. if is_literal types y then Some UnitValue else None) out-Unit

  unit_type : (vars : List Ty) → type_of types vars unit ≡ Some ty.Unit
  unit_type vars =
      type_of-Lit types vars UnitValue ∙ ap (λ y. option_map type_of_value (if is_literal types y then Some UnitValue else None)) out-Unit
      ∙ ap (λ y. Some (type_of_layer y)) out-Unit

  unit_only : (x : Value) → HasType types ty.Unit x → x ≡ UnitValue
  unit_only x has = sym (roll-out-Value x) ∙ by (out-Value x) (sym (has_type-out types x ty.Unit) ∙ has) where
    by : (y : Value-F Value) → layer_has_type types (tested types y) ty.Unit ≡ true → roll-Value y ≡ UnitValue
    by UnitLayer h = rolls-Unit
    by _ h = cc

  -- the fields of a record of this type
  record RecordOf (of : ℕ) (x : Value) : Type 0 where
    xs : List Value
    is : x ≡ RecValue of xs
    pass : pass_record (map (has_type types) xs) (fields_at types of) ≡ true

  record_only : (of : ℕ) (x : Value) → HasType types (ty.Rec of) x → RecordOf of x
  record_only of x has = by (out-Value x) refl (sym (has_type-out types x (ty.Rec of)) ∙ has) where
    by : (y : Value-F Value) → out-Value x ≡ y → layer_has_type types (tested types y) (ty.Rec of) ≡ true → RecordOf of x
    by (RecLayer t xs) e h =
        let parts = and_parts (t == of) (pass_record (map (has_type types) xs) (fields_at types t)) h in
        let same : t ≡ of = eqb-true t of parts.0 in
        record {
          xs = xs;
          is = sym (roll-out-Value x) ∙ ap roll-Value e ∙ rolls-Rec t xs ∙ ap (λ n. RecValue n xs) same;
          pass = subst (λ n. pass_record (map (has_type types) xs) (fields_at types n) ≡ true) same parts.1;
        }
    by _ e h = cc

  -- a fresh value has this value under values of its variables
  record HasFresh (fresh : Fresh) (next : ℕ) (x : Value) : Type 0 where
    more : Valuation
    valued : IsValuation types fresh.vars more
    value : (before : Valuation) → length before ≡ next → value_of types (before ++ more) fresh.term ≡ Some x

  record HaveFresh (fresh : FreshList) (next : ℕ) (xs : List Value) : Type 0 where
    more : Valuation
    valued : IsValuation types fresh.vars more
    values : (before : Valuation) → length before ≡ next → all_there (map (value_of types (before ++ more)) fresh.terms) ≡ Some xs

  one_variable : (t : Ty) (next : ℕ) (x : Value) → HasType types t x → HasFresh (record { term = VarTerm next; vars = t ∷ [] }) next x
  one_variable t next x has = record {
    more = x ∷ [];
    valued = (has, tt);
    value = λ before long. value_of-Var types (before ++ x ∷ []) next ∙ get_behind before x next long;
  }

  variable_has : (t : Ty) (next : ℕ) (x : Value) → HasType types t x → HasFresh (fresh_variable t next) next x
  variable_has ty.Unit next x has = record {
    more = [];
    valued = tt;
    value = λ before long. unit_value (before ++ []) ∙ ap Some (sym (unit_only x has));
  }
  variable_has ty.Bool next x has = one_variable ty.Bool next x has
  variable_has (ty.Bits w) next x has = one_variable (ty.Bits w) next x has
  variable_has (ty.Enum of) next x has = one_variable (ty.Enum of) next x has
  variable_has (ty.Union of) next x has = one_variable (ty.Union of) next x has
  variable_has (ty.Rec of) next x has = one_variable (ty.Rec of) next x has

  abbrev AllHave : (Ty → ℕ → Fresh) → Type 0
  AllHave fresh = (t : Ty) (next : ℕ) (x : Value) → HasType types t x → HasFresh (fresh t next) next x

  there : (x : Value) (xs : List Value) (a : Option Value) (many : Option (List Value)) → a ≡ Some x → many ≡ Some xs → option_and_then (λ y. option_map (λ ys. y ∷ ys) many) a ≡ Some (x ∷ xs)
  there x xs a many first rest = ap (option_and_then (λ y. option_map (λ ys. y ∷ ys) many)) first ∙ ap (option_map (λ ys. x ∷ ys)) rest

  fields_have : (fresh : Ty → ℕ → Fresh) → AllHave fresh → (fields : List Field) (next : ℕ) (xs : List Value) → all_pass (map (has_type types) xs) fields ≡ true →
      HaveFresh (fresh_fields fresh fields next) next xs
  fields_have fresh have [] next [] pass = record { more = []; valued = tt; values = λ before long. refl }
  fields_have fresh have [] next (x ∷ xs) pass = cc
  fields_have fresh have (field ∷ fields) next [] pass = cc
  fields_have fresh have (field ∷ fields) next (x ∷ xs) pass =
      let parts = and_parts (has_type types x field.ty) (all_pass (map (has_type types) xs) fields) pass in
      let first = have field.ty next x parts.0 in
      let rest = fields_have fresh have fields (next + length (fresh field.ty next).vars) xs parts.1 in
      record {
        more = first.more ++ rest.more;
        valued = joined_valuations types (fresh field.ty next).vars _ first.more rest.more first.valued rest.valued;
        values = λ before long.
            let assoc : (before ++ first.more) ++ rest.more ≡ before ++ (first.more ++ rest.more) = append_assoc before first.more rest.more in
            let reach : length (before ++ first.more) ≡ next + length (fresh field.ty next).vars =
            length-append before first.more ∙ ap (λ n. n + length first.more) long ∙ ap (λ n. next + n) (valuation_length types (fresh field.ty next).vars first.more first.valued) in
            let head : value_of types (before ++ (first.more ++ rest.more)) (fresh field.ty next).term ≡ Some x =
            ap (λ v. value_of types v (fresh field.ty next).term) (sym assoc)
            ∙ values_stay types (before ++ first.more) rest.more (fresh field.ty next).term x (first.value before long) in
            let tail : all_there (map (value_of types (before ++ (first.more ++ rest.more))) (fresh_fields fresh fields (next + length (fresh field.ty next).vars)).terms) ≡ Some xs =
            ap (λ v. all_there (map (value_of types v) (fresh_fields fresh fields (next + length (fresh field.ty next).vars)).terms)) (sym assoc)
            ∙ rest.values (before ++ first.more) reach in
            there x xs _ _ head tail;
      }

  record_value : (of : ℕ) (xs : List Value) → pass_record (map (has_type types) xs) (fields_at types of) ≡ true → value_of_record types of xs ≡ Some (RecValue of xs)
  record_value of xs pass = ap (λ b. if b then Some (RecValue of xs) else None) pass

  rec_has : (fresh : Ty → ℕ → Fresh) → AllHave fresh → (of next : ℕ) (x : Value) → HasType types (ty.Rec of) x →
      HasFresh (fresh_rec fresh of (fields_at types of) next) next x
  rec_has fresh have of next x has = by (fields_at types of) refl where
    by : (declared : Option (List Field)) → fields_at types of ≡ declared → HasFresh (fresh_rec fresh of declared next) next x
    by None e = one_variable (ty.Rec of) next x has
    by (Some fields) e =
        let parts = record_only of x has in
        let pass : all_pass (map (has_type types) parts.xs) fields ≡ true = sym (ap (pass_record (map (has_type types) parts.xs)) e) ∙ parts.pass in
        let all = fields_have fresh have fields next parts.xs pass in
        record {
          more = all.more;
          valued = all.valued;
          value = λ before long.
              value_of-Rec types (before ++ all.more) of (fresh_fields fresh fields next).terms
              ∙ ap (option_and_then (value_of_record types of)) (all.values before long)
              ∙ record_value of parts.xs parts.pass
              ∙ ap Some (sym parts.is);
        }

  within_has : (levels : ℕ) → AllHave (fresh_within types levels)
  within_has zero t next x has = variable_has t next x has
  within_has (suc levels) ty.Unit next x has = variable_has ty.Unit next x has
  within_has (suc levels) ty.Bool next x has = variable_has ty.Bool next x has
  within_has (suc levels) (ty.Bits w) next x has = variable_has (ty.Bits w) next x has
  within_has (suc levels) (ty.Enum of) next x has = variable_has (ty.Enum of) next x has
  within_has (suc levels) (ty.Union of) next x has = variable_has (ty.Union of) next x has
  within_has (suc levels) (ty.Rec of) next x has = rec_has (fresh_within types levels) (within_has levels) of next x has

  -- and its type
  abbrev AllTyped : (Ty → ℕ → Fresh) → Type 0
  AllTyped fresh = (t : Ty) (before : List Ty) → type_of types (before ++ (fresh t (length before)).vars) (fresh t (length before)).term ≡ Some t

  variable_typed : AllTyped fresh_variable
  variable_typed ty.Unit before = unit_type (before ++ [])
  variable_typed ty.Bool before = type_of-Var types (before ++ ty.Bool ∷ []) (length before) ∙ get_behind before ty.Bool (length before) refl
  variable_typed (ty.Bits w) before = type_of-Var types (before ++ ty.Bits w ∷ []) (length before) ∙ get_behind before (ty.Bits w) (length before) refl
  variable_typed (ty.Enum of) before = type_of-Var types (before ++ ty.Enum of ∷ []) (length before) ∙ get_behind before (ty.Enum of) (length before) refl
  variable_typed (ty.Union of) before = type_of-Var types (before ++ ty.Union of ∷ []) (length before) ∙ get_behind before (ty.Union of) (length before) refl
  variable_typed (ty.Rec of) before = type_of-Var types (before ++ ty.Rec of ∷ []) (length before) ∙ get_behind before (ty.Rec of) (length before) refl

  type_in : Field → Ty
  type_in field = field.ty

  fields_same : (fields : List Field) → all_pass (map same_type (map (λ (f : Field). f.ty) fields)) fields ≡ true
  fields_same [] = refl
  fields_same (field ∷ fields) = and_from (same_type field.ty field.ty) _ (same_self field.ty) (fields_same fields)

  there_types : (t : Ty) (ts : List Ty) (a : Option Ty) (many : Option (List Ty)) → a ≡ Some t → many ≡ Some ts → option_and_then (λ y. option_map (λ ys. y ∷ ys) many) a ≡ Some (t ∷ ts)
  there_types t ts a many first rest = ap (option_and_then (λ y. option_map (λ ys. y ∷ ys) many)) first ∙ ap (option_map (λ ys. t ∷ ys)) rest

  fields_typed : (fresh : Ty → ℕ → Fresh) → AllTyped fresh → (fields : List Field) (before : List Ty) →
      all_there (map (type_of types (before ++ (fresh_fields fresh fields (length before)).vars)) (fresh_fields fresh fields (length before)).terms) ≡ Some (map (λ (f : Field). f.ty) fields)
  fields_typed fresh typed [] before = refl
  fields_typed fresh typed (field ∷ fields) before =
      let one = fresh field.ty (length before) in
      let longer : length (before ++ one.vars) ≡ length before + length one.vars = length-append before one.vars in
      let rest = fresh_fields fresh fields (length before + length one.vars) in
      let assoc : (before ++ one.vars) ++ rest.vars ≡ before ++ (one.vars ++ rest.vars) = append_assoc before one.vars rest.vars in
      let head : type_of types (before ++ (one.vars ++ rest.vars)) one.term ≡ Some field.ty =
      ap (λ vars. type_of types vars one.term) (sym assoc) ∙ types_stay types (before ++ one.vars) rest.vars field.ty one.term (typed field.ty before) in
      let tail : all_there (map (type_of types (before ++ (one.vars ++ rest.vars))) rest.terms) ≡ Some (map (λ (f : Field). f.ty) fields) =
      ap (λ vars. all_there (map (type_of types vars) rest.terms)) (sym assoc)
      ∙ ap (λ n. all_there (map (type_of types ((before ++ one.vars) ++ (fresh_fields fresh fields n).vars)) (fresh_fields fresh fields n).terms)) (sym longer)
      ∙ fields_typed fresh typed fields (before ++ one.vars) in
      there_types field.ty (map (λ (f : Field). f.ty) fields) _ _ head tail

  rec_typed : (fresh : Ty → ℕ → Fresh) → AllTyped fresh → (of : ℕ) (before : List Ty) →
      type_of types (before ++ (fresh_rec fresh of (fields_at types of) (length before)).vars) (fresh_rec fresh of (fields_at types of) (length before)).term ≡ Some (ty.Rec of)
  rec_typed fresh typed of before = by (fields_at types of) refl where
    by : (declared : Option (List Field)) → fields_at types of ≡ declared →
        type_of types (before ++ (fresh_rec fresh of declared (length before)).vars) (fresh_rec fresh of declared (length before)).term ≡ Some (ty.Rec of)
    by None e = variable_typed (ty.Rec of) before
    by (Some fields) e =
        let all = fresh_fields fresh fields (length before) in
        type_of-Rec types (before ++ all.vars) of all.terms
        ∙ ap (option_and_then (type_of_record types of)) (fields_typed fresh typed fields before)
        ∙ ap (λ declared. if pass_record (map same_type (map (λ (f : Field). f.ty) fields)) declared then Some (ty.Rec of) else None) e
        ∙ ap (λ b. if b then Some (ty.Rec of) else None) (fields_same fields)

  within_typed : (levels : ℕ) → AllTyped (fresh_within types levels)
  within_typed zero t before = variable_typed t before
  within_typed (suc levels) ty.Unit before = variable_typed ty.Unit before
  within_typed (suc levels) ty.Bool before = variable_typed ty.Bool before
  within_typed (suc levels) (ty.Bits w) before = variable_typed (ty.Bits w) before
  within_typed (suc levels) (ty.Enum of) before = variable_typed (ty.Enum of) before
  within_typed (suc levels) (ty.Union of) before = variable_typed (ty.Union of) before
  within_typed (suc levels) (ty.Rec of) before = rec_typed (fresh_within types levels) (within_typed levels) of before

pub fresh_values_extend : FreshValuesExtend
fresh_values_extend types t world v fits x has =
    let fresh = within_has types (length types) t (length world.vars) x has in (
      fresh.more,
      record {
        valued = joined_valuations types world.vars (fresh_of types t (length world.vars)).vars v fresh.more fits.valued fresh.valued;
        truths = truths_stay types v fresh.more world.formulas fits.truths;
      },
      fresh.value v (valuation_length types world.vars v fits.valued),
    )

pub fresh_values_are_terms : FreshValuesAreTerms
fresh_values_are_terms types t vars = within_typed types (length types) t vars

-- the types of a valuation have values, and such types have a valuation
types_have_values : (types : List TypeDecl) (vars : List Ty) (v : Valuation) → IsValuation types vars v → HaveValues types vars
types_have_values types [] [] is = tt
types_have_values types [] (x ∷ v) is = absurd is
types_have_values types (t ∷ vars) [] is = absurd is
types_have_values types (t ∷ vars) (x ∷ v) is = ((x, is.0), types_have_values types vars v is.1)

valuation_of : (types : List TypeDecl) (vars : List Ty) → HaveValues types vars → (v : Valuation) × IsValuation types vars v
valuation_of types [] have = ([], tt)
valuation_of types (t ∷ vars) have = let rest = valuation_of types vars have.1 in (have.0.0 ∷ rest.0, (have.0.1, rest.1))

values_join : (types : List TypeDecl) (vars more : List Ty) → HaveValues types vars → HaveValues types more → HaveValues types (vars ++ more)
values_join types [] more first second = second
values_join types (t ∷ vars) more first second = (first.0, values_join types vars more first.1 second)

formulas_on : (types : List TypeDecl) (vars more : List Ty) (fs : List Term) → AreFormulasOf types vars fs → AreFormulasOf types (vars ++ more) fs
formulas_on types vars more [] are = tt
formulas_on types vars more (f ∷ fs) are = (types_stay types vars more ty.Bool f are.0, formulas_on types vars more fs are.1)

formulas_join : (types : List TypeDecl) (vars : List Ty) (fs : List Term) (f : Term) → AreFormulasOf types vars fs → IsFormulaOf types vars f → AreFormulasOf types vars (fs ++ f ∷ [])
formulas_join types vars [] f are is = (is, tt)
formulas_join types vars (g ∷ fs) f are is = (are.0, formulas_join types vars fs f are.1 is)

pub worlds_stay : WorldsStay
worlds_stay types world is = (
  λ t x has.
      let fresh = within_has types (length types) t (length world.vars) x has in
      let vars = (fresh_of types t (length world.vars)).vars in
      record {
        vars = values_join types world.vars vars is.vars (types_have_values types vars fresh.more fresh.valued);
        formulas = formulas_on types world.vars vars world.formulas is.formulas;
      },
  λ formula typed. record { vars = is.vars; formulas = formulas_join types world.vars world.formulas formula is.formulas typed },
)

pub worlds_have_valuations : WorldsHaveValuations
worlds_have_valuations types world is = valuation_of types world.vars is.vars

-- a world that grew by a fresh value
pub grown_extends : (types : List TypeDecl) (t : Ty) (old new : World) (term : Term) → AnswersFresh (Ok term) old.vars new.vars (fresh_of types t (length old.vars)) → new.formulas ≡ old.formulas →
    ExtendsBy types t old new term
grown_extends types t old new term answer same =
    let fresh = fresh_of types t (length old.vars) in
    let is : with_fresh old fresh ≡ new = sym (ap (λ vars. record { vars = vars; formulas = new.formulas }) answer.1 ∙ ap (λ fs. record { vars = old.vars ++ fresh.vars; formulas = fs }) same) in
    subst (λ w. ExtendsBy types t old w term) is (subst (λ u. ExtendsBy types t old (with_fresh old fresh) u) (sym answer.0) (fresh_values_extend types t old))

pub grown_typed : (types : List TypeDecl) (t : Ty) (old new : List Ty) (term : Term) → AnswersFresh (Ok term) old new (fresh_of types t (length old)) → IsTermOf types new t term
grown_typed types t old new term answer =
    subst (λ vars. IsTermOf types vars t term) (sym answer.1)
    (subst (λ u. IsTermOf types (old ++ (fresh_of types t (length old)).vars) t u) (sym answer.0) (fresh_values_are_terms types t old))
