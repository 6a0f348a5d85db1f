-- Parameters bound to values, and the value of the first parameter of a name.
use Rattle.std.proofs.Common.{◌≡◌, ◌∙◌, ℕ, suc, ◌+◌, ◌<◌, Bool, true, false, cond, not, if◌then◌else◌, List, [], ◌∷◌, length, slice_get, Option, None, Some, option_and_then, refl, sym, ap, arith}
use Rattle.std.specs.Option.{option_map}
use Rattle.std.specs.Prelude.{nat_lt}
use Rattle.std.specs.List.{position_or_len}
use Rattle.std.specs.Str.{bytes_eq}
use Rattle.std.proofs.lemmas.Bool.Decides.{nat_tests}
use Rattle.std.proofs.lemmas.Slice.Eq.{bytes_eq-Decides}
use Rattle.kat_names.specs.Names.{position_of}
use Rattle.kat_value.specs.declared.value.Value.{Value}
use Rattle.kat_ast.specs.declared.type_name.Param.{Param}
use Rattle.kat_syntax.specs.Cycle.{bound}
use Rattle.kat_syntax.specs.Evaluation.{Locals, value_of_name}
use Rattle.kat_syntax.specs.NamedItems.{Item, found}
use Rattle.kat_syntax.specs.RunTables.{FindsPositions, param_names}
use Rattle.kat_eval.specs.Frames.{paired}

-- as many values as parameters are bound
pub bound_paired : (params : List Param) (values : List Value) → length values ≡ length params →
    Some (paired params values) ≡ bound params values
bound_paired [] [] e = refl
bound_paired [] (v ∷ vs) e = absurd (omega arith)
bound_paired (p ∷ ps) [] e = absurd (omega arith)
bound_paired (p ∷ ps) (v ∷ vs) e =
    ap (option_map (λ locals. (p.name, v) ∷ locals)) (bound_paired ps vs (omega arith))

-- another number of values is not
pub bound_otherwise : (params : List Param) (values : List Value) →
    (length values ≡ length params → ⊥) → None ≡ bound params values
bound_otherwise [] [] other = absurd (other refl)
bound_otherwise [] (v ∷ vs) other = refl
bound_otherwise (p ∷ ps) [] other = refl
bound_otherwise (p ∷ ps) (v ∷ vs) other =
    let fewer : length vs ≡ length ps → ⊥ = λ e. other (ap suc e) in
    ap (option_map (λ locals. (p.name, v) ∷ locals)) (bound_otherwise ps vs fewer)

one_truth : (a b : Bool) → (a ≡ true → b ≡ true) → (b ≡ true → a ≡ true) → a ≡ b
one_truth true true f g = refl
one_truth false false f g = refl
one_truth true false f g = sym (f refl)
one_truth false true f g = g refl

same_either_way : (x y : List ℕ) → bytes_eq x y ≡ bytes_eq y x
same_either_way x y =
    one_truth (bytes_eq x y) (bytes_eq y x)
    (λ e. (bytes_eq-Decides y x).1 (sym ((bytes_eq-Decides x y).0 e)))
    (λ e. (bytes_eq-Decides x y).1 (sym ((bytes_eq-Decides y x).0 e)))

both_further : (m l : ℕ) → nat_lt (suc m) (suc l) ≡ nat_lt m l
both_further m l =
    one_truth (nat_lt (suc m) (suc l)) (nat_lt m l)
    (λ e. grind (arith, nat_tests)) (λ e. grind (arith, nat_tests))

first_below : (l : ℕ) → nat_lt 0 (suc l) ≡ true
first_below l = grind (arith, nat_tests)

-- a place one further in a list that is one longer
one_further : (v : Value) (vs : List Value) (m l : ℕ) →
    option_and_then (slice_get (v ∷ vs)) (cond (nat_lt (suc m) (suc l)) (Some (suc m)) None)
    ≡ option_and_then (slice_get vs) (cond (nat_lt m l) (Some m) None)
one_further v vs m l =
    ap (λ b. option_and_then (slice_get (v ∷ vs)) (cond b (Some (suc m)) None)) (both_further m l)
    ∙ elim (nat_lt m l) as
    (λ b. option_and_then (slice_get (v ∷ vs)) (cond b (Some (suc m)) None)
    ≡ option_and_then (slice_get vs) (cond b (Some m) None)) [ true ↦ refl | false ↦ refl ]

-- the value of the first name, or one behind it
here_or_further : (v : Value) (vs : List Value) (b : Bool) (m l : ℕ) (f : Option Value) →
    option_and_then (slice_get vs) (cond (nat_lt m l) (Some m) None) ≡ f →
    option_and_then (slice_get (v ∷ vs))
    (cond (nat_lt (cond (not b) (1 + m) 0) (suc l)) (Some (cond (not b) (1 + m) 0)) None)
    ≡ (if b then Some v else f)
here_or_further v vs true m l f is =
    ap (λ b. option_and_then (slice_get (v ∷ vs)) (cond b (Some 0) None)) (first_below l)
here_or_further v vs false m l f is =
    let one : 1 + m ≡ suc m = omega arith in
    ap (λ k. option_and_then (slice_get (v ∷ vs)) (cond (nat_lt k (suc l)) (Some k) None)) one
    ∙ one_further v vs m l ∙ is

-- the value at a parameter's position is that of its name
value_by_position : (params : List Param) (values : List Value) (x : List ℕ) →
    option_and_then (slice_get values) (position_of (param_names params) x)
    ≡ value_of_name (paired params values) x
value_by_position [] values x = refl
value_by_position (p ∷ ps) [] x =
    elim (position_of (param_names (p ∷ ps)) x) as (λ o. option_and_then {U = Value} (slice_get []) o ≡ None)
    [ None ↦ refl | Some i ↦ refl ]
value_by_position (p ∷ ps) (v ∷ vs) x =
    here_or_further v vs (bytes_eq x p.name) (position_or_len (bytes_eq x) (param_names ps)) (length (param_names ps))
    (value_of_name (paired ps vs) x) (value_by_position ps vs x)
    ∙ ap (λ (b : Bool). if b then Some v else value_of_name (paired ps vs) x) (same_either_way x p.name)

-- and a table that finds positions finds it
pub value_found : (params : List Param) (values : List Value) (positions : List (Item ℕ)) (x : List ℕ) →
    FindsPositions (param_names params) positions →
    option_and_then (slice_get values) (found positions x) ≡ value_of_name (paired params values) x
value_found params values positions x finds =
    ap (option_and_then (slice_get values)) (finds x) ∙ value_by_position params values x

-- the value of a name, by where its position was found
pub value_there : (params : List Param) (values : List Value) (positions : List (Item ℕ)) (x : List ℕ) →
    FindsPositions (param_names params) positions → (locals : Locals) →
    locals ≡ paired params values → (at : Option ℕ) → at ≡ found positions x →
    option_and_then (slice_get values) at ≡ value_of_name locals x
value_there params values positions x finds locals locals_is at at_is =
    ap (option_and_then (slice_get values)) at_is
    ∙ value_found params values positions x finds
    ∙ ap (λ names. value_of_name names x) (sym locals_is)
