-- Where typing finds no fault, each name that is used stands in scope.
use Rattle.std.proofs.Common.{◌≡◌, ℕ, ◌+◌, ◌||◌, ◌&&◌, Bool, true, false, not, if◌then◌else◌, List, [], ◌∷◌, ◌++◌, map, length, Option, None, Some, refl, sym, ap, subst, ◌∙◌}
use Rattle.std.specs.Prelude.{is_some}
use Rattle.std.specs.List.{AllByRecursion}
use Rattle.std.specs.Option.{option_map}
use Rattle.std.specs.Str.{bytes_eq}
use Rattle.std.proofs.lemmas.List.{append-nil, map-append}
use Rattle.std.proofs.lemmas.Slice.Eq.{bytes_eq-Decides}
use Rattle.kat_value.specs.declared.op.Op.{Op}
use Rattle.kat_value.specs.declared.op.Op.TheVariants as o
use Rattle.kat_value.specs.declared.signature.Signature.{Signature}
use Rattle.kat_value.specs.declared.types.Ty.{Ty}
use Rattle.kat_value.specs.Signatures.{signature_of, fixed_behind}
use Rattle.kat_value.specs.Words.{numbers_of_op}
use Rattle.kat_ast.specs.declared.expr.Expr.{Expr}
use Rattle.kat_ast.specs.declared.expr.Expr.TheOpen as layer
use Rattle.kat_ast.specs.declared.expr.Expr.TheOpen.{Expr-F}
use Rattle.kat_ast.specs.declared.expr.Expr.TheViews.{roll-Expr}
use Rattle.kat_ast.specs.declared.expr.Expr.TheFolds.{map-Expr, fold-roll-Expr, ind-Expr}
use Rattle.kat_ast.specs.declared.assertion.Assertion.{Assertion}
use Rattle.kat_ast.specs.declared.assertion.Assertion.TheOpen.{Assertion-F, Pure, Register, Cell, Star, If, Exists, Predicate, Region}
use Rattle.kat_ast.specs.declared.assertion.Assertion.TheViews.{roll-Assertion}
use Rattle.kat_ast.specs.declared.assertion.Assertion.TheFolds.{map-Assertion, fold-roll-Assertion, ind-Assertion}
use Rattle.kat_ast.specs.declared.type_name.Param.{Param}
use Rattle.kat_syntax.specs.Tables.{Name}
use Rattle.kat_syntax.specs.declared.type_rule.TypeRule.{TypeRule}
use Rattle.kat_syntax.specs.TypeRules.{unless}
use Rattle.kat_syntax.specs.Declares.{TypedName, types_of}
use Rattle.kat_syntax.specs.Around.{Around, RecordSeen, a_predicate, a_region, meant, is_declared, record_called}
use Rattle.kat_syntax.specs.TypesWritten.{Scope, local_type, local_of, with_params, hiding}
use Rattle.kat_syntax.specs.TypingExpressions.{Standing, Known, wanting, op_arg_faults, parts_faults, arg_faults, given_faults, expr_known, known_of_expr}
use Rattle.kat_syntax.specs.TypingAssertions.{Judged, side_by_side, inputs_and_outputs, assertion_judged, judged_assertion}
use Rattle.kat_syntax.specs.Modes.{Used, expr_used, used_in, names_of_parts, is_in, names_of}
use Rattle.kat_mode.specs.Scopes.{are_in, all_stay, layer_stays, stays_in, names_in}
use Rattle.kat_mode.proofs.Keeping.{same_name, of_joined}

-- faults
pub empty_first : {A : Type 0} (xs ys : List A) → xs ++ ys ≡ [] → xs ≡ []
empty_first [] ys e = refl
empty_first (x ∷ xs) ys e = absurd (let f : x ∷ (xs ++ ys) ≡ [] = e in cc)

pub empty_second : {A : Type 0} (xs ys : List A) → xs ++ ys ≡ [] → ys ≡ []
empty_second [] ys e = e
empty_second (x ∷ xs) ys e = absurd (let f : x ∷ (xs ++ ys) ≡ [] = e in cc)

met : (b : Bool) (tree : ℕ) (rule : TypeRule) → unless b tree rule ≡ [] → b ≡ true
met true tree rule e = refl
met false tree rule e = absurd (cc)

-- names of locals
same_truth : (a b : Bool) → (a ≡ true → b ≡ true) → (b ≡ true → a ≡ true) → a ≡ b
same_truth true b there back = sym (there refl)
same_truth false true there back = back refl
same_truth false false there back = refl

turned : (x y : Name) → bytes_eq x y ≡ true → bytes_eq y x ≡ true
turned x y e = (bytes_eq-Decides y x).1 (sym (same_name x y e))

found_by : (b c : Bool) (type : Option Ty) (found : Option (Option Ty)) (rest : Bool) → b ≡ c → is_some found ≡ rest → is_some (if b then Some type else found) ≡ (c || rest)
found_by true c type found rest same is = ap (λ k. k || rest) same
found_by false c type found rest same is = is ∙ ap (λ k. k || rest) same

local_is : (scope : Scope) (x : Name) → is_some (local_type scope x) ≡ is_in (names_in scope) x
local_is [] x = refl
local_is (local ∷ scope) x =
    found_by (bytes_eq local.name x) (bytes_eq x local.name) local.type (local_type scope x) (is_in (names_in scope) x)
    (same_truth (bytes_eq local.name x) (bytes_eq x local.name) (turned local.name x) (turned x local.name))
    (local_is scope x)

neither_so : (a b : Bool) → not (a || b) ≡ true → not b ≡ true
neither_so true b e = absurd (cc)
neither_so false b e = e

not_hidden : (around : Around) (scope : Scope) (at : ℕ) (x : Name) → hiding around scope at x ≡ [] → not (is_in (names_in scope) x) ≡ true
not_hidden around scope at x e =
    ap not (sym (local_is scope x))
    ∙ neither_so (is_declared around x) (is_some (local_type scope x)) (met _ _ _ e)

module _ (around : Around) (standing : Standing) (scope : Scope) where
  abbrev known : Expr → Known
  known = known_of_expr around standing scope

  abbrev AreIn : List Name → Type 0
  AreIn names = are_in (names_in scope) names ≡ true

  -- what has no fault at some tree uses names in scope
  abbrev UsesScope : Known → Used → Type 0
  UsesScope seen used = (at : ℕ) → seen.faults at ≡ [] → AreIn used.names

  abbrev ExprUsesScope : Expr → Type 0
  ExprUsesScope e = UsesScope (known e) (used_in e)

  abbrev names_under : List Expr → List Name
  names_under exprs = names_of_parts (map used_in exprs)

  parts_in : (at : ℕ) (exprs : List Expr) → AllByRecursion ExprUsesScope exprs → parts_faults at (map known exprs) ≡ [] → AreIn (names_under exprs)
  parts_in at [] all e = refl
  parts_in at (x ∷ exprs) all e =
      of_joined (names_in scope) (used_in x).names (names_under exprs)
      (all.0 at (empty_first _ _ e))
      (parts_in (at + (known x).trees) exprs all.1 (empty_second ((known x).faults at) _ e))

  args_in : (wanted : List (Option Ty)) (at : ℕ) (exprs : List Expr) → AllByRecursion ExprUsesScope exprs → arg_faults wanted at (map known exprs) ≡ [] → AreIn (names_under exprs)
  args_in [] at exprs all e = parts_in at exprs all e
  args_in (type ∷ wanted) at [] all e = refl
  args_in (type ∷ wanted) at (x ∷ exprs) all e =
      of_joined (names_in scope) (used_in x).names (names_under exprs)
      (all.0 at (empty_first _ _ e))
      (args_in wanted (at + (known x).trees) exprs all.1 (empty_second (wanting type at (known x).type) _ (empty_second ((known x).faults at) _ e)))

  given_in : (wanted : Option (List TypedName)) (at : ℕ) (exprs : List Expr) → AllByRecursion ExprUsesScope exprs → given_faults wanted at (map known exprs) ≡ [] → AreIn (names_under exprs)
  given_in None at exprs all e = parts_in (at + 3) exprs all e
  given_in (Some params) at exprs all e = args_in (types_of params) (at + 3) exprs all (empty_second _ _ e)

  op_args_in : (signature : Signature) (k : ℕ) (fixed : Option Ty) (at : ℕ) (exprs : List Expr) → AllByRecursion ExprUsesScope exprs → op_arg_faults signature k fixed at (map known exprs) ≡ [] → AreIn (names_under exprs)
  op_args_in signature k fixed at [] all e = refl
  op_args_in signature k fixed at (x ∷ exprs) all e =
      of_joined (names_in scope) (used_in x).names (names_under exprs)
      (all.0 at (empty_first _ _ e))
      (op_args_in signature (k + 1) (fixed_behind signature k fixed (known x).type) (at + (known x).trees) exprs all.1
      (empty_second _ _ (empty_second ((known x).faults at) _ e)))

  -- the names of two are those of both
  of_two : (first second : List Name) → AreIn (first ++ (second ++ [])) → AreIn (first ++ second)
  of_two first second e = subst (λ names. AreIn (first ++ names)) (append-nil second) e

  -- the names of an operation are those of its arguments
  apply_in : (op : Op) (args : List Used) → AreIn (names_of_parts args) → AreIn (expr_used (layer.Apply op args)).names
  apply_in o.Eq [] is = is
  apply_in o.Eq (a ∷ []) is = is
  apply_in o.Eq (a ∷ b ∷ []) is = of_two a.names b.names is
  apply_in o.Eq (a ∷ b ∷ c ∷ args) is = is
  apply_in o.Not args is = is
  apply_in o.And args is = is
  apply_in o.Or args is = is
  apply_in o.Ult args is = is
  apply_in o.Ule args is = is
  apply_in o.Slt args is = is
  apply_in o.Sle args is = is
  apply_in o.Add args is = is
  apply_in o.Sub args is = is
  apply_in o.Mul args is = is
  apply_in o.Band args is = is
  apply_in o.Bor args is = is
  apply_in o.Bxor args is = is
  apply_in o.Bnot args is = is
  apply_in o.Shl args is = is
  apply_in o.Shr args is = is
  apply_in o.Sar args is = is
  apply_in o.Cat args is = is
  apply_in o.Ite args is = is
  apply_in (o.Slice hi lo) args is = is
  apply_in (o.Zext width) args is = is
  apply_in (o.Sext width) args is = is
  apply_in (o.Get r f) args is = is

  abbrev Part : Type 0
  Part = (e : Expr) × ExprUsesScope e

  abbrev exprs_of : List Part → List Expr
  exprs_of parts = map (λ (e : Part). e.0) parts

  all_of : (parts : List Part) → AllByRecursion ExprUsesScope (exprs_of parts)
  all_of [] = tt
  all_of (part ∷ parts) = (part.1, all_of parts)

  abbrev LayerUsesScope : Expr-F Expr → Type 0
  LayerUsesScope z =
      UsesScope (expr_known around standing scope (map-Expr Expr Known known z))
      (expr_used (map-Expr Expr Used used_in z))

  layer_in : (y : Expr-F Part) → LayerUsesScope (map-Expr Part Expr (λ e. e.0) y)
  layer_in (layer.Name x) at e =
      ap (λ b. b && true) (sym (local_is scope x) ∙ met (is_some (local_type scope x)) at _ e)
  layer_in (layer.Make k payload) at e = payload.1 (at + 3) (empty_first _ _ (empty_second _ _ e))
  layer_in (layer.Rec r fields) at e =
      given_in (option_map (λ (seen : RecordSeen). seen.fields) (record_called around r)) at (exprs_of fields) (all_of fields)
      (empty_second _ _ e)
  layer_in (layer.Apply op args) at e =
      apply_in op (map used_in (exprs_of args))
      (op_args_in (signature_of op) 0 None (at + 2 + length (numbers_of_op op)) (exprs_of args) (all_of args)
      (empty_first _ _ (empty_second _ _ e)))
  layer_in (layer.Get r f value) at e =
      value.1 (at + 4) (empty_first _ _ (empty_second _ _ (empty_second _ _ e)))
  layer_in _ at e = refl

  -- an expression without faults
  expr_in : (e : Expr) → ExprUsesScope e
  expr_in = ind-Expr ExprUsesScope (λ x y is.
      subst (λ k. UsesScope k (used_in (roll-Expr x))) (sym (fold-roll-Expr Known (expr_known around standing scope) x))
      (subst (UsesScope (expr_known around standing scope (map-Expr Expr Known known x))) (sym (fold-roll-Expr Used expr_used x))
      (subst LayerUsesScope is (layer_in y))))

  all_in : (exprs : List Expr) → AllByRecursion ExprUsesScope exprs
  all_in [] = tt
  all_in (x ∷ exprs) = (expr_in x, all_in exprs)

-- both hold
both_so : (a b : Bool) → a ≡ true → b ≡ true → (a && b) ≡ true
both_so a b p q = ap (λ k. k && b) p ∙ q

module _ (around : Around) (standing : Standing) where
  -- an assertion without faults at some tree stays in scope
  abbrev StaysWhereClean : (Scope → Judged) → (List Name → Bool) → Type 0
  StaysWhereClean seen stays = (scope : Scope) (at : ℕ) → (seen scope).faults at ≡ [] → stays (names_in scope) ≡ true

  abbrev AssertionStays : Assertion → Type 0
  AssertionStays a = StaysWhereClean (judged_assertion around standing a) (stays_in a)

  abbrev PartStays : Type 0
  PartStays = (a : Assertion) × AssertionStays a

  abbrev asserted : List PartStays → List Assertion
  asserted parts = map (λ (a : PartStays). a.0) parts

  -- an expression's faults
  expr_at : (e : Expr) (scope : Scope) (at : ℕ) → (known_of_expr around standing scope e).faults at ≡ [] → are_in (names_in scope) (used_in e).names ≡ true
  expr_at e scope at clean = expr_in around standing scope e at clean

  side_in : (scope : Scope) (at : ℕ) (parts : List PartStays) →
      side_by_side at (map (λ (part : Scope → Judged). part scope) (map (judged_assertion around standing) (asserted parts))) ≡ [] →
      all_stay (map stays_in (asserted parts)) (names_in scope) ≡ true
  side_in scope at [] e = refl
  side_in scope at (part ∷ parts) e =
      both_so (stays_in part.0 (names_in scope)) (all_stay (map stays_in (asserted parts)) (names_in scope))
      (part.1 scope at (empty_first _ _ e))
      (side_in scope (at + (judged_assertion around standing part.0 scope).trees) parts (empty_second ((judged_assertion around standing part.0 scope).faults at) _ e))

  abbrev LayerStays : Assertion-F Assertion → Type 0
  LayerStays z =
      StaysWhereClean (assertion_judged around standing (map-Assertion Assertion (Scope → Judged) (judged_assertion around standing) z))
      (layer_stays (map-Assertion Assertion (List Name → Bool) stays_in z))

  stays_layer : (y : Assertion-F PartStays) → LayerStays (map-Assertion PartStays Assertion (λ a. a.0) y)
  stays_layer (Pure x) scope at e = expr_at x scope (at + 2) (empty_first _ _ e)
  stays_layer (Register r x) scope at e = expr_at x scope (at + 3) (empty_first _ _ (empty_second _ _ e))
  stays_layer (Cell index x) scope at e =
      let place = known_of_expr around standing scope index in
      let inner = empty_second _ _ e in
      both_so (are_in (names_in scope) (used_in index).names) (are_in (names_in scope) (used_in x).names)
      (expr_at index scope (at + 2) (empty_first _ _ inner))
      (expr_at x scope (at + 2 + place.trees) (empty_first _ _ (empty_second _ _ (empty_second (place.faults (at + 2)) _ inner))))
  stays_layer (Star parts) scope at e = side_in scope (at + 2) parts e
  stays_layer (If test a b) scope at e =
      let place = known_of_expr around standing scope test in
      let first = judged_assertion around standing a.0 scope in
      let sides = empty_second _ _ e in
      both_so (are_in (names_in scope) (used_in test).names) (stays_in a.0 (names_in scope) && stays_in b.0 (names_in scope))
      (expr_at test scope (at + 2) (empty_first _ _ (empty_first _ _ e)))
      (both_so (stays_in a.0 (names_in scope)) (stays_in b.0 (names_in scope))
      (a.1 scope (at + 2 + place.trees) (empty_first _ _ sides))
      (b.1 scope (at + 2 + place.trees + first.trees) (empty_first _ _ (empty_second (first.faults (at + 2 + place.trees)) _ sides))))
  stays_layer (Exists x type body) scope at e =
      both_so (not (is_in (names_in scope) x)) (stays_in body.0 (x ∷ names_in scope))
      (not_hidden around scope (at + 3) x (empty_first _ _ e))
      (body.1 _ _ (empty_second _ _ (empty_second _ _ e)))
  stays_layer (Predicate p args) scope at e =
      given_in around standing scope (option_map inputs_and_outputs (meant a_predicate around p)) at args (all_in around standing scope args)
      (empty_second _ _ (empty_second _ _ e))
  stays_layer (Region g args) scope at e =
      given_in around standing scope (meant a_region around g) at args (all_in around standing scope args)
      (empty_second _ _ (empty_second _ _ e))

  -- an assertion without faults stays in its scope
  pub assertion_stays : (a : Assertion) → AssertionStays a
  assertion_stays = ind-Assertion AssertionStays (λ x y is.
      subst (λ j. StaysWhereClean j (stays_in (roll-Assertion x))) (sym (fold-roll-Assertion (Scope → Judged) (assertion_judged around standing) x))
      (subst (StaysWhereClean (assertion_judged around standing (map-Assertion Assertion (Scope → Judged) (judged_assertion around standing) x))) (sym (fold-roll-Assertion (List Name → Bool) layer_stays x))
      (subst LayerStays is (stays_layer y))))

-- the names behind parameters
names_mapped : (around : Around) (params : List Param) → names_in (map (local_of around) params) ≡ names_of params
names_mapped around [] = refl
names_mapped around (param ∷ params) = ap (λ names. param.name ∷ names) (names_mapped around params)

pub names_with : (around : Around) (scope : Scope) (params : List Param) → names_in (with_params around scope params) ≡ names_in scope ++ names_of params
names_with around scope params =
    map-append (λ (local : TypedName). local.name) scope (map (local_of around) params)
    ∙ ap (λ names. names_in scope ++ names) (names_mapped around params)
