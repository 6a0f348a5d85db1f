-- The values of expressions are of the types that they show, where those that they read are.
use Rattle.std.proofs.Common.{◌≡◌, ◌∙◌, ℕ, zero, suc, Bool, true, false, List, [], ◌∷◌, map, slice_get, Option, Some, None, refl, ap, sym, subst, if◌then◌else◌}
use Rattle.std.specs.Prelude.{option_and_then, ◌==◌, nat_lt, length, ◌<◌, unwrap_or, position}
use Rattle.std.specs.Option.{option_map}
use Rattle.std.specs.Str.{bytes_eq}
use Rattle.std.proofs.Common.{arith}
use Rattle.std.proofs.lemmas.Bool.{and_from, eq-eqb}
use Rattle.std.proofs.lemmas.Bool.Decides.{nat_tests}
use Rattle.std.proofs.lemmas.List.Quantifiers.{position-Some}
use Rattle.kat_value.specs.declared.types.Ty.{Ty}
use Rattle.kat_value.specs.declared.types.Ty.TheVariants as ty
use Rattle.kat_value.specs.declared.types.TypeDecl.{TypeDecl}
use Rattle.kat_value.specs.declared.types.TypeDecl.TheVariants as type
use Rattle.kat_value.specs.declared.op.Op.TheVariants as op
use Rattle.kat_value.specs.declared.value.Value.{Value, out-Value, out-roll-Value, map-Value, fold_out-Value}
use Rattle.kat_value.specs.declared.value.Value.TheVariants.{Unit as UnitValue, Bool as TruthValue, Bits as Number, Member as MemberValue, rolls-Member}
use Rattle.kat_value.specs.declared.value.Value.TheOpen.{Value-F, Member as MemberLayer}
use Rattle.kat_value.specs.Making.{all_there, value_of_making, value_of_record}
use Rattle.kat_value.specs.Operations.{value_of_op}
use Rattle.kat_value.specs.OperationTypes.{ExactOperations, IsValueThere}
use Rattle.kat_value.specs.Shown.{ShownTypes, IsValue, AreValues}
use Rattle.kat_value.specs.TypeLaws.{UnitIsUnit, BoolIsTruths, BitsAreNumbers}
use Rattle.kat_value.specs.Typing.{has_type, layer_has_type, members_in, member_count}
use Rattle.kat_value.specs.Widths.{is_number}
use Rattle.kat_ast.specs.declared.decl.DeclForm.{DeclForm}
use Rattle.kat_ast.specs.declared.expr.Expr.{Expr}
use Rattle.kat_ast.specs.declared.expr.Expr.TheOpen.{Expr-F, Name as Named, Unit as UnitExpr, Truth, Bits, Of, Make, Rec, Register, Kept, KeptCell, Before, After, BeforeCell, AfterCell, Apply, Get}
use Rattle.kat_ast.specs.declared.expr.Expr.TheFolds.{map-Expr, fold-roll-Expr, ind-Expr}
use Rattle.kat_names.specs.Names.{position_of}
use Rattle.kat_syntax.specs.declared.run_tables.CtorPlace.{CtorPlace}
use Rattle.kat_syntax.specs.Tables.{Name}
use Rattle.kat_syntax.specs.TypeTable.{types_of_decls}
use Rattle.kat_syntax.specs.NamedValues.{members_of, names_at, field_names_of, type_position, ctor_from, made_value, rec_value, got_value}
use Rattle.kat_syntax.specs.States.{KeptPlace, value_at, register_position, is_kept_register, is_kept_cell, kept_places}
use Rattle.kat_syntax.specs.Evaluation.{Locals, Reads, Nothing, Registers, KeptValues, BothEnds, Environment, value_of_name, value_read, value_kept, value_before, value_after, literal_value, expr_value, value_of_expr}
use Rattle.kat_syntax.specs.MeaningLaws.{AreShownLocals, AreShownReads}

-- what is known of values and operations
pub record ValueLaws : Type 0 where
  pub exact : ExactOperations
  pub shown : ShownTypes
  pub unit : UnitIsUnit
  pub truths : BoolIsTruths
  pub numbers : BitsAreNumbers

-- what comes of what is there
pub there_then : {A : Type 0} (types : List TypeDecl) (f : A → Option Value) (o : Option A) →
    ((x : A) → o ≡ Some x → IsValueThere types (f x)) → IsValueThere types (option_and_then f o)
there_then types f None next = tt
there_then types f (Some x) next = next x refl

-- a value that is there
pub value_there : (types : List TypeDecl) (o : Option Value) (x : Value) → o ≡ Some x →
    IsValueThere types o → IsValue types x
value_there types o x is there = subst (IsValueThere types) is there

-- one of some values
pub value_at_shown : (types : List TypeDecl) (values : List Value) (place : Option ℕ) →
    AreValues types values → IsValueThere types (value_at values place)
value_at_shown types values None are = tt
value_at_shown types values (Some at) are = by values at are where
  by : (values : List Value) (at : ℕ) → AreValues types values →
      IsValueThere types (slice_get values at)
  by [] at are = tt
  by (x ∷ values) zero are = are.0
  by (x ∷ values) (suc at) are = by values at are.1

-- a local
local_shown : (types : List TypeDecl) (locals : Locals) (x : Name) → AreShownLocals types locals →
    IsValueThere types (value_of_name locals x)
local_shown types [] x are = tt
local_shown types (local ∷ locals) x are =
    elim (bytes_eq local.0 x) as
    (λ b. IsValueThere types (if b then Some local.1 else value_of_name locals x))
    [ true ↦ are.0 | false ↦ local_shown types locals x are.1 ]

-- what is read of registers, or kept
read_shown : (types : List TypeDecl) (decls : List DeclForm) (r : Name) (reads : Reads) →
    AreShownReads types reads → IsValueThere types (value_read decls r reads)
read_shown types decls r Nothing are = tt
read_shown types decls r (Registers registers) are =
    value_at_shown types registers (register_position decls r) are
read_shown types decls r (KeptValues kept) are = tt
read_shown types decls r (BothEnds before after) are = tt

kept_shown : (types : List TypeDecl) (decls : List DeclForm) (is_it : KeptPlace → Bool)
    (reads : Reads) → AreShownReads types reads → IsValueThere types (value_kept decls is_it reads)
kept_shown types decls is_it Nothing are = tt
kept_shown types decls is_it (Registers registers) are = tt
kept_shown types decls is_it (KeptValues kept) are =
    value_at_shown types kept (position is_it (kept_places decls)) are
kept_shown types decls is_it (BothEnds before after) are = tt

before_shown : (types : List TypeDecl) (decls : List DeclForm) (is_it : KeptPlace → Bool)
    (reads : Reads) → AreShownReads types reads →
    IsValueThere types (value_before decls is_it reads)
before_shown types decls is_it Nothing are = tt
before_shown types decls is_it (Registers registers) are = tt
before_shown types decls is_it (KeptValues kept) are = tt
before_shown types decls is_it (BothEnds before after) are =
    value_at_shown types before (position is_it (kept_places decls)) are.0

after_shown : (types : List TypeDecl) (decls : List DeclForm) (is_it : KeptPlace → Bool)
    (reads : Reads) → AreShownReads types reads → IsValueThere types (value_after decls is_it reads)
after_shown types decls is_it Nothing are = tt
after_shown types decls is_it (Registers registers) are = tt
after_shown types decls is_it (KeptValues kept) are = tt
after_shown types decls is_it (BothEnds before after) are =
    value_at_shown types after (position is_it (kept_places decls)) are.1

-- a member of an enum
has_enum : (types : List TypeDecl) (p i : ℕ) → nat_lt i (member_count types p) ≡ true →
    has_type types (MemberValue p i) (ty.Enum p) ≡ true
has_enum types p i less =
    let out : out-Value (MemberValue p i) ≡ MemberLayer p i =
    ap out-Value (sym (rolls-Member p i)) ∙ out-roll-Value (MemberLayer p i) in
    ap (λ (test : Ty → Bool). test (ty.Enum p))
    (fold_out-Value (Ty → Bool) (layer_has_type types) (MemberValue p i))
    ∙ ap (λ (y : Value-F Value).
    layer_has_type types (map-Value Value (Ty → Bool) (has_type types) y) (ty.Enum p)) out
    ∙ and_from (p == p) (nat_lt i (member_count types p)) (eq-eqb p p refl) less

-- an enum has as many members as there are names of them
member_names : (o : Option TypeDecl) →
    length (unwrap_or (option_map members_of o) []) ≡ members_in o
member_names None = refl
member_names (Some (type.Enum x members)) = refl
member_names (Some (type.Union x ctors)) = refl
member_names (Some (type.Rec x fields)) = refl

module _ (laws : ValueLaws) where
  pub unit_shown : (types : List TypeDecl) → IsValue types UnitValue
  unit_shown types = laws.shown.value types ty.Unit UnitValue ((laws.unit types UnitValue).1 refl)

  truth_shown : (types : List TypeDecl) (b : Bool) → IsValue types (TruthValue b)
  truth_shown types b =
      laws.shown.value types ty.Bool (TruthValue b) ((laws.truths types (TruthValue b)).1 (b, refl))

  pub number_shown : (types : List TypeDecl) (w n : ℕ) → is_number w n ≡ true →
      IsValue types (Number w n)
  number_shown types w n is =
      laws.shown.value types (ty.Bits w) (Number w n)
      ((laws.numbers types w (Number w n)).1 (n, refl, is))

  literal_shown : (types : List TypeDecl) (w n : ℕ) → IsValueThere types (literal_value w n)
  literal_shown types w n = by (is_number w n) refl where
    by : (b : Bool) → is_number w n ≡ b →
        IsValueThere types (if b then Some (Number w n) else None)
    by true is = number_shown types w n is
    by false is = tt

  member_shown : (types : List TypeDecl) (p : ℕ) (a : Name) (o : Option ℕ) →
      position_of (names_at members_of types p) a ≡ o →
      IsValueThere types (option_map (MemberValue p) o)
  member_shown types p a None is = tt
  member_shown types p a (Some i) is =
      let within : i < length (names_at members_of types p) =
      (position-Some (bytes_eq a) (names_at members_of types p) i [] is).0 in
      let count = member_names (slice_get types p) in
      let less : nat_lt i (member_count types p) ≡ true = grind (arith, nat_tests) in
      laws.shown.value types (ty.Enum p) (MemberValue p i) (has_enum types p i less)

  module _ (env : Environment)
      (locals : AreShownLocals (types_of_decls env.decls) env.locals)
      (reads : AreShownReads (types_of_decls env.decls) env.reads) where
    abbrev types : List TypeDecl
    types = types_of_decls env.decls

    abbrev IsShown : Expr → Type 0
    IsShown e = IsValueThere types (value_of_expr env e)

    abbrev ShownExpr : Type 0
    ShownExpr = (e : Expr) × IsShown e

    abbrev exprs : List ShownExpr → List Expr
    exprs es = map (λ (e : ShownExpr). e.0) es

    -- all of some values
    values_shown : (es : List ShownExpr) (vs : List Value) →
        all_there (map (value_of_expr env) (exprs es)) ≡ Some vs → AreValues types vs
    values_shown [] vs is = subst (AreValues types) (let same : [] ≡ vs = cc in same) tt
    values_shown (e ∷ es) vs is =
        by (value_of_expr env e.0) e.1 (λ xs all. values_shown es xs all) is where
          rest : (x : Value) → IsValue types x → (o : Option (List Value)) →
              ((xs : List Value) → o ≡ Some xs → AreValues types xs) →
              option_map (λ xs. x ∷ xs) o ≡ Some vs → AreValues types vs
          rest x shown None later same = absurd (cc)
          rest x shown (Some xs) later same =
              subst (AreValues types) (let whole : x ∷ xs ≡ vs = cc in whole) (shown, later xs refl)

          by : (o : Option Value) → IsValueThere types o →
              ((xs : List Value) → all_there (map (value_of_expr env) (exprs es)) ≡ Some xs →
              AreValues types xs) →
              option_and_then (λ x. option_map (λ xs. x ∷ xs)
              (all_there (map (value_of_expr env) (exprs es)))) o ≡ Some vs →
              AreValues types vs
          by None there later same = absurd (cc)
          by (Some x) there later same =
              rest x there (all_there (map (value_of_expr env) (exprs es))) later same

    abbrev first : Expr-F ShownExpr → Expr-F Expr
    first = map-Expr ShownExpr Expr (λ e. e.0)

    layer_shown : (y : Expr-F ShownExpr) →
        IsValueThere types (expr_value env
        (map-Expr Expr (Option Value) (value_of_expr env) (first y)))
    layer_shown (Named x) = local_shown types env.locals x locals
    layer_shown UnitExpr = unit_shown types
    layer_shown (Truth b) = truth_shown types b
    layer_shown (Bits w n) = literal_shown types w n
    layer_shown (Of e a) =
        there_then types
        (λ p. option_map (MemberValue p) (position_of (names_at members_of types p) a))
        (type_position types e)
        (λ p found. member_shown types p a (position_of (names_at members_of types p) a) refl)
    layer_shown (Make k payload) =
        there_then types (made_value types k) (value_of_expr env payload.0) (λ x is.
        there_then types (λ (place : CtorPlace). value_of_making types place.of place.ctor x)
        (ctor_from 0 types k) (λ place found.
        (laws.exact.making types place.of place.ctor x
        (value_there types (value_of_expr env payload.0) x is payload.1)).there))
    layer_shown (Rec r fields) =
        there_then types (rec_value types r) (all_there (map (value_of_expr env) (exprs fields)))
        (λ xs is.
        there_then types (λ p. value_of_record types p xs) (type_position types r) (λ p found.
        (laws.exact.fields types p xs (values_shown fields xs is)).there))
    layer_shown (Register r) = read_shown types env.decls r env.reads reads
    layer_shown (Kept r) = kept_shown types env.decls (is_kept_register r) env.reads reads
    layer_shown (KeptCell n) = kept_shown types env.decls (is_kept_cell n) env.reads reads
    layer_shown (Before r) = before_shown types env.decls (is_kept_register r) env.reads reads
    layer_shown (After r) = after_shown types env.decls (is_kept_register r) env.reads reads
    layer_shown (BeforeCell n) = before_shown types env.decls (is_kept_cell n) env.reads reads
    layer_shown (AfterCell n) = after_shown types env.decls (is_kept_cell n) env.reads reads
    layer_shown (Apply one args) =
        there_then types (value_of_op one) (all_there (map (value_of_expr env) (exprs args)))
        (λ xs is. (laws.exact.operation types one xs (values_shown args xs is)).there)
    layer_shown (Get r f part) =
        there_then types (got_value types r f) (value_of_expr env part.0) (λ x is.
        there_then types (λ p. option_and_then (λ at. value_of_op (op.Get p at) (x ∷ []))
        (position_of (names_at field_names_of types p) f)) (type_position types r) (λ p found.
        there_then types (λ at. value_of_op (op.Get p at) (x ∷ []))
        (position_of (names_at field_names_of types p) f) (λ at place.
        (laws.exact.operation types (op.Get p at) (x ∷ [])
        (value_there types (value_of_expr env part.0) x is part.1, tt)).there)))

    pub expression_shown : (e : Expr) → IsValueThere types (value_of_expr env e)
    expression_shown = ind-Expr IsShown (λ x y is.
        subst (IsValueThere types) (sym (fold-roll-Expr (Option Value) (expr_value env) x))
        (subst (λ z. IsValueThere types
        (expr_value env (map-Expr Expr (Option Value) (value_of_expr env) z))) is (layer_shown y)))
