-- An expression without faults has a value of its type.
use Rattle.std.proofs.Common.{◌≡◌, ℕ, suc, ◌+◌, ◌^◌, ◌&&◌, eqb, not, is_some, nat_lt, Bool, true, false, List, [], ◌∷◌, ◌++◌, map, length, Option, Some, None, refl, sym, ap, subst, ◌∙◌, arith, if◌then◌else◌}
use Rattle.std.specs.Prelude.{option_and_then}
use Rattle.std.specs.Option.{option_flatten, option_map}
use Rattle.std.specs.List.{AllByRecursion}
use Rattle.std.specs.Str.{bytes_eq}
use Rattle.std.proofs.lemmas.List.{length-map}
use Rattle.std.proofs.lemmas.Bool.{and_parts, and_from, eqb-true, eq-eqb, false≢true}
use Rattle.kat_value.specs.declared.op.Op.{Op}
use Rattle.kat_value.specs.declared.op.Op.TheVariants as op
use Rattle.kat_value.specs.declared.signature.Signature.{Signature}
use Rattle.kat_value.specs.declared.signature.Signature.TheVariants as signature
use Rattle.kat_value.specs.declared.types.Ty.{Ty}
use Rattle.kat_value.specs.declared.types.Ty.TheVariants as ty
use Rattle.kat_value.specs.declared.types.TypeDecl.{TypeDecl}
use Rattle.kat_value.specs.declared.value.Value.{Value}
use Rattle.kat_value.specs.declared.value.Value.TheVariants.{Unit as UnitValue, Bool as TruthValue, Bits as Number}
use Rattle.kat_value.specs.Making.{all_there}
use Rattle.kat_value.specs.OperationTypes.{ExactOperations}
use Rattle.kat_value.specs.Operations.{value_of_op}
use Rattle.kat_value.specs.Shown.{ShownTypes}
use Rattle.kat_value.specs.Signatures.{accepts, agree, all_taken, bits_of, fixed_behind, signature_of, takes, type_given, widths_fit}
use Rattle.kat_value.specs.TypeLaws.{UnitIsUnit, BoolIsTruths, BitsAreNumbers}
use Rattle.kat_value.specs.Typing.{HasType}
use Rattle.kat_value.specs.Widths.{is_number, is_width}
use Rattle.kat_value.specs.Words.{arity_of, is_written, numbers_of_op}
use Rattle.kat_ast.specs.declared.expr.Expr.{Expr}
use Rattle.kat_ast.specs.declared.expr.Expr.TheOpen.{Expr-F, Name as Named, Unit as UnitExpr, Truth, Bits, Of, Make, Rec, Register, Kept, KeptCell, Before, After, BeforeCell, AfterCell, Apply, Get}
use Rattle.kat_ast.specs.declared.expr.Expr.TheFolds.{map-Expr, fold-roll-Expr, ind-Expr}
use Rattle.kat_ast.specs.Expressions.{expr_formed, is_formed_expr}
use Rattle.kat_ast.specs.declared.expr.Expr.TheViews.{roll-Expr}
use Rattle.kat_ast.specs.Parts.{every, is_name}
use Rattle.kat_ast.specs.declared.decl.DeclForm.{DeclForm}
use Rattle.kat_syntax.specs.declared.type_rule.TypeRule.TheVariants.{CountOther, LiteralLarge, NameUnknown, NoWidth, TypeOther, TypeUnknown}
use Rattle.kat_syntax.specs.Tables.{Name}
use Rattle.kat_syntax.specs.Around.{Around, CtorSeen, RecordSeen, a_ctor, a_member, enum_called, meant, record_called, type_called}
use Rattle.kat_syntax.specs.Declares.{TypedName, types_of}
use Rattle.kat_syntax.specs.Evaluation.{Environment, Locals, Reads, expr_value, literal_value, value_after, value_before, value_kept, value_of_expr, value_of_name, value_read}
use Rattle.kat_syntax.specs.States.{is_kept_cell, is_kept_register}
use Rattle.kat_syntax.specs.NamedValues.{got_value, made_value, member_value, rec_value}
use Rattle.kat_syntax.specs.TypeRules.{unless}
use Rattle.kat_syntax.specs.Memories.{kept_cell_type}
use Rattle.kat_syntax.specs.TypesWritten.{Scope, local_type}
use Rattle.kat_syntax.specs.TypeTable.{types_of_decls}
use Rattle.kat_syntax.specs.TypingExpressions.{Known, Standing, cell_faults, is_outside_kind, is_protected_kind, may_change, may_keep, may_read, register_faults, type_of_register, arg_faults, expr_faults, expr_known, field_fault, given_faults, known_of_expr, known_types, member_fault, op_arg_faults, stated_width, unknown, unknown_type, wanting, width_rule}
use Rattle.kat_safety.specs.Typed.{AreOfScope, HasKnownValue, IsOfKnown}
use Rattle.kat_safety.proofs.AppliedTypes.{AreTyped, HasTyped, applied}
use Rattle.kat_safety.proofs.Clean.{empty_first, empty_second, met}
use Rattle.kat_safety.proofs.GivenTypes.{IsStatedWidth, IsWide, given_type}

-- something fixes a type, and there is a value of it
pub record IsGiven (types : List TypeDecl) (known : Option Ty) (o : Option Value) : Type 0 where
  pub type : Ty
  pub fixed : known ≡ Some type
  pub value : Value
  pub there : o ≡ Some value
  pub typed : HasType types type value

-- what there is of the type wanted is given
pub given_of : (types : List TypeDecl) (known : Option Ty) (o : Option Value) (t : Ty) →
    known ≡ Some t → HasTyped types t o → IsGiven types known o
given_of types known o t fixed has = record {
  type = t;
  fixed = fixed;
  value = has.value;
  there =
      has.there;
  typed = has.typed;
}

-- types that go with those wanted, one for each
abbrev pub AreWanted : List (Option Ty) → List Ty → Type 0
AreWanted [] [] = Unit {0}
AreWanted [] (t ∷ ts) = ⊥
AreWanted (wanted ∷ more) [] = ⊥
AreWanted (wanted ∷ more) (t ∷ ts) = (agree wanted (Some t) ≡ true) × AreWanted more ts

-- what the look-ups of typing say of those of the meaning, in the declaration of this number
pub record LooksAlike (decls : List DeclForm) (k : ℕ) : Type 0 where
  pub member :
      (e a : Name) (p : ℕ) → enum_called (record { decls = decls; number = k }) e ≡ Some p →
      meant a_member (record { decls = decls; number = k }) a ≡ Some p →
      HasTyped (types_of_decls decls) (ty.Enum p) (member_value (types_of_decls decls) e a)
  pub ctor :
      (c : Name) (seen : CtorSeen) (t : Ty) (x : Value) → meant a_ctor
      (record { decls = decls; number = k }) c ≡ Some seen →
      agree seen.payload (Some t) ≡ true → HasType (types_of_decls decls) t x →
      HasTyped (types_of_decls decls) (ty.Union seen.of) (made_value (types_of_decls decls) c x)
  pub fields :
      (r : Name) (seen : RecordSeen) (ts : List Ty) (xs : List Value) → record_called
      (record { decls = decls; number = k }) r ≡ Some seen →
      AreWanted (types_of seen.fields) ts → AreTyped (types_of_decls decls) ts xs →
      HasTyped (types_of_decls decls) (ty.Rec seen.of) (rec_value (types_of_decls decls) r xs)
  pub field :
      (r f : Name) (seen : RecordSeen) (x : Value) → record_called
      (record { decls = decls; number = k }) r ≡ Some seen →
      is_some (local_type seen.fields f) ≡ true → HasType (types_of_decls decls) (ty.Rec seen.of)
      x →
      IsGiven (types_of_decls decls) (option_flatten (local_type seen.fields f))
      (got_value (types_of_decls decls) r f x)

-- the newest local of a name in scope, or those behind it
local_given : (types : List TypeDecl) (scope : Scope) (locals : Locals) (x : Name) →
    AreOfScope types scope locals → is_some (local_type scope x) ≡ true →
    IsGiven types (option_flatten (local_type scope x)) (value_of_name locals x)
local_given types [] locals x are there = absurd (false≢true there)
local_given types (known ∷ scope) [] x are there = absurd are
local_given types (known ∷ scope) (local ∷ locals) x are there =
    subst (λ (name : Name). IsGiven types (option_flatten (local_type (known ∷ scope) x))
    (if bytes_eq name x then Some local.1 else value_of_name locals x)) are.0.0
    (by (bytes_eq known.name x) known.type are.0.1 (λ behind. local_given types scope locals x are.1
    behind) there) where
      one : (type : Option Ty) (v : Value) → IsOfKnown types type v → IsGiven types type (Some v)
      one None v is = absurd is
      one (Some t) v is = record { type = t; fixed = refl; value = v; there = refl; typed = is }

      by : (b : Bool) (type : Option Ty) → IsOfKnown types type local.1 →
          (is_some (local_type scope x) ≡ true → IsGiven types (option_flatten (local_type scope x))
          (value_of_name locals x)) →
          is_some (if b then Some type else local_type scope x) ≡ true →
          IsGiven types (option_flatten (if b then Some type else local_type scope x))
          (if b then Some local.1 else value_of_name locals x)
      by true type is behind e = one type local.1 is
      by false type is behind e = behind e

-- what is there, where it is known that something is
some_of : {A : Type 0} (o : Option A) → is_some o ≡ true → (x : A) × (o ≡ Some x)
some_of None e = absurd (false≢true e)
some_of (Some x) e = (x, refl)

-- types of values are those of widths
typed_wide : (types : List TypeDecl) (ts : List Ty) (xs : List Value) →
    ((w : ℕ) (x : Value) → HasType types (ty.Bits w) x → is_width w ≡ true) → AreTyped types ts xs →
    AllByRecursion IsWide ts
typed_wide types [] xs wide are = tt
typed_wide types (t ∷ ts) [] wide are = absurd are
typed_wide types (t ∷ ts) (x ∷ xs) wide are = (one t are.0, typed_wide types ts xs wide are.1) where
  one : (u : Ty) → HasType types u x → IsWide u
  one (ty.Bits w) is = wide w x is
  one ty.Unit is = tt
  one ty.Bool is = tt
  one (ty.Enum p) is = tt
  one (ty.Union p) is = tt
  one (ty.Rec p) is = tt

-- arguments without faults have values, of types that the operation takes
pub record ArgsGiven (types : List TypeDecl) (sig : Signature) (k : ℕ) (fixed : Option Ty)
    (args : List Known) (values : List (Option Value)) : Type 0 where
  pub ts : List Ty
  pub xs : List Value
  pub known : known_types args ≡ map Some ts
  pub there : all_there values ≡ Some xs
  pub typed : AreTyped types ts xs
  pub taken : all_taken sig k fixed (map Some ts) ≡ true
  pub count : length ts ≡ length args

-- parts without faults have values, of types that go with those wanted
pub record PartsGiven (types : List TypeDecl) (wanted : List (Option Ty))
    (values : List (Option Value)) : Type 0 where
  pub ts : List Ty
  pub xs : List Value
  pub there : all_there values ≡ Some xs
  pub typed : AreTyped types ts xs
  pub wants : AreWanted wanted ts

-- what an expression that may stand here reads is given
pub record ReadsAlike (decls : List DeclForm) (k : ℕ) (standing : Standing) (reads : Reads) :
    Type 0 where
  pub register :
      (r : Name) (at : ℕ) →
      register_faults (record { decls = decls; number = k }) (may_read standing)
      (λ kind. not (is_outside_kind kind)) at r ≡ [] →
      IsGiven (types_of_decls decls)
      (type_of_register (record { decls = decls; number = k }) r) (value_read decls r reads)
  pub kept :
      (r : Name) (at : ℕ) →
      register_faults (record { decls = decls; number = k }) (may_keep standing)
      is_protected_kind at r ≡ [] →
      IsGiven (types_of_decls decls)
      (type_of_register (record { decls = decls; number = k }) r)
      (value_kept decls (is_kept_register r) reads)
  pub before :
      (r : Name) (at : ℕ) →
      register_faults (record { decls = decls; number = k }) (may_change standing)
      is_protected_kind at r ≡ [] →
      IsGiven (types_of_decls decls)
      (type_of_register (record { decls = decls; number = k }) r)
      (value_before decls (is_kept_register r) reads)
  pub after :
      (r : Name) (at : ℕ) →
      register_faults (record { decls = decls; number = k }) (may_change standing)
      is_protected_kind at r ≡ [] →
      IsGiven (types_of_decls decls)
      (type_of_register (record { decls = decls; number = k }) r)
      (value_after decls (is_kept_register r) reads)
  pub kept_cell :
      (n at : ℕ) →
      cell_faults (record { decls = decls; number = k }) (may_keep standing) at n ≡ [] →
      IsGiven (types_of_decls decls) (kept_cell_type (record { decls = decls; number = k }))
      (value_kept decls (is_kept_cell n) reads)
  pub before_cell :
      (n at : ℕ) →
      cell_faults (record { decls = decls; number = k }) (may_change standing) at n ≡ [] →
      IsGiven (types_of_decls decls) (kept_cell_type (record { decls = decls; number = k }))
      (value_before decls (is_kept_cell n) reads)
  pub after_cell :
      (n at : ℕ) →
      cell_faults (record { decls = decls; number = k }) (may_change standing) at n ≡ [] →
      IsGiven (types_of_decls decls) (kept_cell_type (record { decls = decls; number = k }))
      (value_after decls (is_kept_cell n) reads)

-- what is known of values and operations
pub record ValueLaws : Type 0 where
  pub exact : ExactOperations
  pub shown : ShownTypes
  pub unit : UnitIsUnit
  pub truths : BoolIsTruths
  pub numbers : BitsAreNumbers

module _ (laws : ValueLaws) (decls : List DeclForm) (k : ℕ) (standing : Standing) (reads : Reads)
    (alike : LooksAlike decls k) (read : ReadsAlike decls k standing reads)
    (scope : Scope) (locals : Locals) (are : AreOfScope (types_of_decls decls) scope locals) where
  abbrev shown : ShownTypes
  shown = laws.shown

  abbrev exact : ExactOperations
  exact = laws.exact

  -- bits that there is a value of have a width
  wide : (w : ℕ) (x : Value) → HasType (types_of_decls decls) (ty.Bits w) x → is_width w ≡ true
  wide w x is =
      let found = (laws.numbers (types_of_decls decls) w x).0 is in
      (and_parts (is_width w) (nat_lt found.0 (2 ^ w)) found.2).0

  abbrev types : List TypeDecl
  types = types_of_decls decls

  abbrev around : Around
  around = record { decls = decls; number = k }

  abbrev env : Environment
  env = record { decls = decls; reads = reads; locals = locals }

  abbrev known : Expr → Known
  known = known_of_expr around standing scope

  abbrev value : Expr → Option Value
  value = value_of_expr env

  -- what is given of an expression, wherever it stands
  abbrev IsTypedExpr : Expr → Type 0
  IsTypedExpr e = (at : ℕ) → is_formed_expr e ≡ true → (known e).faults at ≡ [] → IsGiven types
      (known e).type (value e)

  abbrev TypedPart : Type 0
  TypedPart = (e : Expr) × IsTypedExpr e

  abbrev exprs : List TypedPart → List Expr
  exprs parts = map (λ (part : TypedPart). part.0) parts

  -- the arguments of an operation
  args_given : (sig : Signature) (n : ℕ) (fixed : Option Ty) (at : ℕ) (args : List TypedPart) →
      every (map is_formed_expr (exprs args)) ≡ true →
      op_arg_faults sig n fixed at (map known (exprs args)) ≡ [] → ArgsGiven types sig n fixed
      (map known (exprs args)) (map value (exprs args))
  args_given sig n fixed at [] formed clean = record {
    ts = [];
    xs = [];
    known = refl;
    there =
        refl;
    typed = tt;
    taken = refl;
    count = refl;
  }
  args_given sig n fixed at (arg ∷ args) formed clean =
      let all = and_parts (is_formed_expr arg.0) (every (map is_formed_expr (exprs args))) formed in
      let behind = empty_second ((known arg.0).faults at) _ clean in
      let one : IsGiven types (known arg.0).type (value arg.0) = arg.1 at all.0
      (empty_first ((known arg.0).faults at) _ clean) in
      let takes_it : takes sig n fixed (known arg.0).type ≡ true =
      met (takes sig n fixed (known arg.0).type) at TypeOther (empty_first _ _ behind) in
      let more = args_given sig (n + 1) (fixed_behind sig n fixed (known arg.0).type)
      (at + (known arg.0).trees) args all.1 (empty_second _ _ behind) in
      record {
        ts = one.type ∷ more.ts;
        xs = one.value ∷ more.xs;
        known = ap (λ (t : Option Ty). t ∷ known_types (map known (exprs args))) one.fixed ∙ ap
            (λ (us : List (Option Ty)). Some one.type ∷ us) more.known;
        there = ap (λ (o : Option Value). option_and_then (λ x. option_map (λ xs. x ∷ xs)
            (all_there (map value (exprs args)))) o) one.there
            ∙ ap (λ (o : Option (List Value)). option_map (λ xs. one.value ∷ xs) o) more.there;
        typed = (one.typed, more.typed);
        taken = and_from (takes sig n fixed (Some one.type))
            (all_taken sig (n + 1) (fixed_behind sig n fixed (Some one.type)) (map Some more.ts))
            (subst (λ (t : Option Ty). takes sig n fixed t ≡ true) one.fixed takes_it)
            (subst (λ (t : Option Ty). all_taken sig (n + 1) (fixed_behind sig n fixed t)
            (map Some more.ts) ≡ true) one.fixed more.taken);
        count = ap suc more.count;
      }

  -- parts of which types are wanted
  parts_given : (wanted : List (Option Ty)) (at : ℕ) (parts : List TypedPart) → length parts ≡
      length wanted → every (map is_formed_expr (exprs parts)) ≡ true →
      arg_faults wanted at (map known (exprs parts)) ≡ [] → PartsGiven types wanted
      (map value (exprs parts))
  parts_given [] at [] count formed clean = record {
    ts = [];
    xs = [];
    there = refl;
    typed =
        tt;
    wants = tt;
  }
  parts_given [] at (part ∷ parts) count formed clean = absurd (omega (arith, count))
  parts_given (wanted ∷ more) at [] count formed clean = absurd (omega (arith, count))
  parts_given (wanted ∷ more) at (part ∷ parts) count formed clean =
      let all = and_parts (is_formed_expr part.0) (every (map is_formed_expr (exprs parts))) formed
      in
      let behind = empty_second ((known part.0).faults at) _ clean in
      let one : IsGiven types (known part.0).type (value part.0) = part.1 at all.0
      (empty_first ((known part.0).faults at) _ clean) in
      let agrees : agree wanted (known part.0).type ≡ true = met (agree wanted (known part.0).type)
      at TypeOther (empty_first _ _ behind) in
      let rest = parts_given more (at + (known part.0).trees) parts (omega (arith, count)) all.1
      (empty_second _ _ behind) in
      record {
        ts = one.type ∷ rest.ts;
        xs = one.value ∷ rest.xs;
        there = ap (λ (o : Option Value). option_and_then (λ x. option_map (λ xs. x ∷ xs)
            (all_there (map value (exprs parts)))) o) one.there
            ∙ ap (λ (o : Option (List Value)). option_map (λ xs. one.value ∷ xs) o) rest.there;
        typed = (one.typed, rest.typed);
        wants = (subst (λ (t : Option Ty). agree wanted t ≡ true) one.fixed agrees, rest.wants);
      }

  -- an operation
  apply_given : (which : Op) (at : ℕ) (args : List TypedPart) → is_written which ≡ true →
      length (exprs args) ≡ arity_of which → every (map is_formed_expr (exprs args)) ≡ true →
      expr_faults around standing scope (Apply which (map known (exprs args))) at ≡ [] →
      IsGiven types (type_given [] (signature_of which) (known_types (map known (exprs args))))
      (option_and_then (value_of_op which) (all_there (map value (exprs args))))
  apply_given which at args written count formed clean =
      let sig = signature_of which in
      let arg_at = at + 2 + length (numbers_of_op which) in
      let behind = empty_second (stated_width (at + 2) sig) _ clean in
      let given = args_given sig 0 None arg_at args formed (empty_first _ _ behind) in
      let fits : widths_fit sig (known_types (map known (exprs args))) ≡ true =
      met _ at (width_rule sig) (empty_second (op_arg_faults sig 0 None arg_at
      (map known (exprs args))) _ behind) in
      let fit : widths_fit sig (map Some given.ts) ≡ true =
      subst (λ (us : List (Option Ty)). widths_fit sig us ≡ true) given.known fits in
      let many : length given.ts ≡ arity_of which = given.count ∙ length-map (exprs args) known ∙ count
      in
      let fixed = given_type which given.ts written (stated sig
      (empty_first (stated_width (at + 2) sig) _ clean)) (typed_wide types given.ts given.xs
      wide given.typed) (many, given.taken, fit) in
      let accepted : accepts which (map Some given.ts) ≡ true =
      and_from (eqb (length (map Some given.ts)) (arity_of which))
      (all_taken sig 0 None (map Some given.ts) && widths_fit sig (map Some given.ts))
      (eq-eqb (length (map Some given.ts)) (arity_of which) (length-map given.ts Some ∙ many))
      (and_from (all_taken sig 0 None (map Some given.ts)) (widths_fit sig (map Some given.ts))
      given.taken fit) in
      let has = applied shown types exact which given.ts given.xs fixed.0 given.typed accepted
      (same_given which given.ts written ∙ fixed.1) in
      record {
        type = fixed.0;
        fixed = ap (type_given [] sig) given.known ∙ fixed.1;
        value = has.value;
        there = ap (option_and_then (value_of_op which)) given.there ∙ has.there;
        typed = has.typed;
      } where
        stated : (sig : Signature) → stated_width (at + 2) sig ≡ [] → IsStatedWidth sig
        stated (signature.Extension width) none = met (is_width width) (at + 2) NoWidth none
        stated _ none = tt

        -- the table of types says nothing of an operation that is written
        same_given : (o : Op) (ts : List Ty) → is_written o ≡ true → type_given types (signature_of o)
            (map Some ts) ≡ type_given [] (signature_of o) (map Some ts)
        same_given (op.Get of field) ts w = absurd (false≢true w)
        same_given _ ts w = refl

  -- what is made of a value that is there
  given_then : (type : Option Ty) (t : Ty) (f : Value → Option Value) (o : Option Value) (x : Value) →
      o ≡ Some x → type ≡ Some t → HasTyped types t (f x) → IsGiven types type (option_and_then f o)
  given_then type t f o x there fixed has = record {
    type = t;
    fixed = fixed;
    value = has.value;
    there = ap (option_and_then f) there ∙ has.there;
    typed = has.typed;
  }

  literal_given : (w n at : ℕ) → unless (is_width w) (at + 2) NoWidth
      ++ unless (nat_lt n (2 ^ w)) (at + 3) LiteralLarge ≡ [] →
      IsGiven types (bits_of w) (literal_value w n)
  literal_given w n at clean =
      let wide = met (is_width w) (at + 2) NoWidth (empty_first (unless (is_width w) (at + 2) NoWidth)
      (unless (nat_lt n (2 ^ w)) (at + 3) LiteralLarge) clean) in
      let small = met (nat_lt n (2 ^ w)) (at + 3) LiteralLarge
      (empty_second (unless (is_width w) (at + 2) NoWidth)
      (unless (nat_lt n (2 ^ w)) (at + 3) LiteralLarge) clean) in
      let number : is_number w n ≡ true = and_from (is_width w) (nat_lt n (2 ^ w)) wide small in
      record {
        type = ty.Bits w;
        fixed = ap (λ b. if b then Some (ty.Bits w) else None) wide;
        value = Number w n;
        there = ap (λ b. if b then Some (Number w n) else None) number;
        typed = (laws.numbers types w (Number w n)).1 (n, refl, number);
      }

  of_given : (e a : Name) (at : ℕ) (t : Option Ty) (o m : Option ℕ) →
      enum_called around e ≡ o → meant a_member around a ≡ m →
      unknown_type (at + 2) t o ++ member_fault o (at + 3) m ≡ [] →
      IsGiven types (option_map ty.Enum o) (member_value types e a)
  of_given e a at None o m eo em clean = absurd (false≢true (met false (at + 2) TypeUnknown
      (empty_first (unless false (at + 2) TypeUnknown) (member_fault o (at + 3) m) clean)))
  of_given e a at (Some t) None m eo em clean = absurd (false≢true (met false (at + 2) NameUnknown
      (empty_first (unless false (at + 2) NameUnknown) (member_fault None (at + 3) m) clean)))
  of_given e a at (Some t) (Some p) None eo em clean = absurd (false≢true
      (met false (at + 3) NameUnknown clean))
  of_given e a at (Some t) (Some p) (Some q) eo em clean =
      let same : p ≡ q = eqb-true p q (met (eqb p q) (at + 3) NameUnknown clean) in
      given_of types (Some (ty.Enum p)) (member_value types e a) (ty.Enum p) refl
      (alike.member e a p eo (em ∙ ap Some (sym same)))

  make_given : (c : Name) (at : ℕ) (o : Option CtorSeen) (part : TypedPart) →
      meant a_ctor around c ≡ o → is_formed_expr part.0 ≡ true →
      unknown (at + 2) o ++ ((known part.0).faults (at + 3)
      ++ wanting (option_and_then (λ (seen : CtorSeen). seen.payload) o) (at + 3) (known part.0).type)
      ≡ [] →
      IsGiven types (option_map (λ (seen : CtorSeen). ty.Union seen.of) o)
      (option_and_then (made_value types c) (value part.0))
  make_given c at None part eo formed clean = absurd (false≢true (met false (at + 2) NameUnknown
      (empty_first (unless false (at + 2) NameUnknown) ((known part.0).faults (at + 3)
      ++ wanting None (at + 3) (known part.0).type) clean)))
  make_given c at (Some seen) part eo formed clean =
      let one : IsGiven types (known part.0).type (value part.0) = part.1 (at + 3) formed
      (empty_first ((known part.0).faults (at + 3))
      (wanting seen.payload (at + 3) (known part.0).type) clean) in
      let agrees : agree seen.payload (known part.0).type ≡ true =
      met (agree seen.payload (known part.0).type) (at + 3) TypeOther
      (empty_second ((known part.0).faults (at + 3))
      (wanting seen.payload (at + 3) (known part.0).type) clean) in
      given_then (Some (ty.Union seen.of)) (ty.Union seen.of) (made_value types c) (value part.0)
      one.value one.there refl
      (alike.ctor c seen one.type one.value eo
      (subst (λ (t : Option Ty). agree seen.payload t ≡ true) one.fixed agrees) one.typed)

  rec_given : (r : Name) (at : ℕ) (t : Option Ty) (o : Option RecordSeen) (parts : List TypedPart) →
      record_called around r ≡ o → every (map is_formed_expr (exprs parts)) ≡ true →
      unknown_type (at + 2) t o
      ++ given_faults (option_map (λ (seen : RecordSeen). seen.fields) o) at
      (map known (exprs parts)) ≡ [] →
      IsGiven types (option_map (λ (seen : RecordSeen). ty.Rec seen.of) o)
      (option_and_then (rec_value types r) (all_there (map value (exprs parts))))
  rec_given r at None o parts eo formed clean = absurd (false≢true (met false (at + 2) TypeUnknown
      (empty_first (unless false (at + 2) TypeUnknown) (given_faults
      (option_map (λ (seen : RecordSeen). seen.fields) o) at (map known (exprs parts))) clean)))
  rec_given r at (Some t) None parts eo formed clean = absurd (false≢true
      (met false (at + 2) NameUnknown (empty_first (unless false (at + 2) NameUnknown)
      (given_faults None at (map known (exprs parts))) clean)))
  rec_given r at (Some t) (Some seen) parts eo formed clean =
      let args : List Known = map known (exprs parts) in
      let count : length args ≡ length seen.fields = eqb-true (length args) (length seen.fields)
      (met (eqb (length args) (length seen.fields)) at CountOther
      (empty_first (unless (eqb (length args) (length seen.fields)) at CountOther)
      (arg_faults (types_of seen.fields) (at + 3) args) clean)) in
      let many : length parts ≡ length (types_of seen.fields) =
      sym (length-map (exprs parts) known ∙ length-map parts (λ (part : TypedPart). part.0))
      ∙ count ∙ sym (length-map seen.fields (λ (one : TypedName). one.type)) in
      let all : PartsGiven types (types_of seen.fields) (map value (exprs parts)) =
      parts_given (types_of seen.fields) (at + 3) parts many formed
      (empty_second (unless (eqb (length args) (length seen.fields)) at CountOther)
      (arg_faults (types_of seen.fields) (at + 3) args) clean) in
      let has = alike.fields r seen all.ts all.xs eo all.wants all.typed in
      record {
        type = ty.Rec seen.of;
        fixed = refl;
        value = has.value;
        there = ap (option_and_then (rec_value types r)) all.there ∙ has.there;
        typed = has.typed;
      }

  get_given : (r f : Name) (at : ℕ) (t : Option Ty) (o : Option RecordSeen) (part : TypedPart) →
      record_called around r ≡ o → is_formed_expr part.0 ≡ true →
      unknown_type (at + 2) t o ++ (field_fault o (at + 3) f ++ ((known part.0).faults (at + 4)
      ++ wanting (option_map (λ (seen : RecordSeen). ty.Rec seen.of) o) (at + 4)
      (known part.0).type)) ≡ [] →
      IsGiven types (option_and_then (λ (seen : RecordSeen). option_flatten
      (local_type seen.fields f)) o) (option_and_then (got_value types r f) (value part.0))
  get_given r f at None o part eo formed clean = absurd (false≢true (met false (at + 2) TypeUnknown
      (empty_first (unless false (at + 2) TypeUnknown) (field_fault o (at + 3) f
      ++ ((known part.0).faults (at + 4)
      ++ wanting (option_map (λ (seen : RecordSeen). ty.Rec seen.of) o) (at + 4)
      (known part.0).type)) clean)))
  get_given r f at (Some t) None part eo formed clean = absurd (false≢true
      (met false (at + 2) NameUnknown (empty_first (unless false (at + 2) NameUnknown)
      ((known part.0).faults (at + 4) ++ wanting None (at + 4) (known part.0).type) clean)))
  get_given r f at (Some t) (Some seen) part eo formed clean =
      let there = met (is_some (local_type seen.fields f)) (at + 3) NameUnknown
      (empty_first (unknown (at + 3) (local_type seen.fields f)) ((known part.0).faults (at + 4)
      ++ wanting (Some (ty.Rec seen.of)) (at + 4) (known part.0).type) clean) in
      let behind : (known part.0).faults (at + 4)
      ++ wanting (Some (ty.Rec seen.of)) (at + 4) (known part.0).type ≡ [] =
      empty_second (unknown (at + 3) (local_type seen.fields f)) ((known part.0).faults (at + 4)
      ++ wanting (Some (ty.Rec seen.of)) (at + 4) (known part.0).type) clean in
      let one : IsGiven types (known part.0).type (value part.0) = part.1 (at + 4) formed
      (empty_first ((known part.0).faults (at + 4))
      (wanting (Some (ty.Rec seen.of)) (at + 4) (known part.0).type) behind) in
      let agrees : agree (Some (ty.Rec seen.of)) (known part.0).type ≡ true =
      met (agree (Some (ty.Rec seen.of)) (known part.0).type) (at + 4) TypeOther
      (empty_second ((known part.0).faults (at + 4))
      (wanting (Some (ty.Rec seen.of)) (at + 4) (known part.0).type) behind) in
      let same : ty.Rec seen.of ≡ one.type = laws.shown.told (ty.Rec seen.of) one.type
      (subst (λ (t : Option Ty). agree (Some (ty.Rec seen.of)) t ≡ true) one.fixed agrees) in
      let got = alike.field r f seen one.value eo there
      (subst (λ (t : Ty). HasType types t one.value) (sym same) one.typed) in
      record {
        type = got.type;
        fixed = got.fixed;
        value = got.value;
        there = ap (option_and_then (got_value types r f)) one.there ∙ got.there;
        typed = got.typed;
      }

  abbrev first : Expr-F TypedPart → Expr-F Expr
  first = map-Expr TypedPart Expr (λ (part : TypedPart). part.0)

  layer_given : (y : Expr-F TypedPart) (at : ℕ) →
      expr_formed (map-Expr Expr Bool is_formed_expr (first y)) ≡ true →
      (expr_known around standing scope (map-Expr Expr Known known (first y))).faults at ≡ [] →
      IsGiven types (expr_known around standing scope (map-Expr Expr Known known (first y))).type
      (expr_value env (map-Expr Expr (Option Value) value (first y)))
  layer_given (Named x) at formed clean = local_given types scope locals x are
      (met (is_some (local_type scope x)) at NameUnknown clean)
  layer_given UnitExpr at formed clean = record {
    type = ty.Unit;
    fixed = refl;
    value = UnitValue;
    there = refl;
    typed = (laws.unit types UnitValue).1 refl;
  }
  layer_given (Truth b) at formed clean = record {
    type = ty.Bool;
    fixed = refl;
    value =
        TruthValue b;
    there = refl;
    typed = (laws.truths types (TruthValue b)).1 (b, refl);
  }
  layer_given (Bits w n) at formed clean = literal_given w n at clean
  layer_given (Of e a) at formed clean = of_given e a at (type_called around e)
      (enum_called around e) (meant a_member around a) refl refl clean
  layer_given (Make c part) at formed clean = make_given c at (meant a_ctor around c) part refl
      (and_parts (is_name c) (is_formed_expr part.0) formed).1 clean
  layer_given (Rec r parts) at formed clean = rec_given r at (type_called around r)
      (record_called around r) parts refl
      (and_parts (is_name r) (every (map is_formed_expr (exprs parts))) formed).1 clean
  layer_given (Register r) at formed clean = read.register r at clean
  layer_given (Kept r) at formed clean = read.kept r at clean
  layer_given (KeptCell n) at formed clean = read.kept_cell n at clean
  layer_given (Before r) at formed clean = read.before r at clean
  layer_given (After r) at formed clean = read.after r at clean
  layer_given (BeforeCell n) at formed clean = read.before_cell n at clean
  layer_given (AfterCell n) at formed clean = read.after_cell n at clean
  layer_given (Apply op args) at formed clean =
      let parts = and_parts (is_written op) (eqb (length (map is_formed_expr (exprs args)))
      (arity_of op) && every (map is_formed_expr (exprs args))) formed in
      let rest = and_parts (eqb (length (map is_formed_expr (exprs args))) (arity_of op))
      (every (map is_formed_expr (exprs args))) parts.1 in
      apply_given op at args parts.0
      (sym (length-map (exprs args) is_formed_expr)
      ∙ eqb-true (length (map is_formed_expr (exprs args))) (arity_of op) rest.0)
      rest.1 clean
  layer_given (Get r f part) at formed clean =
      let parts = and_parts (is_name r) (is_name f && is_formed_expr part.0) formed in
      get_given r f at (type_called around r) (record_called around r) part refl
      (and_parts (is_name f) (is_formed_expr part.0) parts.1).1 clean

  -- one layer of what is known of an expression, of its form and of its value
  known_rolls : (x : Expr-F Expr) →
      known (roll-Expr x) ≡ expr_known around standing scope (map-Expr Expr Known known x)
  known_rolls x = fold-roll-Expr Known (expr_known around standing scope) x

  pub expression_given : (e : Expr) → IsTypedExpr e
  expression_given = ind-Expr IsTypedExpr (λ x y is at formed clean.
      let same : first y ≡ x = is in
      let known_is = known_rolls x
      ∙ ap (λ z. expr_known around standing scope (map-Expr Expr Known known z)) (sym same) in
      let formed_is = fold-roll-Expr Bool expr_formed x
      ∙ ap (λ z. expr_formed (map-Expr Expr Bool is_formed_expr z)) (sym same) in
      let value_is = fold-roll-Expr (Option Value) (expr_value env) x
      ∙ ap (λ z. expr_value env (map-Expr Expr (Option Value) value z)) (sym same) in
      let here = layer_given y at (sym formed_is ∙ formed)
      (sym (ap (λ (o : Known). o.faults at) known_is) ∙ clean) in
      record {
        type = here.type;
        fixed = ap (λ (o : Known). o.type) known_is ∙ here.fixed;
        value = here.value;
        there = value_is ∙ here.there;
        typed = here.typed;
      })

  -- so there is a value of what typing knows
  pub expression_has : (e : Expr) (at : ℕ) → is_formed_expr e ≡ true → (known e).faults at ≡ [] →
      HasKnownValue types (known e).type (value e)
  expression_has e at formed clean =
      let here = expression_given e at formed clean in
      record {
        one = here.value;
        there = here.there;
        typed = subst (λ (t : Option Ty). IsOfKnown types t here.value) (sym here.fixed) here.typed;
      }
