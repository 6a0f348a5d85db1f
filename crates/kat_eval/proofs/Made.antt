-- What constructors, records and operations give on values, and what is written.
use Rattle.std.proofs.Common.{◌≡◌, ◌∙◌, ℕ, ◌≤◌, Bool, true, false, ◌&&◌, nat_eq, if◌then◌else◌, List, [], ◌∷◌, length, map, slice_get, Option, Some, None, option_and_then, refl, ap, sym, arith}
use Rattle.std.specs.Option.{option_map}
use Rattle.std.proofs.lemmas.List.{set_past}
use Rattle.std.proofs.lemmas.Bool.{eq-eqb}
use Rattle.kat_value.specs.declared.op.Op.{Op}
use Rattle.kat_value.specs.declared.types.TypeDecl.{TypeDecl}
use Rattle.kat_value.specs.declared.types.Ty.{Ty}
use Rattle.kat_value.specs.declared.types.Ty.TheVariants as ty
use Rattle.kat_value.specs.declared.value.Value.{Value, fold-roll-Value}
use Rattle.kat_value.specs.declared.value.Value.TheVariants.{Made, Rec, rolls-Rec}
use Rattle.kat_value.specs.declared.value.Value.TheOpen.{Rec as RecLayer}
use Rattle.kat_value.specs.Making.{all_there, value_of_making, value_of_record}
use Rattle.kat_value.specs.Operations.{value_of_op}
use Rattle.kat_value.specs.Typing.{has_type, layer_has_type, ctor_at, fields_at, passes_ctor, pass_record}
use Rattle.kat_ast.specs.declared.decl.DeclForm.{DeclForm}
use Rattle.kat_ast.specs.declared.expr.Expr.{Expr}
use Rattle.kat_syntax.specs.declared.run_tables.CtorPlace.{CtorPlace}
use Rattle.kat_syntax.specs.Tables.{Name}
use Rattle.kat_syntax.specs.Machine.{MachineState}
use Rattle.kat_syntax.specs.States.{register_position, register_types, with_register, written, written_at}
use Rattle.kat_syntax.specs.TypeTable.{types_of_decls}
use Rattle.kat_syntax.specs.NamedValues.{ctor_from, made_value, rec_value, type_position}
use Rattle.kat_syntax.specs.Evaluation.{Environment, value_of_expr, values_of_exprs}

-- what a constructor that is found gives, by whether it takes the payload
pub made_by : (types known : List TypeDecl) (k : Name) (payload : Value) (place : CtorPlace) (takes : Bool) →
    known ≡ types → Some place ≡ ctor_from 0 types k →
    takes ≡ passes_ctor (has_type known payload) (ctor_at known place.of place.ctor) →
    (if takes then Some (Made place.of place.ctor payload) else None) ≡ made_value types k payload
made_by types known k payload place takes known_is found is =
    ap (λ (b : Bool). if b then Some (Made place.of place.ctor payload) else None)
    (is ∙ ap (λ t. passes_ctor (has_type t payload) (ctor_at t place.of place.ctor)) known_is)
    ∙ ap (option_and_then (λ (p : CtorPlace). value_of_making types p.of p.ctor payload)) found

-- a record is of its type where its fields are of theirs
record_type : (types : List TypeDecl) (of : ℕ) (xs : List Value) →
    has_type types (Rec of xs) (ty.Rec of) ≡ pass_record (map (has_type types) xs) (fields_at types of)
record_type types of xs =
    ap (λ (v : Value). has_type types v (ty.Rec of)) (sym (rolls-Rec of xs))
    ∙ ap (λ (test : Ty → Bool). test (ty.Rec of))
    (fold-roll-Value (Ty → Bool) (layer_has_type types) (RecLayer of xs))
    ∙ ap (λ b. b && pass_record (map (has_type types) xs) (fields_at types of)) (eq-eqb of of refl)

-- the record of a type that is found, by whether its fields are of their types
pub record_by : (types known : List TypeDecl) (r : Name) (of : ℕ) (xs : List Value) (takes : Bool) →
    known ≡ types → Some of ≡ type_position types r →
    takes ≡ has_type known (Rec of xs) (ty.Rec of) →
    (if takes then Some (Rec of xs) else None) ≡ rec_value types r xs
record_by types known r of xs takes known_is found is =
    ap (λ (b : Bool). if b then Some (Rec of xs) else None)
    (is ∙ ap (λ t. has_type t (Rec of xs) (ty.Rec of)) known_is ∙ record_type types of xs)
    ∙ ap (option_and_then (λ p. value_of_record types p xs)) found

four_there : (op : Op) (a b c d : Value) (o : Option (List Value)) →
    None ≡ option_and_then (value_of_op op)
    (option_map (λ xs. a ∷ xs) (option_map (λ xs. b ∷ xs) (option_map (λ xs. c ∷ xs) (option_map (λ xs. d ∷ xs) o))))
four_there op a b c d None = refl
four_there op a b c d (Some more) = refl

four_or_none : (op : Op) (a b c d : Option Value) (more : List (Option Value)) →
    None ≡ option_and_then (value_of_op op) (all_there (a ∷ b ∷ c ∷ d ∷ more))
four_or_none op None b c d more = refl
four_or_none op (Some a) None c d more = refl
four_or_none op (Some a) (Some b) None d more = refl
four_or_none op (Some a) (Some b) (Some c) None more = refl
four_or_none op (Some a) (Some b) (Some c) (Some d) more = four_there op a b c d (all_there more)

-- no operation takes four values or more
pub many_operands : (op : Op) (env : Environment) (args : List Expr) → 4 ≤ length args →
    None ≡ option_and_then (value_of_op op) (values_of_exprs env args)
many_operands op env [] long = absurd (omega arith)
many_operands op env (a ∷ []) long = absurd (omega arith)
many_operands op env (a ∷ b ∷ []) long = absurd (omega arith)
many_operands op env (a ∷ b ∷ c ∷ []) long = absurd (omega arith)
many_operands op env (a ∷ b ∷ c ∷ d ∷ more) long =
    four_or_none op (value_of_expr env a) (value_of_expr env b) (value_of_expr env c) (value_of_expr env d) (map (value_of_expr env) more)

-- a value that is written where the state has no register changes nothing
pub written_nowhere : (decls : List DeclForm) (r : Name) (v : Value) (state : MachineState) (at : ℕ) (type : Ty) (known : List TypeDecl) →
    Some at ≡ register_position decls r → slice_get (register_types decls) at ≡ Some type →
    known ≡ types_of_decls decls → has_type known v type ≡ true → length state.registers ≤ at →
    written decls r v state ≡ Some state
written_nowhere decls r v state at type known found typed known_is fits past =
    ap (option_and_then (λ k. written_at decls k v state)) (sym found)
    ∙ ap (option_and_then (λ (t : Ty). if has_type (types_of_decls decls) v t then Some (with_register at v state) else None)) typed
    ∙ ap (λ (b : Bool). if b then Some (with_register at v state) else None) (sym (ap (λ t. has_type t v type) known_is) ∙ fits)
    ∙ ap (λ rs. Some (record state { registers = rs })) (set_past state.registers at v past)
