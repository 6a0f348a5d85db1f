-- The dispatch of a typed specification reads no register that may be written from outside.
use Rattle.std.proofs.Common.{◌≡◌, ◌∙◌, ℕ, ◌+◌, true, not, List, [], ◌∷◌, length, map, Option, Some, None, refl, ap, subst, if◌then◌else◌}
use Rattle.std.specs.Option.{option_map}
use Rattle.std.specs.List.{AllByRecursion}
use Rattle.kat_value.specs.declared.types.Ty.{Ty}
use Rattle.kat_value.specs.declared.signature.Signature.{Signature}
use Rattle.kat_value.specs.declared.value.Value.{Value}
use Rattle.kat_value.specs.Signatures.{fixed_behind, signature_of}
use Rattle.kat_value.specs.Words.{numbers_of_op}
use Rattle.kat_ast.specs.declared.decl.DeclForm.{DeclForm}
use Rattle.kat_ast.specs.declared.decl.DeclForm.TheVariants as d
use Rattle.kat_ast.specs.declared.decl.Phase.{Phase}
use Rattle.kat_ast.specs.declared.decl.When.{When}
use Rattle.kat_ast.specs.Declarations.{trees_of_when}
use Rattle.kat_ast.specs.declared.expr.Expr.{Expr}
use Rattle.kat_ast.specs.declared.expr.Expr.TheOpen.{Expr-F, Make, Rec, Register, Apply, Get}
use Rattle.kat_ast.specs.declared.expr.Expr.TheFolds.{map-Expr, fold-roll-Expr}
use Rattle.kat_syntax.specs.declared.type_rule.TypeRule.TheVariants.{NotHere, NotOnce}
use Rattle.kat_syntax.specs.Around.{Around, RecordSeen, a_register, meant, record_called}
use Rattle.kat_syntax.specs.Declares.{TypedName, types_of}
use Rattle.kat_syntax.specs.Evaluation.{Environment, Registers, value_of_expr}
use Rattle.kat_syntax.specs.Holds.{is_true}
use Rattle.kat_syntax.specs.Phases.{first_true, phase_by}
use Rattle.kat_syntax.specs.States.{register_value}
use Rattle.kat_syntax.specs.Tables.{Name}
use Rattle.kat_syntax.specs.TypeRules.{unless}
use Rattle.kat_syntax.specs.TypingDeclarations.{is_dispatch, is_second, when_faults}
use Rattle.kat_syntax.specs.TypingExpressions.{InDispatch, Known, arg_faults, expr_known, given_faults, is_of_kind, is_outside_kind, known_of_expr, op_arg_faults, parts_faults}
use Rattle.kat_claims.proofs.Faultless.{AreClean, inner_clean, met, no_first, no_second}
use Rattle.kat_claims.proofs.ReadAlike.{ReadsAlike, same_value}

module _ (all : List DeclForm) (k : ℕ) (before after : List Value)
    (reads_same :
    (r : Name) →
    is_of_kind (λ kind. not (is_outside_kind kind))
    (meant a_register (record { decls = all; number = k }) r) ≡ true →
    register_value all r before ≡ register_value all r after) where
  -- where the conditions stand
  abbrev around : Around
  around = record { decls = all; number = k }

  -- where they are read
  abbrev env : List Value → Environment
  env registers = record { decls = all; reads = Registers registers; locals = [] }

  -- what typing knows of an expression there
  abbrev known : Expr → Known
  known = known_of_expr around InDispatch []

  -- what is known has no faults at some tree
  abbrev IsFaultless : Known → Type 0
  IsFaultless one = (at : ℕ) × (one.faults at ≡ [])

  -- an expression without faults
  abbrev IsFine : Expr → Type 0
  IsFine e = IsFaultless (known e)

  -- expressions side by side
  parts_clean :
      (at : ℕ) (parts : List Expr) → parts_faults at (map known parts) ≡ [] →
      AllByRecursion IsFine parts
  parts_clean at [] e = tt
  parts_clean at (part ∷ parts) e =
      ((at, no_first _ _ e), parts_clean (at + (known part).trees) parts (no_second _ _ e))

  -- arguments of which types are wanted
  args_clean :
      (types : List (Option Ty)) (at : ℕ) (args : List Expr) →
      arg_faults types at (map known args) ≡ [] → AllByRecursion IsFine args
  args_clean [] at args e = parts_clean at args e
  args_clean (type ∷ types) at [] e = tt
  args_clean (type ∷ types) at (arg ∷ args) e = (
    (at, no_first _ _ e),
    args_clean types (at + (known arg).trees) args (no_second _ _ (no_second _ _ e)),
  )

  -- arguments of an operation
  op_args_clean :
      (signature : Signature) (j : ℕ) (fixed : Option Ty) (at : ℕ) (args : List Expr) →
      op_arg_faults signature j fixed at (map known args) ≡ [] → AllByRecursion IsFine args
  op_args_clean signature j fixed at [] e = tt
  op_args_clean signature j fixed at (arg ∷ args) e = (
    (at, no_first _ _ e),
    op_args_clean signature (j + 1) (fixed_behind signature j fixed (known arg).type)
        (at + (known arg).trees) args (no_second _ _ (no_second _ _ e)),
  )

  -- arguments of what a name has declared
  given_clean :
      (params : Option (List TypedName)) (at : ℕ) (args : List Expr) →
      given_faults params at (map known args) ≡ [] → AllByRecursion IsFine args
  given_clean None at args e = parts_clean (at + 3) args e
  given_clean (Some params) at args e = args_clean (types_of params) (at + 3) args (no_second _ _ e)

  -- a layer without faults reads alike
  layer_alike :
      (layer : Expr-F Expr) →
      IsFaultless (expr_known around InDispatch [] (map-Expr Expr Known known layer)) →
      ReadsAlike (env before) (env after) IsFine layer
  layer_alike (Make c payload) (at, e) = (at + 3, no_first _ _ (no_second _ _ e))
  layer_alike (Rec r fields) (at, e) =
      given_clean (option_map (λ (seen : RecordSeen). seen.fields) (record_called around r)) at
      fields (no_second _ _ e)
  layer_alike (Register r) (at, e) =
      reads_same r (met (is_of_kind (λ kind. not (is_outside_kind kind))
      (meant a_register around r)) at NotHere (no_first _ _ e))
  layer_alike (Apply one args) (at, e) =
      op_args_clean (signature_of one) 0 None (at + 2 + length (numbers_of_op one)) args
      (no_first _ _ (no_second _ _ e))
  layer_alike (Get r f part) (at, e) =
      (at + 4, no_first _ _ (no_second _ _ (no_second _ _ e)))
  layer_alike _ clean = refl

  -- so it has one value
  value_same : (e : Expr) → IsFine e → value_of_expr (env before) e ≡ value_of_expr (env after) e
  value_same = same_value all (Registers before) (Registers after) [] [] IsFine (λ layer clean.
      layer_alike layer
      (subst IsFaultless (fold-roll-Expr Known (expr_known around InDispatch []) layer) clean))

  -- the cases of the dispatch
  same_first :
      (at : ℕ) (cases : List When) (otherwise : Phase) →
      when_faults around at cases otherwise ≡ [] →
      first_true (env before) cases otherwise ≡ first_true (env after) cases otherwise
  same_first at [] otherwise e = refl
  same_first at (case ∷ cases) otherwise e =
      ap (λ v. if is_true v then case.phase else first_true (env before) cases otherwise)
      (value_same case.test (at + 2, no_first _ _ (no_first _ _ e)))
      ∙ ap (λ p. if is_true (value_of_expr (env after) case.test) then case.phase else p)
      (same_first (at + trees_of_when case) cases otherwise (no_second _ _ (no_second _ _ e)))

-- the first dispatch among declarations without faults
pub same_phase :
    (all : List DeclForm) (before after : List Value) →
    ((r : Name) (k : ℕ) →
    is_of_kind (λ kind. not (is_outside_kind kind))
    (meant a_register (record { decls = all; number = k }) r) ≡ true →
    register_value all r before ≡ register_value all r after) →
    (k : ℕ) (decls : List DeclForm) → AreClean all k decls →
    phase_by (record { decls = all; reads = Registers before; locals = [] }) decls
    ≡ phase_by (record { decls = all; reads = Registers after; locals = [] }) decls
same_phase all before after reads_same k [] clean = refl
same_phase all before after reads_same k (d.Dispatch cases otherwise ∷ decls) clean =
    let around : Around = record { decls = all; number = k } in
    let inner = inner_clean around (d.Dispatch cases otherwise) clean.0 in
    ap (λ phase. Some phase)
    (same_first all k before after (λ r. reads_same r k) 2 cases otherwise
    (no_first (when_faults around 2 cases otherwise)
    (unless (not (is_second is_dispatch around)) 0 NotOnce) inner))
same_phase all before after reads_same k (_ ∷ decls) clean =
    same_phase all before after reads_same (k + 1) decls clean.1
