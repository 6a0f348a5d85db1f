-- What is told of the parts of a statement makes what is told of the whole.
use Rattle.std.proofs.Common.{◌≡◌, ℕ, ◌+◌, List, ◌++◌, map, sym, ap, ◌∙◌, refl, subst, Bool, Option, Some, None}
use Rattle.std.specs.Prelude.{is_some, option_and_then}
use Rattle.std.specs.Option.{option_map}
use Rattle.kat_value.specs.declared.types.Ty.{Ty}
use Rattle.kat_value.specs.declared.types.Ty.TheVariants as ty
use Rattle.kat_value.specs.Signatures.{agree}
use Rattle.kat_ast.specs.declared.expr.Expr.{Expr}
use Rattle.kat_ast.specs.declared.stm.Stm.{Stm}
use Rattle.kat_ast.specs.declared.stm.Stm.TheVariants as stm
use Rattle.kat_ast.specs.declared.stm.Stm.TheOpen.{Stm-F, Ret, Read, Write, Load, Store, Call, Check, Fail, Open, Close, Lemma}
use Rattle.kat_ast.specs.declared.stm.Stm.TheViews.{out-Stm, outs-Ret, outs-Read, outs-Write, outs-Load, outs-Store, outs-Call, outs-Check, outs-Fail, outs-Open, outs-Close, outs-Lemma}
use Rattle.kat_ast.specs.declared.stm.Stm.TheFolds.{map-Stm, fold_out-Stm}
use Rattle.kat_ast.specs.Expressions.{trees_of_expr, trees_of_exprs}
use Rattle.kat_syntax.specs.Tables.{Name}
use Rattle.kat_syntax.specs.declared.type_rule.TypeRule.TheVariants.{NameUnknown}
use Rattle.kat_syntax.specs.TypeRules.{Fault, least_with, unless}
use Rattle.kat_syntax.specs.Declares.{TypedName}
use Rattle.kat_syntax.specs.Around.{Around, RegisterSeen, FunctionSeen, ProofSeen, a_register, a_function, a_predicate, a_lemma, meant}
use Rattle.kat_syntax.specs.Memories.{index_type, cell_type}
use Rattle.kat_syntax.specs.TypesWritten.{Scope}
use Rattle.kat_syntax.specs.TypingExpressions as typing
use Rattle.kat_syntax.specs.TypingExpressions.{Known, wanting, given_faults, unknown, type_of_register, known_of_expr}
use Rattle.kat_syntax.specs.TypingStatements.{InScope, plain, plains, condition_faults, without_memory, proof_faults, stm_known, known_of_stm}
use Rattle.kat_expr_types.specs.declared.setting.Known.{Known as KnownHere}
use Rattle.kat_expr_types.specs.declared.setting.Setting.{Setting}
use Rattle.kat_expr_types.specs.declared.setting.Standing.TheVariants as standing
use Rattle.kat_expr_types.specs.declared.scope.Scope.{Scope as ScopeHere}
use Rattle.kat_expr_types.specs.Judging.{Tells, known_here, standing_of}
use Rattle.kat_expr_types.specs.Scopes.{scope_of}
use Rattle.kat_stm_types.specs.Uses.{cell_parts_faults, register_value_faults, use_faults}
use Rattle.kat_stm_types.proofs.Noting.{both_noted, wanting_noted, trees_here}
use Rattle.kat_stm_types.proofs.UsedParts.{unknown_noted}

-- a setting of a statement knows of expressions what is known of them in the statement
pub plain_is : (setting : Setting) (around : Around) (scope : ScopeHere) →
    setting.around.now ≡ around → setting.standing ≡ standing.Plain → setting.scope.now ≡ scope →
    known_here setting ≡ plain around (scope_of scope)
plain_is setting around scope around_is standing_is scope_is =
    ap (λ (a : Around). known_of_expr a (standing_of setting.standing) (scope_of setting.scope.now))
    around_is
    ∙ ap (λ s. known_of_expr around (standing_of s) (scope_of setting.scope.now)) standing_is
    ∙ ap (λ (s : ScopeHere). known_of_expr around typing.Plain (scope_of s)) scope_is

module _ (setting : Setting) (around : Around) (scope : ScopeHere) (a : setting.around.now ≡ around)
    (b : setting.standing ≡ standing.Plain) (c : setting.scope.now ≡ scope) where
  pub plain_tells : (e : Expr) (at : ℕ) (told : KnownHere) (old new : Option Fault) →
      Tells (known_here setting e) at told old new →
      Tells (plain around (scope_of scope) e) at told old new
  plain_tells e at told old new tells =
      subst (λ (k : Expr → Known). Tells (k e) at told old new)
      (plain_is setting around scope a b c) tells

  pub plain_truth : (e : Expr) (at : ℕ) (old new : Option Fault) →
      new ≡ least_with old (condition_faults (agree (Some ty.Bool)) at (known_here setting e)) →
      new ≡ least_with old (condition_faults (agree (Some ty.Bool)) at
      (plain around (scope_of scope) e))
  plain_truth e at old new noted =
      noted ∙ ap (λ (k : Expr → Known). least_with old
      (condition_faults (agree (Some ty.Bool)) at (k e))) (plain_is setting around scope a b c)

module _ (around : Around) (scope : Scope) where
  known_at : (s : Stm) (layer : Stm-F Stm) → out-Stm s ≡ layer →
      known_of_stm around s scope
      ≡ stm_known around (map-Stm Stm InScope (known_of_stm around) layer) scope
  known_at s layer is =
      ap (λ (known : InScope). known scope) (fold_out-Stm InScope (stm_known around) s)
      ∙ ap (λ z. stm_known around (map-Stm Stm InScope (known_of_stm around) z) scope) is

  pub tells_at : (s : Stm) (layer : Stm-F Stm) (at : ℕ) (told : KnownHere)
      (old new : Option Fault) →
      out-Stm s ≡ layer →
      Tells (stm_known around (map-Stm Stm InScope (known_of_stm around) layer) scope) at told old
      new →
      Tells (known_of_stm around s scope) at told old new
  tells_at s layer at told old new is tells =
      subst (λ known. Tells known at told old new) (sym (known_at s layer is)) tells

-- a statement that says what it is made of
pub made : (trees : ℕ) (type : Option Ty) (told : KnownHere) →
    told ≡ record { trees = trees; ty = type } →
    (told.trees ≡ trees) × (told.ty ≡ type)
made trees type told is = (ap (λ (k : KnownHere). k.trees) is, ap (λ (k : KnownHere). k.ty) is)

module _ (setting : Setting) (around : Around) (scope : ScopeHere) (a : setting.around.now ≡ around)
    (b : setting.standing ≡ standing.Plain) (c : setting.scope.now ≡ scope) where
  abbrev here : known_here setting ≡ plain around (scope_of scope)
  here = plain_is setting around scope a b c

  pub ret_told : (e : Expr) (at : ℕ) (told result : KnownHere) (old new : Option Fault) →
      Tells (known_here setting e) (at + 2) told old new →
      result ≡ record { trees = 2 + told.trees; ty = told.ty } →
      Tells (known_of_stm around (stm.Ret e) (scope_of scope)) at result old new
  ret_told e at told result old new tells is =
      tells_at around (scope_of scope) (stm.Ret e) (Ret e) at result old new (outs-Ret e) (record {
        trees = (made (2 + told.trees) told.ty result is).0
            ∙ ap (λ n. 2 + n) (trees_here setting e (at + 2) told old new tells);
        type = (made (2 + told.trees) told.ty result is).1 ∙ tells.type
            ∙ ap (λ (k : Expr → Known). (k e).type) here;
        faults = tells.faults ∙ ap (λ (k : Expr → Known). least_with old ((k e).faults (at + 2)))
            here;
      })

  pub write_told : (r : Name) (e : Expr) (at trees : ℕ) (result : KnownHere)
      (old new : Option Fault) →
      trees ≡ 3 + trees_of_expr e →
      new ≡ least_with old (register_value_faults setting.around.now at r (known_here setting e)) →
      result ≡ record { trees = trees; ty = Some ty.Unit } →
      Tells (known_of_stm around (stm.Write r e) (scope_of scope)) at result old new
  write_told r e at trees result old new trees_are noted is =
      tells_at around (scope_of scope) (stm.Write r e) (Write r e) at result old new
      (outs-Write r e) (record {
        trees = (made trees (Some ty.Unit) result is).0 ∙ trees_are;
        type = (made trees (Some ty.Unit) result is).1;
        faults =
            noted ∙ ap (λ (x : Around). least_with old
            (register_value_faults x at r (known_here setting e))) a
            ∙ ap (λ (k : Expr → Known). least_with old (register_value_faults around at r (k e)))
            here;
      })

  pub load_told : (e : Expr) (at : ℕ) (told result : KnownHere)
      (old first middle new : Option Fault)
      (index cell : Option Ty) →
      first ≡ least_with old (without_memory around at) →
      Tells (known_here setting e) (at + 2) told first middle → index ≡ index_type around →
      new ≡ least_with middle (wanting index (at + 2) told.ty) → cell ≡ cell_type around →
      result ≡ record { trees = 2 + told.trees; ty = cell } →
      Tells (known_of_stm around (stm.Load e) (scope_of scope)) at result old new
  load_told e at told result old first middle new index cell memory tells index_is wanted cell_is
      is =
      tells_at around (scope_of scope) (stm.Load e) (Load e) at result old new (outs-Load e)
      (record {
        trees = (made (2 + told.trees) cell result is).0
            ∙ ap (λ n. 2 + n) (trees_here setting e (at + 2) told first middle tells);
        type = (made (2 + told.trees) cell result is).1 ∙ cell_is;
        faults =
            both_noted old first new (without_memory around at) _ memory
            (wanting_noted (known_here setting e) (at + 2) told first middle new (index_type around)
            index tells index_is wanted)
            ∙ ap (λ (k : Expr → Known). least_with old
            (without_memory around at ++ ((k e).faults (at + 2) ++ wanting (index_type around)
            (at + 2) (k e).type))) here;
      })

  pub store_told : (index e : Expr) (at trees : ℕ) (result : KnownHere) (old new : Option Fault) →
      trees ≡ 2 + trees_of_expr index + trees_of_expr e →
      new ≡ least_with old (cell_parts_faults setting.around.now at (known_here setting index)
      (known_here setting e)) →
      result ≡ record { trees = trees; ty = Some ty.Unit } →
      Tells (known_of_stm around (stm.Store index e) (scope_of scope)) at result old new
  store_told index e at trees result old new trees_are noted is =
      tells_at around (scope_of scope) (stm.Store index e) (Store index e) at result old new
      (outs-Store index e) (record {
        trees = (made trees (Some ty.Unit) result is).0 ∙ trees_are;
        type = (made trees (Some ty.Unit) result is).1;
        faults =
            noted ∙ ap (λ (x : Around). least_with old
            (cell_parts_faults x at (known_here setting index) (known_here setting e))) a
            ∙ ap (λ (k : Expr → Known). least_with old
            (cell_parts_faults around at (k index) (k e))) here;
      })

  pub check_told : (e : Expr) (at trees : ℕ) (result : KnownHere) (old new : Option Fault) →
      trees ≡ trees_of_expr e →
      new ≡ least_with old (condition_faults (agree (Some ty.Bool)) (at + 2)
      (known_here setting e)) →
      result ≡ record { trees = 2 + trees; ty = Some ty.Unit } →
      Tells (known_of_stm around (stm.Check e) (scope_of scope)) at result old new
  check_told e at trees result old new trees_are noted is =
      tells_at around (scope_of scope) (stm.Check e) (Check e) at result old new (outs-Check e)
      (record {
        trees = (made (2 + trees) (Some ty.Unit) result is).0 ∙ ap (λ n. 2 + n) trees_are;
        type = (made (2 + trees) (Some ty.Unit) result is).1;
        faults = noted ∙ ap (λ (k : Expr → Known). least_with old
            (condition_faults (agree (Some ty.Bool)) (at + 2) (k e))) here;
      })

  pub call_told : (f : Name) (args : List Expr) (at trees : ℕ) (result : KnownHere)
      (old middle new : Option Fault)
      (found : Option FunctionSeen) (wanted : Option (List TypedName)) (type : Option Ty) →
      found ≡ meant a_function around f →
      wanted ≡ option_map (λ (seen : FunctionSeen). seen.params) found →
      type ≡ option_and_then (λ (seen : FunctionSeen). seen.result) found →
      trees ≡ 3 + trees_of_exprs args →
      middle ≡ least_with old (unknown (at + 2) found) →
      new ≡ least_with middle (given_faults wanted at (map (known_here setting) args)) →
      result ≡ record { trees = trees; ty = type } →
      Tells (known_of_stm around (stm.Call f args) (scope_of scope)) at result old new
  call_told f args at trees result old middle new found wanted type found_is wanted_is type_is
      trees_are first noted is =
      tells_at around (scope_of scope) (stm.Call f args) (Call f args) at result old new
      (outs-Call f args) (record {
        trees = (made trees type result is).0 ∙ trees_are;
        type =
            (made trees type result is).1 ∙ type_is
            ∙ ap (option_and_then (λ (seen : FunctionSeen). seen.result)) found_is;
        faults =
            both_noted old middle new (unknown (at + 2) found)
            (given_faults wanted at (map (known_here setting) args)) first noted
            ∙ ap (λ w. least_with old (unknown (at + 2) found ++ given_faults w at
            (map (known_here setting) args))) wanted_is
            ∙ ap (λ (k : Expr → Known). least_with old
            (unknown (at + 2) found ++ given_faults
            (option_map (λ (seen : FunctionSeen). seen.params) found) at (map k args))) here
            ∙ ap (λ (s : Option FunctionSeen). least_with old
            (unknown (at + 2) s ++ given_faults
            (option_map (λ (seen : FunctionSeen). seen.params) s) at
            (plains around (scope_of scope) args))) found_is;
      })

  -- a proof statement: its trees, its type and its faults
  module _ (args : List Expr) (at trees : ℕ) (result : KnownHere) (old new : Option Fault)
      (found sought : Option ProofSeen) (wanted : Option (List TypedName))
      (found_is : found ≡ sought) (wanted_is : wanted ≡ option_map
      (λ (seen : ProofSeen). seen.inputs) found)
      (trees_are : trees ≡ 3 + trees_of_exprs args)
      (noted : new ≡ least_with old (use_faults setting.around.now found wanted at
      (map (known_here setting) args)))
      (is : result ≡ record { trees = trees; ty = Some ty.Unit }) where
    abbrev proof_trees : result.trees ≡ 3 + trees_of_exprs args
    proof_trees = (made trees (Some ty.Unit) result is).0 ∙ trees_are

    abbrev proof_type : result.ty ≡ Some ty.Unit
    proof_type = (made trees (Some ty.Unit) result is).1

    proof_noted : new ≡ least_with old
        (proof_faults around sought at (plains around (scope_of scope) args))
    proof_noted =
        noted ∙ ap (λ (x : Around). least_with old
        (use_faults x found wanted at (map (known_here setting) args))) a
        ∙ ap (λ w. least_with old (use_faults around found w at (map (known_here setting) args)))
        wanted_is
        ∙ ap (λ (k : Expr → Known). least_with old (proof_faults around found at (map k args))) here
        ∙ ap (λ s. least_with old (proof_faults around s at (plains around (scope_of scope) args)))
        found_is

    pub open_told : (p : Name) → sought ≡ meant a_predicate around p →
        Tells (known_of_stm around (stm.Open p args) (scope_of scope)) at result old new
    open_told p sought_is =
        tells_at around (scope_of scope) (stm.Open p args) (Open p args) at result old new
        (outs-Open p args) (record {
          trees = proof_trees;
          type = proof_type;
          faults = proof_noted ∙ ap (λ s. least_with old
              (proof_faults around s at (plains around (scope_of scope) args))) sought_is;
        })

    pub close_told : (p : Name) → sought ≡ meant a_predicate around p →
        Tells (known_of_stm around (stm.Close p args) (scope_of scope)) at result old new
    close_told p sought_is =
        tells_at around (scope_of scope) (stm.Close p args) (Close p args) at result old new
        (outs-Close p args) (record {
          trees = proof_trees;
          type = proof_type;
          faults = proof_noted ∙ ap (λ s. least_with old
              (proof_faults around s at (plains around (scope_of scope) args))) sought_is;
        })

    pub lemma_told : (p : Name) → sought ≡ meant a_lemma around p →
        Tells (known_of_stm around (stm.Lemma p args) (scope_of scope)) at result old new
    lemma_told p sought_is =
        tells_at around (scope_of scope) (stm.Lemma p args) (Lemma p args) at result old new
        (outs-Lemma p args) (record {
          trees = proof_trees;
          type = proof_type;
          faults = proof_noted ∙ ap (λ s. least_with old
              (proof_faults around s at (plains around (scope_of scope) args))) sought_is;
        })

pub read_told : (around : Around) (scope : Scope) (r : Name) (at : ℕ) (result : KnownHere)
    (old new : Option Fault)
    (seen : Option RegisterSeen) (is_known : Bool) (type : Option Ty) →
    seen ≡ meant a_register around r → is_known ≡ is_some seen →
    new ≡ least_with old (unless is_known (at + 2) NameUnknown) → type ≡ type_of_register around r →
    result ≡ record { trees = 3; ty = type } →
    Tells (known_of_stm around (stm.Read r) scope) at result old new
read_told around scope r at result old new seen is_known type seen_is known_is noted type_is is =
    tells_at around scope (stm.Read r) (Read r) at result old new (outs-Read r) (record {
      trees = (made 3 type result is).0;
      type = (made 3 type result is).1 ∙ type_is;
      faults = unknown_noted (at + 2) (meant a_register around r) seen is_known old new seen_is
          known_is noted;
    })
