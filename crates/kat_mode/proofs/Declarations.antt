-- The declarations of a specification that is typed and moded.
use Rattle.std.proofs.Common.{◌≡◌, ℕ, ◌+◌, ◌&&◌, not, List, [], ◌∷◌, ◌++◌, Option, None, Some, refl, sym, ap, ◌∙◌}
use Rattle.std.specs.Prelude.{is_some}
use Rattle.std.specs.List.{AllByRecursion}
use Rattle.std.specs.Option.{option_map, option_or}
use Rattle.kat_ast.specs.declared.assertion.Assertion.{Assertion}
use Rattle.kat_ast.specs.declared.stm.Stm.{Stm}
use Rattle.kat_ast.specs.declared.type_name.Param.{Param}
use Rattle.kat_ast.specs.declared.decl.DeclForm.{DeclForm}
use Rattle.kat_ast.specs.declared.decl.DeclForm.TheVariants as d
use Rattle.kat_syntax.specs.Tables.{Name}
use Rattle.kat_ast.specs.Types.{trees_of_params}
use Rattle.kat_ast.specs.Assertions.{trees_of_assertion}
use Rattle.kat_syntax.specs.declared.type_rule.TypeRule.TheVariants.{ContractTwice}
use Rattle.kat_syntax.specs.TypeRules.{unless}
use Rattle.kat_syntax.specs.Around.{Around, a_function, meant}
use Rattle.kat_syntax.specs.TypesWritten.{Scope, with_params, hiding, param_faults}
use Rattle.kat_syntax.specs.TypingExpressions.{Standing, Plain, WithKept, unknown}
use Rattle.kat_syntax.specs.TypingAssertions.{judged_assertion}
use Rattle.kat_syntax.specs.TypingDeclarations.{params_seen, result_seen, is_second, is_contract, assertion_at, predicate_faults, contract_faults, lemma_faults, inner_faults}
use Rattle.kat_syntax.specs.FirstTypeFault.{faults_from}
use Rattle.kat_syntax.specs.Modes.{Read, Stopped, Reading, names_of, inputs_among, decl_reading, stop_of, ModeFault, mode_fault_from}
use Rattle.kat_mode.specs.Scopes.{stays_in, StaysIn, names_in, params_of}
use Rattle.kat_mode.specs.Paths.{DeclBindsAll, ModedBindsAll}
use Rattle.kat_mode.proofs.InScope.{empty_first, empty_second, assertion_stays, names_with}
use Rattle.kat_mode.proofs.Keeping.{binding_binds, reading_binds, both_bind}

-- an assertion without faults stays in names that are those of its scope
in_names : (around : Around) (standing : Standing) (a : Assertion) (scope : Scope) (names : List Name) (at : ℕ) → names_in scope ≡ names →
    (judged_assertion around standing a scope).faults at ≡ [] → StaysIn names a
in_names around standing a scope names at are clean =
    ap (stays_in a) (sym are) ∙ assertion_stays around standing a scope at clean

-- the scope of inputs and outputs, and of parameters and names
both_names : (around : Around) (first second : List Param) → names_in (with_params around (with_params around [] first) second) ≡ names_of first ++ names_of second
both_names around first second =
    names_with around (with_params around [] first) second
    ∙ ap (λ names. names ++ names_of second) (names_with around [] first)

predicate_stays : (around : Around) (ins outs : List Param) (definition : Assertion) → predicate_faults around ins outs definition ≡ [] →
    StaysIn (names_of ins ++ names_of outs) definition
predicate_stays around ins outs definition e =
    in_names around Plain definition (with_params around (with_params around [] ins) outs) (names_of ins ++ names_of outs) _
    (both_names around ins outs) (empty_second _ _ (empty_second _ _ e))

contract_stays : (around : Around) (f : Name) (names : List Param) (pre : Assertion) (x : Name) (post : Assertion) → contract_faults around f names pre x post ≡ [] →
    StaysIn (params_of around.decls f ++ names_of names) pre × StaysIn (x ∷ (params_of around.decls f ++ names_of names)) post
contract_stays around f names pre x post e =
    let seen = meant a_function around f in
    let scope = with_params around (params_seen seen) names in
    let inner = record { name = x; type = result_seen seen } ∷ scope in
    let are = names_with around (params_seen seen) names in
    let pre_at = 3 + trees_of_params names in
    let res_at = pre_at + 2 + trees_of_assertion pre in
    let fault_free = empty_second (param_faults around (params_seen seen) 4 names) _
    (empty_second (unless (not (is_some seen && is_second (is_contract f) around)) 0 ContractTwice) _ (empty_second (unknown 2 seen) _ e)) in (
      in_names around Plain pre scope (params_of around.decls f ++ names_of names) (pre_at + 2) are
          (empty_first (assertion_at around Plain scope (pre_at + 2) pre) _ fault_free),
      in_names around Plain post inner (x ∷ (params_of around.decls f ++ names_of names)) (res_at + 5) (ap (λ names. x ∷ names) are)
          (empty_second (hiding around scope (res_at + 2) x) _ (empty_second (assertion_at around Plain scope (pre_at + 2) pre) _ fault_free)),
    )

lemma_stays : (around : Around) (params names : List Param) (pre post : Assertion) (steps : List Stm) → lemma_faults around params names pre post steps ≡ [] →
    StaysIn (names_of params ++ names_of names) pre × StaysIn (names_of params ++ names_of names) post
lemma_stays around params names pre post steps e =
    let behind = empty_second _ _ (empty_second _ _ e) in (
      in_names around Plain pre _ (names_of params ++ names_of names) _ (both_names around params names) (empty_first _ _ behind),
      in_names around Plain post _ (names_of params ++ names_of names) _ (both_names around params names)
          (empty_first _ _ (empty_second _ _ behind)),
    )

-- what stands around a declaration
abbrev around_at : List DeclForm → ℕ → Around
around_at all k = record { decls = all; number = k }

decl_binds : (all : List DeclForm) (k : ℕ) (decl : DeclForm) (behind : List Name) → inner_faults (around_at all k) decl ≡ [] → decl_reading (inputs_among all) decl ≡ Read behind → DeclBindsAll all decl
decl_binds all k (d.Predicate x ins outs definition) behind clean e =
    binding_binds (inputs_among all) (names_of ins ++ names_of outs) (names_of outs) definition behind
    (predicate_stays (around_at all k) ins outs definition clean) e
decl_binds all k (d.Contract f names pre x post) behind clean e =
    let scope = params_of all f ++ names_of names in
    let stay = contract_stays (around_at all k) f names pre x post clean in
    both_bind (inputs_among all) scope (names_of names) (x ∷ scope) pre post behind stay.0 stay.1 e
decl_binds all k (d.Lemma x params names pre post steps) behind clean e =
    let scope = names_of params ++ names_of names in
    let stay = lemma_stays (around_at all k) params names pre post steps clean in
    both_bind (inputs_among all) scope (names_of names) scope pre post behind stay.0 stay.1 e
decl_binds all k (d.Untrusted holds) behind clean e =
    reading_binds (inputs_among all) [] holds behind
    (in_names (around_at all k) WithKept holds [] [] _ refl (empty_first _ _ clean)) e
decl_binds all k (d.Block block) behind clean e =
    reading_binds (inputs_among all) [] block.entry behind
    (in_names (around_at all k) WithKept block.entry [] [] _ refl (empty_first _ _ clean)) e
decl_binds all k _ behind clean e = tt

not_stopped : (reading : Reading) → stop_of reading ≡ None → (behind : List Name) × (reading ≡ Read behind)
not_stopped (Read behind) e = (behind, refl)
not_stopped (Stopped x) e = absurd (let f : Some x ≡ None = e in cc)

-- no first of two
neither_first : {A B : Type 0} (f : A → B) (first : Option A) (second : Option B) → option_or (option_map f first) second ≡ None → (first ≡ None) × (second ≡ None)
neither_first f None second e = (refl, e)
neither_first f (Some x) second e = absurd (let g : Some (f x) ≡ None = e in cc)

-- a fault of a declaration
abbrev at_decl : ℕ → Name → ModeFault
at_decl k x = record { decl = k; name = x }

decls_bind : (all : List DeclForm) (k : ℕ) (decls : List DeclForm) → AllByRecursion (λ faults. faults ≡ []) (faults_from all k decls) → mode_fault_from (inputs_among all) k decls ≡ None →
    AllByRecursion (DeclBindsAll all) decls
decls_bind all k [] typed e = tt
decls_bind all k (decl ∷ decls) typed e =
    let both = neither_first (λ (x : Name). at_decl k x) (stop_of (decl_reading (inputs_among all) decl)) (mode_fault_from (inputs_among all) (k + 1) decls) e in
    let read = not_stopped (decl_reading (inputs_among all) decl) both.0 in
    (decl_binds all k decl read.0 (empty_second _ _ (empty_second _ _ typed.0)) read.1, decls_bind all (k + 1) decls typed.1 both.1)

-- a specification that is typed and moded
pub moded_binds_all : ModedBindsAll
moded_binds_all spec typed moded = decls_bind spec.decls 0 spec.decls typed moded
