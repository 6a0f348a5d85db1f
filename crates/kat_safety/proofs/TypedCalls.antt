-- A call of a function with arguments of its parameters' types is not stuck.
use Rattle.std.proofs.Common.{◌≡◌, ℕ, zero, suc, ◌+◌, is_some, Bool, true, false, List, [], ◌∷◌, ◌++◌, Option, Some, None, refl, sym, ap, subst, ◌∙◌, if◌then◌else◌}
use Rattle.std.specs.Option.{option_map, option_or}
use Rattle.std.specs.List.{AllByRecursion, AllZip}
use Rattle.std.specs.Str.{bytes_eq}
use Rattle.std.proofs.lemmas.Bool.{and_parts, false≢true}
use Rattle.kat_value.specs.declared.types.Ty.{Ty}
use Rattle.kat_value.specs.declared.types.Ty.TheVariants as ty
use Rattle.kat_value.specs.declared.types.TypeDecl.{TypeDecl}
use Rattle.kat_value.specs.declared.value.Value.{Value}
use Rattle.kat_value.specs.Shown.{ShownTypes}
use Rattle.kat_value.specs.Signatures.{agree}
use Rattle.kat_value.specs.TypeLaws.{UnitIsUnit, BoolIsTruths, BitsAreNumbers}
use Rattle.kat_value.specs.Typing.{HasType}
use Rattle.kat_value.specs.Widths.{is_width}
use Rattle.kat_ast.specs.declared.decl.DeclForm.{DeclForm}
use Rattle.kat_ast.specs.declared.decl.DeclForm.TheVariants as d
use Rattle.kat_ast.specs.declared.stm.Stm.{Stm}
use Rattle.kat_ast.specs.declared.type_name.TypeName.{TypeName}
use Rattle.kat_ast.specs.declared.type_name.TypeName.TheVariants.{Unit as UnitName, Bool as BoolName, Bits as BitsName, Named}
use Rattle.kat_ast.specs.declared.type_name.Param.{Param}
use Rattle.kat_ast.specs.Declarations.{IsDecl}
use Rattle.kat_ast.specs.Parts.{is_name}
use Rattle.kat_ast.specs.Spec.{Spec}
use Rattle.kat_ast.specs.Statements.{is_formed_stm}
use Rattle.kat_ast.specs.Types.{are_formed_params, is_formed_type, trees_of_param, trees_of_params, trees_of_type}
use Rattle.kat_syntax.specs.declared.type_rule.TypeRule.TheVariants.{BodyOther, NoWidth, TypeUnknown}
use Rattle.kat_syntax.specs.Around.{Around, FunctionSeen, a_function}
use Rattle.kat_syntax.specs.Cycle.{body_of, bound, call_of, spend_one}
use Rattle.kat_syntax.specs.Declares.{Declared, Kind, TypedName, ctors_from, declared_by, declared_from, declared_in, look_up, members_from, type_of_name, typed_params, types_of}
use Rattle.kat_syntax.specs.Evaluation.{Locals, Nothing}
use Rattle.kat_syntax.specs.Machine.{Progress}
use Rattle.kat_syntax.specs.Meaning.{meaning}
use Rattle.kat_syntax.specs.MeaningLaws.{StatesStay}
use Rattle.kat_syntax.specs.Outcomes.{Outcome, Done, Out, Fail, Stuck, given, place_in}
use Rattle.kat_syntax.specs.States.{IsState}
use Rattle.kat_syntax.specs.Tables.{Function, Name, function_from}
use Rattle.kat_syntax.specs.TypesWritten.{Scope, hiding, local_of, param_faults, type_faults_at}
use Rattle.kat_syntax.specs.TypeTable.{types_of_decls}
use Rattle.kat_syntax.specs.TypingDeclarations.{function_faults}
use Rattle.kat_syntax.specs.TypingExpressions.{Plain}
use Rattle.kat_syntax.specs.TypingStatements.{known_of_stm}
use Rattle.kat_laws.specs.Runs.{IsMachine}
use Rattle.kat_safety.specs.NeverStuck.{ExpressionsHaveValues, KeepsTypes}
use Rattle.kat_safety.specs.Typed.{AreOfScope, IsOfKnown}
use Rattle.kat_safety.proofs.Clean.{AreClean, empty_first, empty_second, inner_clean, met}
use Rattle.kat_safety.proofs.TypedStatements.{Gives, StatementTables, gives_at, gives_given, statements_give}

-- a type that is written without a fault is fixed
pub type_there : (all : List DeclForm) (k at : ℕ) (type : TypeName) →
    type_faults_at (record { decls = all; number = k }) at type ≡ [] →
    is_some (type_of_name all k type) ≡ true
type_there all k at UnitName clean = refl
type_there all k at BoolName clean = refl
type_there all k at (BitsName w) clean =
    ap (λ b. is_some (if b then Some (ty.Bits w) else None)) (met (is_width w) (at + 2) NoWidth clean)
type_there all k at (Named x) clean = met _ at TypeUnknown clean

-- the types of parameters without faults
params_there : (all : List DeclForm) (k : ℕ) (scope : Scope) (at : ℕ) (params : List Param) →
    param_faults (record { decls = all; number = k }) scope at params ≡ [] →
    AllByRecursion (λ (t : Option Ty). is_some t ≡ true) (types_of (typed_params all k params))
params_there all k scope at [] clean = tt
params_there all k scope at (param ∷ params) clean =
    let around : Around = record { decls = all; number = k } in
    let behind = empty_second (hiding around scope (at + 1) param.name) _ clean in
    let here = type_faults_at around (at + 2) param.ty in (
      type_there all k (at + 2) param.ty (empty_first here _ behind),
      params_there all k (scope ++ local_of around param ∷ []) (at + trees_of_param param) params
          (empty_second here _ behind),
    )

-- a name of which nothing is of a kind
pub none_of : {A : Type 0} (kind : Kind A) (ds : List Declared) (x : Name) →
    AllByRecursion (λ (one : Declared). kind one.decl one.is ≡ None) ds → look_up kind ds x ≡ None
none_of {A = A} kind [] x none = refl
none_of {A = A} kind (one ∷ ds) x none =
    by (bytes_eq one.name x) (kind one.decl one.is) none.0 (none_of kind ds x none.1) where
      by : (b : Bool) (o : Option A) → o ≡ None → look_up kind ds x ≡ None →
          (if b then option_or o (look_up kind ds x) else look_up kind ds x) ≡ None
      by true o here rest = ap (λ (z : Option A). option_or z (look_up kind ds x)) here ∙ rest
      by false o here rest = rest

-- what is found in two lists, of which the first has none
pub found_behind : {A : Type 0} (kind : Kind A) (ds es : List Declared) (x : Name) →
    AllByRecursion (λ (one : Declared). kind one.decl one.is ≡ None) ds →
    look_up kind (ds ++ es) x ≡ look_up kind es x
found_behind {A = A} kind [] es x none = refl
found_behind {A = A} kind (one ∷ ds) es x none =
    by (bytes_eq one.name x) (kind one.decl one.is) none.0 (found_behind kind ds es x none.1) where
      by : (b : Bool) (o : Option A) → o ≡ None → look_up kind (ds ++ es) x ≡ look_up kind es x →
          (if b then option_or o (look_up kind (ds ++ es) x) else look_up kind (ds ++ es) x)
          ≡ look_up kind es x
      by true o here rest = ap (λ (z : Option A). option_or z (look_up kind (ds ++ es) x)) here ∙ rest
      by false o here rest = rest

-- members and constructors are no functions
no_members : (k p at : ℕ) (members : List Name) →
    AllByRecursion (λ (one : Declared). a_function one.decl one.is ≡ None)
    (members_from k p at members)
no_members k p at [] = tt
no_members k p at (x ∷ members) = (refl, no_members k p (at + 1) members)

no_ctors : (all : List DeclForm) (k p at : ℕ) (ctors : List Param) →
    AllByRecursion (λ (one : Declared). a_function one.decl one.is ≡ None)
    (ctors_from all k p at ctors)
no_ctors all k p at [] = tt
no_ctors all k p at (ctor ∷ ctors) =
    (refl, no_ctors all k p (at + trees_of_param ctor) ctors)

-- a function that typing knows is one of the meaning, and its body has no faults
pub record IsFound (all : List DeclForm) (seen : FunctionSeen) (o : Option Function) : Type 0 where
  pub function : Function
  pub there : o ≡ Some function
  pub params : seen.params ≡ typed_params all function.decl function.params
  pub fixed : AllByRecursion (λ (t : Option Ty). is_some t ≡ true) (types_of seen.params)
  pub formed : is_formed_stm function.body ≡ true
  pub clean :
      (known_of_stm (record { decls = all; number = function.decl }) function.body
      (typed_params all function.decl function.params)).faults function.body_at ≡ []
  pub result : is_some seen.result ≡ true
  pub agrees :
      agree seen.result (known_of_stm (record { decls = all; number = function.decl })
      function.body (typed_params all function.decl function.params)).type ≡ true

some_is : {A : Type 0} (x y : A) → Some x ≡ Some y → x ≡ y
some_is x y e = cc

-- the function that is declared here
found_here : (all : List DeclForm) (k : ℕ) (x : Name) (params : List Param) (result : TypeName)
    (body : Stm) → IsDecl (d.Fun x params result body) →
    function_faults (record { decls = all; number = k }) params result body ≡ [] →
    IsFound all (record { params = typed_params all k params; result = type_of_name all k result })
    (Some (record {
      decl = k;
      params = params;
      body = body;
      body_at = 3 + trees_of_params params + trees_of_type result;
    }))
found_here all k x params result body is clean =
    let around : Around = record { decls = all; number = k } in
    let here = known_of_stm around body (typed_params all k params) in
    let result_at : ℕ = 3 + trees_of_params params in
    let body_at : ℕ = result_at + trees_of_type result in
    let one = param_faults around [] 4 params in
    let two = type_faults_at around result_at result in
    let behind = empty_second one _ clean in
    let more = empty_second two _ behind in
    record {
      function = record { decl = k; params = params; body = body; body_at = body_at };
      there = refl;
      params = refl;
      fixed = params_there all k [] 4 params (empty_first one _ clean);
      formed = (and_parts (is_formed_type result) (is_formed_stm body)
          (and_parts (are_formed_params params) _ (and_parts (is_name x) _ is.formed).1).1).1;
      clean = empty_first (here.faults body_at) _ more;
      result = type_there all k result_at result (empty_first two _ behind);
      agrees = met (agree (type_of_name all k result) here.type) body_at BodyOther
          (empty_second (here.faults body_at) _ more);
    }

module _ (all : List DeclForm) (f : Name) (seen : FunctionSeen) where
  -- from a declaration on, the next type having the position p
  abbrev Finds : ℕ → ℕ → List DeclForm → Type 0
  Finds k p decls = look_up a_function (declared_from all k p decls) f ≡ Some seen →
      IsFound all seen (function_from k decls f)

  other : (k p q : ℕ) (ds : List Declared) (decls : List DeclForm) →
      AllByRecursion (λ (one : Declared). a_function one.decl one.is ≡ None) ds →
      Finds (k + 1) q decls →
      look_up a_function (ds ++ declared_from all (k + 1) q decls) f ≡ Some seen →
      IsFound all seen (function_from (k + 1) decls f)
  other k p q ds decls none later e =
      later (sym (found_behind a_function ds (declared_from all (k + 1) q decls) f none) ∙ e)

  pub functions_found : (k p : ℕ) (decls : List DeclForm) → AreClean all k decls →
      AllByRecursion IsDecl decls → Finds k p decls
  functions_found k p [] clean are e = absurd (let g : None ≡ Some seen = e in cc)
  functions_found k p (d.Fun x params result body ∷ decls) clean are e =
      by (bytes_eq x f) (functions_found (k + 1) p decls clean.1 are.1) e where
        by : (b : Bool) → Finds (k + 1) p decls →
            (if b then Some (record {
              params = typed_params all k params;
              result = type_of_name all k result;
            })
            else look_up a_function (declared_from all (k + 1) p decls) f) ≡ Some seen →
            IsFound all seen (if b then Some (record {
              decl = k;
              params = params;
              body = body;
              body_at = 3 + trees_of_params params + trees_of_type result;
            })
            else function_from (k + 1) decls f)
        by true later same =
            subst (λ (one : FunctionSeen). IsFound all one (Some (record {
              decl = k;
              params = params;
              body = body;
              body_at = 3 + trees_of_params params + trees_of_type result;
            })))
            (some_is (record {
              params = typed_params all k params;
              result = type_of_name all k result;
            }) seen same)
            (found_here all k x params result body are.0
            (inner_clean all k (d.Fun x params result body) clean.0))
        by false later same = later same
  functions_found k p (d.Enum x members ∷ decls) clean are e =
      other k p (p + 1) (declared_in all k p (d.Enum x members)) decls
      (refl, no_members k p 4 members) (functions_found (k + 1) (p + 1) decls clean.1 are.1) e
  functions_found k p (d.Union x ctors ∷ decls) clean are e =
      other k p (p + 1) (declared_in all k p (d.Union x ctors)) decls
      (refl, no_ctors all k p 4 ctors) (functions_found (k + 1) (p + 1) decls clean.1 are.1) e
  functions_found k p (d.Record x fields ∷ decls) clean are e =
      other k p (p + 1) (declared_in all k p (d.Record x fields)) decls (refl, tt)
      (functions_found (k + 1) (p + 1) decls clean.1 are.1) e
  functions_found k p (d.Register x type kind ∷ decls) clean are e =
      other k p p (declared_in all k p (d.Register x type kind)) decls (refl, tt)
      (functions_found (k + 1) p decls clean.1 are.1) e
  functions_found k p (d.Region x params i guard ∷ decls) clean are e =
      other k p p (declared_in all k p (d.Region x params i guard)) decls (refl, tt)
      (functions_found (k + 1) p decls clean.1 are.1) e
  functions_found k p (d.Predicate x inputs outputs definition ∷ decls) clean are e =
      other k p p (declared_in all k p (d.Predicate x inputs outputs definition)) decls (refl, tt)
      (functions_found (k + 1) p decls clean.1 are.1) e
  functions_found k p (d.Lemma x params names pre post steps ∷ decls) clean are e =
      other k p p (declared_in all k p (d.Lemma x params names pre post steps)) decls (refl, tt)
      (functions_found (k + 1) p decls clean.1 are.1) e
  functions_found k p (d.Block block ∷ decls) clean are e =
      other k p p (declared_in all k p (d.Block block)) decls (refl, tt)
      (functions_found (k + 1) p decls clean.1 are.1) e
  functions_found k p (d.Memory a c lo hi ∷ decls) clean are e =
      functions_found (k + 1) p decls clean.1 are.1 e
  functions_found k p (d.Cells kind lo hi ∷ decls) clean are e =
      functions_found (k + 1) p decls clean.1 are.1 e
  functions_found k p (d.Code lo values ∷ decls) clean are e =
      functions_found (k + 1) p decls clean.1 are.1 e
  functions_found k p (d.Contract g names pre x post ∷ decls) clean are e =
      functions_found (k + 1) p decls clean.1 are.1 e
  functions_found k p (d.Step g ∷ decls) clean are e =
      functions_found (k + 1) p decls clean.1 are.1 e
  functions_found k p (d.Dispatch cases otherwise ∷ decls) clean are e =
      functions_found (k + 1) p decls clean.1 are.1 e
  functions_found k p (d.Untrusted holds ∷ decls) clean are e =
      functions_found (k + 1) p decls clean.1 are.1 e
  functions_found k p (d.Boot x ∷ decls) clean are e =
      functions_found (k + 1) p decls clean.1 are.1 e

-- arguments of the types of parameters are bound
bound_there : (types : List TypeDecl) (all : List DeclForm) (k : ℕ) (params : List Param)
    (args : List Value) → AllZip (IsOfKnown types) (types_of (typed_params all k params)) args →
    (locals : Locals) × (bound params args ≡ Some locals)
    × AreOfScope types (typed_params all k params) locals
bound_there types all k [] [] are = ([], refl, tt)
bound_there types all k [] (v ∷ args) are = absurd are
bound_there types all k (param ∷ params) [] are = absurd are
bound_there types all k (param ∷ params) (v ∷ args) are =
    let rest = bound_there types all k params args are.1 in (
      (param.name, v) ∷ rest.0,
      ap (option_map (λ (locals : Locals). (param.name, v) ∷ locals)) rest.1,
      ((refl, are.0), rest.2),
    )

module _ (shown : ShownTypes) (units : UnitIsUnit) (truths : BoolIsTruths) (bits : BitsAreNumbers)
    (exprs : ExpressionsHaveValues) (states : StatesStay) (spec : Spec) (machine : IsMachine spec)
    (tables : (k : ℕ) → StatementTables spec.decls k) where
  abbrev decls : List DeclForm
  decls = spec.decls

  abbrev types : List TypeDecl
  types = types_of_decls decls

  -- calls give values of the types of functions
  abbrev pub CallsGive : ℕ → Type 0
  CallsGive depth = (f : Name) (seen : FunctionSeen) (args : List Value) (p : Progress) →
      look_up a_function (declared_by decls) f ≡ Some seen →
      AllZip (IsOfKnown types) (types_of seen.params) args →
      IsState decls p.state → Gives types seen.result (call_of decls depth f args p)

  pub statement_gives : (depth : ℕ) → CallsGive depth → (k : ℕ) (s : Stm) (at : ℕ) (scope : Scope)
      (locals : Locals) (p : Progress) → is_formed_stm s ≡ true →
      (known_of_stm (record { decls = decls; number = k }) s scope).faults at ≡ [] →
      AreOfScope types scope locals → IsState decls p.state →
      Gives types (known_of_stm (record { decls = decls; number = k }) s scope).type
      (meaning decls (call_of decls depth) s locals p)
  statement_gives depth calls k s = statements_give shown units truths bits decls k (tables k)
      (λ at scope locals e formed clean are.
      exprs spec k at Plain Nothing scope locals e machine formed clean tt are)
      (call_of decls depth) calls
      (λ s locals p q v is done. states.statement decls depth s locals p q v is done) s

  -- a type that agrees with one that is fixed is that one
  fixed_result : {S : Type 0} (result known : Option Ty) (o : Outcome S) → is_some result ≡ true →
      agree result known ≡ true → Gives types known o → Gives types result o
  fixed_result None known o some agrees is = absurd (false≢true some)
  fixed_result (Some t) known Out some agrees is = tt
  fixed_result (Some t) known (Fail site) some agrees is = tt
  fixed_result (Some t) known Stuck some agrees is = absurd is
  fixed_result (Some t) None (Done v p) some agrees is = absurd is
  fixed_result (Some t) (Some u) (Done v p) some agrees is =
      subst (λ w. HasType types w v) (sym (shown.told t u agrees)) is

  body_gives : (depth : ℕ) → CallsGive depth → (f : Name) (seen : FunctionSeen)
      (args : List Value) (p : Progress) → look_up a_function (declared_by decls) f ≡ Some seen →
      AllZip (IsOfKnown types) (types_of seen.params) args → IsState decls p.state →
      Gives types seen.result
      (given (function_from 0 decls f) (body_of decls (call_of decls depth) args p))
  body_gives depth calls f seen args p there are is =
      let found = functions_found decls f seen 0 0 decls machine.typed machine.written there in
      let function = found.function in
      let scope = typed_params decls function.decl function.params in
      let known = known_of_stm (record { decls = decls; number = function.decl }) function.body
      scope in
      let locals = bound_there types decls function.decl function.params args
      (subst (λ (params : List TypedName). AllZip (IsOfKnown types) (types_of params) args)
      found.params are) in
      gives_given types seen.result (function_from 0 decls f)
      (body_of decls (call_of decls depth) args p) function found.there
      (gives_given types seen.result (bound function.params args) _ locals.0 locals.1
      (gives_at types seen.result (place_in function.decl) _
      (gives_at types seen.result _
      (meaning decls (call_of decls depth) function.body locals.0 p)
      (fixed_result seen.result known.type
      (meaning decls (call_of decls depth) function.body locals.0 p) found.result found.agrees
      (statement_gives depth calls function.decl function.body function.body_at scope locals.0 p
      found.formed found.clean locals.2 is)))))

  pub calls_give : (depth : ℕ) → CallsGive depth
  calls_give zero f seen args p there are is = tt
  calls_give (suc depth) f seen args p there are is = spent (calls_give depth) p.left where
    spent : CallsGive depth → (left : ℕ) → Gives types seen.result (spend_one left p
        (λ next. given (function_from 0 decls f) (body_of decls (call_of decls depth) args next)))
    spent calls zero = tt
    spent calls (suc left) = body_gives depth calls f seen args (record p { left = left }) there
        are is

-- what gives types, and leaves states of the machine, keeps types
pub keeps : {S : Type 0} (decls : List DeclForm) (known : Option Ty) (o : Outcome S) →
    Gives (types_of_decls decls) known o →
    ((v : Value) (q : Progress) → o ≡ Done v q → IsState decls q.state) → KeepsTypes decls known o
keeps _ known (Done v q) is stays = (is, stays v q refl)
keeps _ known Out is stays = tt
keeps _ known (Fail site) is stays = tt
keeps _ known Stuck is stays = is
