-- The functions of the declarations, by their numbers: what is seen of each, and where it stands.
use Rattle.std.proofs.Common.{◌≡◌, ℕ, zero, suc, ◌+◌, ◌<◌, Bool, true, false, List, [], ◌∷◌, length, get_or, slice_get, drop, Option, None, Some, refl, sym, ◌∙◌, ap, subst, if◌then◌else◌, add-one}
use Rattle.std.specs.Prelude.{option_and_then}
use Rattle.std.proofs.lemmas.Option.{slice_get_read, slice_get_within}
use Rattle.kat_tree.specs.Preorder.{count_of}
use Rattle.kat_ast.specs.declared.stm.Stm.{Stm}
use Rattle.kat_ast.specs.declared.type_name.TypeName.{TypeName}
use Rattle.kat_ast.specs.declared.type_name.Param.{Param}
use Rattle.kat_ast.specs.declared.decl.DeclForm.{DeclForm}
use Rattle.kat_ast.specs.declared.decl.DeclForm.TheVariants as d
use Rattle.kat_ast.specs.Limits.{decl_trees_bound}
use Rattle.kat_ast.specs.Types.{trees_of_type, trees_of_params}
use Rattle.kat_ast.specs.Statements.{trees_of_stm}
use Rattle.kat_ast.specs.Declarations.{trees_of_decl, IsDecl, tree_of_decl}
use Rattle.kat_syntax.specs.NamedItems.{Item}
use Rattle.kat_syntax.specs.Tables.{Name, Function, function_at, function_from, is_function, step_of, step_function_of}
use Rattle.kat_syntax.specs.RunTables.{FindsPositions, AreParamTables, declared_at, function_number, param_names, params_declared, step_number}
use Rattle.kat_syntax.specs.Functions.{IsFunctionSeen}
use Rattle.kat_syntax.specs.declared.checked.FunctionSeen.{FunctionSeen}
use Rattle.kat_syntax.proofs.Finding.{rest_of}
use Rattle.kat_syntax.proofs.TableSteps.{FindsThere, each_at}

-- nothing is seen where there is nothing
pub seen_none : (seen : Option FunctionSeen) (found : Option Function) → seen ≡ None →
    found ≡ None → IsFunctionSeen seen found
seen_none seen found no_seen no_found =
    subst (λ o. IsFunctionSeen o found) (sym no_seen)
    (subst (λ (o : Option Function). IsFunctionSeen None o) (sym no_found) tt)

-- what stands at a position, by what is left behind those before
get_of_left : {A : Type 0} (xs : List A) (k : ℕ) (x : A) (rest : List A) → drop k xs ≡ x ∷ rest →
    slice_get xs k ≡ Some x
get_of_left {A = A} xs k x rest is = by xs k ∙ ap first_of is where
  first_of : List A → Option A
  first_of ys = slice_get ys 0

  by : (ys : List A) (j : ℕ) → slice_get ys j ≡ first_of (drop j ys)
  by [] zero = refl
  by [] (suc j) = refl
  by (y ∷ ys) zero = refl
  by (y ∷ ys) (suc j) = by ys j

left_behind : {A : Type 0} (xs : List A) (k : ℕ) (x : A) (rest : List A) → drop k xs ≡ x ∷ rest →
    drop (k + 1) xs ≡ rest
left_behind {A = A} xs k x rest is =
    ap (λ j. drop j xs) (add-one k) ∙ by xs k ∙ ap rest_of is where
      by : (ys : List A) (j : ℕ) → drop (suc j) ys ≡ rest_of (drop j ys)
      by [] zero = refl
      by [] (suc j) = refl
      by (y ∷ ys) zero = refl
      by (y ∷ ys) (suc j) = by ys j

-- the function of a name is that of the declaration whose number is found
function_tells : (all rest : List DeclForm) (k : ℕ) (f : Name) → drop k all ≡ rest →
    function_from k rest f ≡ option_and_then (declared_at all) (function_number k rest f)
function_tells all [] k f is = refl
function_tells all (decl ∷ rest) k f is =
    by (is_function f decl)
    (function_tells all rest (k + 1) f (left_behind all k decl rest is)) where
      by : (b : Bool) →
          function_from (k + 1) rest f
          ≡ option_and_then (declared_at all) (function_number (k + 1) rest f) →
          (if b then function_at k decl else function_from (k + 1) rest f)
          ≡ option_and_then (declared_at all) (if b then Some k else function_number (k + 1) rest f)
      by true later =
          sym (ap (option_and_then (function_at k)) (get_of_left all k decl rest is))
      by false later = later

pub number_tells : (all : List DeclForm) (f : Name) →
    function_from 0 all f ≡ option_and_then (declared_at all) (function_number 0 all f)
number_tells all f = function_tells all all 0 f refl

pub step_tells : (all : List DeclForm) →
    step_function_of all ≡ option_and_then (declared_at all) (step_number all)
step_tells all = by (step_of all) where
  by : (o : Option Name) → option_and_then (function_from 0 all) o
      ≡ option_and_then (declared_at all) (option_and_then (function_number 0 all) o)
  by None = refl
  by (Some f) = number_tells all f

-- a declaration has a table exactly where it is one
pub within_tables : (all : List DeclForm) (tables : List (List (Item ℕ))) (k : ℕ)
    (table : List (Item ℕ)) → AreParamTables all tables → slice_get tables k ≡ Some table →
    k < length all
within_tables all tables k table are is =
    by (slice_get all k) refl
    (subst (λ (o : Option (List (Item ℕ))). FindsThere params_declared (slice_get all k) o) is
    (each_at params_declared all tables k are)) where
      by : (o : Option DeclForm) → slice_get all k ≡ o → FindsThere params_declared o (Some table) →
          k < length all
      by None there finds = absurd finds
      by (Some decl) there finds = slice_get_within all k decl there

pub no_declared : (all : List DeclForm) (tables : List (List (Item ℕ))) (k : ℕ) →
    AreParamTables all tables → slice_get tables k ≡ None → declared_at all k ≡ None
no_declared all tables k are is =
    by (slice_get all k)
    (subst (λ (o : Option (List (Item ℕ))). FindsThere params_declared (slice_get all k) o) is
    (each_at params_declared all tables k are)) where
      by : (o : Option DeclForm) → FindsThere params_declared o None →
          option_and_then (function_at k) o ≡ None
      by None finds = refl
      by (Some decl) finds = absurd finds

-- the table of the parameters of a function
pub params_found : (all : List DeclForm) (tables : List (List (Item ℕ))) (k : ℕ)
    (table : List (Item ℕ)) (decl form : DeclForm) (x : Name) (params : List Param)
    (result : TypeName) (body : Stm) → AreParamTables all tables →
    slice_get tables k ≡ Some table → k < length all → decl ≡ get_or all k decl → form ≡ decl →
    form ≡ d.Fun x params result body → FindsPositions (param_names params) table
params_found all tables k table decl form x params result body are is within at seen function =
    subst (λ (one : DeclForm). FindsPositions (params_declared one) table) (sym seen ∙ function)
    (subst (λ (o : Option DeclForm). FindsThere params_declared o (Some table))
    (slice_get_read all (length all) k decl refl within at)
    (subst (λ (o : Option (List (Item ℕ))). FindsThere params_declared (slice_get all k) o) is
    (each_at params_declared all tables k are)))

-- what is declared at a number
declared_is : (all : List DeclForm) (k : ℕ) (decl form : DeclForm) → k < length all →
    decl ≡ get_or all k decl → form ≡ decl → declared_at all k ≡ function_at k form
declared_is all k decl form within is seen =
    ap (option_and_then (function_at k)) (slice_get_read all (length all) k decl refl within is)
    ∙ ap (function_at k) (sym seen)

-- a function that is seen is that of its declaration
pub function_seen : (all : List DeclForm) (k : ℕ) (decl form : DeclForm) (x : Name)
    (params : List Param) (result : TypeName) (body : Stm) (seen : FunctionSeen) →
    k < length all → decl ≡ get_or all k decl → form ≡ decl → form ≡ d.Fun x params result body →
    k ≡ seen.decl → params ≡ seen.params.now → result ≡ seen.result.now → body ≡ seen.body.now →
    IsFunctionSeen (Some seen) (declared_at all k)
function_seen all k decl form x params result body seen within is form_is function decl_is
    params_are result_is body_is =
    subst (IsFunctionSeen (Some seen))
    (sym (declared_is all k decl form within is form_is ∙ ap (function_at k) function))
    (record {
      decl = decl_is;
      params = params_are;
      body = body_is;
      body_at = ap (λ ps. 3 + trees_of_params ps + trees_of_type result) params_are
          ∙ ap (λ t. 3 + trees_of_params seen.params.now + trees_of_type t) result_is;
    })

-- another declaration declares no function
no_function_in : (k : ℕ) (form : DeclForm) →
    ((x : Name) (params : List Param) (result : TypeName) (body : Stm) →
    form ≡ d.Fun x params result body → ⊥) → function_at k form ≡ None
no_function_in k (d.Fun x params result body) other = absurd (other x params result body refl)
no_function_in k _ other = refl

pub other_declared : (all : List DeclForm) (k : ℕ) (decl form : DeclForm) → k < length all →
    decl ≡ get_or all k decl → form ≡ decl →
    ((x : Name) (params : List Param) (result : TypeName) (body : Stm) →
    form ≡ d.Fun x params result body → ⊥) → declared_at all k ≡ None
other_declared all k decl form within is seen other =
    declared_is all k decl form within is seen ∙ no_function_in k form other

-- a function has fewer trees than a declaration may
pub small_function : ((one : DeclForm) → trees_of_decl one ≡ count_of (tree_of_decl one)) →
    (decl form : DeclForm) (x : Name) (params : List Param) (result : TypeName) (body : Stm) →
    IsDecl decl → form ≡ decl → form ≡ d.Fun x params result body →
    3 + trees_of_params params + trees_of_type result + trees_of_stm body < decl_trees_bound
small_function counted decl form x params result body kept seen function =
    subst (λ (one : DeclForm). trees_of_decl one < decl_trees_bound) (sym seen ∙ function)
    (rw (counted decl) kept.small)
