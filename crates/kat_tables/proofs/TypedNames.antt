-- Names with their types, of one list behind another.
use Rattle.std.proofs.Common.{◌≡◌, ℕ, zero, suc, ◌+◌, ◌<◌, ◌↔◌, IsTrue, Bool, true, false, if◌then◌else◌, List, [], ◌∷◌, ◌++◌, length, get_or, drop, slice_get, Option, Some, refl, sym, ap, ◌∙◌, add-one}
use Rattle.std.specs.Option.{option_map, option_or, option_flatten}
use Rattle.std.specs.Str.{bytes_eq}
use Rattle.std.proofs.Math.Seq.{drop-cons}
use Rattle.std.proofs.lemmas.List.{map-append}
use Rattle.std.proofs.lemmas.Slice.Eq.{bytes_eq-Decides}
use Rattle.kat_ast.specs.declared.type_name.Param.{Param}
use Rattle.kat_ast.specs.declared.decl.DeclForm.{DeclForm}
use Rattle.kat_syntax.specs.Tables.{Name}
use Rattle.kat_syntax.specs.Declares.{TypedName, typed_params, types_of, type_of_name}
use Rattle.kat_syntax.specs.TypesWritten.{local_type}

-- the name of a parameter that stands at a position
name_from : (decls : List DeclForm) (k : ℕ) (params : List Param) (i : ℕ) →
    option_map (λ (param : Param). param.name) (slice_get params i)
    ≡ option_map (λ (one : TypedName). one.name) (slice_get (typed_params decls k params) i)
name_from decls k [] i = refl
name_from decls k (param ∷ params) zero = refl
name_from decls k (param ∷ params) (suc i) = name_from decls k params i

-- its type
type_from : (decls : List DeclForm) (k : ℕ) (params : List Param) (i : ℕ) →
    option_flatten (option_map (λ (param : Param). type_of_name decls k param.ty)
    (slice_get params i))
    ≡ option_flatten (slice_get (types_of (typed_params decls k params)) i)
type_from decls k [] i = refl
type_from decls k (param ∷ params) zero = refl
type_from decls k (param ∷ params) (suc i) = type_from decls k params i

-- the name at a position of names with types, by the parameter there
pub name_known : (decls : List DeclForm) (k : ℕ) (params : List Param) (names : List TypedName)
    (i : ℕ) (found : Option Param) → typed_params decls k params ≡ names →
    found ≡ slice_get params i →
    option_map (λ (param : Param). param.name) found
    ≡ option_map (λ (one : TypedName). one.name) (slice_get names i)
name_known decls k params names i found are is =
    ap (option_map (λ (param : Param). param.name)) is ∙ name_from decls k params i
    ∙ ap (λ ns. option_map (λ (one : TypedName). one.name) (slice_get ns i)) are

-- its type
pub type_known : (decls : List DeclForm) (k : ℕ) (params : List Param) (names : List TypedName)
    (i : ℕ) (found : Option Param) → typed_params decls k params ≡ names →
    found ≡ slice_get params i →
    option_flatten (option_map (λ (param : Param). type_of_name decls k param.ty) found)
    ≡ option_flatten (slice_get (types_of names) i)
type_known decls k params names i found are is =
    ap (λ o. option_flatten (option_map (λ (param : Param). type_of_name decls k param.ty) o)) is
    ∙ type_from decls k params i
    ∙ ap (λ ns. option_flatten (slice_get (types_of ns) i)) are

-- the type of a name in one list behind another
pub local_type-append : (xs ys : List TypedName) (x : Name) →
    local_type (xs ++ ys) x ≡ option_or (local_type xs x) (local_type ys x)
local_type-append [] ys x = refl
local_type-append (one ∷ xs) ys x =
    elim (bytes_eq one.name x) as (λ b.
    (if b then Some one.type else local_type (xs ++ ys) x)
    ≡ option_or (if b then Some one.type else local_type xs x) (local_type ys x))
    [ true ↦ refl | false ↦ local_type-append xs ys x ]

pub local_in_both : (decls : List DeclForm) (k : ℕ) (first second : List Param) (x : Name) →
    local_type (typed_params decls k (first ++ second)) x
    ≡ option_or (local_type (typed_params decls k first) x)
    (local_type (typed_params decls k second) x)
local_in_both decls k first second x =
    ap (λ names. local_type names x) (map-append _ first second)
    ∙ local_type-append (typed_params decls k first) (typed_params decls k second) x

-- what a test of two names answers
pub names_tested : (x y : Name) (r : Bool) → IsTrue r ↔ (x ≡ y) → bytes_eq x y ≡ r
names_tested x y true tested = (bytes_eq-Decides x y).1 (tested.0 refl)
names_tested x y false tested =
    let same : bytes_eq x y ≡ true → false ≡ true =
    λ e. tested.1 ((bytes_eq-Decides x y).0 e) in
    elim (bytes_eq x y) as (λ b. (b ≡ true → false ≡ true) → b ≡ false)
    [ true ↦ λ f. sym (f refl) | false ↦ λ f. refl ] same

-- the type of a name among the parameters from a position on
pub local_here : (decls : List DeclForm) (k : ℕ) (params : List Param) (i : ℕ) (param : Param)
    (x : Name) (b : Bool) →
    i < length params → param ≡ get_or params i param → bytes_eq param.name x ≡ b →
    local_type (typed_params decls k (drop i params)) x
    ≡ (if b then Some (type_of_name decls k param.ty)
    else local_type (typed_params decls k (drop (i + 1) params)) x)
local_here decls k params i param x b within is same =
    ap (λ rest. local_type (typed_params decls k rest) x)
    (drop-cons params i param within ∙ ap (λ p. p ∷ drop (suc i) params) (sym is))
    ∙ ap (λ b. if b then Some (type_of_name decls k param.ty)
    else local_type (typed_params decls k (drop (suc i) params)) x) same
    ∙ ap (λ n. if b then Some (type_of_name decls k param.ty)
    else local_type (typed_params decls k (drop n params)) x) (sym (add-one i))
