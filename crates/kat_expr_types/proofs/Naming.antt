-- Names that are added to a table one after another.
use Rattle.std.proofs.Common.{◌≡◌, ℕ, ◌+◌, ◌<◌, ◌≤◌, Bool, true, false, if◌then◌else◌, List, [], ◌∷◌, ◌++◌, length, map, take, drop, get_or, slice_get, Option, None, Some, refl, sym, ap, subst, ◌∙◌, arith, append_assoc}
use Rattle.std.specs.Prelude.{is_some, sum_by}
use Rattle.std.specs.Option.{option_or, option_map, option_flatten}
use Rattle.std.specs.Str.{bytes_eq}
use Rattle.std.proofs.lemmas.Slice.Eq.{bytes_eq-Decides}
use Rattle.std.proofs.lemmas.List.{take_more, take_all, drop_all, append-nil, map-append}
use Rattle.std.proofs.lemmas.List.Sums.{sum_by-cons}
use Rattle.std.proofs.lemmas.Option.{slice_get-get_or, slice_get-map}
use Rattle.kat_value.specs.declared.types.Ty.{Ty}
use Rattle.kat_ast.specs.declared.type_name.Param.{Param}
use Rattle.kat_ast.specs.Types.{trees_of_param}
use Rattle.kat_syntax.specs.NamedItems.{Item, found, added}
use Rattle.kat_syntax.specs.Tables.{Name}
use Rattle.kat_syntax.specs.TypeRules.{Fault, least_with}
use Rattle.kat_syntax.specs.Declares.{TypedName, types_of}
use Rattle.kat_syntax.specs.Around.{Around}
use Rattle.kat_syntax.specs.TypesWritten.{Scope, local_type, local_of, hiding, type_here, type_faults_at, param_faults, with_params}
use Rattle.kat_expr_types.specs.Bases.{IsBase, names_in}
use Rattle.kat_expr_types.proofs.Noting.{rest_is, least_both}

-- one more name is found where no earlier one is the same
found_push : (all : List (Item (Option Ty))) (name : Name) (item : Option Ty) (x : Name) →
    found (all ++ record { name = name; item = item } ∷ []) x
    ≡ option_or (found all x) (if bytes_eq name x then Some item else None)
found_push [] name item x = refl
found_push (one ∷ more) name item x =
    elim (bytes_eq one.name x) as
    (λ b. (if b then Some one.item else found (more ++ record { name = name; item = item } ∷ []) x)
    ≡ option_or (if b then Some one.item else found more x)
    (if bytes_eq name x then Some item else None))
    [ true ↦ refl | false ↦ found_push more name item x ]

local_push : (scope : Scope) (name : Name) (type : Option Ty) (x : Name) →
    local_type (scope ++ record { name = name; type = type } ∷ []) x
    ≡ option_or (local_type scope x) (if bytes_eq name x then Some type else None)
local_push [] name type x = refl
local_push (one ∷ more) name type x =
    elim (bytes_eq one.name x) as
    (λ b. (if b then Some one.type else local_type
    (more ++ record { name = name; type = type } ∷ []) x)
    ≡ option_or (if b then Some one.type else local_type more x)
    (if bytes_eq name x then Some type else None))
    [ true ↦ refl | false ↦ local_push more name type x ]

-- a name that is found already changes nothing
again_from : (item : Option Ty) (f : Option (Option Ty)) (b : Bool) →
    (b ≡ true → is_some f ≡ true) →
    f ≡ option_or f (if b then Some item else None)
again_from item (Some v) b there = refl
again_from item None false there = refl
again_from item None true there = absurd (cc (there refl))

added_from : (all : List (Item (Option Ty))) (name : Name) (item : Option Ty) (x : Name)
    (b : Bool) →
    is_some (found all name) ≡ b →
    found (if b then all else all ++ record { name = name; item = item } ∷ []) x
    ≡ option_or (found all x) (if bytes_eq name x then Some item else None)
added_from all name item x false is = found_push all name item x
added_from all name item x true is =
    again_from item (found all x) (bytes_eq name x)
    (λ e. subst (λ y. is_some (found all y) ≡ true) ((bytes_eq-Decides name x).0 e) is)

-- what is found when a name is added
found_added : (all : List (Item (Option Ty))) (name : Name) (item : Option Ty) (x : Name) →
    found (added all name item) x
    ≡ option_or (found all x) (if bytes_eq name x then Some item else None)
found_added all name item x = added_from all name item x (is_some (found all name)) refl

-- a table with one name more
pub base_more : (scope : Scope) (named : List (Item (Option Ty))) (name : Name) (type : Option Ty) →
    IsBase scope named → IsBase (scope ++ record { name = name; type = type } ∷ [])
    (added named name type)
base_more scope named name type base = λ x.
    found_added named name type x
    ∙ ap (λ o. option_or o (if bytes_eq name x then Some type else None)) (base x)
    ∙ sym (local_push scope name type x)

abbrev name_of : TypedName → Name
name_of one = one.name

abbrev typed : TypedName → Option Ty
typed one = one.type

some_is : {A : Type 0} (a b : A) → Some a ≡ Some b → a ≡ b
some_is a b is = cc

-- a table of the first parameters with one more
pub added_param : (params : Scope) (at : ℕ) (named : List (Item (Option Ty))) (name : Name)
    (type : Option Ty) →
    at < length params → Some name ≡ option_map name_of (slice_get params at) →
    type ≡ option_flatten (slice_get (types_of params) at) →
    IsBase (take at params) named → IsBase (take (at + 1) params) (added named name type)
added_param params at named name type within name_at type_at base =
    let none : TypedName = record { name = []; type = None } in
    let one : TypedName = get_or params at none in
    let here : slice_get params at ≡ Some one = slice_get-get_or params at none within in
    let name_is : name ≡ one.name =
    some_is name one.name (name_at ∙ ap (option_map name_of) here) in
    let type_is : type ≡ one.type = type_at
    ∙ ap option_flatten (slice_get-map typed params at ∙ ap (option_map typed) here) in
    let made : record { name = name; type = type } ≡ one =
    ap (λ n. record { name = n; type = type }) name_is
    ∙ ap (λ t. record { name = one.name; type = t }) type_is in
    subst (λ scope. IsBase scope (added named name type))
    (ap (λ last. take at params ++ last ∷ []) made ∙ sym (take_more params at none within))
    (base_more (take at params) named name type base)

-- each position has a parameter
pub no_param : (params : Scope) (at : ℕ) → at < length params → None
    ≡ option_map name_of (slice_get params at) → ⊥
no_param params at within none =
    cc (none ∙ ap (option_map name_of)
    (slice_get-get_or params at (record { name = []; type = None }) within))

-- the names of one list more
pub names_more : (lists : List Scope) (last : Scope) → names_in (lists ++ last ∷ [])
    ≡ names_in lists ++ last
names_more [] last = append-nil last
names_more (names ∷ lists) last =
    ap (λ more. names ++ more) (names_more lists last)
    ∙ sym (append_assoc names (names_in lists) last)

-- the names of a first list
pub names_one : (none all : List Scope) (params copied : Scope) → none ≡ [] → copied ≡ params →
    all ≡ none ++ copied ∷ [] →
    names_in all ≡ params
names_one none all params copied none_is copied_is all_is =
    ap names_in all_is ∙ names_more none copied
    ∙ ap (λ lists. names_in lists ++ copied) none_is ∙ copied_is

-- the parameters so far are in a table, and those that are left have the faults that are to come
pub record ParamsSoFar (around : Around) (scope : Scope) (at : ℕ) (params : List Param) (i next : ℕ)
    (table : List (Item (Option Ty))) (start now : Option Fault) : Type 0 where
  pub base : IsBase (with_params around scope (take i params)) table
  pub place : next + sum_by trees_of_param (drop i params) ≡ at + sum_by trees_of_param params
  pub faults : least_with now
      (param_faults around (with_params around scope (take i params)) next (drop i params))
      ≡ least_with start (param_faults around scope at params)

module _ (around : Around) (scope : Scope) (at : ℕ) (params : List Param) where
  pub no_params : (table : List (Item (Option Ty))) (start : Option Fault) → IsBase scope table →
      ParamsSoFar around scope at params 0 at table start start
  no_params table start base =
      let same : with_params around scope [] ≡ scope = append-nil scope in
      record {
        base = subst (λ s. IsBase s table) (sym same) base;
        place = refl;
        faults = ap (λ s. least_with start (param_faults around s at params)) same;
      }

  scope_more : (i : ℕ) (param : Param) → i < length params → param ≡ get_or params i param →
      with_params around scope (take (i + 1) params)
      ≡ with_params around scope (take i params) ++ local_of around param ∷ []
  scope_more i param within is =
      ap (with_params around scope) (take_more params i param within
      ∙ ap (λ p. take i params ++ p ∷ []) (sym is))
      ∙ ap (λ more. scope ++ more) (map-append (local_of around) (take i params) (param ∷ []))
      ∙ sym (append_assoc scope (map (local_of around) (take i params))
      (local_of around param ∷ []))

  module _ (i next : ℕ) (table : List (Item (Option Ty))) (start now : Option Fault) (param : Param)
      (so_far : ParamsSoFar around scope at params i next table start now)
      (within : i < length params)
      (is : param ≡ get_or params i param) where
    -- the parameter stands in the list
    pub param_fits : next + trees_of_param param ≤ at + sum_by trees_of_param params
    param_fits =
        let place = so_far.place in
        omega (
          arith,
          ap (sum_by trees_of_param) (rest_is params i param within is),
          sum_by-cons trees_of_param param (drop (i + 1) params),
        )

    abbrev before : Scope
    before = with_params around scope (take i params)

    abbrev own : List Fault
    own = hiding around before (next + 1) param.name ++ type_faults_at around (next + 2) param.ty

    pub next_param : (noted : Option Fault) (more : List (Item (Option Ty))) (place : ℕ) →
        noted ≡ least_with now own → more ≡ added table param.name (type_here around param.ty) →
        place ≡ next + trees_of_param param →
        ParamsSoFar around scope at params (i + 1) place more start noted
    next_param noted more place noted_is more_is place_is =
        let behind : List Param = drop (i + 1) params in
        let here = rest_is params i param within is in
        let grown : with_params around scope (take (i + 1) params)
        ≡ before ++ local_of around param ∷ [] = scope_more i param within is in
        let later : List Fault = param_faults around (before ++ local_of around param ∷ [])
        (next + trees_of_param param) behind in
        let left = so_far.place in
        record {
          base = subst (λ s. IsBase s more) (sym grown)
              (subst (IsBase (before ++ local_of around param ∷ [])) (sym more_is)
              (base_more before table param.name (type_here around param.ty) so_far.base));
          place = omega (
            arith,
            ap (sum_by trees_of_param) here,
            sum_by-cons trees_of_param param
                behind,
          );
          faults = ap (λ s. least_with noted (param_faults around s place behind)) grown
              ∙ ap (λ n. least_with noted
              (param_faults around (before ++ local_of around param ∷ []) n behind)) place_is
              ∙ ap (λ f. least_with f later) noted_is
              ∙ sym (least_both now own later)
              ∙ ap (least_with now) (append_assoc (hiding around before (next + 1) param.name)
              (type_faults_at around (next + 2) param.ty) later)
              ∙ ap (λ ps. least_with now (param_faults around before next ps)) (sym here)
              ∙ so_far.faults;
        }

  -- behind the last parameter
  module _ (i next : ℕ) (table : List (Item (Option Ty))) (start now : Option Fault)
      (so_far : ParamsSoFar around scope at params i next table start now)
      (behind : length params ≤ i) where
    pub all_in : IsBase (with_params around scope params) table
    all_in = subst (λ ps. IsBase (with_params around scope ps) table)
        (take_all i params behind) so_far.base

    pub all_noted : now ≡ least_with start (param_faults around scope at params)
    all_noted =
        ap (λ ps. least_with now (param_faults around
        (with_params around scope (take i params)) next ps)) (sym (drop_all i params behind))
        ∙ so_far.faults
