-- Names, numbers, types, parameters, and lists of a word and one part: what fits is one, and the tree of one fits.
use Rattle.std.proofs.Common.{◌≡◌, ℕ, Bool, ◌+◌, ◌-◌, List, [], ◌∷◌, ◌&&◌, not, length, map, true, false, Option, Some, None, refl, ap, sym, subst, ◌∙◌, arith}
use Rattle.std.specs.Str.{bytes_eq}
use Rattle.std.proofs.lemmas.List.{length-replicate}
use Rattle.std.proofs.lemmas.Slice.Eq.{bytes_eq-Decides}
use Rattle.kat_tree.specs.declared.tree.Token.{Token}
use Rattle.std.specs.Prelude.{codes, replicate}
use Rattle.std.specs.List.{AllByRecursion}
use Rattle.kat_tree.specs.declared.tree.Token.TheVariants as token
use Rattle.kat_tree.specs.declared.tree.Tree.{Tree}
use Rattle.kat_tree.specs.declared.tree.Tree.TheVariants as variant
use Rattle.kat_shapes.specs.declared.sort.Sort.{Sort}
use Rattle.kat_shapes.specs.declared.sort.Sort.TheVariants as sort
use Rattle.kat_ast.specs.declared.type_name.TypeName.{TypeName}
use Rattle.kat_ast.specs.declared.type_name.TypeName.TheVariants as type
use Rattle.kat_ast.specs.declared.type_name.Param.{Param}
use Rattle.kat_ast.specs.Parts.{word, number, form, is_name, every, is_nonempty}
use Rattle.kat_ast.specs.Types.{tree_of_type, tree_of_param, tree_of_params, is_formed_type, is_formed_param, are_formed_params}
use Rattle.kat_shapes.specs.Forms.{exactly, many, form_of, newest}
use Rattle.kat_shapes.specs.Fits.{fits}
use Rattle.kat_grammar.specs.Parts.{FitsSort, HasParts}
use Rattle.kat_grammar.specs.Forms.{IsName, IsType, IsParam, AreNames, AreParams}
use Rattle.kat_grammar.specs.Laws.{SmallLists}
use Rattle.kat_grammar.proofs.Fitting.{by_layer, token_fits, fits_of_token, form_fits, place_fits, many_sorts, all_of_one, no_list, exact_place, many_place, rest_fits, some_fit, held_list, is_list}
use Rattle.kat_grammar.proofs.Lists.{both, same2, same_first}

-- two truths apart
pub apart : (a b : Bool) → a && b ≡ true → (a ≡ true) × (b ≡ true)
apart true b e = (refl, e)
apart false b e = absurd (cc)

-- the small lists: each has the one form of its row, and no atom is one
pub small : SmallLists
small = record {
  one_bits = record { none = refl; some = λ x. refl; rows = refl; formed = refl };
  one_block = record { none = refl; some = λ x. refl; rows = refl; formed = refl };
  one_pre = record { none = refl; some = λ x. refl; rows = refl; formed = refl };
  one_post = record { none = refl; some = λ x. refl; rows = refl; formed = refl };
  one_entry = record { none = refl; some = λ x. refl; rows = refl; formed = refl };
  one_res = record { none = refl; some = λ x. refl; rows = refl; formed = refl };
  one_within = record { none = refl; some = λ x. refl; rows = refl; formed = refl };
  one_change = record { none = refl; some = λ x. refl; rows = refl; formed = refl };
  one_else = record { none = refl; some = λ x. refl; rows = refl; formed = refl };
  one_when = record { none = refl; some = λ x. refl; rows = refl; formed = refl };
  one_steps = record { none = refl; some = λ x. refl; rows = refl; formed = refl };
  no_pre = record { numbers = λ n. refl; names = λ x. refl };
  no_post = record { numbers = λ n. refl; names = λ x. refl };
  no_entry = record { numbers = λ n. refl; names = λ x. refl };
  no_res = record { numbers = λ n. refl; names = λ x. refl };
  no_within = record { numbers = λ n. refl; names = λ x. refl };
  no_change = record { numbers = λ n. refl; names = λ x. refl };
  no_else = record { numbers = λ n. refl; names = λ x. refl };
}

-- at least one was made of at least one part
pub some_made : {A : Type 0} → (written : A → Tree) (made : List A) (parts : List Tree) → map written made ≡ parts → (n : ℕ) → length parts ≡ n + 1 → is_nonempty made ≡ true
some_made written [] parts same n some = absurd (omega (arith, ap length same))
some_made written (one ∷ made) parts same n some = refl

pub name_fits : (x : List ℕ) → is_name x ≡ true → fits sort.Name (word x) ≡ true
name_fits x e = token_fits sort.Name (token.Name x) e

pub number_fits : (n : ℕ) → fits sort.Number (number n) ≡ true
number_fits n = token_fits sort.Number (token.Number n) refl

-- set names, and then any number of trees of one sort
pub named_many : (s more : Sort) (w x : List ℕ) (trees : List Tree) → form_of newest s (Some w) ≡ Some (many (sort.Word ∷ sort.Name ∷ []) more) →
    is_name x ≡ true → AllByRecursion (FitsSort more) trees → fits s (form w (word x ∷ trees)) ≡ true
named_many s more w x trees shaped name all =
    form_fits s w (word x ∷ trees) (many (sort.Word ∷ sort.Name ∷ []) more) (sort.Name ∷ replicate (length trees) more) shaped
    (many_sorts (sort.Word ∷ sort.Name ∷ []) more (length trees) (length (word x ∷ trees) + 1) (omega arith))
    (name_fits x name, all_of_one more trees all)

-- any number of trees of one sort
pub only_many : (s more : Sort) (w : List ℕ) (trees : List Tree) → form_of newest s (Some w) ≡ Some (many (sort.Word ∷ []) more) → AllByRecursion (FitsSort more) trees → fits s (form w trees) ≡ true
only_many s more w trees shaped all =
    form_fits s w trees (many (sort.Word ∷ []) more) (replicate (length trees) more) shaped
    (many_sorts (sort.Word ∷ []) more (length trees) (length trees + 1) (omega arith)) (all_of_one more trees all)

-- a tree of one sort, and then any number of one sort
pub headed_many : (s first more : Sort) (w : List ℕ) (one : Tree) (trees : List Tree) → form_of newest s (Some w) ≡ Some (many (sort.Word ∷ first ∷ []) more) →
    fits first one ≡ true → AllByRecursion (FitsSort more) trees → fits s (form w (one ∷ trees)) ≡ true
headed_many s first more w one trees shaped one_fits all =
    form_fits s w (one ∷ trees) (many (sort.Word ∷ first ∷ []) more) (first ∷ replicate (length trees) more) shaped
    (many_sorts (sort.Word ∷ first ∷ []) more (length trees) (length (one ∷ trees) + 1) (omega arith))
    (one_fits, all_of_one more trees all)

-- types and parameters
type_word : (a b c : Bool) → not a && (not b && not c) ≡ true → not a && not b ≡ true
type_word true b c e = absurd (cc)
type_word false true c e = absurd (cc)
type_word false false c e = refl

not_value_word : (x : List ℕ) → is_name x ≡ true → fits sort.TypeName (word x) ≡ true
not_value_word x e = token_fits sort.TypeName (token.Name x) (type_word (bytes_eq x (codes "true")) (bytes_eq x (codes "false")) (bytes_eq x (codes "unit")) e)

pub type_fits : (t : TypeName) → is_formed_type t ≡ true → fits sort.TypeName (tree_of_type t) ≡ true
type_fits type.Unit f = token_fits sort.TypeName (token.Name (codes "unit")) refl
type_fits type.Bool f = token_fits sort.TypeName (token.Name (codes "bool")) refl
type_fits (type.Bits n) f = form_fits sort.TypeName (codes "bits") _ _ (sort.Number ∷ []) refl refl (number_fits n, tt)
type_fits (type.Named x) f = not_value_word x (apart (is_name x) _ f).0

pub param_fits : (p : Param) → is_formed_param p ≡ true → fits sort.Param (tree_of_param p) ≡ true
param_fits p f = let h = apart (is_name p.name) (is_formed_type p.ty) f in
    place_fits sort.Param (word p.name ∷ tree_of_type p.ty ∷ []) (exactly (sort.Name ∷ sort.TypeName ∷ [])) (sort.Name ∷ sort.TypeName ∷ []) (λ found. refl) refl (name_fits p.name h.0, (type_fits p.ty h.1, tt))

each_param : (ps : List Param) → are_formed_params ps ≡ true → AllByRecursion (FitsSort sort.Param) (map tree_of_param ps)
each_param [] f = tt
each_param (p ∷ ps) f = let h = apart (is_formed_param p) (are_formed_params ps) f in (param_fits p h.0, each_param ps h.1)

pub params_fit : (ps : List Param) → are_formed_params ps ≡ true → fits sort.Params (tree_of_params ps) ≡ true
params_fit ps f = place_fits sort.Params (map tree_of_param ps) (many [] sort.Param) (replicate (length (map tree_of_param ps)) sort.Param) (λ found. refl)
    (many_sorts [] sort.Param (length (map tree_of_param ps)) (length (map tree_of_param ps)) (omega arith)) (all_of_one sort.Param (map tree_of_param ps) (each_param ps f))

pub fields_fit : (ps : List Param) → is_nonempty ps ≡ true → are_formed_params ps ≡ true → fits sort.Fields (tree_of_params ps) ≡ true
fields_fit [] some f = absurd (cc)
fields_fit (p ∷ ps) some f = let h = apart (is_formed_param p) (are_formed_params ps) f in
    place_fits sort.Fields (tree_of_param p ∷ map tree_of_param ps) (many (sort.Param ∷ []) sort.Param) (sort.Param ∷ replicate (length (map tree_of_param ps)) sort.Param) (λ found. refl)
    (many_sorts (sort.Param ∷ []) sort.Param (length (map tree_of_param ps)) (length (tree_of_param p ∷ map tree_of_param ps)) (omega arith))
    (param_fits p h.0, all_of_one sort.Param (map tree_of_param ps) (each_param ps h.1))

each_name : (xs : List (List ℕ)) → every (map is_name xs) ≡ true → AllByRecursion (FitsSort sort.Name) (map word xs)
each_name [] f = tt
each_name (x ∷ xs) f = let h = apart (is_name x) (every (map is_name xs)) f in (name_fits x h.0, each_name xs h.1)

pub members_fit : (xs : List (List ℕ)) → is_nonempty xs ≡ true → every (map is_name xs) ≡ true → fits sort.Members (variant.List (map word xs)) ≡ true
members_fit [] some f = absurd (cc)
members_fit (x ∷ xs) some f = let h = apart (is_name x) (every (map is_name xs)) f in
    place_fits sort.Members (word x ∷ map word xs) (many (sort.Name ∷ []) sort.Name) (sort.Name ∷ replicate (length (map word xs)) sort.Name) (λ found. refl)
    (many_sorts (sort.Name ∷ []) sort.Name (length (map word xs)) (length (word x ∷ map word xs)) (omega arith))
    (name_fits x h.0, all_of_one sort.Name (map word xs) (each_name xs h.1))

pub each_number : (ns : List ℕ) → AllByRecursion (FitsSort sort.Number) (map number ns)
each_number [] = tt
each_number (n ∷ ns) = (number_fits n, each_number ns)

-- a name that is no word of a value or a type
named_type : (a b c d : Bool) → c ≡ false → d ≡ false → not a && not b ≡ true → (not a && (not b && not c)) && not d ≡ true
named_type true b c d p q f = absurd (cc)
named_type false true c d p q f = absurd (cc)
named_type false false c d p q f = rw (p, q) refl

-- What fits is one.

-- sorts of which no list is
no_name_list : (found : Option (List ℕ)) → form_of newest sort.Name found ≡ None
no_name_list None = refl
no_name_list (Some x) = refl

no_number_list : (found : Option (List ℕ)) → form_of newest sort.Number found ≡ None
no_number_list None = refl
no_number_list (Some x) = refl

pub no_register_list : (found : Option (List ℕ)) → form_of newest sort.RegisterPlace found ≡ None
no_register_list None = refl
no_register_list (Some x) = refl

pub no_cells_list : (found : Option (List ℕ)) → form_of newest sort.CellsPlace found ≡ None
no_cells_list None = refl
no_cells_list (Some x) = refl

-- a name
abbrev NameOf : Tree → Type 0
NameOf t = FitsSort sort.Name t → (x : List ℕ) × IsName t x

name_atom : (t : Token) → NameOf (variant.Atom t)
name_atom (token.Name x) fit = (x, (refl, fits_of_token sort.Name (token.Name x) fit))
name_atom (token.Number n) fit = absurd (let e = fits_of_token sort.Name (token.Number n) fit in cc)

pub name_of : (t : Tree) → FitsSort sort.Name t → (x : List ℕ) × IsName t x
name_of = by_layer NameOf name_atom (λ parts fit. absurd (no_list sort.Name parts no_name_list fit))

-- a number
abbrev NumberOf : Tree → Type 0
NumberOf t = FitsSort sort.Number t → (n : ℕ) × (number n ≡ t)

number_atom : (t : Token) → NumberOf (variant.Atom t)
number_atom (token.Number n) fit = (n, refl)
number_atom (token.Name x) fit = absurd (let e = fits_of_token sort.Number (token.Name x) fit in cc)

pub number_of : (t : Tree) → FitsSort sort.Number t → (n : ℕ) × (number n ≡ t)
number_of = by_layer NumberOf number_atom (λ parts fit. absurd (no_list sort.Number parts no_number_list fit))

pub numbers_of : (trees : List Tree) → AllByRecursion (FitsSort sort.Number) trees → (ns : List ℕ) × (map number ns ≡ trees)
numbers_of [] all = ([], refl)
numbers_of (t ∷ trees) all = let n = number_of t all.0 in let ns = numbers_of trees all.1 in (n.0 ∷ ns.0, same_first n.1 ns.1)

pub names_of : (trees : List Tree) → AllByRecursion (FitsSort sort.Name) trees → (xs : List (List ℕ)) × AreNames trees xs
names_of [] all = ([], (refl, refl))
names_of (t ∷ trees) all =
    let x = name_of t all.0 in let xs = names_of trees all.1 in
    (x.0 ∷ xs.0, (same_first x.1.0 xs.1.0, both (is_name x.0) (every (map is_name xs.0)) x.1.1 xs.1.1))

-- a type
abbrev TypeOf : Tree → Type 0
TypeOf t = FitsSort sort.TypeName t → (ty : TypeName) × IsType t ty

is_type_name : (x : List ℕ) (b c : Bool) → bytes_eq x (codes "unit") ≡ b → bytes_eq x (codes "bool") ≡ c →
    not (bytes_eq x (codes "true")) && not (bytes_eq x (codes "false")) ≡ true → (ty : TypeName) × IsType (word x) ty
is_type_name x true c p q f = (type.Unit, (ap word (sym ((bytes_eq-Decides x (codes "unit")).0 p)), refl))
is_type_name x false true p q f = (type.Bool, (ap word (sym ((bytes_eq-Decides x (codes "bool")).0 q)), refl))
is_type_name x false false p q f = (type.Named x, (refl, named_type (bytes_eq x (codes "true")) (bytes_eq x (codes "false")) (bytes_eq x (codes "unit")) (bytes_eq x (codes "bool")) p q f))

type_atom : (t : Token) → TypeOf (variant.Atom t)
type_atom (token.Name x) fit =
    is_type_name x (bytes_eq x (codes "unit")) (bytes_eq x (codes "bool")) refl refl (fits_of_token sort.TypeName (token.Name x) fit)
type_atom (token.Number n) fit = absurd (let e = fits_of_token sort.TypeName (token.Number n) fit in cc)

type_list : (parts : List Tree) → TypeOf (variant.List parts)
type_list parts fit =
    let one = held_list sort.TypeName (codes "bits") sort.Number small.one_bits parts fit in
    let n = number_of one.0 one.2 in
    (type.Bits n.0, (ap (λ t. form (codes "bits") (t ∷ [])) n.1 ∙ ap variant.List (sym one.1), refl))

pub type_of : (t : Tree) → FitsSort sort.TypeName t → (ty : TypeName) × IsType t ty
type_of = by_layer TypeOf type_atom type_list

-- a name with its type
param_from : (parts : List Tree) → HasParts (sort.Name ∷ sort.TypeName ∷ []) parts → (p : Param) × IsParam (variant.List parts) p
param_from (n ∷ t ∷ []) h =
    let x = name_of n h.fit.0 in let ty = type_of t h.fit.1.0 in
    (record { name = x.0; ty = ty.0 }, (ap variant.List (same2 x.1.0 ty.1.0), both (is_name x.0) (is_formed_type ty.0) x.1.1 ty.1.1))
param_from _ h = absurd (omega (arith, h.count))

pub param_of : (t : Tree) → FitsSort sort.Param t → (p : Param) × IsParam t p
param_of t fit =
    let list = is_list sort.Param t (record { numbers = λ n. refl; names = λ x. refl }) fit in
    let found = param_from list.0 (exact_place sort.Param (sort.Name ∷ sort.TypeName ∷ []) list.0 (λ found. refl) (subst (FitsSort sort.Param) list.1 fit)) in
    subst (λ u. (p : Param) × IsParam u p) (sym list.1) found

pub each_param_of : (trees : List Tree) → AllByRecursion (FitsSort sort.Param) trees → (ps : List Param) × AreParams trees ps
each_param_of [] all = ([], (refl, refl))
each_param_of (t ∷ trees) all =
    let p = param_of t all.0 in let ps = each_param_of trees all.1 in
    (p.0 ∷ ps.0, (same_first p.1.0 ps.1.0, both (is_formed_param p.0) (are_formed_params ps.0) p.1.1 ps.1.1))

-- lists of parameters, of fields, of members
pub params_of : (t : Tree) → FitsSort sort.Params t → (ps : List Param) × (tree_of_params ps ≡ t) × (are_formed_params ps ≡ true)
params_of t fit =
    let list = is_list sort.Params t (record { numbers = λ n. refl; names = λ x. refl }) fit in
    let has = many_place sort.Params [] sort.Param list.0 (λ found. refl) (subst (FitsSort sort.Params) list.1 fit) in
    let ps = each_param_of list.0 (rest_fits [] sort.Param (length list.0 - 0) list.0 has) in
    (ps.0, ap variant.List ps.1.0 ∙ sym list.1, ps.1.1)

pub fields_of : (t : Tree) → FitsSort sort.Fields t → (ps : List Param) × (tree_of_params ps ≡ t) × (is_nonempty ps ≡ true) × (are_formed_params ps ≡ true)
fields_of t fit =
    let list = is_list sort.Fields t (record { numbers = λ n. refl; names = λ x. refl }) fit in
    let has = many_place sort.Fields (sort.Param ∷ []) sort.Param list.0 (λ found. refl) (subst (FitsSort sort.Fields) list.1 fit) in
    let ps = each_param_of list.0 (some_fit sort.Param (length list.0 - 1) list.0 has) in (
      ps.0,
      ap variant.List ps.1.0 ∙ sym list.1,
      some_made tree_of_param ps.0 list.0 ps.1.0 (length list.0 - 1) (omega (arith, has.count, length-replicate (length list.0 - 1) sort.Param)),
      ps.1.1,
    )

pub members_of : (t : Tree) → FitsSort sort.Members t → (xs : List (List ℕ)) × (variant.List (map word xs) ≡ t) × (is_nonempty xs ≡ true) × (every (map is_name xs) ≡ true)
members_of t fit =
    let list = is_list sort.Members t (record { numbers = λ n. refl; names = λ x. refl }) fit in
    let has = many_place sort.Members (sort.Name ∷ []) sort.Name list.0 (λ found. refl) (subst (FitsSort sort.Members) list.1 fit) in
    let xs = names_of list.0 (some_fit sort.Name (length list.0 - 1) list.0 has) in (
      xs.0,
      ap variant.List xs.1.0 ∙ sym list.1,
      some_made word xs.0 list.0 xs.1.0 (length list.0 - 1) (omega (arith, has.count, length-replicate (length list.0 - 1) sort.Name)),
      xs.1.1,
    )
