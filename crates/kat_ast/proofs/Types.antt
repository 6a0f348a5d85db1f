-- Types and parameters: the tree of each is read back as it, and has as many trees as it is said to have.
use Rattle.std.proofs.Common.{◌≡◌, ℕ, Bool, true, false, not, ◌&&◌, List, [], ◌∷◌, map, ap, ◌∙◌, refl, sum, sym, arith}
use Rattle.std.specs.Prelude.{codes, bytes_eq}
use Rattle.std.proofs.lemmas.Bool.{and_parts, false≢true}
use Rattle.kat_tree.specs.Preorder.{count_of}
use Rattle.kat_ast.specs.declared.type_name.TypeName.{TypeName}
use Rattle.kat_ast.specs.declared.type_name.TypeName.TheVariants as t
use Rattle.kat_ast.specs.declared.type_name.Param.{Param}
use Rattle.kat_ast.specs.Parts.{word, number, is_name}
use Rattle.kat_ast.specs.Types.{tree_of_type, tree_of_param, tree_of_params, is_formed_type, is_formed_param, are_formed_params, trees_of_type, trees_of_param, trees_of_params}
use Rattle.kat_ast.specs.Laws.{IsToldByTree}
use Rattle.kat_ast.proofs.Decoded.{decoded, decoded-List, decoded-form, word_back, number_back, type_named, named_type}
use Rattle.kat_ast.proofs.Counting.{sum_by-map, count_of-List, of_word, of_number, of_one, of_pair}

-- a test that is denied fails
pub denied : (b : Bool) → not b ≡ true → b ≡ false
denied false e = refl
denied true e = absurd (false≢true e)

type_name_back : (x : List ℕ) → is_formed_type (t.Named x) ≡ true → type_named x ≡ t.Named x
unfolding type_named
type_name_back x is =
    let both = and_parts (is_name x) (not (bytes_eq x (codes "bool"))) is in
    let first = and_parts (not (bytes_eq x (codes "true"))) (not (bytes_eq x (codes "false")) && not (bytes_eq x (codes "unit"))) both.0 in
    let more = and_parts (not (bytes_eq x (codes "false"))) (not (bytes_eq x (codes "unit"))) first.1 in
    let a = denied (bytes_eq x (codes "unit")) more.1 in
    let b = denied (bytes_eq x (codes "bool")) both.1 in
    rw (a, b)

pub type_back : (type : TypeName) → is_formed_type type ≡ true → (decoded (tree_of_type type)).type ≡ type
unfolding type_named
type_back t.Unit formed = named_type (codes "unit")
type_back t.Bool formed = named_type (codes "bool")
type_back (t.Bits n) formed = ap (λ d. d.type) (decoded-form (codes "bits") (number n ∷ [])) ∙ ap t.Bits (number_back n)
type_back (t.Named x) formed = named_type x ∙ type_name_back x formed

pub param_back : (x : Param) → is_formed_param x ≡ true → (decoded (tree_of_param x)).param ≡ x
param_back x formed =
    let both = and_parts (is_name x.name) (is_formed_type x.ty) formed in
    ap (λ d. d.param) (decoded-List (word x.name ∷ tree_of_type x.ty ∷ []))
    ∙ ap (λ name. record { name = name; ty = (decoded (tree_of_type x.ty)).type }) (word_back x.name)
    ∙ ap (λ type. record { name = x.name; ty = type }) (type_back x.ty both.1)

each_back : (xs : List Param) → are_formed_params xs ≡ true → map (λ d. d.param) (map decoded (map tree_of_param xs)) ≡ xs
each_back [] formed = refl
each_back (x ∷ xs) formed =
    let both = and_parts (is_formed_param x) (are_formed_params xs) formed in
    let here = param_back x both.0 in
    let more = each_back xs both.1 in
    cc

pub params_back : (xs : List Param) → are_formed_params xs ≡ true → (decoded (tree_of_params xs)).params ≡ xs
params_back xs formed = ap (λ d. d.params) (decoded-List (map tree_of_param xs)) ∙ each_back xs formed

pub words_back : (xs : List (List ℕ)) → map (λ d. d.word) (map decoded (map word xs)) ≡ xs
words_back [] = refl
words_back (x ∷ xs) = let here = word_back x in let more = words_back xs in cc

pub numbers_back : (ns : List ℕ) → map (λ d. d.number) (map decoded (map number ns)) ≡ ns
numbers_back [] = refl
numbers_back (n ∷ ns) = let here = number_back n in let more = numbers_back ns in cc

-- its tree tells it
pub one_type : IsToldByTree is_formed_type tree_of_type
one_type a b first second same = sym (type_back a first) ∙ ap (λ t. (decoded t).type) same ∙ type_back b second

pub type_counted : (type : TypeName) → trees_of_type type ≡ count_of (tree_of_type type)
type_counted t.Unit = sym (of_word (codes "unit"))
type_counted t.Bool = sym (of_word (codes "bool"))
type_counted (t.Bits n) = omega (arith, of_one (codes "bits") (number n), of_number n)
type_counted (t.Named x) = sym (of_word x)

pub param_counted : (x : Param) → trees_of_param x ≡ count_of (tree_of_param x)
param_counted x = omega (arith, of_pair (word x.name) (tree_of_type x.ty), of_word x.name, type_counted x.ty)

each_param_counted : (xs : List Param) → map trees_of_param xs ≡ map count_of (map tree_of_param xs)
each_param_counted [] = refl
each_param_counted (x ∷ xs) = let here = param_counted x in let more = each_param_counted xs in cc

pub params_counted : (xs : List Param) → trees_of_params xs ≡ count_of (tree_of_params xs)
params_counted xs = omega (arith, count_of-List (map tree_of_param xs), sum_by-map trees_of_param xs, ap sum (each_param_counted xs))
