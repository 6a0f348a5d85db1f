-- Counts that stand still at the greatest u64, over one declaration more.
use Rattle.std.proofs.Common.{◌≡◌, ℕ, ◌+◌, ◌-◌, ◌<◌, ◌^◌, min, Bool, true, false, if◌then◌else◌, List, [], ◌∷◌, ◌++◌, length, map, take, sum_by, slice_get, Some, refl, sym, ap, ◌∙◌, arith}
use Rattle.std.proofs.lemmas.List.{take_more, length-take-le}
use Rattle.std.proofs.lemmas.List.Sums.{sum_by_push}
use Rattle.std.proofs.lemmas.Option.{slice_get_within, get_or_from_slice_get}
use Rattle.kat_ast.specs.declared.decl.DeclForm.{DeclForm}
use Rattle.kat_syntax.specs.Around.{Around}
use Rattle.kat_syntax.specs.Declares.{is_type_decl}
use Rattle.kat_syntax.specs.TypesWritten.{size_of_decl, sizes_with, size_here}
use Rattle.kat_typing.specs.Totals.{most_u64, next, sizes_before}

-- more of a count that stands still at the greatest u64
pub most_more : (a b : ℕ) → min (most_u64 a + b) (2 ^ 64 - 1) ≡ most_u64 (a + b)
most_more a b = omega arith

-- the declarations before the one behind
pub with_here : (decls : List DeclForm) (k : ℕ) (decl : DeclForm) →
    slice_get decls k ≡ Some decl → take (k + 1) decls ≡ take k decls ++ decl ∷ []
with_here decls k decl here =
    take_more decls k decl (slice_get_within decls k decl here)
    ∙ ap (λ d. take k decls ++ d ∷ []) (get_or_from_slice_get decls k decl decl here)

-- a count over one declaration more
pub counted_more : (count : DeclForm → ℕ) (decls : List DeclForm) (k : ℕ) (decl : DeclForm) →
    slice_get decls k ≡ Some decl →
    sum_by count (take (k + 1) decls) ≡ sum_by count (take k decls) + count decl
counted_more count decls k decl here =
    ap (sum_by count) (with_here decls k decl here) ∙ sum_by_push count (take k decls) decl

-- a count that stands still at the greatest u64, over one declaration more
pub most_counted : (count : DeclForm → ℕ) (decls : List DeclForm) (k : ℕ) (decl : DeclForm)
    (old more new : ℕ) →
    slice_get decls k ≡ Some decl → old ≡ most_u64 (sum_by count (take k decls)) →
    more ≡ count decl → new ≡ min (old + more) (2 ^ 64 - 1) →
    new ≡ most_u64 (sum_by count (take (k + 1) decls))
most_counted count decls k decl old more new here before counted added =
    added
    ∙ ap (λ n. min (n + more) (2 ^ 64 - 1)) before
    ∙ ap (λ n. min (most_u64 (sum_by count (take k decls)) + n) (2 ^ 64 - 1)) counted
    ∙ most_more (sum_by count (take k decls)) (count decl)
    ∙ sym (ap most_u64 (counted_more count decls k decl here))

-- sizes with that of one declaration more, of this number
abbrev one_size : List DeclForm → ℕ → List ℕ → DeclForm → List ℕ
one_size all k sizes decl =
    if is_type_decl decl then sizes ++ size_of_decl all k sizes decl ∷ [] else sizes

sizes_push : (all : List DeclForm) (k : ℕ) (sizes : List ℕ) (before : List DeclForm)
    (decl : DeclForm) →
    sizes_with all k sizes (before ++ decl ∷ [])
    ≡ one_size all (k + length before) (sizes_with all k sizes before) decl
sizes_push all k sizes [] decl = ap (λ n. one_size all n sizes decl) (omega arith)
sizes_push all k sizes (one ∷ before) decl =
    sizes_push all (k + 1) (one_size all k sizes one) before decl
    ∙ ap (λ n. one_size all n (sizes_with all (k + 1) (one_size all k sizes one) before) decl)
    (omega arith)

-- the sizes of the types before the declaration behind
pub sizes_more : (around : Around) (decl : DeclForm) →
    slice_get around.decls around.number ≡ Some decl →
    sizes_before (next around)
    ≡ (if is_type_decl decl then sizes_before around ++ size_here around decl ∷ []
    else sizes_before around)
sizes_more around decl here =
    let all = around.decls in
    let k = around.number in
    let within : k < length all = slice_get_within all k decl here in
    ap (sizes_with all 0 []) (with_here all k decl here)
    ∙ sizes_push all 0 [] (take k all) decl
    ∙ ap (λ n. one_size all n (sizes_before around) decl)
    (omega (arith, length-take-le k all))

-- counts with one more at the end
most_push : (sizes : List ℕ) (size : ℕ) →
    map most_u64 (sizes ++ size ∷ []) ≡ map most_u64 sizes ++ most_u64 size ∷ []
most_push [] size = refl
most_push (one ∷ sizes) size = ap (λ more. most_u64 one ∷ more) (most_push sizes size)

-- the sizes behind a declaration of a type
pub with_size : (around : Around) (decl : DeclForm) (old new : List ℕ) (size : ℕ) →
    slice_get around.decls around.number ≡ Some decl →
    old ≡ map most_u64 (sizes_before around) → true ≡ is_type_decl decl →
    size ≡ most_u64 (size_here around decl) → new ≡ old ++ size ∷ [] →
    new ≡ map most_u64 (sizes_before (next around))
with_size around decl old new size here before is sized pushed =
    pushed
    ∙ ap (λ x. old ++ x ∷ []) sized
    ∙ ap (λ xs. xs ++ most_u64 (size_here around decl) ∷ []) before
    ∙ sym (most_push (sizes_before around) (size_here around decl))
    ∙ ap (λ (b : Bool). map most_u64 (if b then sizes_before around ++ size_here around decl ∷ []
    else sizes_before around)) is
    ∙ sym (ap (map most_u64) (sizes_more around decl here))

-- the sizes behind a declaration of no type
pub without_size : (around : Around) (decl : DeclForm) (old : List ℕ) →
    slice_get around.decls around.number ≡ Some decl →
    old ≡ map most_u64 (sizes_before around) → false ≡ is_type_decl decl →
    old ≡ map most_u64 (sizes_before (next around))
without_size around decl old here before is =
    before
    ∙ ap (λ (b : Bool). map most_u64 (if b then sizes_before around ++ size_here around decl ∷ []
    else sizes_before around)) is
    ∙ sym (ap (map most_u64) (sizes_more around decl here))
