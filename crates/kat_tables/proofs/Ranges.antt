-- Whether a test holds of some range of declarations.
use Rattle.std.proofs.Common.{◌≡◌, ℕ, suc, ◌+◌, ◌<◌, Bool, true, false, ◌||◌, List, ◌∷◌, length, get_or, drop, Option, None, Some, sym, ap, ◌∙◌, add-one}
use Rattle.std.specs.List.{list_any, cons_option}
use Rattle.std.proofs.Math.Seq.{drop-cons}
use Rattle.kat_ast.specs.declared.decl.DeclForm.{DeclForm}
use Rattle.kat_syntax.specs.Memories.{Range, range_of, ranges_of}

-- whether a test holds of a range of the declarations from a position on
any_from : (test : Range → Bool) (decls : List DeclForm) (i : ℕ) (decl : DeclForm)
    (found : Option Range) → i < length decls → decl ≡ get_or decls i decl →
    range_of decl ≡ found →
    list_any test (ranges_of (drop i decls))
    ≡ list_any test (cons_option found (ranges_of (drop (i + 1) decls)))
any_from test decls i decl found within is ranged =
    ap (λ ds. list_any test (ranges_of ds))
    (drop-cons decls i decl within ∙ ap (λ d. d ∷ drop (suc i) decls) (sym is))
    ∙ ap (λ o. list_any test (cons_option o (ranges_of (drop (suc i) decls)))) ranged
    ∙ ap (λ n. list_any test (cons_option found (ranges_of (drop n decls)))) (sym (add-one i))

-- where a test holds of the range of the declaration at a position
pub any_here : (test : Range → Bool) (decls : List DeclForm) (i : ℕ) (decl : DeclForm)
    (range : Range) → i < length decls → decl ≡ get_or decls i decl →
    range_of decl ≡ Some range → test range ≡ true →
    list_any test (ranges_of (drop i decls)) ≡ true
any_here test decls i decl range within is ranged holds =
    any_from test decls i decl (Some range) within is ranged
    ∙ ap (λ b. b || list_any test (ranges_of (drop (i + 1) decls))) holds

-- where a test does not hold of the range of the declaration at a position
pub any_further : (test : Range → Bool) (decls : List DeclForm) (i : ℕ) (decl : DeclForm)
    (range : Range) → i < length decls → decl ≡ get_or decls i decl →
    range_of decl ≡ Some range → test range ≡ false →
    list_any test (ranges_of (drop i decls)) ≡ list_any test (ranges_of (drop (i + 1) decls))
any_further test decls i decl range within is ranged fails =
    any_from test decls i decl (Some range) within is ranged
    ∙ ap (λ b. b || list_any test (ranges_of (drop (i + 1) decls))) fails

-- where the declaration at a position has no cells
pub any_past : (test : Range → Bool) (decls : List DeclForm) (i : ℕ) (decl : DeclForm) →
    i < length decls → decl ≡ get_or decls i decl → range_of decl ≡ None →
    list_any test (ranges_of (drop i decls)) ≡ list_any test (ranges_of (drop (i + 1) decls))
any_past test decls i decl within is none = any_from test decls i decl None within is none
