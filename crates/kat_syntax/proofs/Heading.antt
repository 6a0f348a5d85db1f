-- The declared types, one declaration after another.
use Rattle.std.proofs.Common.{◌≡◌, ℕ, suc, ◌+◌, ◌<◌, true, false, if◌then◌else◌, List, [], ◌∷◌, ◌++◌, length, get_or, drop, Option, None, Some, refl, sym, ap, ◌∙◌, arith, append_assoc, length-append, add-one}
use Rattle.std.specs.Option.{option_map, option_or}
use Rattle.std.specs.Str.{bytes_eq}
use Rattle.std.proofs.Math.Seq.{drop-cons}
use Rattle.kat_value.specs.declared.types.Ty.{Ty}
use Rattle.kat_ast.specs.declared.decl.DeclForm.{DeclForm}
use Rattle.kat_ast.specs.declared.decl.DeclForm.TheVariants as d
use Rattle.kat_syntax.specs.Tables.{Name}
use Rattle.kat_syntax.specs.Declares.{TypeHead, type_heads_from, type_heads, type_named}
use Rattle.kat_syntax.specs.declared.declared_types.DeclaredType.{DeclaredType}
use Rattle.kat_syntax.specs.NamedItems.{Item, added}
use Rattle.kat_syntax.specs.DeclaredTypes.{type_declared, head_of, head_numbers, IsHeads}
use Rattle.kat_syntax.proofs.Finding.{found_added}

-- the heads from a declaration on, where this is what it declares
abbrev pub heads_with : ℕ → ℕ → Option (Name × Ty) → List DeclForm → List TypeHead
heads_with k p None decls = type_heads_from (k + 1) p decls
heads_with k p (Some one) decls =
    record { decl = k; name = one.0; type = one.1 } ∷ type_heads_from (k + 1) (p + 1) decls

-- the heads from a declaration on, by what it declares
pub next_head : (k p : ℕ) (decl : DeclForm) (decls : List DeclForm) →
    type_heads_from k p (decl ∷ decls) ≡ heads_with k p (type_declared p decl) decls
next_head k p (d.Enum x members) decls = refl
next_head k p (d.Union x ctors) decls = refl
next_head k p (d.Record x fields) decls = refl
next_head k p (d.Register x type kind) decls = refl
next_head k p (d.Memory a c lo hi) decls = refl
next_head k p (d.Cells kind lo hi) decls = refl
next_head k p (d.Code lo values) decls = refl
next_head k p (d.Region x params i e) decls = refl
next_head k p (d.Predicate x inputs outputs definition) decls = refl
next_head k p (d.Fun x params result body) decls = refl
next_head k p (d.Contract f names pre x post) decls = refl
next_head k p (d.Lemma x params names pre post steps) decls = refl
next_head k p (d.Step f) decls = refl
next_head k p (d.Dispatch cases otherwise) decls = refl
next_head k p (d.Untrusted holds) decls = refl
next_head k p (d.Block block) decls = refl
next_head k p (d.Boot x) decls = refl

-- one more type is found where no earlier one has its name
named_push : (heads : List TypeHead) (one : TypeHead) (x : Name) →
    option_map head_of (type_named (heads ++ one ∷ []) x)
    ≡ option_or (option_map head_of (type_named heads x))
    (if bytes_eq one.name x then Some (head_of one) else None)
named_push [] one x =
    elim (bytes_eq one.name x) as
    (λ b. option_map head_of (if b then Some one else None)
    ≡ (if b then Some (head_of one) else None)) [ true ↦ refl | false ↦ refl ]
named_push (head ∷ heads) one x =
    elim (bytes_eq head.name x) as
    (λ b. option_map head_of (if b then Some head else type_named (heads ++ one ∷ []) x)
    ≡ option_or (option_map head_of (if b then Some head else type_named heads x))
    (if bytes_eq one.name x then Some (head_of one) else None))
    [ true ↦ refl | false ↦ named_push heads one x ]

-- one more number
numbers_push : (heads : List TypeHead) (one : TypeHead) →
    head_numbers (heads ++ one ∷ []) ≡ head_numbers heads ++ one.decl ∷ []
numbers_push [] one = refl
numbers_push (head ∷ heads) one = ap (λ ns. head.decl ∷ ns) (numbers_push heads one)

-- tables with one more type
heads_push : (heads : List TypeHead) (one : TypeHead) (named : List (Item DeclaredType))
    (numbers : List ℕ) → IsHeads heads named numbers →
    IsHeads (heads ++ one ∷ []) (added named one.name (head_of one)) (numbers ++ one.decl ∷ [])
heads_push heads one named numbers are = record {
  finds = λ x. found_added named one.name (head_of one) x
      ∙ ap (λ f. option_or f (if bytes_eq one.name x then Some (head_of one) else None))
      (are.finds x)
      ∙ sym (named_push heads one x);
  counted = ap (λ ns. ns ++ one.decl ∷ []) are.counted ∙ sym (numbers_push heads one);
}

-- where the heads so far, and those from a declaration on, are all
pub record SoFar (all : List DeclForm) (k : ℕ) (named : List (Item DeclaredType))
    (numbers : List ℕ) : Type 0 where
  pub heads : List TypeHead
  pub are : IsHeads heads named numbers
  pub whole : type_heads all ≡ heads ++ type_heads_from k (length numbers) (drop k all)

-- the heads from a declaration on, by what its form declares
from_here : (all : List DeclForm) (k p : ℕ) (decl form : DeclForm) → k < length all →
    decl ≡ get_or all k decl → form ≡ decl →
    type_heads_from k p (drop k all) ≡ heads_with k p (type_declared p form) (drop (k + 1) all)
from_here all k p decl form within is seen =
    ap (type_heads_from k p)
    (drop-cons all k decl within ∙ ap (λ d. d ∷ drop (suc k) all) (sym is))
    ∙ next_head k p decl (drop (suc k) all)
    ∙ ap (λ f. heads_with k p (type_declared p f) (drop (suc k) all)) (sym seen)
    ∙ ap (λ n. heads_with k p (type_declared p form) (drop n all)) (sym (add-one k))

-- a declaration that declares no type
pub next_none : (all : List DeclForm) (k p : ℕ) (decl form : DeclForm)
    (named : List (Item DeclaredType)) (numbers : List ℕ) → SoFar all k named numbers →
    k < length all → decl ≡ get_or all k decl →
    form ≡ decl → p ≡ length numbers → type_declared p form ≡ None →
    SoFar all (k + 1) named numbers
next_none all k p decl form named numbers so within is seen same none = record {
  heads = so.heads;
  are = so.are;
  whole = so.whole ∙ ap (λ hs. so.heads ++ hs)
      (ap (λ q. type_heads_from k q (drop k all)) (sym same)
      ∙ from_here all k p decl form within is seen
      ∙ ap (λ o. heads_with k p o (drop (k + 1) all)) none
      ∙ ap (λ q. type_heads_from (k + 1) q (drop (k + 1) all)) same);
}

-- a declaration that declares a type
pub next_some : (all : List DeclForm) (k p : ℕ) (decl form : DeclForm) (x : Name) (t : Ty)
    (named : List (Item DeclaredType)) (numbers : List ℕ) → SoFar all k named numbers →
    k < length all → decl ≡ get_or all k decl → form ≡ decl → p ≡ length numbers →
    type_declared p form ≡ Some (x, t) →
    SoFar all (k + 1) (added named x (record { decl = k; ty = t })) (numbers ++ k ∷ [])
next_some all k p decl form x t named numbers so within is seen same some =
    let one : TypeHead = record { decl = k; name = x; type = t } in
    let longer : p + 1 ≡ length (numbers ++ k ∷ []) =
    omega (arith, length-append numbers (k ∷ []), same) in
    record {
      heads = so.heads ++ one ∷ [];
      are = heads_push so.heads one named numbers so.are;
      whole = so.whole ∙ ap (λ hs. so.heads ++ hs)
          (ap (λ q. type_heads_from k q (drop k all)) (sym same)
          ∙ from_here all k p decl form within is seen
          ∙ ap (λ o. heads_with k p o (drop (k + 1) all)) some
          ∙ ap (λ q. one ∷ type_heads_from (k + 1) q (drop (k + 1) all)) longer)
          ∙ sym (append_assoc so.heads (one ∷ [])
          (type_heads_from (k + 1) (length (numbers ++ k ∷ [])) (drop (k + 1) all)));
    }
