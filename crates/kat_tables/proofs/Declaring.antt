-- What is noted so far, one declared name after another.
use Rattle.std.proofs.Common.{◌≡◌, ℕ, suc, ◌+◌, ◌<◌, if◌then◌else◌, List, [], ◌∷◌, ◌++◌, map, length, get_or, drop, refl, sym, ap, subst, ◌∙◌, arith, append_assoc, add-one}
use Rattle.std.specs.List.{sum_by}
use Rattle.std.proofs.lemmas.List.{append-nil, map-append}
use Rattle.std.proofs.lemmas.List.Sums.{sum_by-drop_more}
use Rattle.std.proofs.Math.Seq.{drop-cons}
use Rattle.kat_ast.specs.declared.type_name.Param.{Param}
use Rattle.kat_ast.specs.declared.decl.DeclForm.{DeclForm}
use Rattle.kat_ast.specs.declared.decl.DeclForm.TheVariants as d
use Rattle.kat_ast.specs.declared.decl.RegisterKind.{RegisterKind}
use Rattle.kat_ast.specs.declared.decl.Block.{Block}
use Rattle.kat_ast.specs.declared.type_name.TypeName.{TypeName}
use Rattle.kat_ast.specs.declared.expr.Expr.{Expr}
use Rattle.kat_ast.specs.declared.stm.Stm.{Stm}
use Rattle.kat_ast.specs.declared.assertion.Assertion.{Assertion}
use Rattle.kat_ast.specs.Types.{trees_of_param}
use Rattle.kat_syntax.specs.Tables.{Name}
use Rattle.kat_syntax.specs.Declares.{Declared, is_type_decl, members_from, ctors_from, declared_in, declared_from}
use Rattle.kat_tables.specs.declared.kinds.Kinds.{Kinds}
use Rattle.kat_tables.specs.Meanings.{Noted, noted, IsKinds}

-- what was noted between two states of the tables, and what is left of the whole
pub record NotedSoFar (whole left : List Noted) (before now : Kinds) : Type 0 where
  pub done : List Noted
  pub whole_is : whole ≡ done ++ left
  pub are : (all : List Noted) → IsKinds all before → IsKinds (all ++ done) now

-- nothing is noted at the start
pub noted_none : (whole : List Noted) (kinds : Kinds) → NotedSoFar whole whole kinds kinds
noted_none whole kinds = record {
  done = [];
  whole_is = refl;
  are = λ all is. subst (λ ns. IsKinds ns kinds) (sym (append-nil all)) is;
}

-- some more is noted
pub noted_more : (whole rest more left : List Noted) (before now next : Kinds) →
    NotedSoFar whole rest before now → rest ≡ more ++ left →
    ((all : List Noted) → IsKinds all now → IsKinds (all ++ more) next) →
    NotedSoFar whole left before next
noted_more whole rest more left before now next so is adds = record {
  done = so.done ++ more;
  whole_is = so.whole_is ∙ ap (λ r. so.done ++ r) is ∙ sym (append_assoc so.done more left);
  are = λ all kinds.
      subst (λ ns. IsKinds ns next) (append_assoc all so.done more)
      (adds (all ++ so.done) (so.are all kinds));
}

-- all is noted where nothing is left
pub noted_all : (whole left : List Noted) (before now : Kinds) →
    NotedSoFar whole left before now → left ≡ [] →
    (all : List Noted) → IsKinds all before → IsKinds (all ++ whole) now
noted_all whole left before now so none all kinds =
    subst (λ ns. IsKinds (all ++ ns) now)
    (sym (so.whole_is ∙ ap (λ r. so.done ++ r) none ∙ append-nil so.done)) (so.are all kinds)

-- a list from a place on, where this is the item there
pub from_item : {A : Type 0} (items : List A) (i : ℕ) (item : A) → i < length items →
    item ≡ get_or items i item → drop i items ≡ item ∷ drop (i + 1) items
from_item items i item within is =
    drop-cons items i item within ∙ ap (λ it. it ∷ drop (suc i) items) (sym is)
    ∙ ap (λ n. item ∷ drop n items) (sym (add-one i))

-- the members from this one on
pub next_member : (members : List Name) (k p tree i : ℕ) (x : Name) → i < length members →
    x ≡ get_or members i x →
    map noted (members_from k p tree (drop i members))
    ≡ map noted (members_from k p tree (x ∷ []))
    ++ map noted (members_from k p (tree + 1) (drop (i + 1) members))
next_member members k p tree i x within is =
    ap (λ xs. map noted (members_from k p tree xs)) (from_item members i x within is)

-- the constructors from this one on
pub next_ctor : (decls : List DeclForm) (ctors : List Param) (k p at i : ℕ) (ctor : Param) →
    i < length ctors → ctor ≡ get_or ctors i ctor →
    map noted (ctors_from decls k p at (drop i ctors))
    ≡ map noted (ctors_from decls k p at (ctor ∷ []))
    ++ map noted (ctors_from decls k p (at + trees_of_param ctor) (drop (i + 1) ctors))
next_ctor decls ctors k p at i ctor within is =
    ap (λ cs. map noted (ctors_from decls k p at cs)) (from_item ctors i ctor within is)

-- the trees of the constructors from this one on
pub next_trees : (ctors : List Param) (at i : ℕ) (ctor : Param) → i < length ctors →
    ctor ≡ get_or ctors i ctor →
    at + sum_by trees_of_param (drop i ctors) ≡ 4 + sum_by trees_of_param ctors →
    at + trees_of_param ctor + sum_by trees_of_param (drop (i + 1) ctors)
    ≡ 4 + sum_by trees_of_param ctors
next_trees ctors at i ctor within is counted =
    let here : sum_by trees_of_param (drop i ctors)
    ≡ trees_of_param ctor + sum_by trees_of_param (drop (i + 1) ctors) =
    sum_by-drop_more trees_of_param ctors i ctor within
    ∙ ap (λ it. trees_of_param it + sum_by trees_of_param (drop (i + 1) ctors)) (sym is) in
    omega (arith, here, counted)

-- the declarations from this one on, by its form
pub next_declared : (all : List DeclForm) (k p : ℕ) (decl form : DeclForm) → k < length all →
    decl ≡ get_or all k decl → form ≡ decl →
    map noted (declared_from all k p (drop k all))
    ≡ map noted (declared_in all k p form)
    ++ map noted
    (declared_from all (k + 1) (if is_type_decl form then p + 1 else p) (drop (k + 1) all))
next_declared all k p decl form within is seen =
    let left : DeclForm → List Declared =
    λ d. declared_from all (k + 1) (if is_type_decl d then p + 1 else p) (drop (k + 1) all) in
    ap (λ ds. map noted (declared_from all k p ds)) (from_item all k decl within is)
    ∙ ap (λ d. map noted (declared_in all k p d ++ left d)) (sym seen)
    ∙ map-append noted (declared_in all k p form) (left form)

-- a declaration that has no name declares none
pub none_declared : (decls : List DeclForm) (k p : ℕ) (form : DeclForm) →
    ((x : Name) (members : List Name) → form ≡ d.Enum x members → ⊥) →
    ((x : Name) (ctors : List Param) → form ≡ d.Union x ctors → ⊥) →
    ((x : Name) (fields : List Param) → form ≡ d.Record x fields → ⊥) →
    ((x : Name) (type : TypeName) (kind : RegisterKind) → form ≡ d.Register x type kind → ⊥) →
    ((x : Name) (params : List Param) (i : Name) (e : Expr) → form ≡ d.Region x params i e → ⊥) →
    ((x : Name) (inputs outputs : List Param) (definition : Assertion) →
    form ≡ d.Predicate x inputs outputs definition → ⊥) →
    ((x : Name) (params : List Param) (result : TypeName) (body : Stm) →
    form ≡ d.Fun x params result body → ⊥) →
    ((x : Name) (params names : List Param) (pre post : Assertion) (steps : List Stm) →
    form ≡ d.Lemma x params names pre post steps → ⊥) →
    ((block : Block) → form ≡ d.Block block → ⊥) →
    declared_in decls k p form ≡ []
none_declared decls k p (d.Enum x members) a b c e f g h i j = absurd (a x members refl)
none_declared decls k p (d.Union x ctors) a b c e f g h i j = absurd (b x ctors refl)
none_declared decls k p (d.Record x fields) a b c e f g h i j = absurd (c x fields refl)
none_declared decls k p (d.Register x type kind) a b c e f g h i j = absurd (e x type kind refl)
none_declared decls k p (d.Memory w v lo hi) a b c e f g h i j = refl
none_declared decls k p (d.Cells kind lo hi) a b c e f g h i j = refl
none_declared decls k p (d.Code lo values) a b c e f g h i j = refl
none_declared decls k p (d.Region x params n t) a b c e f g h i j = absurd (f x params n t refl)
none_declared decls k p (d.Predicate x inputs outputs definition) a b c e f g h i j =
    absurd (g x inputs outputs definition refl)
none_declared decls k p (d.Fun x params result body) a b c e f g h i j =
    absurd (h x params result body refl)
none_declared decls k p (d.Contract x names pre y post) a b c e f g h i j = refl
none_declared decls k p (d.Lemma x params names pre post steps) a b c e f g h i j =
    absurd (i x params names pre post steps refl)
none_declared decls k p (d.Step x) a b c e f g h i j = refl
none_declared decls k p (d.Dispatch cases otherwise) a b c e f g h i j = refl
none_declared decls k p (d.Untrusted holds) a b c e f g h i j = refl
none_declared decls k p (d.Block block) a b c e f g h i j = absurd (j block refl)
none_declared decls k p (d.Boot x) a b c e f g h i j = refl
