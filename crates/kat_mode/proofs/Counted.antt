-- How many inputs predicates have, counted one declaration after another.
use Rattle.std.proofs.Common.{◌≡◌, ℕ, ◌+◌, ◌<◌, Bool, true, false, if◌then◌else◌, List, [], ◌∷◌, ◌++◌, length, drop, get_or, Option, None, Some, refl, sym, ap, subst, ◌∙◌}
use Rattle.std.specs.Prelude.{is_some, unwrap_or}
use Rattle.std.specs.Option.{option_or}
use Rattle.std.specs.Str.{bytes_eq}
use Rattle.std.proofs.lemmas.Slice.Eq.{bytes_eq-Decides}
use Rattle.kat_ast.specs.declared.decl.DeclForm.{DeclForm}
use Rattle.kat_ast.specs.declared.decl.DeclForm.TheVariants as d
use Rattle.kat_syntax.specs.Tables.{Name}
use Rattle.kat_syntax.specs.NamedItems.{Item, found, added}
use Rattle.kat_syntax.specs.Modes.{inputs_among}
use Rattle.kat_mode.specs.Inputs.{predicate_in}
use Rattle.kat_mode.proofs.Binding.{rest_is}

-- one more name is found where no earlier one is the same
found_push : (all : List (Item ℕ)) (name : Name) (item : ℕ) (x : Name) →
    found (all ++ record { name = name; item = item } ∷ []) x ≡ option_or (found all x)
    (if bytes_eq name x then Some item else None)
found_push [] name item x = refl
found_push (one ∷ more) name item x =
    elim (bytes_eq one.name x) as
    (λ b. (if b then Some one.item else found (more ++ record { name = name; item = item } ∷ []) x)
    ≡ option_or (if b then Some one.item else found more x)
    (if bytes_eq name x then Some item else None))
    [ true ↦ refl | false ↦ found_push more name item x ]

-- a name that is found already changes nothing
again_from : (item : ℕ) (f : Option ℕ) (b : Bool) → (b ≡ true → is_some f ≡ true) →
    f ≡ option_or f (if b then Some item else None)
again_from item (Some v) b there = refl
again_from item None false there = refl
again_from item None true there = absurd (cc (there refl))

added_from : (all : List (Item ℕ)) (name : Name) (item : ℕ) (x : Name) (b : Bool) →
    is_some (found all name) ≡ b →
    found (if b then all else all ++ record { name = name; item = item } ∷ []) x ≡
    option_or (found all x) (if bytes_eq name x then Some item else None)
added_from all name item x false is = found_push all name item x
added_from all name item x true is =
    again_from item (found all x) (bytes_eq name x)
    (λ e. subst (λ y. is_some (found all y) ≡ true) ((bytes_eq-Decides name x).0 e) is)

-- a count that is found, or the one that is first among what is left
abbrev pub CountedTo : List DeclForm → ℕ → List (Item ℕ) → Type 0
CountedTo decls i counts = (p : Name) →
    unwrap_or (found counts p) (inputs_among (drop i decls) p) ≡ inputs_among decls p

or_first : (f : Option ℕ) (b : Bool) (n rest : ℕ) →
    unwrap_or (option_or f (if b then Some n else None)) rest ≡ unwrap_or f (if b then n else rest)
or_first (Some v) b n rest = refl
or_first None true n rest = refl
or_first None false n rest = refl

-- the count of a name, where a declaration declares this predicate
abbrev pub count_with : Option (Name × ℕ) → ℕ → Name → ℕ
count_with None rest p = rest
count_with (Some one) rest p = if bytes_eq one.0 p then one.1 else rest

-- a declaration counts by the predicate that it declares
next_count : (decl : DeclForm) (decls : List DeclForm) (p : Name) →
    inputs_among (decl ∷ decls) p ≡ count_with (predicate_in decl) (inputs_among decls p) p
next_count (d.Enum x members) decls p = refl
next_count (d.Union x ctors) decls p = refl
next_count (d.Record x fields) decls p = refl
next_count (d.Register x type kind) decls p = refl
next_count (d.Memory a c lo hi) decls p = refl
next_count (d.Cells kind lo hi) decls p = refl
next_count (d.Code lo values) decls p = refl
next_count (d.Region x params i e) decls p = refl
next_count (d.Predicate x inputs outputs definition) decls p = refl
next_count (d.Fun x params result body) decls p = refl
next_count (d.Contract f names pre x post) decls p = refl
next_count (d.Lemma x params names pre post steps) decls p = refl
next_count (d.Step f) decls p = refl
next_count (d.Dispatch cases otherwise) decls p = refl
next_count (d.Untrusted holds) decls p = refl
next_count (d.Block block) decls p = refl
next_count (d.Boot x) decls p = refl

-- what is left at a declaration counts as this
count_here : (decls : List DeclForm) (i : ℕ) (decl : DeclForm) (declared : Option (Name × ℕ))
    (p : Name) → i < length decls → decl ≡ get_or decls i decl → predicate_in decl ≡ declared →
    inputs_among (drop i decls) p ≡ count_with declared (inputs_among (drop (i + 1) decls) p) p
count_here decls i decl declared p within is form =
    ap (λ ds. inputs_among ds p) (rest_is decls i decl within is)
    ∙ next_count decl (drop (i + 1) decls) p
    ∙ ap (λ one. count_with one (inputs_among (drop (i + 1) decls) p) p) form

-- one more predicate
pub predicate_counted : (decls : List DeclForm) (i : ℕ) (decl : DeclForm) (x : Name) (n : ℕ)
    (counts new : List (Item ℕ)) → i < length decls → decl ≡ get_or decls i decl →
    predicate_in decl ≡ Some (x, n) → CountedTo decls i counts → new ≡ added counts x n →
    CountedTo decls (i + 1) new
predicate_counted decls i decl x n counts new within is form so_far more = λ p.
    ap (λ c. unwrap_or (found c p) (inputs_among (drop (i + 1) decls) p)) more
    ∙ ap (λ f. unwrap_or f (inputs_among (drop (i + 1) decls) p))
    (added_from counts x n p (is_some (found counts x)) refl)
    ∙ or_first (found counts p) (bytes_eq x p) n (inputs_among (drop (i + 1) decls) p)
    ∙ ap (unwrap_or (found counts p)) (sym (count_here decls i decl (Some (x, n)) p within is form))
    ∙ so_far p

-- a declaration that is none
pub other_counted : (decls : List DeclForm) (i : ℕ) (decl : DeclForm) (counts : List (Item ℕ)) →
    i < length decls → decl ≡ get_or decls i decl → predicate_in decl ≡ None →
    CountedTo decls i counts → CountedTo decls (i + 1) counts
other_counted decls i decl counts within is form so_far = λ p.
    ap (unwrap_or (found counts p)) (sym (count_here decls i decl None p within is form))
    ∙ so_far p
