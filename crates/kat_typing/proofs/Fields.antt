-- Fields that are judged one after another, with a table of their names.
use Rattle.std.proofs.Common.{◌≡◌, ℕ, ◌+◌, ◌<◌, Bool, true, false, not, ◌||◌, if◌then◌else◌, List, [], ◌∷◌, ◌++◌, map, take, drop, length, get_or, sum_by, Option, None, Some, refl, sym, ap, subst, ◌∙◌, arith}
use Rattle.std.proofs.lemmas.List.{take_more, drop_more}
use Rattle.std.proofs.lemmas.List.Sums.{sum_by-drop_more}
use Rattle.std.specs.Prelude.{is_some}
use Rattle.std.specs.List.{list_any}
use Rattle.std.specs.Str.{bytes_eq}
use Rattle.std.proofs.lemmas.Slice.Eq.{bytes_eq-Decides}
use Rattle.kat_ast.specs.declared.type_name.Param.{Param}
use Rattle.kat_ast.specs.Types.{trees_of_param}
use Rattle.kat_syntax.specs.Tables.{Name}
use Rattle.kat_syntax.specs.declared.type_rule.TypeRule.TheVariants.{NameTaken}
use Rattle.kat_syntax.specs.TypeRules.{Fault, least_with, unless}
use Rattle.kat_syntax.specs.Around.{Around}
use Rattle.kat_syntax.specs.TypesWritten.{type_faults_at}
use Rattle.kat_syntax.specs.TypingDeclarations.{field_faults}
use Rattle.kat_syntax.specs.NamedItems.{Item, found, added}
use Rattle.kat_typing.proofs.Noting.{least_both}

-- the names of fields
abbrev pub names_of : List Param → List Name
names_of fields = map (λ (field : Param). field.name) fields

-- a table finds exactly these names
pub record Knows {A : Type 0} (named : List (Item A)) (names : List Name) : Type 0 where
  pub finds : (x : Name) → is_some (found named x) ≡ list_any (bytes_eq x) names

-- so many fields are judged: the tree of the next, the names so far, and what is noted and what is
-- to come make the whole
pub record Judged {A : Type 0} (around : Around) (fields : List Param) (k at : ℕ)
    (named : List (Item A)) (old now : Option Fault) : Type 0 where
  pub place : at + sum_by trees_of_param (drop k fields) ≡ 4 + sum_by trees_of_param fields
  pub known : Knows named (names_of (take k fields))
  pub noted : least_with now (field_faults around (names_of (take k fields)) at (drop k fields))
      ≡ least_with old (field_faults around [] 4 fields)

-- a name at the end of some
any_push : (x y : Name) (names : List Name) →
    list_any (bytes_eq x) (names ++ y ∷ []) ≡ (list_any (bytes_eq x) names || bytes_eq x y)
any_push x y [] = elim (bytes_eq x y) as (λ b. (b || false) ≡ b) [ true ↦ refl | false ↦ refl ]
any_push x y (name ∷ names) =
    elim (bytes_eq x name) as
    (λ b. (b || list_any (bytes_eq x) (names ++ y ∷ []))
    ≡ ((b || list_any (bytes_eq x) names) || bytes_eq x y))
    [ true ↦ refl | false ↦ any_push x y names ]

-- two tests that follow from each other are one
one_truth : (a b : Bool) → (a ≡ true → b ≡ true) → (b ≡ true → a ≡ true) → a ≡ b
one_truth true true f g = refl
one_truth false false f g = refl
one_truth true false f g = sym (f refl)
one_truth false true f g = g refl

-- whether two names are the same does not depend on their order
same_either_way : (x y : Name) → bytes_eq x y ≡ bytes_eq y x
same_either_way x y =
    one_truth (bytes_eq x y) (bytes_eq y x)
    (λ e. (bytes_eq-Decides y x).1 (sym ((bytes_eq-Decides x y).0 e)))
    (λ e. (bytes_eq-Decides x y).1 (sym ((bytes_eq-Decides y x).0 e)))

-- a name more at the end is found
found_push : {A : Type 0} (all : List (Item A)) (y : Name) (item : A) (x : Name) →
    is_some (found (all ++ record { name = y; item = item } ∷ []) x)
    ≡ (is_some (found all x) || bytes_eq y x)
found_push {A = A} [] y item x =
    elim (bytes_eq y x) as (λ (b : Bool). is_some {T = A} (if b then Some item else None) ≡ b)
    [ true ↦ refl | false ↦ refl ]
found_push (one ∷ more) y item x =
    elim (bytes_eq one.name x) as
    (λ b. is_some (if b then Some one.item
    else found (more ++ record { name = y; item = item } ∷ []) x)
    ≡ (is_some (if b then Some one.item else found more x) || bytes_eq y x))
    [ true ↦ refl | false ↦ found_push more y item x ]

-- a name that is there already changes nothing
again : (f b : Bool) → (b ≡ true → f ≡ true) → f ≡ (f || b)
again true b there = refl
again false false there = refl
again false true there = there refl

-- what is found, by whether the name is there already
found_from : {A : Type 0} (all : List (Item A)) (y : Name) (item : A) (x : Name) (b : Bool) →
    is_some (found all y) ≡ b →
    is_some (found (if b then all else all ++ record { name = y; item = item } ∷ []) x)
    ≡ (is_some (found all x) || bytes_eq y x)
found_from all y item x false is = found_push all y item x
found_from all y item x true is =
    again (is_some (found all x)) (bytes_eq y x)
    (λ e. subst (λ z. is_some (found all z) ≡ true) ((bytes_eq-Decides y x).0 e) is)

-- a table with a name more finds exactly the names with this one
knows_more : {A : Type 0} (named : List (Item A)) (names : List Name) (y : Name) (item : A) →
    Knows named names → Knows (added named y item) (names ++ y ∷ [])
knows_more named names y item known = record {
  finds = λ x.
      found_from named y item x (is_some (found named y)) refl
      ∙ ap (λ b. b || bytes_eq y x) (known.finds x)
      ∙ ap (λ b. list_any (bytes_eq x) names || b) (same_either_way y x)
      ∙ sym (any_push x y names);
}

-- the names of fields with one more
names_push : (fields : List Param) (field : Param) →
    names_of (fields ++ field ∷ []) ≡ names_of fields ++ field.name ∷ []
names_push [] field = refl
names_push (one ∷ fields) field = ap (λ names. one.name ∷ names) (names_push fields field)

-- the faults of fields of which the first is noted
noted_more : (around : Around) (names : List Name) (at trees : ℕ) (field : Param)
    (fields : List Param) (is_new : Bool) (now mid next : Option Fault) →
    is_new ≡ not (list_any (bytes_eq field.name) names) → trees ≡ trees_of_param field →
    mid ≡ least_with now (unless is_new (at + 1) NameTaken) →
    next ≡ least_with mid (type_faults_at around (at + 2) field.ty) →
    least_with next (field_faults around (names ++ field.name ∷ []) (at + trees) fields)
    ≡ least_with now (field_faults around names at (field ∷ fields))
noted_more around names at trees field fields is_new now mid next is counted first second =
    let new = not (list_any (bytes_eq field.name) names) in
    let rest = field_faults around (names ++ field.name ∷ []) (at + trees_of_param field) fields in
    let typed = type_faults_at around (at + 2) field.ty in
    let here = unless new (at + 1) NameTaken in
    ap (λ k. least_with next (field_faults around (names ++ field.name ∷ []) (at + k) fields))
    counted
    ∙ ap (λ known. least_with known rest)
    (second ∙ ap (λ known. least_with known typed)
    (first ∙ ap (λ b. least_with now (unless b (at + 1) NameTaken)) is))
    ∙ sym (least_both (least_with now here) typed rest)
    ∙ sym (least_both now here (typed ++ rest))

-- one field more is judged
pub judged_more : {A : Type 0} {around : Around} {fields : List Param} {k at : ℕ}
    {named : List (Item A)} {old now : Option Fault} →
    Judged around fields k at named old now → (field : Param) (item : A) (trees : ℕ)
    (is_new : Bool) (mid next : Option Fault) (more : List (Item A)) →
    k < length fields → field ≡ get_or fields k field →
    is_new ≡ not (is_some (found named field.name)) → trees ≡ trees_of_param field →
    mid ≡ least_with now (unless is_new (at + 1) NameTaken) →
    next ≡ least_with mid (type_faults_at around (at + 2) field.ty) →
    more ≡ added named field.name item →
    Judged around fields (k + 1) (at + trees) more old next
judged_more {A = A} {around} {fields} {k} {at} {named} {old} {now} judged field item trees is_new
    mid next more within is new counted first second adds =
    let left : drop k fields ≡ field ∷ drop (k + 1) fields =
    drop_more fields k field within ∙ ap (λ f. f ∷ drop (k + 1) fields) (sym is) in
    let names : names_of (take (k + 1) fields) ≡ names_of (take k fields) ++ field.name ∷ [] =
    ap names_of (take_more fields k field within ∙ ap (λ f. take k fields ++ f ∷ []) (sym is))
    ∙ names_push (take k fields) field in
    record {
      place =
          let here = sum_by-drop_more trees_of_param fields k field within in
          let same = ap trees_of_param is in
          omega (arith, judged.place, here, same, counted);
      known = rw (names, adds)
          (knows_more named (names_of (take k fields)) field.name item judged.known);
      noted =
          ap (λ xs. least_with next (field_faults around xs (at + trees) (drop (k + 1) fields)))
          names
          ∙ noted_more around (names_of (take k fields)) at trees field (drop (k + 1) fields) is_new
          now mid next (new ∙ ap not (judged.known.finds field.name)) counted first second
          ∙ ap (λ fs. least_with now (field_faults around (names_of (take k fields)) at fs))
          (sym left)
          ∙ judged.noted;
    }
