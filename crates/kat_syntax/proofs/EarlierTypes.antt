-- In the table of types of a typed specification each type names earlier ones alone.
use Rattle.std.proofs.Common.{inl, inr, ◌≡◌, ℕ, zero, suc, ◌+◌, ◌≤◌, ◌&&◌, nat_lt, Bool, true, false, if◌then◌else◌, is_some, List, [], ◌∷◌, ◌++◌, length, slice_get, Option, None, Some, refl, sym, ap, subst, ◌∙◌, arith, append_assoc, length-append}
use Rattle.std.specs.Prelude.{◌⊎◌, unwrap_or, option_and_then}
use Rattle.std.specs.List.{AllByRecursion}
use Rattle.std.specs.Str.{bytes_eq}
use Rattle.std.proofs.lemmas.Bool.{and_parts}
use Rattle.std.proofs.lemmas.Bool.Decides.{nat_tests}
use Rattle.kat_value.specs.declared.types.Field.{Field}
use Rattle.kat_value.specs.declared.types.Ty.{Ty}
use Rattle.kat_value.specs.declared.types.Ty.TheVariants as ty
use Rattle.kat_value.specs.declared.types.TypeDecl.{TypeDecl}
use Rattle.kat_value.specs.declared.types.TypeDecl.TheVariants as type
use Rattle.kat_value.specs.Widths.{is_width}
use Rattle.kat_ast.specs.declared.type_name.TypeName.{TypeName}
use Rattle.kat_ast.specs.declared.type_name.TypeName.TheVariants.{Unit as UnitName, Bool as BoolName, Bits as BitsName, Named}
use Rattle.kat_ast.specs.declared.type_name.Param.{Param}
use Rattle.kat_ast.specs.declared.decl.DeclForm.{DeclForm}
use Rattle.kat_ast.specs.declared.decl.DeclForm.TheVariants as d
use Rattle.kat_ast.specs.Types.{trees_of_param}
use Rattle.kat_ast.specs.Spec.{Spec}
use Rattle.kat_syntax.specs.declared.type_rule.TypeRule.TheVariants.{NoWidth, TypeUnknown, TooMany}
use Rattle.kat_syntax.specs.Tables.{Name}
use Rattle.kat_syntax.specs.TypeRules.{Fault, unless}
use Rattle.kat_syntax.specs.Declares.{TypeHead, type_heads_from, type_heads, type_named, if_before}
use Rattle.kat_syntax.specs.DeclaredTypes.{type_declared}
use Rattle.kat_syntax.specs.Around.{Around}
use Rattle.kat_syntax.specs.TypesWritten.{type_faults_at}
use Rattle.kat_syntax.specs.TypingDeclarations.{decl_faults, inner_faults, taken_names, own_names, is_in_limits, ctor_faults, field_faults}
use Rattle.kat_syntax.specs.FirstTypeFault.{IsTyped, faults_from}
use Rattle.kat_syntax.specs.TypeTable.{no_type, named_type, fields_of, type_declared_by, with_type, types_from, types_of_decls, is_enum, is_union, is_record, may_stand_in, parts_of_type, NamesEarlierTypes}
use Rattle.kat_syntax.proofs.NoFaults.{empty_first, empty_second, met}
use Rattle.kat_syntax.proofs.Heading.{heads_with, next_head}

-- a type may stand at a position
abbrev pub Stands : List TypeDecl → ℕ → Ty → Type 0
Stands types p t = may_stand_in types p t ≡ true

-- what is earlier than a position is earlier than the next
earlier_still : (q p : ℕ) (b : Bool) → (nat_lt q p && b) ≡ true → (nat_lt q (p + 1) && b) ≡ true
earlier_still q p b e =
    let parts = and_parts (nat_lt q p) b e in
    let first = parts.0 in
    let more : nat_lt q (p + 1) ≡ true = grind (arith, nat_tests) in
    ap (λ c. c && b) more ∙ parts.1

stands_further : (types : List TypeDecl) (p : ℕ) (t : Ty) → Stands types p t →
    Stands types (p + 1) t
stands_further types p ty.Unit e = refl
stands_further types p ty.Bool e = refl
stands_further types p (ty.Bits w) e = e
stands_further types p (ty.Enum q) e = earlier_still q p (is_enum (slice_get types q)) e
stands_further types p (ty.Union q) e = earlier_still q p (is_union (slice_get types q)) e
stands_further types p (ty.Rec q) e = earlier_still q p (is_record (slice_get types q)) e

-- a head is one of these
abbrev pub IsAmong : TypeHead → List TypeHead → Type 0
IsAmong h [] = ⊥
IsAmong h (one ∷ heads) = (h ≡ one) ⊎ IsAmong h heads

some_is : {A : Type 0} (x y : A) → Some x ≡ Some y → x ≡ y
some_is x y e = cc

named_by : (b : Bool) (one h : TypeHead) (rest : Option TypeHead) (P : Type 0) →
    (if b then Some one else rest) ≡ Some h → (rest ≡ Some h → P) → (h ≡ one) ⊎ P
named_by true one h rest P e there = inl (sym (some_is one h e))
named_by false one h rest P e there = inr (there e)

-- the first of a name is among them
named_among : (heads : List TypeHead) (x : Name) (h : TypeHead) → type_named heads x ≡ Some h →
    IsAmong h heads
named_among [] x h e = absurd (let f : None ≡ Some h = e in cc)
named_among (one ∷ heads) x h e =
    named_by (bytes_eq one.name x) one h (type_named heads x) (IsAmong h heads) e
    (named_among heads x h)

-- the heads from a declaration on are of declarations from there on
from_with : (k p : ℕ) (o : Option (Name × Ty)) (decls : List DeclForm) (h : TypeHead) →
    (IsAmong h (type_heads_from (k + 1) p decls) → k + 1 ≤ h.decl) →
    (IsAmong h (type_heads_from (k + 1) (p + 1) decls) → k + 1 ≤ h.decl) →
    IsAmong h (heads_with k p o decls) → k ≤ h.decl
from_with k p None decls h none some among = let far = none among in omega (arith, far)
from_with k p (Some one) decls h none some (inl same) =
    let here = ap (λ (one : TypeHead). one.decl) same in omega (arith, here)
from_with k p (Some one) decls h none some (inr among) = let far = some among in omega (arith, far)

from_here_on : (k p : ℕ) (decls : List DeclForm) (h : TypeHead) →
    IsAmong h (type_heads_from k p decls) → k ≤ h.decl
from_here_on k p [] h among = absurd among
from_here_on k p (decl ∷ decls) h among =
    from_with k p (type_declared p decl) decls h (from_here_on (k + 1) p decls h)
    (from_here_on (k + 1) (p + 1) decls h)
    (subst (IsAmong h) (next_head k p decl decls) among)

-- each declared type may stand at this position, or is among those to come
abbrev pub IsKnown : List TypeDecl → ℕ → List TypeHead → List TypeHead → Type 0
IsKnown types p heads rest =
    (h : TypeHead) → IsAmong h heads → Stands types p h.type ⊎ IsAmong h rest

known_by : (types : List TypeDecl) (p : ℕ) (one h : TypeHead) (rest : List TypeHead) →
    Stands types (p + 1) one.type → Stands types p h.type ⊎ ((h ≡ one) ⊎ IsAmong h rest) →
    Stands types (p + 1) h.type ⊎ IsAmong h rest
known_by types p one h rest here (inl stands) = inl (stands_further types p h.type stands)
known_by types p one h rest here (inr (inl same)) =
    inl (subst (λ (h : TypeHead). Stands types (p + 1) h.type) (sym same) here)
known_by types p one h rest here (inr (inr among)) = inr among

-- one more declared type
known_next : (types : List TypeDecl) (p : ℕ) (one : TypeHead) (heads rest : List TypeHead) →
    IsKnown types p heads (one ∷ rest) → Stands types (p + 1) one.type →
    IsKnown types (p + 1) heads rest
known_next types p one heads rest known here = λ h among.
    known_by types p one h rest here (known h among)

before_by : (types : List TypeDecl) (k p : ℕ) (h : TypeHead) (c : Bool) → nat_lt h.decl k ≡ c →
    Stands types p h.type ⊎ (k ≤ h.decl) →
    is_some (if c then Some h.type else None) ≡ true →
    Stands types p (unwrap_or (if c then Some h.type else None) no_type)
before_by types k p h true lt (inl stands) e = stands
before_by types k p h true lt (inr far) e =
    absurd (let no : nat_lt h.decl k ≡ false = grind (arith, nat_tests) in cc)
before_by types k p h false lt known e = absurd (cc)

found_by : (types : List TypeDecl) (k p : ℕ) (f : Option TypeHead) →
    ((h : TypeHead) → f ≡ Some h → Stands types p h.type ⊎ (k ≤ h.decl)) →
    is_some (option_and_then (if_before k) f) ≡ true →
    Stands types p (unwrap_or (option_and_then (if_before k) f) no_type)
found_by types k p None known e = absurd (let f : false ≡ true = e in cc)
found_by types k p (Some h) known e =
    before_by types k p h (nat_lt h.decl k) refl (known h refl) e

or_far : (types : List TypeDecl) (k p : ℕ) (decls : List DeclForm) (h : TypeHead) →
    Stands types p h.type ⊎ IsAmong h (type_heads_from k p decls) →
    Stands types p h.type ⊎ (k ≤ h.decl)
or_far types k p decls h (inl stands) = inl stands
or_far types k p decls h (inr among) = inr (from_here_on k p decls h among)

-- a written type without a fault may stand in the type that is declared here
written_stands : (types : List TypeDecl) (all : List DeclForm) (k p : ℕ) (decls : List DeclForm)
    (at : ℕ) (name : TypeName) →
    IsKnown types p (type_heads all) (type_heads_from k p decls) →
    type_faults_at (record { decls = all; number = k }) at name ≡ [] →
    Stands types p (named_type all k name)
written_stands types all k p decls at UnitName known e = refl
written_stands types all k p decls at BoolName known e = refl
written_stands types all k p decls at (BitsName w) known e =
    let is = met (is_width w) (at + 2) NoWidth e in
    ap (λ b. may_stand_in types p (unwrap_or (if b then Some (ty.Bits w) else None) no_type)) is
    ∙ is
written_stands types all k p decls at (Named x) known e =
    found_by types k p (type_named (type_heads all) x)
    (λ h found. or_far types k p decls h (known h (named_among (type_heads all) x h found)))
    (met _ at TypeUnknown e)

-- each part may stand in a type at this position
abbrev pub PartsStand : List TypeDecl → ℕ → List Field → Type 0
PartsStand types p parts = AllByRecursion (λ (part : Field). Stands types p part.ty) parts

-- constructors without faults
ctors_stand : (types : List TypeDecl) (all : List DeclForm) (k p : ℕ) (decls : List DeclForm)
    (at : ℕ) (ctors : List Param) →
    IsKnown types p (type_heads all) (type_heads_from k p decls) →
    ctor_faults (record { decls = all; number = k }) at ctors ≡ [] →
    PartsStand types p (fields_of all k ctors)
ctors_stand types all k p decls at [] known e = tt
ctors_stand types all k p decls at (ctor ∷ ctors) known e =
    let around : Around = record { decls = all; number = k } in
    let here = type_faults_at around (at + 2) ctor.ty in
    let rest = ctor_faults around (at + trees_of_param ctor) ctors in (
      written_stands types all k p decls (at + 2) ctor.ty known (empty_first here rest e),
      ctors_stand types all k p decls (at + trees_of_param ctor) ctors known
          (empty_second here rest e),
    )

-- fields without faults
fields_stand : (types : List TypeDecl) (all : List DeclForm) (k p : ℕ) (decls : List DeclForm)
    (names : List Name) (at : ℕ) (fields : List Param) →
    IsKnown types p (type_heads all) (type_heads_from k p decls) →
    field_faults (record { decls = all; number = k }) names at fields ≡ [] →
    PartsStand types p (fields_of all k fields)
fields_stand types all k p decls names at [] known e = tt
fields_stand types all k p decls names at (field ∷ fields) known e =
    let around : Around = record { decls = all; number = k } in
    let here = type_faults_at around (at + 2) field.ty in
    let rest = field_faults around (names ++ field.name ∷ []) (at + trees_of_param field) fields in
    let both = empty_second _ (here ++ rest) e in (
      written_stands types all k p decls (at + 2) field.ty known (empty_first here rest both),
      fields_stand types all k p decls (names ++ field.name ∷ []) (at + trees_of_param field) fields
          known (empty_second here rest both),
    )

-- what a declaration declares: no type, or one whose parts may stand in it
data Step (types : List TypeDecl) (all : List DeclForm) (k p : ℕ) (rest : List DeclForm)
    (decl : DeclForm) : Type 0 where
  NoType : type_declared p decl ≡ None → type_declared_by all k decl ≡ None →
      Step types all k p rest decl
  OneType : (one : Name × Ty) (declared : TypeDecl) → type_declared p decl ≡ Some one →
      type_declared_by all k decl ≡ Some declared →
      (slice_get types p ≡ Some declared → Stands types (p + 1) one.1) →
      PartsStand types p (parts_of_type declared) → Step types all k p rest decl

-- a position is before the next, and what is known of what stands there holds
stands_now : (p : ℕ) (b : Bool) → b ≡ true → (nat_lt p (p + 1) && b) ≡ true
stands_now p b e =
    let less : nat_lt p (p + 1) ≡ true = grind (arith, nat_tests) in
    ap (λ c. c && b) less ∙ e

step_of : (types : List TypeDecl) (all : List DeclForm) (k p : ℕ) (rest : List DeclForm)
    (decl : DeclForm) → IsKnown types p (type_heads all) (type_heads_from k p rest) →
    inner_faults (record { decls = all; number = k }) decl ≡ [] → Step types all k p rest decl
step_of types all k p rest (d.Enum x members) known e =
    OneType (x, ty.Enum p) (type.Enum x members) refl refl
    (λ at. stands_now p (is_enum (slice_get types p)) (ap is_enum at)) tt
step_of types all k p rest (d.Union x ctors) known e =
    OneType (x, ty.Union p) (type.Union x (fields_of all k ctors)) refl refl
    (λ at. stands_now p (is_union (slice_get types p)) (ap is_union at))
    (ctors_stand types all k p rest 4 ctors known e)
step_of types all k p rest (d.Record x fields) known e =
    OneType (x, ty.Rec p) (type.Rec x (fields_of all k fields)) refl refl
    (λ at. stands_now p (is_record (slice_get types p)) (ap is_record at))
    (fields_stand types all k p rest [] 4 fields known e)
step_of types all k p rest (d.Register x type kind) known e = NoType refl refl
step_of types all k p rest (d.Memory a c lo hi) known e = NoType refl refl
step_of types all k p rest (d.Cells kind lo hi) known e = NoType refl refl
step_of types all k p rest (d.Code lo values) known e = NoType refl refl
step_of types all k p rest (d.Region x params i j) known e = NoType refl refl
step_of types all k p rest (d.Predicate x inputs outputs definition) known e = NoType refl refl
step_of types all k p rest (d.Fun x params result body) known e = NoType refl refl
step_of types all k p rest (d.Contract f names pre x post) known e = NoType refl refl
step_of types all k p rest (d.Lemma x params names pre post steps) known e = NoType refl refl
step_of types all k p rest (d.Step f) known e = NoType refl refl
step_of types all k p rest (d.Dispatch cases otherwise) known e = NoType refl refl
step_of types all k p rest (d.Untrusted holds) known e = NoType refl refl
step_of types all k p rest (d.Block block) known e = NoType refl refl
step_of types all k p rest (d.Boot x) known e = NoType refl refl

-- the type behind those so far
behind : (before : List TypeDecl) (one : TypeDecl) (rest : List TypeDecl) →
    slice_get (before ++ one ∷ rest) (length before) ≡ Some one
behind [] one rest = refl
behind (first ∷ before) one rest = behind before one rest

-- the types from a position on are such that their parts may stand in them
abbrev pub AllStand : List TypeDecl → ℕ → List TypeDecl → Type 0
AllStand types p rest = (j : ℕ) (one : TypeDecl) → slice_get rest j ≡ Some one →
    PartsStand types (p + j) (parts_of_type one)

one_more : (types : List TypeDecl) (p : ℕ) (first : TypeDecl) (rest : List TypeDecl) →
    PartsStand types p (parts_of_type first) → AllStand types (p + 1) rest →
    AllStand types p (first ∷ rest)
one_more types p first rest here there zero one at =
    let same : p ≡ p + 0 = omega arith in
    subst (λ q. PartsStand types q (parts_of_type one)) same
    (subst (λ t. PartsStand types p (parts_of_type t)) (some_is first one at) here)
one_more types p first rest here there (suc j) one at =
    let same : p + 1 + j ≡ p + suc j = omega arith in
    subst (λ q. PartsStand types q (parts_of_type one)) same (there j one at)

none_at : (types : List TypeDecl) (p : ℕ) → AllStand types p []
none_at types p zero one at = absurd (let f : None ≡ Some one = at in cc)
none_at types p (suc j) one at = absurd (let f : None ≡ Some one = at in cc)

-- the walk over the rest of the declarations, behind the types before
abbrev pub Walks : List DeclForm → List DeclForm → Type 0
Walks all decls = (k p : ℕ) (before : List TypeDecl) → length before ≡ p →
    before ++ types_from all k decls ≡ types_of_decls all →
    IsKnown (types_of_decls all) p (type_heads all) (type_heads_from k p decls) →
    AllByRecursion (λ (faults : List Fault). faults ≡ []) (faults_from all k decls) →
    AllStand (types_of_decls all) p (types_from all k decls)

walk_step : (all : List DeclForm) (k p : ℕ) (decl : DeclForm) (decls : List DeclForm)
    (before : List TypeDecl) → Walks all decls → length before ≡ p →
    before ++ types_from all k (decl ∷ decls) ≡ types_of_decls all →
    IsKnown (types_of_decls all) p (type_heads all) (type_heads_from k p (decl ∷ decls)) →
    AllByRecursion (λ (faults : List Fault). faults ≡ []) (faults_from all (k + 1) decls) →
    Step (types_of_decls all) all k p (decl ∷ decls) decl →
    AllStand (types_of_decls all) p (types_from all k (decl ∷ decls))
walk_step all k p decl decls before walks long whole known clean (NoType none none_by) =
    let types = types_of_decls all in
    let same : types_from all k (decl ∷ decls) ≡ types_from all (k + 1) decls =
    ap (λ o. with_type o (types_from all (k + 1) decls)) none_by in
    let heads : type_heads_from k p (decl ∷ decls) ≡ type_heads_from (k + 1) p decls =
    next_head k p decl decls ∙ ap (λ o. heads_with k p o decls) none in
    subst (AllStand types p) (sym same)
    (walks (k + 1) p before long (ap (λ ts. before ++ ts) (sym same) ∙ whole)
    (subst (IsKnown types p (type_heads all)) heads known) clean)
walk_step all k p decl decls before walks long whole known clean
    (OneType one declared some some_by here parts) =
    let types = types_of_decls all in
    let rest = types_from all (k + 1) decls in
    let same : types_from all k (decl ∷ decls) ≡ declared ∷ rest =
    ap (λ o. with_type o rest) some_by in
    let head : TypeHead = record { decl = k; name = one.0; type = one.1 } in
    let heads : type_heads_from k p (decl ∷ decls)
    ≡ head ∷ type_heads_from (k + 1) (p + 1) decls =
    next_head k p decl decls ∙ ap (λ o. heads_with k p o decls) some in
    let there : before ++ declared ∷ rest ≡ types = ap (λ ts. before ++ ts) (sym same) ∙ whole in
    let at : slice_get types p ≡ Some declared =
    ap (slice_get types) (sym long) ∙ ap (λ ts. slice_get ts (length before)) (sym there)
    ∙ behind before declared rest in
    let longer : length (before ++ declared ∷ []) ≡ p + 1 =
    length-append before (declared ∷ []) ∙ ap (λ n. n + 1) long in
    subst (AllStand types p) (sym same)
    (one_more types p declared rest parts
    (walks (k + 1) (p + 1) (before ++ declared ∷ []) longer
    (append_assoc before (declared ∷ []) rest ∙ there)
    (known_next types p head (type_heads all) (type_heads_from (k + 1) (p + 1) decls)
    (subst (IsKnown types p (type_heads all)) heads known) (here at)) clean))

-- what a declaration's own faults are, behind those of its names and its limits
pub inner_clean : (all : List DeclForm) (k : ℕ) (decl : DeclForm) →
    decl_faults (record { decls = all; number = k }) decl ≡ [] →
    inner_faults (record { decls = all; number = k }) decl ≡ []
inner_clean all k decl e =
    let around : Around = record { decls = all; number = k } in
    let inner = inner_faults around decl in
    let limits = unless (is_in_limits around decl) 0 TooMany in
    empty_second limits inner
    (empty_second (taken_names around (own_names around decl)) (limits ++ inner) e)

walk : (all decls : List DeclForm) → Walks all decls
walk all [] = λ k p before long whole known clean. none_at (types_of_decls all) p
walk all (decl ∷ decls) = λ k p before long whole known clean.
    walk_step all k p decl decls before (walk all decls) long whole known clean.1
    (step_of (types_of_decls all) all k p (decl ∷ decls) decl known
    (inner_clean all k decl clean.0))

-- in a typed specification each type names earlier ones alone
pub types_name_earlier : (spec : Spec) → IsTyped spec →
    NamesEarlierTypes (types_of_decls spec.decls)
types_name_earlier spec typed = λ p one at.
    let all = spec.decls in
    let same : 0 + p ≡ p = omega arith in
    subst (λ q. PartsStand (types_of_decls all) q (parts_of_type one)) same
    (walk all all 0 0 [] refl refl (λ h among. inr among) typed p one at)
