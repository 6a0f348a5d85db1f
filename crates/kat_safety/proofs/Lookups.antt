-- What typing finds of names is what the tables of the meaning find.
use Rattle.std.proofs.Common.{◌≡◌, ◌∙◌, ℕ, suc, ◌+◌, Bool, true, false, cond, not, List, [], ◌∷◌, ◌++◌, map, length, slice_get, Option, Some, None, refl, ap, sym, subst, if◌then◌else◌, arith}
use Rattle.std.specs.Prelude.{nat_lt, position, unwrap_or}
use Rattle.std.specs.List.{position_or_len}
use Rattle.std.specs.Option.{option_map, option_or}
use Rattle.std.specs.Str.{bytes_eq}
use Rattle.std.proofs.lemmas.Bool.Decides.{nat_tests}
use Rattle.std.proofs.lemmas.Option.{none-some}
use Rattle.std.proofs.lemmas.Slice.Eq.{bytes_eq-Decides}
use Rattle.kat_names.specs.Names.{position_of}
use Rattle.kat_value.specs.declared.types.Field.{Field}
use Rattle.kat_value.specs.declared.types.Ty.{Ty}
use Rattle.kat_value.specs.declared.types.Ty.TheVariants as ty
use Rattle.kat_value.specs.declared.types.TypeDecl.{TypeDecl}
use Rattle.kat_value.specs.declared.types.TypeDecl.TheVariants as type
use Rattle.kat_ast.specs.declared.type_name.Param.{Param}
use Rattle.kat_ast.specs.declared.decl.DeclForm.{DeclForm}
use Rattle.kat_ast.specs.declared.decl.DeclForm.TheVariants as d
use Rattle.kat_ast.specs.Types.{trees_of_param}
use Rattle.kat_syntax.specs.Around.{CtorSeen, a_ctor, a_member}
use Rattle.kat_syntax.specs.Declares.{type_of_name, Declared, Kind, TypeHead, TypedName, ctors_from, declared_from, declared_in, fields_from, look_up, members_from, type_heads_from, type_named, typed_params}
use Rattle.kat_syntax.specs.declared.run_tables.CtorPlace.{CtorPlace}
use Rattle.kat_syntax.specs.NamedValues.{ctor_from, ctors_of, name_of_type, names_of_fields}
use Rattle.kat_syntax.specs.Tables.{Name}
use Rattle.kat_syntax.specs.TypeTable.{field_of, fields_of, no_type, types_from}

-- both sides of a comparison one higher
both_further : (b : Bool) (m l : ℕ) → nat_lt m l ≡ b → nat_lt (suc m) (suc l) ≡ b
both_further true m l e = grind (arith, nat_tests)
both_further false m l e = grind (arith, nat_tests)

first_below : (l : ℕ) → nat_lt 0 (suc l) ≡ true
first_below l = grind (arith, nat_tests)

here_or_next : (b : Bool) (m l : ℕ) →
    cond (nat_lt (cond (not b) (1 + m) 0) (suc l)) (Some (cond (not b) (1 + m) 0)) None
    ≡ (if b then Some 0 else option_map suc (cond (nat_lt m l) (Some m) None))
here_or_next true m l = ap (λ b. cond b (Some 0) None) (first_below l)
here_or_next false m l =
    let one : 1 + m ≡ suc m = omega arith in
    ap (λ k. cond (nat_lt k (suc l)) (Some k) None) one
    ∙ ap (λ b. cond b (Some (suc m)) None) (both_further (nat_lt m l) m l refl)
    ∙ elim (nat_lt m l) as
    (λ b. cond b (Some (suc m)) None ≡ option_map suc (cond b (Some m) None))
    [ true ↦ refl | false ↦ refl ]

-- the first place that a test finds, or one behind it
pub position_next : {X : Type 0} (p : X → Bool) (x : X) (xs : List X) →
    position p (x ∷ xs) ≡ (if p x then Some 0 else option_map suc (position p xs))
position_next p x xs = here_or_next (p x) (position_or_len p xs) (length xs)

-- the test of two names, either way
name_either_way : (x y : Name) → bytes_eq x y ≡ bytes_eq y x
name_either_way x y =
    one_truth (bytes_eq x y) (bytes_eq y x)
    (λ e. (bytes_eq-Decides y x).1 (sym ((bytes_eq-Decides x y).0 e)))
    (λ e. (bytes_eq-Decides x y).1 (sym ((bytes_eq-Decides y x).0 e))) where
      one_truth : (a b : Bool) → (a ≡ true → b ≡ true) → (b ≡ true → a ≡ true) → a ≡ b
      one_truth true true f g = refl
      one_truth false false f g = refl
      one_truth true false f g = sym (f refl)
      one_truth false true f g = g refl

-- the first place of a name, or one behind it
pub name_next : (n : Name) (ns : List Name) (x : Name) →
    position_of (n ∷ ns) x ≡ (if bytes_eq n x then Some 0 else option_map suc (position_of ns x))
name_next n ns x = position_next (bytes_eq x) n ns
    ∙ ap (λ b. if b then Some 0 else option_map suc (position_of ns x)) (name_either_way x n)

-- what is found of two lists
pub look_up_both : {A : Type 0} (kind : Kind A) (xs ys : List Declared) (x : Name) →
    look_up kind (xs ++ ys) x ≡ option_or (look_up kind xs x) (look_up kind ys x)
look_up_both kind [] ys x = refl
look_up_both kind (one ∷ xs) ys x =
    by (bytes_eq one.name x) (kind one.decl one.is) (look_up kind xs x) (look_up kind (xs ++ ys) x)
    (look_up kind ys x) (look_up_both kind xs ys x) where
      by : {A : Type 0} (b : Bool) (here first all second : Option A) → all ≡ option_or first second →
          (if b then option_or here all else all)
          ≡ option_or (if b then option_or here first else first) second
      by true None first all second e = e
      by true (Some a) first all second e = refl
      by false here first all second e = e

-- what is passed over
pub none_either : {A : Type 0} (b : Bool) (more : Option A) →
    (if b then option_or None more else more) ≡ more
none_either true more = refl
none_either false more = refl

-- no member is among constructors, and no constructor among members
pub no_member : (all : List DeclForm) (k p at : ℕ) (ctors : List Param) (x : Name) →
    look_up a_member (ctors_from all k p at ctors) x ≡ None
no_member all k p at [] x = refl
no_member all k p at (ctor ∷ ctors) x =
    none_either (bytes_eq ctor.name x)
    (look_up a_member (ctors_from all k p (at + trees_of_param ctor) ctors) x)
    ∙ no_member all k p (at + trees_of_param ctor) ctors x

pub no_ctor : (k p at : ℕ) (members : List Name) (x : Name) →
    look_up a_ctor (members_from k p at members) x ≡ None
no_ctor k p at [] x = refl
no_ctor k p at (n ∷ members) x =
    none_either (bytes_eq n x) (look_up a_ctor (members_from k p (at + 1) members) x)
    ∙ no_ctor k p (at + 1) members x

-- the member of a name, among those of an enum
pub member_there : (k p at : ℕ) (members : List Name) (x : Name) →
    look_up a_member (members_from k p at members) x
    ≡ option_map (λ i. p) (position_of members x)
member_there k p at [] x = refl
member_there k p at (n ∷ members) x =
    by (bytes_eq n x) (position_of members x) (member_there k p (at + 1) members x)
    ∙ ap (option_map (λ i. p)) (sym (name_next n members x)) where
      by : {rest : Option ℕ} (b : Bool) (o : Option ℕ) → rest ≡ option_map (λ i. p) o →
          (if b then option_or (Some p) rest else rest)
          ≡ option_map (λ i. p) (if b then Some 0 else option_map suc o)
      by true o e = refl
      by false None e = e
      by false (Some i) e = e

-- the number at which a declared type stands among the types
abbrev pub place_of : Ty → ℕ
place_of (ty.Enum q) = q
place_of (ty.Union q) = q
place_of (ty.Rec q) = q
place_of _ = 0

-- a record type, and the names of its fields with their types
pub record IsRecordAt (all : List DeclForm) (one : Option TypeDecl)
    (fields : Option (List TypedName)) : Type 0 where
  pub number : ℕ
  pub name : Name
  pub params : List Param
  pub declared : one ≡ Some (type.Rec name (fields_of all number params))
  pub seen : fields ≡ Some (typed_params all number params)

-- what is declared of a type
abbrev pub HeadParts : List DeclForm → Ty → Option TypeDecl → Option (List TypedName) → Type 0
HeadParts all (ty.Rec q) one fields = IsRecordAt all one fields
HeadParts all _ one fields = Unit {0}

-- the first type of a name stands at its number
pub record IsHeaded (all : List DeclForm) (types : List TypeDecl) (fields : List (List TypedName))
    (p : ℕ) (x : Name) (t : Ty) : Type 0 where
  pub index : ℕ
  pub place : place_of t ≡ p + index
  pub found : position_of (map name_of_type types) x ≡ Some index
  pub parts : HeadParts all t (slice_get types index) (slice_get fields index)

some_is : {A : Type 0} (x y : A) → Some x ≡ Some y → x ≡ y
some_is x y e = cc

head_step : (all : List DeclForm) (types : List TypeDecl) (fields : List (List TypedName)) (p : ℕ)
    (x : Name) (one : TypeDecl) (f : List TypedName) (head h : TypeHead) (rest : Option TypeHead) →
    head.name ≡ name_of_type one → place_of head.type ≡ p →
    HeadParts all head.type (Some one) (Some f) →
    (if bytes_eq head.name x then Some head else rest) ≡ Some h →
    (rest ≡ Some h → IsHeaded all types fields (p + 1) x h.type) →
    IsHeaded all (one ∷ types) (f ∷ fields) p x h.type
head_step all types fields p x one f head h rest named place parts e later =
    by (bytes_eq head.name x) refl e where
      next : position_of (name_of_type one ∷ map name_of_type types) x
          ≡ (if bytes_eq head.name x then Some 0
          else option_map suc (position_of (map name_of_type types) x))
      next = name_next (name_of_type one) (map name_of_type types) x
          ∙ ap (λ (n : Name). if bytes_eq n x then Some 0
          else option_map suc (position_of (map name_of_type types) x)) (sym named)

      by : (b : Bool) → bytes_eq head.name x ≡ b → (if b then Some head else rest) ≡ Some h →
          IsHeaded all (one ∷ types) (f ∷ fields) p x h.type
      by true test e =
          subst (λ (g : TypeHead). IsHeaded all (one ∷ types) (f ∷ fields) p x g.type)
          (some_is head h e) (record {
            index = 0;
            place = place ∙ omega arith;
            found = next ∙ ap (λ b. if b then Some 0
                else option_map suc (position_of (map name_of_type types) x)) test;
            parts = parts;
          })
      by false test e =
          let far = later e in
          let at = far.place in
          record {
            index = suc far.index;
            place = omega (arith, at);
            found = next ∙ ap (λ b. if b then Some 0
                else option_map suc (position_of (map name_of_type types) x)) test
                ∙ ap (option_map suc) far.found;
            parts = far.parts;
          }

pub headed : (all : List DeclForm) (k p : ℕ) (decls : List DeclForm) (x : Name) (h : TypeHead) →
    type_named (type_heads_from k p decls) x ≡ Some h →
    IsHeaded all (types_from all k decls) (fields_from all k decls) p x h.type
headed all k p [] x h e = absurd (none-some h e)
headed all k p (d.Enum n members ∷ decls) x h e =
    head_step all (types_from all (k + 1) decls) (fields_from all (k + 1) decls) p x
    (type.Enum n members) [] (record { decl = k; name = n; type = ty.Enum p }) h
    (type_named (type_heads_from (k + 1) (p + 1) decls) x) refl refl tt e
    (λ later. headed all (k + 1) (p + 1) decls x h later)
headed all k p (d.Union n ctors ∷ decls) x h e =
    head_step all (types_from all (k + 1) decls) (fields_from all (k + 1) decls) p x
    (type.Union n (fields_of all k ctors)) [] (record { decl = k; name = n; type = ty.Union p }) h
    (type_named (type_heads_from (k + 1) (p + 1) decls) x) refl refl tt e
    (λ later. headed all (k + 1) (p + 1) decls x h later)
headed all k p (d.Record n fields ∷ decls) x h e =
    head_step all (types_from all (k + 1) decls) (fields_from all (k + 1) decls) p x
    (type.Rec n (fields_of all k fields)) (typed_params all k fields)
    (record { decl = k; name = n; type = ty.Rec p }) h
    (type_named (type_heads_from (k + 1) (p + 1) decls) x) refl refl
    (record { number = k; name = n; params = fields; declared = refl; seen = refl }) e
    (λ later. headed all (k + 1) (p + 1) decls x h later)
headed all k p (_ ∷ decls) x h e = headed all (k + 1) p decls x h e

-- a member stands among those of the enum at its number
pub record IsMemberAt (types : List TypeDecl) (p : ℕ) (x : Name) (q : ℕ) : Type 0 where
  pub index : ℕ
  pub place : q ≡ p + index
  pub name : Name
  pub members : List Name
  pub declared : slice_get types index ≡ Some (type.Enum name members)
  pub at : ℕ
  pub found : position_of members x ≡ Some at

-- what stands behind one type more
member_later : (one : TypeDecl) (types : List TypeDecl) (p : ℕ) (x : Name) (q : ℕ) →
    IsMemberAt types (p + 1) x q → IsMemberAt (one ∷ types) p x q
member_later one types p x q far =
    let place = far.place in
    record {
      index = suc far.index;
      place = omega (arith, place);
      name = far.name;
      members = far.members;
      declared = far.declared;
      at = far.at;
      found = far.found;
    }

member_step : (types : List TypeDecl) (p : ℕ) (x n : Name) (members : List Name) (q : ℕ)
    (o rest : Option ℕ) → position_of members x ≡ o → option_or (option_map (λ i. p) o) rest ≡ Some q →
    (rest ≡ Some q → IsMemberAt types (p + 1) x q) →
    IsMemberAt (type.Enum n members ∷ types) p x q
member_step types p x n members q None rest at e later =
    member_later (type.Enum n members) types p x q (later e)
member_step types p x n members q (Some i) rest at e later =
    let same = some_is p q e in
    record {
      index = 0;
      place = omega (arith, same);
      name = n;
      members = members;
      declared = refl;
      at = i;
      found = at;
    }

abbrev MembersOf : List DeclForm → List DeclForm → Type 0
MembersOf all decls = (k p : ℕ) (x : Name) (q : ℕ) →
    look_up a_member (declared_from all k p decls) x ≡ Some q →
    IsMemberAt (types_from all k decls) p x q

-- what a declaration's names say, and those behind it
split : {A : Type 0} (kind : Kind A) (xs ys : List Declared) (x : Name) (a : A) →
    look_up kind (xs ++ ys) x ≡ Some a → option_or (look_up kind xs x) (look_up kind ys x) ≡ Some a
split kind xs ys x a e = sym (look_up_both kind xs ys x) ∙ e

passed : {A : Type 0} (kind : Kind A) (xs ys : List Declared) (x : Name) (a : A) →
    look_up kind xs x ≡ None → look_up kind (xs ++ ys) x ≡ Some a → look_up kind ys x ≡ Some a
passed kind xs ys x a none e =
    sym (ap (λ o. option_or o (look_up kind ys x)) none) ∙ split kind xs ys x a e

-- one name that is not of a kind
alone : {A : Type 0} (b : Bool) →
    (let none : Option A = None in if b then option_or none none else none) ≡ None
alone true = refl
alone false = refl

pub members_of_decls : (all decls : List DeclForm) → MembersOf all decls
members_of_decls all [] = λ k p x q e. absurd (none-some q e)
members_of_decls all (d.Enum n members ∷ decls) = λ k p x q e.
    member_step (types_from all (k + 1) decls) p x n members q (position_of members x)
    (look_up a_member (declared_from all (k + 1) (p + 1) decls) x) refl
    (sym (ap (λ o. option_or o (look_up a_member (declared_from all (k + 1) (p + 1) decls) x))
    (none_either (bytes_eq n x) (look_up a_member (members_from k p 4 members) x)
    ∙ member_there k p 4 members x))
    ∙ split a_member (declared_in all k p (d.Enum n members))
    (declared_from all (k + 1) (p + 1) decls) x q e)
    (λ later. members_of_decls all decls (k + 1) (p + 1) x q later)
members_of_decls all (d.Union n ctors ∷ decls) = λ k p x q e.
    member_later (type.Union n (fields_of all k ctors)) (types_from all (k + 1) decls) p x q
    (members_of_decls all decls (k + 1) (p + 1) x q
    (passed a_member (declared_in all k p (d.Union n ctors))
    (declared_from all (k + 1) (p + 1) decls) x q
    (none_either (bytes_eq n x) (look_up a_member (ctors_from all k p 4 ctors) x)
    ∙ no_member all k p 4 ctors x) e))
members_of_decls all (d.Record n fields ∷ decls) = λ k p x q e.
    member_later (type.Rec n (fields_of all k fields)) (types_from all (k + 1) decls) p x q
    (members_of_decls all decls (k + 1) (p + 1) x q
    (passed a_member (declared_in all k p (d.Record n fields))
    (declared_from all (k + 1) (p + 1) decls) x q (alone (bytes_eq n x)) e))
members_of_decls all (d.Register n t kind ∷ decls) = λ k p x q e.
    members_of_decls all decls (k + 1) p x q (sym (none_either (bytes_eq n x)
    (look_up a_member (declared_from all (k + 1) p decls) x)) ∙ e)
members_of_decls all (d.Region n params i guard ∷ decls) = λ k p x q e.
    members_of_decls all decls (k + 1) p x q (sym (none_either (bytes_eq n x)
    (look_up a_member (declared_from all (k + 1) p decls) x)) ∙ e)
members_of_decls all (d.Predicate n inputs outputs a ∷ decls) = λ k p x q e.
    members_of_decls all decls (k + 1) p x q (sym (none_either (bytes_eq n x)
    (look_up a_member (declared_from all (k + 1) p decls) x)) ∙ e)
members_of_decls all (d.Fun n params result body ∷ decls) = λ k p x q e.
    members_of_decls all decls (k + 1) p x q (sym (none_either (bytes_eq n x)
    (look_up a_member (declared_from all (k + 1) p decls) x)) ∙ e)
members_of_decls all (d.Lemma n params names pre post steps ∷ decls) = λ k p x q e.
    members_of_decls all decls (k + 1) p x q (sym (none_either (bytes_eq n x)
    (look_up a_member (declared_from all (k + 1) p decls) x)) ∙ e)
members_of_decls all (d.Block block ∷ decls) = λ k p x q e.
    members_of_decls all decls (k + 1) p x q (sym (none_either (bytes_eq block.name x)
    (look_up a_member (declared_from all (k + 1) p decls) x)) ∙ e)
members_of_decls all (_ ∷ decls) = λ k p x q e. members_of_decls all decls (k + 1) p x q e

-- a constructor that stands at a place among those of a union
pub record IsCtorIn (fields : List Field) (p : ℕ) (x : Name) (seen : CtorSeen) : Type 0 where
  pub place : seen.of ≡ p
  pub at : ℕ
  pub found : position_of (names_of_fields fields) x ≡ Some at
  pub field : Field
  pub there : slice_get fields at ≡ Some field
  pub is : field.ty ≡ unwrap_or seen.payload no_type

-- what is found among the constructors of a union
abbrev StandsIn : List Field → ℕ → Name → Option CtorSeen → Type 0
StandsIn fields p x (Some seen) = IsCtorIn fields p x seen
StandsIn fields p x None = position_of (names_of_fields fields) x ≡ None

ctors_stand : (all : List DeclForm) (k p at : ℕ) (ctors : List Param) (x : Name) →
    StandsIn (fields_of all k ctors) p x (look_up a_ctor (ctors_from all k p at ctors) x)
ctors_stand all k p at [] x = refl
ctors_stand all k p at (ctor ∷ ctors) x =
    by (bytes_eq ctor.name x) refl
    (look_up a_ctor (ctors_from all k p (at + trees_of_param ctor) ctors) x)
    (ctors_stand all k p (at + trees_of_param ctor) ctors x) where
      names : List Name
      names = names_of_fields (fields_of all k ctors)

      next : (b : Bool) → bytes_eq ctor.name x ≡ b → position_of (ctor.name ∷ names) x
          ≡ (if b then Some 0 else option_map suc (position_of names x))
      next b same = name_next ctor.name names x
          ∙ ap (λ b. if b then Some 0 else option_map suc (position_of names x)) same

      by : (b : Bool) → bytes_eq ctor.name x ≡ b → (o : Option CtorSeen) →
          StandsIn (fields_of all k ctors) p x o →
          StandsIn (fields_of all k (ctor ∷ ctors)) p x
          (if b then option_or (Some (record { of = p; payload = type_of_name all k ctor.ty })) o else o)
      by true same o later = record {
        place = refl;
        at = 0;
        found = next true same;
        field = field_of all k ctor;
        there = refl;
        is = refl;
      }
      by false same None later = next false same ∙ ap (option_map suc) later
      by false same (Some seen) later = record {
        place = later.place;
        at = suc later.at;
        found = next false same ∙ ap (option_map suc) later.found;
        field = later.field;
        there = later.there;
        is = later.is;
      }

-- a constructor stands among those of the union at its number
pub record IsCtorFrom (types : List TypeDecl) (p : ℕ) (x : Name) (seen : CtorSeen) : Type 0 where
  pub index : ℕ
  pub place : seen.of ≡ p + index
  pub name : Name
  pub fields : List Field
  pub declared : slice_get types index ≡ Some (type.Union name fields)
  pub ctor : ℕ
  pub field : Field
  pub there : slice_get fields ctor ≡ Some field
  pub is : field.ty ≡ unwrap_or seen.payload no_type
  pub found : ctor_from p types x ≡ Some (record { of = seen.of; ctor = ctor })

-- what stands behind one type more
ctor_later : (one : TypeDecl) (types : List TypeDecl) (p : ℕ) (x : Name) (seen : CtorSeen) →
    position_of (ctors_of one) x ≡ None → IsCtorFrom types (p + 1) x seen →
    IsCtorFrom (one ∷ types) p x seen
ctor_later one types p x seen none far =
    let place = far.place in
    record {
      index = suc far.index;
      place = omega (arith, place);
      name = far.name;
      fields = far.fields;
      declared = far.declared;
      ctor = far.ctor;
      field = far.field;
      there = far.there;
      is = far.is;
      found = ap (λ (o : Option ℕ). option_or
          (option_map (λ (at : ℕ). place_at p at) o) (ctor_from (p + 1) types x)) none ∙ far.found;
    } where
      place_at : ℕ → ℕ → CtorPlace
      place_at p at = record { of = p; ctor = at }

union_step : (types : List TypeDecl) (p : ℕ) (x n : Name) (fields : List Field) (seen : CtorSeen)
    (o rest : Option CtorSeen) → StandsIn fields p x o → option_or o rest ≡ Some seen →
    (rest ≡ Some seen → IsCtorFrom types (p + 1) x seen) →
    IsCtorFrom (type.Union n fields ∷ types) p x seen
union_step types p x n fields seen None rest stands e later =
    ctor_later (type.Union n fields) types p x seen stands (later e)
union_step types p x n fields seen (Some one) rest stands e later =
    subst (λ (s : CtorSeen). IsCtorFrom (type.Union n fields ∷ types) p x s) (some_is one seen e)
    (record {
      index = 0;
      place = stands.place ∙ omega arith;
      name = n;
      fields = fields;
      declared = refl;
      ctor = stands.at;
      field = stands.field;
      there = stands.there;
      is = stands.is;
      found = ap (λ (o : Option ℕ). option_or (option_map (λ (at : ℕ). place_at p at) o)
          (ctor_from (p + 1) types x)) stands.found
          ∙ ap (λ (q : ℕ). Some (place_at q stands.at)) (sym stands.place);
    }) where
      place_at : ℕ → ℕ → CtorPlace
      place_at p at = record { of = p; ctor = at }

abbrev CtorsOf : List DeclForm → List DeclForm → Type 0
CtorsOf all decls = (k p : ℕ) (x : Name) (seen : CtorSeen) →
    look_up a_ctor (declared_from all k p decls) x ≡ Some seen →
    IsCtorFrom (types_from all k decls) p x seen

pub ctors_of_decls : (all decls : List DeclForm) → CtorsOf all decls
ctors_of_decls all [] = λ k p x seen e. absurd (none-some seen e)
ctors_of_decls all (d.Union n ctors ∷ decls) = λ k p x seen e.
    union_step (types_from all (k + 1) decls) p x n (fields_of all k ctors) seen
    (look_up a_ctor (ctors_from all k p 4 ctors) x)
    (look_up a_ctor (declared_from all (k + 1) (p + 1) decls) x)
    (ctors_stand all k p 4 ctors x)
    (sym (ap (λ o. option_or o (look_up a_ctor (declared_from all (k + 1) (p + 1) decls) x))
    (none_either (bytes_eq n x) (look_up a_ctor (ctors_from all k p 4 ctors) x)))
    ∙ split a_ctor (declared_in all k p (d.Union n ctors))
    (declared_from all (k + 1) (p + 1) decls) x seen e)
    (λ later. ctors_of_decls all decls (k + 1) (p + 1) x seen later)
ctors_of_decls all (d.Enum n members ∷ decls) = λ k p x seen e.
    ctor_later (type.Enum n members) (types_from all (k + 1) decls) p x seen refl
    (ctors_of_decls all decls (k + 1) (p + 1) x seen
    (passed a_ctor (declared_in all k p (d.Enum n members))
    (declared_from all (k + 1) (p + 1) decls) x seen
    (none_either (bytes_eq n x) (look_up a_ctor (members_from k p 4 members) x)
    ∙ no_ctor k p 4 members x) e))
ctors_of_decls all (d.Record n fields ∷ decls) = λ k p x seen e.
    ctor_later (type.Rec n (fields_of all k fields)) (types_from all (k + 1) decls) p x seen refl
    (ctors_of_decls all decls (k + 1) (p + 1) x seen
    (passed a_ctor (declared_in all k p (d.Record n fields))
    (declared_from all (k + 1) (p + 1) decls) x seen (alone (bytes_eq n x)) e))
ctors_of_decls all (d.Register n t kind ∷ decls) = λ k p x seen e.
    ctors_of_decls all decls (k + 1) p x seen (sym (none_either (bytes_eq n x)
    (look_up a_ctor (declared_from all (k + 1) p decls) x)) ∙ e)
ctors_of_decls all (d.Region n params i guard ∷ decls) = λ k p x seen e.
    ctors_of_decls all decls (k + 1) p x seen (sym (none_either (bytes_eq n x)
    (look_up a_ctor (declared_from all (k + 1) p decls) x)) ∙ e)
ctors_of_decls all (d.Predicate n inputs outputs a ∷ decls) = λ k p x seen e.
    ctors_of_decls all decls (k + 1) p x seen (sym (none_either (bytes_eq n x)
    (look_up a_ctor (declared_from all (k + 1) p decls) x)) ∙ e)
ctors_of_decls all (d.Fun n params result body ∷ decls) = λ k p x seen e.
    ctors_of_decls all decls (k + 1) p x seen (sym (none_either (bytes_eq n x)
    (look_up a_ctor (declared_from all (k + 1) p decls) x)) ∙ e)
ctors_of_decls all (d.Lemma n params names pre post steps ∷ decls) = λ k p x seen e.
    ctors_of_decls all decls (k + 1) p x seen (sym (none_either (bytes_eq n x)
    (look_up a_ctor (declared_from all (k + 1) p decls) x)) ∙ e)
ctors_of_decls all (d.Block block ∷ decls) = λ k p x seen e.
    ctors_of_decls all decls (k + 1) p x seen (sym (none_either (bytes_eq block.name x)
    (look_up a_ctor (declared_from all (k + 1) p decls) x)) ∙ e)
ctors_of_decls all (_ ∷ decls) = λ k p x seen e.
    ctors_of_decls all decls (k + 1) p x seen e
