-- What is said of a value of an enum or a union by the tables, and all tables of a machine.
use Rattle.std.proofs.Common.{◌≡◌, ◌⊎◌, inl, inr, ◌∙◌, ℕ, zero, suc, ◌+◌, nat_lt, Bool, true, false, List, [], ◌∷◌, ◌++◌, length, slice_get, Option, Some, None, refl, ap, sym, subst, if◌then◌else◌, arith}
use Rattle.std.specs.Prelude.{◌==◌, option_and_then, unwrap_or}
use Rattle.std.specs.List.{AllByRecursion}
use Rattle.std.specs.Option.{option_map, option_or}
use Rattle.std.specs.Str.{bytes_eq}
use Rattle.std.proofs.lemmas.Bool.{and_parts, eqb-true, eq-eqb, false≢true}
use Rattle.std.proofs.lemmas.Bool.Decides.{nat_tests}
use Rattle.std.proofs.lemmas.Slice.Eq.{bytes_eq-Decides}
use Rattle.kat_value.specs.declared.types.Field.{Field}
use Rattle.kat_value.specs.declared.types.Ty.{Ty}
use Rattle.kat_value.specs.declared.types.Ty.TheVariants as ty
use Rattle.kat_value.specs.declared.types.TypeDecl.{TypeDecl}
use Rattle.kat_value.specs.declared.types.TypeDecl.TheVariants as type
use Rattle.kat_value.specs.declared.value.Value.{Value, out-Value, map-Value, fold_out-Value}
use Rattle.kat_value.specs.declared.value.Value.TheOpen as layer
use Rattle.kat_value.specs.Shown.{ShownTypes}
use Rattle.kat_value.specs.TypeLaws.{BitsAreNumbers}
use Rattle.kat_value.specs.Typing.{HasType, ctor_at, ctors_in, has_type, layer_has_type, member_count, members_in, passes_ctor}
use Rattle.kat_ast.specs.declared.decl.DeclForm.{DeclForm}
use Rattle.kat_ast.specs.declared.decl.DeclForm.TheVariants as d
use Rattle.kat_ast.specs.declared.type_name.Param.{Param}
use Rattle.kat_ast.specs.Types.{trees_of_param}
use Rattle.kat_ast.specs.Spec.{Spec}
use Rattle.kat_syntax.specs.Around.{CtorSeen, a_ctor, first_named, is_ctor_of, is_member_of, meant, names_that}
use Rattle.kat_syntax.specs.Declares.{Declared, AType, ACtor, ctors_from, declared_by, declared_from, declared_in, look_up, members_from, type_of_name}
use Rattle.kat_syntax.specs.Meaning.{MadeWith, made_of_layer, member_of_layer}
use Rattle.kat_syntax.specs.NamedValues.{ctors_of, members_of, names_of_fields}
use Rattle.kat_syntax.specs.Tables.{Name}
use Rattle.kat_syntax.specs.TypeTable.{field_of, fields_of, no_type, types_from, types_of_decls}
use Rattle.kat_syntax.specs.TypingDeclarations.{stands_at}
use Rattle.kat_laws.specs.Runs.{IsMachine}
use Rattle.kat_safety.specs.Typed.{IsOfKnown}
use Rattle.kat_safety.proofs.Clean.{AreClean}
use Rattle.kat_safety.proofs.TypedStatements.{IsNamed, StatementTables}
use Rattle.kat_safety.proofs.TypedCalls.{found_behind, functions_found}
use Rattle.kat_safety.proofs.RegisterTables.{cell_there, memory_there, read_there, write_there}
use Rattle.kat_safety.proofs.MemberTables.{IsAmong, IsInUnion, member_among, named_among, same_in_union, union_among, union_first}

some_is : {A : Type 0} (x y : A) → Some x ≡ Some y → x ≡ y
some_is x y e = cc

-- what is found of a name that is declared
look_up_some : (one : Declared) (c : CtorSeen) (ds : List Declared) → IsAmong one ds →
    a_ctor one.decl one.is ≡ Some c → (seen : CtorSeen) × (look_up a_ctor ds one.name ≡ Some seen)
look_up_some one c [] is kind = absurd is
look_up_some one c (other ∷ ds) is kind =
    by (bytes_eq other.name one.name) refl (λ later. look_up_some one c ds later kind) is where
      first : (o : Option CtorSeen) (rest : Option CtorSeen) → o ≡ Some c →
          (seen : CtorSeen) × (option_or o rest ≡ Some seen)
      first o rest e = (c, ap (λ z. option_or z rest) e)

      second : (o : Option CtorSeen) (rest : Option CtorSeen) →
          ((seen : CtorSeen) × (rest ≡ Some seen)) → (seen : CtorSeen) × (option_or o rest ≡ Some seen)
      second None rest e = e
      second (Some seen) rest e = (seen, refl)

      by : (b : Bool) → bytes_eq other.name one.name ≡ b →
          (IsAmong one ds → (seen : CtorSeen) × (look_up a_ctor ds one.name ≡ Some seen)) →
          (one ≡ other) ⊎ IsAmong one ds → (seen : CtorSeen)
          × ((if b then option_or (a_ctor other.decl other.is) (look_up a_ctor ds one.name)
          else look_up a_ctor ds one.name) ≡ Some seen)
      by true same more (inl is) = first (a_ctor other.decl other.is) (look_up a_ctor ds one.name)
          (sym (ap (λ (x : Declared). a_ctor x.decl x.is) is) ∙ kind)
      by true same more (inr later) =
          second (a_ctor other.decl other.is) (look_up a_ctor ds one.name) (more later)
      by false same more (inl is) = absurd (false≢true (sym same
          ∙ (bytes_eq-Decides other.name one.name).1 (sym (ap (λ (x : Declared). x.name) is))))
      by false same more (inr later) = more later

-- a constructor that is found is declared in a union
pub record IsCtorOf (all : List DeclForm) (k q : ℕ) (decls : List DeclForm) (x : Name)
    (c : CtorSeen) : Type 0 where
  pub two : Declared
  pub among : IsInUnion all k q decls two
  pub name : two.name ≡ x
  pub kind : a_ctor two.decl two.is ≡ Some c

-- a constructor that is found is among these, or behind them
in_ctors : (all : List DeclForm) (k p at : ℕ) (ctors : List Param) (es : List Declared) (x : Name)
    (c : CtorSeen) → look_up a_ctor (ctors_from all k p at ctors ++ es) x ≡ Some c →
    ((two : Declared) × IsAmong two (ctors_from all k p at ctors) × (two.name ≡ x)
    × (a_ctor two.decl two.is ≡ Some c)) ⊎ (look_up a_ctor es x ≡ Some c)
in_ctors all k p at [] es x c e = inr e
in_ctors all k p at (ctor ∷ ctors) es x c e =
    by (bytes_eq ctor.name x) ((bytes_eq-Decides ctor.name x).0)
    (in_ctors all k p (at + trees_of_param ctor) ctors es x c) e where
      abbrev_one : Declared
      abbrev_one = record {
        decl = k;
        tree = at + 1;
        name = ctor.name;
        is = ACtor p (type_of_name all k ctor.ty);
      }

      moved : ((two : Declared) × IsAmong two (ctors_from all k p (at + trees_of_param ctor) ctors)
          × (two.name ≡ x) × (a_ctor two.decl two.is ≡ Some c)) ⊎ (look_up a_ctor es x ≡ Some c) →
          ((two : Declared) × IsAmong two (ctors_from all k p at (ctor ∷ ctors)) × (two.name ≡ x)
          × (a_ctor two.decl two.is ≡ Some c)) ⊎ (look_up a_ctor es x ≡ Some c)
      moved (inl found) = inl (found.0, inr found.1, found.2, found.3)
      moved (inr later) = inr later

      by : (b : Bool) → (b ≡ true → ctor.name ≡ x) →
          (look_up a_ctor (ctors_from all k p (at + trees_of_param ctor) ctors ++ es) x ≡ Some c →
          ((two : Declared) × IsAmong two (ctors_from all k p (at + trees_of_param ctor) ctors)
          × (two.name ≡ x) × (a_ctor two.decl two.is ≡ Some c)) ⊎ (look_up a_ctor es x ≡ Some c)) →
          (if b then Some (record { of = p; payload = type_of_name all k ctor.ty })
          else look_up a_ctor (ctors_from all k p (at + trees_of_param ctor) ctors ++ es) x) ≡ Some c →
          ((two : Declared) × IsAmong two (ctors_from all k p at (ctor ∷ ctors)) × (two.name ≡ x)
          × (a_ctor two.decl two.is ≡ Some c)) ⊎ (look_up a_ctor es x ≡ Some c)
      by true same more here = inl (abbrev_one, inl refl, same refl, here)
      by false same more here = moved (more here)

no_members : (k p at : ℕ) (members : List Name) →
    AllByRecursion (λ (one : Declared). a_ctor one.decl one.is ≡ None)
    (members_from k p at members)
no_members k p at [] = tt
no_members k p at (x ∷ members) = (refl, no_members k p (at + 1) members)

module _ (all : List DeclForm) (x : Name) (c : CtorSeen) where
  abbrev Finds : ℕ → ℕ → List DeclForm → Type 0
  Finds k q decls = look_up a_ctor (declared_from all k q decls) x ≡ Some c →
      IsCtorOf all k q decls x c

  other : (k q : ℕ) (ds : List Declared) (decls : List DeclForm) →
      AllByRecursion (λ (one : Declared). a_ctor one.decl one.is ≡ None) ds →
      Finds (k + 1) q decls →
      look_up a_ctor (ds ++ declared_from all (k + 1) q decls) x ≡ Some c →
      IsCtorOf all (k + 1) q decls x c
  other k q ds decls none later e =
      later (sym (found_behind a_ctor ds (declared_from all (k + 1) q decls) x none) ∙ e)

  further : (k q m r : ℕ) (decls more : List DeclForm) → ((two : Declared) →
      IsInUnion all k q decls two → IsInUnion all m r more two) →
      IsCtorOf all k q decls x c → IsCtorOf all m r more x c
  further k q m r decls more move is = record {
    two = is.two;
    among = move is.two is.among;
    name = is.name;
    kind = is.kind;
  }

  ctors_found : (k q : ℕ) (decls : List DeclForm) → Finds k q decls
  ctors_found k q [] e = absurd (let g : None ≡ Some c = e in cc)
  ctors_found k q (d.Union y ctors ∷ decls) e =
      by (in_ctors all k q 4 ctors (declared_from all (k + 1) (q + 1) decls) x c
      (sym (found_behind a_ctor (record { decl = k; tree = 2; name = y; is = AType } ∷ [])
      (ctors_from all k q 4 ctors ++ declared_from all (k + 1) (q + 1) decls) x (refl, tt)) ∙ e))
      (ctors_found (k + 1) (q + 1) decls) where
        by : ((two : Declared) × IsAmong two (ctors_from all k q 4 ctors) × (two.name ≡ x)
            × (a_ctor two.decl two.is ≡ Some c))
            ⊎ (look_up a_ctor (declared_from all (k + 1) (q + 1) decls) x ≡ Some c) →
            Finds (k + 1) (q + 1) decls → IsCtorOf all k q (d.Union y ctors ∷ decls) x c
        by (inl found) later = record {
          two = found.0;
          among = inl found.1;
          name = found.2;
          kind = found.3;
        }
        by (inr behind) later = further (k + 1) (q + 1) k q decls (d.Union y ctors ∷ decls)
            (λ two is. inr is) (later behind)
  ctors_found k q (d.Enum y members ∷ decls) e =
      further (k + 1) (q + 1) k q decls (d.Enum y members ∷ decls) (λ two is. is)
      (other k (q + 1) (declared_in all k q (d.Enum y members)) decls
      (refl, no_members k q 4 members) (ctors_found (k + 1) (q + 1) decls) e)
  ctors_found k q (d.Record y fields ∷ decls) e =
      further (k + 1) (q + 1) k q decls (d.Record y fields ∷ decls) (λ two is. is)
      (other k (q + 1) (declared_in all k q (d.Record y fields)) decls (refl, tt)
      (ctors_found (k + 1) (q + 1) decls) e)
  ctors_found k q (d.Register y type kind ∷ decls) e =
      further (k + 1) q k q decls (d.Register y type kind ∷ decls) (λ two is. is)
      (other k q (declared_in all k q (d.Register y type kind)) decls (refl, tt)
      (ctors_found (k + 1) q decls) e)
  ctors_found k q (d.Fun y params result body ∷ decls) e =
      further (k + 1) q k q decls (d.Fun y params result body ∷ decls) (λ two is. is)
      (other k q (declared_in all k q (d.Fun y params result body)) decls (refl, tt)
      (ctors_found (k + 1) q decls) e)
  ctors_found k q (d.Region y params i guard ∷ decls) e =
      further (k + 1) q k q decls (d.Region y params i guard ∷ decls) (λ two is. is)
      (other k q (declared_in all k q (d.Region y params i guard)) decls (refl, tt)
      (ctors_found (k + 1) q decls) e)
  ctors_found k q (d.Predicate y inputs outputs definition ∷ decls) e =
      further (k + 1) q k q decls (d.Predicate y inputs outputs definition ∷ decls) (λ two is. is)
      (other k q (declared_in all k q (d.Predicate y inputs outputs definition)) decls (refl, tt)
      (ctors_found (k + 1) q decls) e)
  ctors_found k q (d.Lemma y params names pre post steps ∷ decls) e =
      further (k + 1) q k q decls (d.Lemma y params names pre post steps ∷ decls) (λ two is. is)
      (other k q (declared_in all k q (d.Lemma y params names pre post steps)) decls (refl, tt)
      (ctors_found (k + 1) q decls) e)
  ctors_found k q (d.Block block ∷ decls) e =
      further (k + 1) q k q decls (d.Block block ∷ decls) (λ two is. is)
      (other k q (declared_in all k q (d.Block block)) decls (refl, tt)
      (ctors_found (k + 1) q decls) e)
  ctors_found k q (d.Memory a w lo hi ∷ decls) e =
      further (k + 1) q k q decls (d.Memory a w lo hi ∷ decls) (λ two is. is)
      (ctors_found (k + 1) q decls e)
  ctors_found k q (d.Cells kind lo hi ∷ decls) e =
      further (k + 1) q k q decls (d.Cells kind lo hi ∷ decls) (λ two is. is)
      (ctors_found (k + 1) q decls e)
  ctors_found k q (d.Code lo values ∷ decls) e =
      further (k + 1) q k q decls (d.Code lo values ∷ decls) (λ two is. is)
      (ctors_found (k + 1) q decls e)
  ctors_found k q (d.Contract g names pre y post ∷ decls) e =
      further (k + 1) q k q decls (d.Contract g names pre y post ∷ decls) (λ two is. is)
      (ctors_found (k + 1) q decls e)
  ctors_found k q (d.Step g ∷ decls) e =
      further (k + 1) q k q decls (d.Step g ∷ decls) (λ two is. is) (ctors_found (k + 1) q decls e)
  ctors_found k q (d.Dispatch cases otherwise ∷ decls) e =
      further (k + 1) q k q decls (d.Dispatch cases otherwise ∷ decls) (λ two is. is)
      (ctors_found (k + 1) q decls e)
  ctors_found k q (d.Untrusted holds ∷ decls) e =
      further (k + 1) q k q decls (d.Untrusted holds ∷ decls) (λ two is. is)
      (ctors_found (k + 1) q decls e)
  ctors_found k q (d.Boot y ∷ decls) e =
      further (k + 1) q k q decls (d.Boot y ∷ decls) (λ two is. is) (ctors_found (k + 1) q decls e)

-- names that first stand at one place stand at one place
one_place : (o : Option Declared) (one two : Declared) →
    stands_at one.decl one.tree o ≡ true → stands_at two.decl two.tree o ≡ true →
    (one.decl ≡ two.decl) × (one.tree ≡ two.tree)
one_place None one two is is_too = absurd (false≢true is)
one_place (Some x) one two is is_too =
    let a = and_parts (x.decl == one.decl) (x.tree == one.tree) is in
    let b = and_parts (x.decl == two.decl) (x.tree == two.tree) is_too in (
      sym (eqb-true x.decl one.decl a.0) ∙ eqb-true x.decl two.decl b.0,
      sym (eqb-true x.tree one.tree a.1) ∙ eqb-true x.tree two.tree b.1,
    )

-- so a constructor of a typed specification is what typing means by its name
ctor_meant : (decls : List DeclForm) → AreClean decls 0 decls → (one : Declared) (c : CtorSeen) →
    IsInUnion decls 0 0 decls one → a_ctor one.decl one.is ≡ Some c →
    look_up a_ctor (declared_by decls) one.name ≡ Some c
ctor_meant decls clean one c is kind =
    let some = look_up_some one c (declared_by decls) (union_among decls 0 0 decls one is) kind in
    let found = ctors_found decls one.name some.0 0 0 decls some.1 in
    let place = one_place (first_named (declared_by decls) one.name) one found.two
    (union_first decls 0 0 decls one clean is)
    (subst (λ (y : Name). stands_at found.two.decl found.two.tree (first_named (declared_by decls)
    y) ≡ true) found.name (union_first decls 0 0 decls found.two clean found.among)) in
    let same = same_in_union decls 0 0 decls one found.two is found.among place.0 place.1 in
    some.1 ∙ sym found.kind ∙ sym (ap (λ (x : Declared). a_ctor x.decl x.is) same) ∙ kind

-- what is at a position within a list
within : {A : Type 0} (xs : List A) (i : ℕ) → nat_lt i (length xs) ≡ true →
    (x : A) × (slice_get xs i ≡ Some x)
within [] i less = absurd (let no : nat_lt i 0 ≡ false = grind (arith, nat_tests) in cc)
within (x ∷ xs) zero less = (x, refl)
within (x ∷ xs) (suc i) less =
    within xs i (let more : nat_lt i (length xs) ≡ true = grind (arith, nat_tests) in more)

none_less : (i : ℕ) → nat_lt i 0 ≡ true → ⊥
none_less i less = let no : nat_lt i 0 ≡ false = grind (arith, nat_tests) in cc

-- the tests of the types of a layer
abbrev tested : List TypeDecl → layer.Value-F Value → layer.Value-F (Ty → Bool)
tested types y = map-Value Value (Ty → Bool) (has_type types) y

layer_typed : (types : List TypeDecl) (v : Value) (t : Ty) → HasType types t v →
    layer_has_type types (tested types (out-Value v)) t ≡ true
layer_typed types v t is = sym (ap (λ (test : Ty → Bool). test t)
    (fold_out-Value (Ty → Bool) (layer_has_type types) v)) ∙ is

module _ (decls : List DeclForm) (k : ℕ) where
  abbrev types : List TypeDecl
  types = types_of_decls decls

  -- the member that a value is, which is listed
  abbrev IsListedMember : ℕ → layer.Value-F Value → Type 0
  IsListedMember p y = (x : Name) × (member_of_layer types y ≡ Some x)
      × IsNamed x (names_that (is_member_of p) (record { decls = decls; number = k }))

  member_at : (p i : ℕ) (o : Option TypeDecl) → slice_get types p ≡ o →
      nat_lt i (members_in o) ≡ true →
      (x : Name) × (slice_get (unwrap_or (option_map members_of o) []) i ≡ Some x)
      × IsNamed x (names_that (is_member_of p) (record { decls = decls; number = k }))
  member_at p i None at less = absurd (none_less i less)
  member_at p i (Some (type.Union n ctors)) at less = absurd (none_less i less)
  member_at p i (Some (type.Rec n fields)) at less = absurd (none_less i less)
  member_at p i (Some (type.Enum n members)) at less =
      let x = within members i less in
      let has = member_among decls 0 0 decls p (type.Enum n members) i x.0 at x.1 in
      let same : 0 + p ≡ p = omega arith in
      let test : is_member_of p has.one.is ≡ true =
      ap (is_member_of p) has.is ∙ eq-eqb p (0 + p) (sym same) in (
        x.0,
        x.1,
        subst (λ (y : Name). IsNamed y (names_that (is_member_of p)
            (record { decls = decls; number = k }))) has.name
            (named_among (is_member_of p) has.one (declared_by decls) has.among test),
      )

  member_layer : (p : ℕ) (y : layer.Value-F Value) →
      layer_has_type types (tested types y) (ty.Enum p) ≡ true → IsListedMember p y
  member_layer p (layer.Member t i) is =
      let parts = and_parts (t == p) (nat_lt i (member_count types t)) is in
      let same : t ≡ p = eqb-true t p parts.0 in
      let found = member_at t i (slice_get types t) refl parts.1 in (
        found.0,
        found.1,
        subst (λ q. IsNamed found.0 (names_that (is_member_of q)
            (record { decls = decls; number = k }))) same found.2,
      )
  member_layer p layer.Unit is = absurd (false≢true is)
  member_layer p (layer.Bool b) is = absurd (false≢true is)
  member_layer p (layer.Bits w n) is = absurd (false≢true is)
  member_layer p (layer.Made t c inner) is = absurd (false≢true is)
  member_layer p (layer.Rec t fields) is = absurd (false≢true is)

  -- a constructor at a position, as it is declared
  record HasCtor (all : List DeclForm) (m q : ℕ) (ds : List DeclForm) (p : ℕ) (field : Field) :
      Type 0 where
    pub one : Declared
    pub among : IsInUnion all m q ds one
    pub name : one.name ≡ field.name
    pub payload : Option Ty
    pub is : one.is ≡ ACtor p payload
    pub type : unwrap_or payload no_type ≡ field.ty

  ctors_have : (all : List DeclForm) (m p at : ℕ) (ctors : List Param) (c : ℕ) (field : Field) →
      slice_get (fields_of all m ctors) c ≡ Some field →
      (one : Declared) × IsAmong one (ctors_from all m p at ctors) × (one.name ≡ field.name)
      × (payload : Option Ty) × (one.is ≡ ACtor p payload)
      × (unwrap_or payload no_type ≡ field.ty)
  ctors_have all m p at [] c field there = absurd (let f : None ≡ Some field = there in cc)
  ctors_have all m p at (ctor ∷ ctors) zero field there =
      let same : field_of all m ctor ≡ field = some_is (field_of all m ctor) field there in (
        record {
          decl = m;
          tree = at + 1;
          name = ctor.name;
          is = ACtor p (type_of_name all m ctor.ty);
        },
        inl refl,
        ap (λ (f : Field). f.name) same,
        type_of_name all m ctor.ty,
        refl,
        ap (λ (f : Field). f.ty) same,
      )
  ctors_have all m p at (ctor ∷ ctors) (suc c) field there =
      let rest = ctors_have all m p (at + trees_of_param ctor) ctors c field there in
      (rest.0, inr rest.1, rest.2, rest.3, rest.4, rest.5)

  moved : (all : List DeclForm) (m q n r : ℕ) (ds es : List DeclForm) (p s : ℕ) (field : Field) →
      p ≡ s → ((one : Declared) → IsInUnion all m q ds one → IsInUnion all n r es one) →
      HasCtor all m q ds p field → HasCtor all n r es s field
  moved all m q n r ds es p s field same move has = record {
    one = has.one;
    among = move has.one has.among;
    name = has.name;
    payload = has.payload;
    is = has.is ∙ ap (λ t. ACtor t has.payload) same;
    type = has.type;
  }

  no_field : (c : ℕ) (field : Field) → slice_get [] c ≡ Some field → ⊥
  no_field c field there = let f : None ≡ Some field = there in cc

  ctor_among : (all : List DeclForm) (m q : ℕ) (ds : List DeclForm) (j : ℕ) (one : TypeDecl)
      (c : ℕ) (field : Field) → slice_get (types_from all m ds) j ≡ Some one →
      slice_get (ctors_in (Some one)) c ≡ Some field → HasCtor all m q ds (q + j) field
  ctor_among all m q [] j one c field at there = absurd (let f : None ≡ Some one = at in cc)
  ctor_among all m q (d.Union y ctors ∷ ds) zero one c field at there =
      let here = ctors_have all m q 4 ctors c field
      (subst (λ (t : TypeDecl). slice_get (ctors_in (Some t)) c ≡ Some field)
      (sym (some_is (type.Union y (fields_of all m ctors)) one at)) there) in
      let same : q ≡ q + 0 = omega arith in record {
        one = here.0;
        among = inl here.1;
        name = here.2;
        payload = here.3;
        is = here.4 ∙ ap (λ t. ACtor t here.3) same;
        type = here.5;
      }
  ctor_among all m q (d.Union y ctors ∷ ds) (suc j) one c field at there =
      moved all (m + 1) (q + 1) m q ds (d.Union y ctors ∷ ds) (q + 1 + j) (q + suc j) field
      (omega arith) (λ x is. inr is) (ctor_among all (m + 1) (q + 1) ds j one c field at there)
  ctor_among all m q (d.Enum y members ∷ ds) zero one c field at there =
      absurd (no_field c field (subst (λ (t : TypeDecl). slice_get (ctors_in (Some t)) c
      ≡ Some field) (sym (some_is (type.Enum y members) one at)) there))
  ctor_among all m q (d.Enum y members ∷ ds) (suc j) one c field at there =
      moved all (m + 1) (q + 1) m q ds (d.Enum y members ∷ ds) (q + 1 + j) (q + suc j) field
      (omega arith) (λ x is. is) (ctor_among all (m + 1) (q + 1) ds j one c field at there)
  ctor_among all m q (d.Record y fields ∷ ds) zero one c field at there =
      absurd (no_field c field (subst (λ (t : TypeDecl). slice_get (ctors_in (Some t)) c
      ≡ Some field) (sym (some_is (type.Rec y (fields_of all m fields)) one at)) there))
  ctor_among all m q (d.Record y fields ∷ ds) (suc j) one c field at there =
      moved all (m + 1) (q + 1) m q ds (d.Record y fields ∷ ds) (q + 1 + j) (q + suc j) field
      (omega arith) (λ x is. is) (ctor_among all (m + 1) (q + 1) ds j one c field at there)
  ctor_among all m q (decl ∷ ds) j one c field at there =
      moved all (m + 1) q m q ds (decl ∷ ds) (q + j) (q + j) field refl (λ x is. is)
      (ctor_among all (m + 1) q ds j one c field at there)

  -- the name of a field
  field_name : (fields : List Field) (c : ℕ) (field : Field) → slice_get fields c ≡ Some field →
      slice_get (names_of_fields fields) c ≡ Some field.name
  field_name [] c field there = absurd (no_field c field there)
  field_name (one ∷ fields) zero field there =
      ap (λ (f : Field). Some f.name) (some_is one field there)
  field_name (one ∷ fields) (suc c) field there = field_name fields c field there

  -- what a constructor that is made is
  abbrev IsListedCtor : ℕ → layer.Value-F Value → Type 0
  IsListedCtor p y = (made : MadeWith) × (made_of_layer types y ≡ Some made)
      × IsNamed made.ctor (names_that (is_ctor_of p) (record { decls = decls; number = k }))
      × IsOfKnown types (option_and_then (λ (seen : CtorSeen). seen.payload)
      (meant a_ctor (record { decls = decls; number = k }) made.ctor)) made.payload

  module _ (bits : BitsAreNumbers) (clean : AreClean decls 0 decls) where
    of_payload : (payload : Option Ty) (t : Ty) (v : Value) → unwrap_or payload no_type ≡ t →
        HasType types t v → IsOfKnown types payload v
    of_payload (Some u) t v same is = subst (λ w. HasType types w v) (sym same) is
    of_payload None t v same is =
        let n = (bits types 0 v).0 (subst (λ w. HasType types w v) (sym same) is) in
        absurd (false≢true n.2)

    made_at : (p c : ℕ) (inner : Value) (one : TypeDecl) (field : Field) →
        slice_get types p ≡ Some one → slice_get (ctors_in (Some one)) c ≡ Some field →
        HasType types field.ty inner →
        IsNamed field.name (names_that (is_ctor_of p) (record { decls = decls; number = k }))
        × IsOfKnown types (option_and_then (λ (seen : CtorSeen). seen.payload)
        (meant a_ctor (record { decls = decls; number = k }) field.name)) inner
    made_at p c inner one field at there is =
        let has = ctor_among decls 0 0 decls p one c field at there in
        let same : 0 + p ≡ p = omega arith in
        let seen : CtorSeen = record { of = 0 + p; payload = has.payload } in
        let test : is_ctor_of p has.one.is ≡ true =
        ap (is_ctor_of p) has.is ∙ eq-eqb p (0 + p) (sym same) in
        let found : look_up a_ctor (declared_by decls) has.one.name ≡ Some seen =
        ctor_meant decls clean has.one seen has.among (ap (a_ctor has.one.decl) has.is) in (
          subst (λ (y : Name). IsNamed y (names_that (is_ctor_of p)
              (record { decls = decls; number = k }))) has.name
              (named_among (is_ctor_of p) has.one (declared_by decls)
              (union_among decls 0 0 decls has.one has.among) test),
          subst (λ (o : Option Ty). IsOfKnown types o inner)
              (sym (ap (option_and_then (λ (seen : CtorSeen). seen.payload))
              (sym (ap (look_up a_ctor (declared_by decls)) has.name) ∙ found)))
              (of_payload has.payload field.ty inner has.type is),
        )

    made_by : (t c : ℕ) (inner : Value) (o : Option TypeDecl) → slice_get types t ≡ o →
        (f : Option Field) → slice_get (ctors_in o) c ≡ f →
        passes_ctor (has_type types inner) f ≡ true →
        (name : Name) × (slice_get (unwrap_or (option_map ctors_of o) []) c ≡ Some name)
        × IsNamed name (names_that (is_ctor_of t) (record { decls = decls; number = k }))
        × IsOfKnown types (option_and_then (λ (seen : CtorSeen). seen.payload)
        (meant a_ctor (record { decls = decls; number = k }) name)) inner
    made_by t c inner o at None there is = absurd (false≢true is)
    made_by t c inner None at (Some field) there is = absurd (no_field c field there)
    made_by t c inner (Some (type.Enum n members)) at (Some field) there is =
        absurd (no_field c field there)
    made_by t c inner (Some (type.Rec n fields)) at (Some field) there is =
        absurd (no_field c field there)
    made_by t c inner (Some (type.Union n ctors)) at (Some field) there is =
        let made = made_at t c inner (type.Union n ctors) field at there is in
        (field.name, field_name ctors c field there, made.0, made.1)

    ctor_layer : (p : ℕ) (y : layer.Value-F Value) →
        layer_has_type types (tested types y) (ty.Union p) ≡ true → IsListedCtor p y
    ctor_layer p (layer.Made t c inner) is =
        let parts = and_parts (t == p) (passes_ctor (has_type types inner) (ctor_at types t c)) is
        in
        let same : t ≡ p = eqb-true t p parts.0 in
        let found = made_by t c inner (slice_get types t) refl (ctor_at types t c) refl parts.1 in (
          record { ctor = found.0; payload = inner },
          ap (option_map (λ (name : Name). record { ctor = name; payload = inner })) found.1,
          subst (λ q. IsNamed found.0 (names_that (is_ctor_of q)
              (record { decls = decls; number = k }))) same found.2,
          found.3,
        )
    ctor_layer p layer.Unit is = absurd (false≢true is)
    ctor_layer p (layer.Bool b) is = absurd (false≢true is)
    ctor_layer p (layer.Bits w n) is = absurd (false≢true is)
    ctor_layer p (layer.Member t i) is = absurd (false≢true is)
    ctor_layer p (layer.Rec t fields) is = absurd (false≢true is)

-- what the tables of a machine say
pub tables_of : ShownTypes → BitsAreNumbers → (spec : Spec) → IsMachine spec → (k : ℕ) →
    StatementTables spec.decls k
tables_of shown bits spec machine k = record {
  read = read_there spec.decls k machine.typed;
  write = write_there shown spec.decls k machine.typed;
  member = λ p v is. member_layer spec.decls k p (out-Value v)
      (layer_typed (types_of_decls spec.decls) v (ty.Enum p) is);
  ctor = λ p v is. ctor_layer spec.decls k bits machine.typed p (out-Value v)
      (layer_typed (types_of_decls spec.decls) v (ty.Union p) is);
  params = λ f seen there. (functions_found spec.decls f seen 0 0 spec.decls machine.typed
      machine.written there).fixed;
  memory = memory_there spec.decls k machine.typed;
  cell = cell_there spec.decls;
}
