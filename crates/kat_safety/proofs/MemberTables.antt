-- The members and constructors of a value are among those that typing wants listed.
use Rattle.std.proofs.Common.{◌≡◌, ◌⊎◌, inl, inr, ◌∙◌, ℕ, zero, suc, ◌+◌, ◌≤◌, Bool, true, false, List, [], ◌∷◌, ◌++◌, map, slice_get, Some, None, refl, ap, sym, subst, if◌then◌else◌, arith}
use Rattle.std.specs.Prelude.{filter}
use Rattle.std.proofs.lemmas.Bool.{false≢true}
use Rattle.kat_value.specs.declared.types.TypeDecl.{TypeDecl}
use Rattle.kat_value.specs.declared.types.TypeDecl.TheVariants as type
use Rattle.kat_ast.specs.declared.decl.DeclForm.{DeclForm}
use Rattle.kat_ast.specs.declared.decl.DeclForm.TheVariants as d
use Rattle.kat_ast.specs.declared.type_name.Param.{Param}
use Rattle.kat_ast.specs.Types.{trees_of_param}
use Rattle.kat_syntax.specs.declared.type_rule.TypeRule.TheVariants.{NameTaken}
use Rattle.kat_syntax.specs.Around.{first_named}
use Rattle.kat_syntax.specs.Declares.{Declared, Meant, AMember, ctors_from, declared_by, declared_from, declared_in, members_from}
use Rattle.kat_syntax.specs.NamedValues.{members_of}
use Rattle.kat_syntax.specs.Tables.{Name}
use Rattle.kat_syntax.specs.TypeRules.{unless}
use Rattle.kat_syntax.specs.TypeTable.{fields_of, types_from}
use Rattle.kat_syntax.specs.TypingDeclarations.{stands_at, taken_names}
use Rattle.kat_safety.proofs.Clean.{AreClean, empty_first, empty_second, met, names_clean}
use Rattle.kat_safety.proofs.TypedStatements.{IsNamed}

-- a declared name is one of these
abbrev pub IsAmong : Declared → List Declared → Type 0
IsAmong one [] = ⊥
IsAmong one (other ∷ ds) = (one ≡ other) ⊎ IsAmong one ds

among_left : (one : Declared) (ds es : List Declared) → IsAmong one ds → IsAmong one (ds ++ es)
among_left one [] es is = absurd is
among_left one (other ∷ ds) es (inl same) = inl same
among_left one (other ∷ ds) es (inr is) = inr (among_left one ds es is)

among_right : (one : Declared) (ds es : List Declared) → IsAmong one es → IsAmong one (ds ++ es)
among_right one [] es is = is
among_right one (other ∷ ds) es is = inr (among_right one ds es is)

-- the names of those that pass
abbrev pub named : (Meant → Bool) → List Declared → List Name
named test ds =
    map (λ (one : Declared). one.name) (filter (λ (one : Declared). test one.is) ds)

pub named_among : (test : Meant → Bool) (one : Declared) (ds : List Declared) → IsAmong one ds →
    test one.is ≡ true → IsNamed one.name (named test ds)
named_among test one [] is passes = absurd is
named_among test one (other ∷ ds) is passes =
    by (test other.is) refl (λ later. named_among test one ds later passes) is where
      by : (b : Bool) → test other.is ≡ b → (IsAmong one ds → IsNamed one.name (named test ds)) →
          (one ≡ other) ⊎ IsAmong one ds →
          IsNamed one.name (map (λ (one : Declared). one.name)
          (if b then other ∷ filter (λ (one : Declared). test one.is) ds
          else filter (λ (one : Declared). test one.is) ds))
      by true is_too more (inl same) = inl (sym (ap (λ (x : Declared). x.name) same))
      by true is_too more (inr later) = inr (more later)
      by false is_too more (inl same) = absurd (false≢true
          (sym is_too ∙ sym (ap (λ (x : Declared). test x.is) same) ∙ passes))
      by false is_too more (inr later) = more later

-- a member of an enum, and where it is declared
pub record HasMember (p : ℕ) (x : Name) (ds : List Declared) : Type 0 where
  pub one : Declared
  pub among : IsAmong one ds
  pub name : one.name ≡ x
  pub is : one.is ≡ AMember p

members_have : (k p at : ℕ) (members : List Name) (i : ℕ) (x : Name) →
    slice_get members i ≡ Some x → HasMember p x (members_from k p at members)
members_have k p at [] i x there = absurd (let f : None ≡ Some x = there in cc)
members_have k p at (y ∷ members) zero x there =
    let same : y ≡ x = cc in record {
      one = record { decl = k; tree = at; name = y; is = AMember p };
      among = inl refl;
      name = same;
      is = refl;
    }
members_have k p at (y ∷ members) (suc i) x there =
    let rest = members_have k p (at + 1) members i x there in record {
      one = rest.one;
      among = inr rest.among;
      name = rest.name;
      is = rest.is;
    }

behind : (p q : ℕ) (x : Name) (ds es : List Declared) → p ≡ q → HasMember p x es →
    HasMember q x (ds ++ es)
behind p q x ds es same has = record {
  one = has.one;
  among = among_right has.one ds es has.among;
  name = has.name;
  is = has.is ∙ ap AMember same;
}

no_name : (i : ℕ) (x : Name) → slice_get [] i ≡ Some x → ⊥
no_name i x there = let f : None ≡ Some x = there in cc

some_is : {A : Type 0} (x y : A) → Some x ≡ Some y → x ≡ y
some_is x y e = cc

-- the member at a position of the enum at a position of the table
pub member_among : (all : List DeclForm) (k q : ℕ) (decls : List DeclForm) (j : ℕ)
    (one : TypeDecl) (i : ℕ) (x : Name) → slice_get (types_from all k decls) j ≡ Some one →
    slice_get (members_of one) i ≡ Some x → HasMember (q + j) x (declared_from all k q decls)
member_among all k q [] j one i x at there =
    absurd (let f : None ≡ Some one = at in cc)
member_among all k q (d.Enum y members ∷ decls) zero one i x at there =
    let same : slice_get members i ≡ Some x =
    subst (λ (t : TypeDecl). slice_get (members_of t) i ≡ Some x)
    (sym (some_is (type.Enum y members) one at)) there in
    let has = members_have k q 4 members i x same in
    let zero_more : q ≡ q + 0 = omega arith in record {
      one = has.one;
      among = inr (among_left has.one (members_from k q 4 members)
          (declared_from all (k + 1) (q + 1) decls) has.among);
      name = has.name;
      is = has.is ∙ ap AMember zero_more;
    }
member_among all k q (d.Enum y members ∷ decls) (suc j) one i x at there =
    behind (q + 1 + j) (q + suc j) x (declared_in all k q (d.Enum y members)) _ (omega arith)
    (member_among all (k + 1) (q + 1) decls j one i x at there)
member_among all k q (d.Union y ctors ∷ decls) zero one i x at there =
    absurd (no_name i x (subst (λ (t : TypeDecl). slice_get (members_of t) i ≡ Some x)
    (sym (some_is (type.Union y (fields_of all k ctors)) one at)) there))
member_among all k q (d.Union y ctors ∷ decls) (suc j) one i x at there =
    behind (q + 1 + j) (q + suc j) x (declared_in all k q (d.Union y ctors)) _ (omega arith)
    (member_among all (k + 1) (q + 1) decls j one i x at there)
member_among all k q (d.Record y fields ∷ decls) zero one i x at there =
    absurd (no_name i x (subst (λ (t : TypeDecl). slice_get (members_of t) i ≡ Some x)
    (sym (some_is (type.Rec y (fields_of all k fields)) one at)) there))
member_among all k q (d.Record y fields ∷ decls) (suc j) one i x at there =
    behind (q + 1 + j) (q + suc j) x (declared_in all k q (d.Record y fields)) _ (omega arith)
    (member_among all (k + 1) (q + 1) decls j one i x at there)
member_among all k q (decl ∷ decls) j one i x at there =
    behind (q + j) (q + j) x (declared_in all k q decl) _ refl
    (member_among all (k + 1) q decls j one i x at there)

-- a constructor of a union that is declared among these
abbrev pub IsInUnion : List DeclForm → ℕ → ℕ → List DeclForm → Declared → Type 0
IsInUnion all k q [] one = ⊥
IsInUnion all k q (d.Union x ctors ∷ decls) one =
    IsAmong one (ctors_from all k q 4 ctors) ⊎ IsInUnion all (k + 1) (q + 1) decls one
IsInUnion all k q (d.Enum x members ∷ decls) one = IsInUnion all (k + 1) (q + 1) decls one
IsInUnion all k q (d.Record x fields ∷ decls) one = IsInUnion all (k + 1) (q + 1) decls one
IsInUnion all k q (_ ∷ decls) one = IsInUnion all (k + 1) q decls one

pub union_among : (all : List DeclForm) (k q : ℕ) (decls : List DeclForm) (one : Declared) →
    IsInUnion all k q decls one → IsAmong one (declared_from all k q decls)
union_among all k q [] one is = absurd is
union_among all k q (d.Union x ctors ∷ decls) one (inl is) =
    inr (among_left one (ctors_from all k q 4 ctors) (declared_from all (k + 1) (q + 1) decls) is)
union_among all k q (d.Union x ctors ∷ decls) one (inr is) =
    among_right one (declared_in all k q (d.Union x ctors)) _
    (union_among all (k + 1) (q + 1) decls one is)
union_among all k q (d.Enum x members ∷ decls) one is =
    among_right one (declared_in all k q (d.Enum x members)) _
    (union_among all (k + 1) (q + 1) decls one is)
union_among all k q (d.Record x fields ∷ decls) one is =
    among_right one (declared_in all k q (d.Record x fields)) _
    (union_among all (k + 1) (q + 1) decls one is)
union_among all k q (decl ∷ decls) one is =
    among_right one (declared_in all k q decl) _ (union_among all (k + 1) q decls one is)

-- the name of a constructor is first declared where it stands
ctor_first : (all : List DeclForm) (k p at : ℕ) (ctors : List Param) (one : Declared) →
    taken_names (record { decls = all; number = k }) (ctors_from all k 0 at ctors) ≡ [] →
    IsAmong one (ctors_from all k p at ctors) →
    stands_at one.decl one.tree (first_named (declared_by all) one.name) ≡ true
ctor_first all k p at [] one clean is = absurd is
ctor_first all k p at (ctor ∷ ctors) one clean (inl same) =
    subst (λ (x : Declared). stands_at x.decl x.tree (first_named (declared_by all) x.name) ≡ true)
    (sym same)
    (met (stands_at k (at + 1) (first_named (declared_by all) ctor.name)) (at + 1) NameTaken
    (empty_first _ _ clean))
ctor_first all k p at (ctor ∷ ctors) one clean (inr is) =
    ctor_first all k p (at + trees_of_param ctor) ctors one
    (empty_second (unless (stands_at k (at + 1) (first_named (declared_by all) ctor.name)) (at + 1)
    NameTaken) _ clean) is

pub union_first : (all : List DeclForm) (k q : ℕ) (decls : List DeclForm) (one : Declared) →
    AreClean all k decls → IsInUnion all k q decls one →
    stands_at one.decl one.tree (first_named (declared_by all) one.name) ≡ true
union_first all k q [] one clean is = absurd is
union_first all k q (d.Union x ctors ∷ decls) one clean (inl is) =
    ctor_first all k q 4 ctors one
    (empty_second (unless (stands_at k 2 (first_named (declared_by all) x)) 2 NameTaken) _
    (names_clean all k (d.Union x ctors) clean.0)) is
union_first all k q (d.Union x ctors ∷ decls) one clean (inr is) =
    union_first all (k + 1) (q + 1) decls one clean.1 is
union_first all k q (d.Enum x members ∷ decls) one clean is =
    union_first all (k + 1) (q + 1) decls one clean.1 is
union_first all k q (d.Record x fields ∷ decls) one clean is =
    union_first all (k + 1) (q + 1) decls one clean.1 is
union_first all k q (decl ∷ decls) one clean is = union_first all (k + 1) q decls one clean.1 is

-- constructors of one union stand at trees of their own
ctor_tree : (all : List DeclForm) (k p at : ℕ) (ctors : List Param) (one : Declared) →
    IsAmong one (ctors_from all k p at ctors) → (one.decl ≡ k) × (at + 1 ≤ one.tree)
ctor_tree all k p at [] one is = absurd is
ctor_tree all k p at (ctor ∷ ctors) one (inl same) =
    let tree : one.tree ≡ at + 1 = ap (λ (x : Declared). x.tree) same in
    (ap (λ (x : Declared). x.decl) same, omega (arith, tree))
ctor_tree all k p at (ctor ∷ ctors) one (inr is) =
    let rest = ctor_tree all k p (at + trees_of_param ctor) ctors one is in
    let far = rest.1 in
    (rest.0, omega (arith, far))

more_trees : (ctor : Param) → 1 ≤ trees_of_param ctor
more_trees ctor = omega arith

same_ctor : (all : List DeclForm) (k p at : ℕ) (ctors : List Param) (one two : Declared) →
    IsAmong one (ctors_from all k p at ctors) → IsAmong two (ctors_from all k p at ctors) →
    one.tree ≡ two.tree → one ≡ two
same_ctor all k p at [] one two is is_too same = absurd is
same_ctor all k p at (ctor ∷ ctors) one two (inl first) (inl second) same = first ∙ sym second
same_ctor all k p at (ctor ∷ ctors) one two (inl first) (inr later) same =
    let here : one.tree ≡ at + 1 = ap (λ (x : Declared). x.tree) first in
    let far = (ctor_tree all k p (at + trees_of_param ctor) ctors two later).1 in
    let some = more_trees ctor in
    absurd (omega (arith, here, far, some, same))
same_ctor all k p at (ctor ∷ ctors) one two (inr later) (inl second) same =
    let here : two.tree ≡ at + 1 = ap (λ (x : Declared). x.tree) second in
    let far = (ctor_tree all k p (at + trees_of_param ctor) ctors one later).1 in
    let some = more_trees ctor in
    absurd (omega (arith, here, far, some, same))
same_ctor all k p at (ctor ∷ ctors) one two (inr later) (inr later_too) same =
    same_ctor all k p (at + trees_of_param ctor) ctors one two later later_too same

union_decl : (all : List DeclForm) (k q : ℕ) (decls : List DeclForm) (one : Declared) →
    IsInUnion all k q decls one → k ≤ one.decl
union_decl all k q [] one is = absurd is
union_decl all k q (d.Union x ctors ∷ decls) one (inl is) =
    let here = (ctor_tree all k q 4 ctors one is).0 in omega (arith, here)
union_decl all k q (d.Union x ctors ∷ decls) one (inr is) =
    let far = union_decl all (k + 1) (q + 1) decls one is in omega (arith, far)
union_decl all k q (d.Enum x members ∷ decls) one is =
    let far = union_decl all (k + 1) (q + 1) decls one is in omega (arith, far)
union_decl all k q (d.Record x fields ∷ decls) one is =
    let far = union_decl all (k + 1) (q + 1) decls one is in omega (arith, far)
union_decl all k q (decl ∷ decls) one is =
    let far = union_decl all (k + 1) q decls one is in omega (arith, far)

pub same_in_union : (all : List DeclForm) (k q : ℕ) (decls : List DeclForm) (one two : Declared) →
    IsInUnion all k q decls one → IsInUnion all k q decls two → one.decl ≡ two.decl →
    one.tree ≡ two.tree → one ≡ two
same_in_union all k q [] one two is is_too decl tree = absurd is
same_in_union all k q (d.Union x ctors ∷ decls) one two (inl is) (inl is_too) decl tree =
    same_ctor all k q 4 ctors one two is is_too tree
same_in_union all k q (d.Union x ctors ∷ decls) one two (inl is) (inr later) decl tree =
    let here = (ctor_tree all k q 4 ctors one is).0 in
    let far = union_decl all (k + 1) (q + 1) decls two later in
    absurd (omega (arith, here, far, decl))
same_in_union all k q (d.Union x ctors ∷ decls) one two (inr later) (inl is) decl tree =
    let here = (ctor_tree all k q 4 ctors two is).0 in
    let far = union_decl all (k + 1) (q + 1) decls one later in
    absurd (omega (arith, here, far, decl))
same_in_union all k q (d.Union x ctors ∷ decls) one two (inr later) (inr is) decl tree =
    same_in_union all (k + 1) (q + 1) decls one two later is decl tree
same_in_union all k q (d.Enum x members ∷ decls) one two is is_too decl tree =
    same_in_union all (k + 1) (q + 1) decls one two is is_too decl tree
same_in_union all k q (d.Record x fields ∷ decls) one two is is_too decl tree =
    same_in_union all (k + 1) (q + 1) decls one two is is_too decl tree
same_in_union all k q (form ∷ decls) one two is is_too decl tree =
    same_in_union all (k + 1) q decls one two is is_too decl tree
