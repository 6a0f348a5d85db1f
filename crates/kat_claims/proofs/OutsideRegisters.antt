-- A register that may be written from outside is neither kept nor read by the dispatch.
use Rattle.std.proofs.Common.{arith, ◌≡◌, ◌∙◌, ℕ, zero, suc, ◌+◌, ◌<◌, Bool, true, false, not, List, [], ◌∷◌, ◌++◌, get_or, slice_get, Option, Some, None, refl, sym, ap, subst, if◌then◌else◌}
use Rattle.std.specs.Option.{option_or}
use Rattle.std.specs.Str.{bytes_eq}
use Rattle.std.proofs.lemmas.Bool.{and_parts, eqb-true, false_from_ne_true, false≢true}
use Rattle.std.proofs.lemmas.Option.{same_Some}
use Rattle.std.proofs.lemmas.Slice.Eq.{bytes_eq-Decides}
use Rattle.kat_ast.specs.declared.type_name.Param.{Param}
use Rattle.kat_ast.specs.declared.type_name.TypeName.{TypeName}
use Rattle.kat_ast.specs.declared.decl.DeclForm.{DeclForm}
use Rattle.kat_ast.specs.declared.decl.DeclForm.TheVariants as d
use Rattle.kat_ast.specs.declared.decl.RegisterKind.{RegisterKind}
use Rattle.kat_ast.specs.declared.decl.RegisterKind.TheVariants as register
use Rattle.kat_ast.specs.Types.{trees_of_param}
use Rattle.kat_syntax.specs.declared.type_rule.TypeRule.TheVariants.{NameTaken}
use Rattle.kat_syntax.specs.Around.{RegisterSeen, a_register, first_named}
use Rattle.kat_syntax.specs.Declares.{Declared, ctors_from, declared_by, declared_from, declared_in, is_type_decl, look_up, members_from}
use Rattle.kat_syntax.specs.Tables.{Name, RegisterDecl, register_names, registers_of}
use Rattle.kat_syntax.specs.TypingDeclarations.{decl_faults, stands_at}
use Rattle.kat_syntax.specs.TypingExpressions.{is_of_kind, is_outside_kind, is_protected_kind}
use Rattle.kat_claims.proofs.Faultless.{AreClean, met, names_clean, no_first}

-- the register at this position is outside
pub record IsOutsideAt (registers : List RegisterDecl) (at : ℕ) : Type 0 where
  pub register : RegisterDecl
  pub there : slice_get registers at ≡ Some register
  pub outside : is_outside_kind register.kind ≡ true

-- one declared name stands at one declaration
one_place :
    (o : Option Declared) (k m tree : ℕ) → stands_at k tree o ≡ true → stands_at m tree o ≡ true →
    k ≡ m
one_place None k m tree a b = absurd (cc)
one_place (Some one) k m tree a b =
    sym (eqb-true one.decl k (and_parts _ _ a).0) ∙ eqb-true one.decl m (and_parts _ _ b).0

-- the name of a register without faults is first declared there
declared_first :
    (all : List DeclForm) (k : ℕ) (x : Name) (type : TypeName) (kind : RegisterKind) →
    decl_faults (record { decls = all; number = k }) (d.Register x type kind) ≡ [] →
    stands_at k 2 (first_named (declared_by all) x) ≡ true
declared_first all k x type kind clean =
    met (stands_at k 2 (first_named (declared_by all) x)) 2 NameTaken
    (no_first _ []
    (names_clean (record { decls = all; number = k }) (d.Register x type kind) clean))

-- no later register has the name of one without faults
later_other :
    (all : List DeclForm) (x : Name) (k m : ℕ) (decls : List DeclForm) (at : ℕ)
    (out : RegisterDecl) → k < m → stands_at k 2 (first_named (declared_by all) x) ≡ true →
    AreClean all m decls → slice_get (registers_of decls) at ≡ Some out → x ≡ out.name → ⊥
later_other all x k m [] at out less first clean there same = absurd (cc)
later_other all x k m (d.Register y type kind ∷ decls) zero out less first clean there same =
    let is : record { name = y; type = type; kind = kind } ≡ out = cc in
    let here : stands_at m 2 (first_named (declared_by all) x) ≡ true =
    subst (λ z. stands_at m 2 (first_named (declared_by all) z) ≡ true)
    (ap (λ (one : RegisterDecl). one.name) is ∙ sym same)
    (declared_first all m y type kind clean.0) in
    let once = one_place (first_named (declared_by all) x) k m 2 first here in
    omega (arith, once, less)
later_other all x k m (d.Register y type kind ∷ decls) (suc at) out less first clean there same =
    later_other all x k (m + 1) decls at out (omega (arith, less)) first clean.1 there same
later_other all x k m (_ ∷ decls) at out less first clean there same =
    later_other all x k (m + 1) decls at out (omega (arith, less)) first clean.1 there same

-- so registers of one name are one
pub same_register :
    (all : List DeclForm) (k : ℕ) (decls : List DeclForm) (p q : ℕ) (a b : RegisterDecl) →
    AreClean all k decls → slice_get (registers_of decls) p ≡ Some a →
    slice_get (registers_of decls) q ≡ Some b → a.name ≡ b.name → a ≡ b
same_register all k [] p q a b clean first second same = absurd (cc)
same_register all k (d.Register x type kind ∷ decls) p q a b clean first second same =
    by p q first second (λ p q first second.
    same_register all (k + 1) decls p q a b clean.1 first second same)
  where
    apart :
        (one other : RegisterDecl) (at : ℕ) → Some (record { name = x; type = type; kind = kind })
        ≡ Some one → slice_get (registers_of decls) at ≡ Some other → one.name ≡ other.name → ⊥
    apart one other at is there e =
        later_other all x k (k + 1) decls at other (omega arith)
        (declared_first all k x type kind clean.0) clean.1 there
        (ap (λ (r : RegisterDecl). r.name) (same_Some _ one is) ∙ e)

    by :
        (p q : ℕ) → slice_get (registers_of (d.Register x type kind ∷ decls)) p ≡ Some a →
        slice_get (registers_of (d.Register x type kind ∷ decls)) q ≡ Some b →
        ((p q : ℕ) → slice_get (registers_of decls) p ≡ Some a →
        slice_get (registers_of decls) q ≡ Some b → a ≡ b) → a ≡ b
    by zero zero first second rest = cc
    by zero (suc q) first second rest = absurd (apart a b q first second same)
    by (suc p) zero first second rest = absurd (apart b a p second first (sym same))
    by (suc p) (suc q) first second rest = rest p q first second
same_register all k (_ ∷ decls) p q a b clean first second same =
    same_register all (k + 1) decls p q a b clean.1 first second same

-- no register is both protected and outside
pub not_both :
    (kind : RegisterKind) → is_protected_kind kind ≡ true → is_outside_kind kind ≡ true → ⊥
not_both register.Plain protected outside = false≢true protected
not_both register.Protected protected outside = false≢true outside
not_both register.Outside protected outside = false≢true protected

-- a name before other declared ones that is no register
passed :
    (b : Bool) (o : Option RegisterSeen) → (if b then option_or None o else o) ≡ o
passed true o = refl
passed false o = refl

-- a member or a constructor is no register
past_members :
    (k p tree : ℕ) (members : List Name) (more : List Declared) (r : Name) →
    look_up a_register (members_from k p tree members ++ more) r ≡ look_up a_register more r
past_members k p tree [] more r = refl
past_members k p tree (x ∷ members) more r =
    passed (bytes_eq x r) (look_up a_register (members_from k p (tree + 1) members ++ more) r)
    ∙ past_members k p (tree + 1) members more r

past_ctors :
    (all : List DeclForm) (k p at : ℕ) (ctors : List Param) (more : List Declared) (r : Name) →
    look_up a_register (ctors_from all k p at ctors ++ more) r ≡ look_up a_register more r
past_ctors all k p at [] more r = refl
past_ctors all k p at (ctor ∷ ctors) more r =
    passed (bytes_eq ctor.name r)
    (look_up a_register (ctors_from all k p (at + trees_of_param ctor) ctors ++ more) r)
    ∙ past_ctors all k p (at + trees_of_param ctor) ctors more r

-- nor is what another declaration than a register declares
past :
    (all : List DeclForm) (k p : ℕ) (decl : DeclForm) (more : List Declared) (r : Name) →
    registers_of (decl ∷ []) ≡ [] →
    look_up a_register (declared_in all k p decl ++ more) r ≡ look_up a_register more r
past all k p (d.Register x type kind) more r none = absurd (cc)
past all k p (d.Enum x members) more r none =
    passed (bytes_eq x r) _ ∙ past_members k p 4 members more r
past all k p (d.Union x ctors) more r none =
    passed (bytes_eq x r) _ ∙ past_ctors all k p 4 ctors more r
past all k p (d.Record x fields) more r none = passed (bytes_eq x r) _
past all k p (d.Region x params i e) more r none = passed (bytes_eq x r) _
past all k p (d.Predicate x ins outs body) more r none = passed (bytes_eq x r) _
past all k p (d.Fun x params result body) more r none = passed (bytes_eq x r) _
past all k p (d.Lemma x params ns pre post steps) more r none = passed (bytes_eq x r) _
past all k p (d.Block block) more r none = passed (bytes_eq block.name r) _
past all k p _ more r none = refl

-- what the name of a register means is the first register of this name
abbrev MeansFirst : List DeclForm → ℕ → ℕ → List DeclForm → Name → Type 0
MeansFirst all k p decls r =
    (q : ℕ) (one : RegisterDecl) → slice_get (registers_of decls) q ≡ Some one →
    r ≡ one.name →
    ((j : ℕ) → j < q → bytes_eq r (get_or (register_names decls) j []) ≡ false) →
    is_of_kind (λ kind. not (is_outside_kind kind))
    (look_up a_register (declared_from all k p decls) r) ≡ true →
    not (is_outside_kind one.kind) ≡ true

-- what is found is no outside register
abbrev IsPlain : Option RegisterSeen → Type 0
IsPlain seen = is_of_kind (λ kind. not (is_outside_kind kind)) seen ≡ true

-- with one register before
means_register :
    (all : List DeclForm) (k p : ℕ) (x : Name) (type : TypeName) (kind : RegisterKind)
    (decls : List DeclForm) (r : Name) → MeansFirst all (k + 1) p decls r →
    MeansFirst all k p (d.Register x type kind ∷ decls) r
means_register all k p x type kind decls r rest zero one there same before plain =
    let is : record { name = x; type = type; kind = kind } ≡ one = cc in
    let here : bytes_eq x r ≡ true =
    (bytes_eq-Decides x r).1 (ap (λ (o : RegisterDecl). o.name) is ∙ sym same) in
    ap (λ (o : RegisterDecl). not (is_outside_kind o.kind)) (sym is)
    ∙ (simp here at plain)
means_register all k p x type kind decls r rest (suc q) one there same before plain =
    let other : bytes_eq x r ≡ false =
    false_from_ne_true (bytes_eq x r) (λ e. false≢true (sym (before 0 (omega arith))
    ∙ (bytes_eq-Decides r x).1 (sym ((bytes_eq-Decides x r).0 e)))) in
    rest q one there same (λ j less. before (suc j) (omega (arith, less))) (simp other at plain)

-- with any declarations
pub means_first :
    (all : List DeclForm) (k p : ℕ) (decls : List DeclForm) (r : Name) →
    MeansFirst all k p decls r
means_first all k p [] r q one there same before plain = absurd (cc)
means_first all k p (d.Register x type kind ∷ decls) r q one there same before plain =
    means_register all k p x type kind decls r (means_first all (k + 1) p decls r) q one there same
    before plain
means_first all k p (decl ∷ decls) r q one there same before plain =
    let further = if is_type_decl decl then p + 1 else p in
    means_first all (k + 1) further decls r q one there same before
    (subst IsPlain (past all k p decl (declared_from all (k + 1) further decls) r refl) plain)
