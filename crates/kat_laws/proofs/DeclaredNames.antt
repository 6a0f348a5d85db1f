-- The names of the registers, members and constructors of a specification of the language's text.
use Rattle.std.proofs.Common.{◌≡◌, ◌≢◌, ℕ, zero, suc, ◌+◌, ◌-◌, ◌<◌, ◌≤◌, ◌^◌, ◌&&◌, true, List, [], ◌∷◌, map, Option, Some, None, sym, subst, ◌∙◌, arith}
use Rattle.std.specs.Prelude.{IfSome, codes, nat_le, nat_lt, unwrap_or}
use Rattle.std.specs.Option.{option_map}
use Rattle.std.specs.List.{All, AllByRecursion}
use Rattle.std.proofs.Math.Nat.{pow-le-pow_right}
use Rattle.std.proofs.lemmas.Bool.{and_parts, eqb-true, leb-true, ltb-true}
use Rattle.std.proofs.lemmas.List.Elements.{All-nil, All-cons}
use Rattle.kat_names.specs.Names.{AllDiffer}
use Rattle.kat_value.specs.Widths.{is_width, widest}
use Rattle.kat_ast.specs.Declarations.{word_of_register_kind, IsDecl}
use Rattle.kat_ast.specs.Parts.{word}
use Rattle.kat_ast.specs.Types.{tree_of_type, tree_of_param, tree_of_params, trees_of_param}
use Rattle.kat_tree.specs.declared.tree.Tree.TheVariants as tree
use Rattle.kat_ast.specs.declared.type_name.Param.{Param}
use Rattle.kat_ast.specs.declared.type_name.TypeName.{TypeName}
use Rattle.kat_ast.specs.declared.decl.RegisterKind.{RegisterKind}
use Rattle.kat_ast.specs.declared.decl.DeclForm.{DeclForm}
use Rattle.kat_ast.specs.declared.decl.DeclForm.TheVariants as d
use Rattle.kat_syntax.specs.Around.{Around, first_named}
use Rattle.kat_syntax.specs.Declares.{Declared, declared_by, members_from, ctors_from}
use Rattle.kat_syntax.specs.Limits.{most_cells}
use Rattle.kat_syntax.specs.Memories.{Memory, memory_from, has_bounds}
use Rattle.kat_syntax.specs.States.{memory_of}
use Rattle.kat_syntax.specs.Tables.{Name, register_names}
use Rattle.kat_syntax.specs.TypeTable.{fields_of, types_from}
use Rattle.kat_syntax.specs.TypingDeclarations.{decl_faults, stands_at, taken_names}
use Rattle.kat_syntax.specs.declared.type_rule.TypeRule.TheVariants.{MemoryBounds, NameTaken, NoWidth}
use Rattle.kat_laws.specs.TextLaw.{AreNames, HasValueNames, IsWord, names_of_parts}
use Rattle.kat_laws.specs.Runs.{MachinesHaveNames}
use Rattle.kat_laws.specs.CleanDeclarations.{AreClean}
use Rattle.kat_laws.proofs.Clean.{empty_first, empty_second, inner_clean, met, names_clean}
use Rattle.kat_laws.proofs.NameWords.{TokensByParts, IsSpelled, spelled_parts, spelled_word}

-- one declared name stands at one declaration, and at one tree
pub one_place : (o : Option Declared) (k m tree other : ℕ) → stands_at k tree o ≡ true →
    stands_at m other o ≡ true → (k ≡ m) × (tree ≡ other)
one_place None k m tree other a b = absurd (cc)
one_place (Some one) k m tree other a b =
    let here = and_parts _ _ a in
    let there = and_parts _ _ b in (
      sym (eqb-true one.decl k here.0) ∙ eqb-true one.decl m there.0,
      sym (eqb-true one.tree tree here.1) ∙ eqb-true one.tree other there.1,
    )

-- a name that differs from those behind it
differ_cons : (name : Name) (names : List Name) → All (λ other. name ≢ other) names →
    AllDiffer names → AllDiffer (name ∷ names)
differ_cons name names apart rest zero zero d less within = absurd (omega arith)
differ_cons name names apart rest (suc i) zero d less within = absurd (omega arith)
differ_cons name names apart rest zero (suc j) d less within = apart j d (omega arith)
differ_cons name names apart rest (suc i) (suc j) d less within = rest i j d (omega arith)
    (omega arith)

none_differ : AllDiffer []
none_differ = λ i j d less within. absurd (omega arith)

module _ (all : List DeclForm) (k : ℕ) where
  -- all declarations around the one with this number
  abbrev around : Around
  around = record { decls = all; number = k }

  -- the declared name that is the first of this name stands at this tree of this declaration
  abbrev IsFirstAt : ℕ → Name → Type 0
  IsFirstAt tree x = stands_at k tree (first_named (declared_by all) x) ≡ true

  -- names of one declaration at these trees differ
  apart_at : (tree other : ℕ) (x y : Name) → tree < other → IsFirstAt tree x → IsFirstAt other y →
      x ≢ y
  apart_at tree other x y less here there e =
      let same = (one_place (first_named (declared_by all) x) k k tree other here
      (subst (IsFirstAt other) (sym e) there)).1 in
      omega (arith, less, same)

  other_members : (p tree from : ℕ) (x : Name) (members : List Name) → tree < from →
      IsFirstAt tree x → taken_names around (members_from k p from members) ≡ [] →
      All (λ other. x ≢ other) members
  other_members p tree from x [] less here clean = All-nil (λ other. x ≢ other)
  other_members p tree from x (member ∷ members) less here clean =
      All-cons (λ other. x ≢ other) member members
      (apart_at tree from x member less here (met _ from NameTaken (empty_first _ _ clean)))
      (other_members p tree (from + 1) x members (omega (arith, less)) here
      (empty_second _ _ clean))

  members_differ : (p tree : ℕ) (members : List Name) →
      taken_names around (members_from k p tree members) ≡ [] → AllDiffer members
  members_differ p tree [] clean = none_differ
  members_differ p tree (member ∷ members) clean =
      differ_cons member members
      (other_members p tree (tree + 1) member members (omega arith)
      (met _ tree NameTaken (empty_first _ _ clean)) (empty_second _ _ clean))
      (members_differ p (tree + 1) members (empty_second _ _ clean))

  -- the names of constructors
  abbrev names : List Param → List Name
  names ctors = names_of_parts (fields_of all k ctors)

  other_ctors : (p tree at : ℕ) (x : Name) (ctors : List Param) → tree < at + 1 →
      IsFirstAt tree x → taken_names around (ctors_from all k p at ctors) ≡ [] →
      All (λ other. x ≢ other) (names ctors)
  other_ctors p tree at x [] less here clean = All-nil (λ other. x ≢ other)
  other_ctors p tree at x (ctor ∷ ctors) less here clean =
      All-cons (λ other. x ≢ other) ctor.name (names ctors)
      (apart_at tree (at + 1) x ctor.name less here
      (met _ (at + 1) NameTaken (empty_first _ _ clean)))
      (other_ctors p tree (at + trees_of_param ctor) x ctors (omega (arith, less)) here
      (empty_second _ _ clean))

  ctors_differ : (p at : ℕ) (ctors : List Param) →
      taken_names around (ctors_from all k p at ctors) ≡ [] → AllDiffer (names ctors)
  ctors_differ p at [] clean = none_differ
  ctors_differ p at (ctor ∷ ctors) clean =
      differ_cons ctor.name (names ctors)
      (other_ctors p (at + 1) (at + trees_of_param ctor) ctor.name ctors (omega arith)
      (met _ (at + 1) NameTaken (empty_first _ _ clean)) (empty_second _ _ clean))
      (ctors_differ p (at + trees_of_param ctor) ctors (empty_second _ _ clean))

  words_of_members : TokensByParts → (members : List Name) →
      AllByRecursion IsSpelled (map word members) → All IsWord members
  words_of_members tokens [] are = All-nil IsWord
  words_of_members tokens (member ∷ members) are =
      All-cons IsWord member members (spelled_word tokens member are.0)
      (words_of_members tokens members are.1)

  words_of_ctors : TokensByParts → (ctors : List Param) →
      AllByRecursion IsSpelled (map tree_of_param ctors) → All IsWord (names ctors)
  words_of_ctors tokens [] are = All-nil IsWord
  words_of_ctors tokens (ctor ∷ ctors) are =
      let parts = spelled_parts tokens (word ctor.name ∷ tree_of_type ctor.ty ∷ []) are.0 in
      All-cons IsWord ctor.name (names ctors) (spelled_word tokens ctor.name parts.0)
      (words_of_ctors tokens ctors are.1)

  enum_named : TokensByParts → (x : Name) (members : List Name) → IsDecl (d.Enum x members) →
      decl_faults around (d.Enum x members) ≡ [] → AreNames members
  enum_named tokens x members is clean =
      let parts = spelled_parts tokens
      (word (codes "enum") ∷ word x ∷ tree.List (map word members) ∷ []) is.tokens in
      record {
        words = words_of_members tokens members
            (spelled_parts tokens (map word members) parts.1.1.0);
        distinct = members_differ 0 4 members
            (empty_second _ _ (names_clean all k (d.Enum x members) clean));
      }

  union_named : TokensByParts → (x : Name) (ctors : List Param) → IsDecl (d.Union x ctors) →
      decl_faults around (d.Union x ctors) ≡ [] → AreNames (names ctors)
  union_named tokens x ctors is clean =
      let parts = spelled_parts tokens
      (word (codes "union") ∷ word x ∷ tree_of_params ctors ∷ []) is.tokens in
      record {
        words = words_of_ctors tokens ctors
            (spelled_parts tokens (map tree_of_param ctors) parts.1.1.0);
        distinct = ctors_differ 0 4 ctors
            (empty_second _ _ (names_clean all k (d.Union x ctors) clean));
      }

types_named : TokensByParts → (all : List DeclForm) (k : ℕ) (decls : List DeclForm) →
    AllByRecursion IsDecl decls → AreClean all k decls →
    AllByRecursion HasValueNames (types_from all k decls)
types_named tokens all k [] are clean = tt
types_named tokens all k (d.Enum x members ∷ decls) are clean = (
  enum_named all k tokens x members are.0 clean.0,
  types_named tokens all (k + 1) decls are.1 clean.1,
)
types_named tokens all k (d.Union x ctors ∷ decls) are clean = (
  union_named all k tokens x ctors are.0 clean.0,
  types_named tokens all (k + 1) decls are.1 clean.1,
)
types_named tokens all k (d.Record x fields ∷ decls) are clean =
    (tt, types_named tokens all (k + 1) decls are.1 clean.1)
types_named tokens all k (_ ∷ decls) are clean =
    types_named tokens all (k + 1) decls are.1 clean.1

-- the name of a register
register_word : TokensByParts → (x : Name) (type : TypeName) (kind : RegisterKind) →
    IsDecl (d.Register x type kind) → IsWord x
register_word tokens x type kind is =
    spelled_word tokens x (spelled_parts tokens
    (word (codes "register") ∷ word x ∷ tree_of_type type ∷ word (word_of_register_kind kind) ∷ [])
    is.tokens).1.0

words_of : TokensByParts → (decls : List DeclForm) → AllByRecursion IsDecl decls →
    All IsWord (register_names decls)
words_of tokens [] are = All-nil IsWord
words_of tokens (d.Register x type kind ∷ decls) are =
    All-cons IsWord x (register_names decls) (register_word tokens x type kind are.0)
    (words_of tokens decls are.1)
words_of tokens (_ ∷ decls) are = words_of tokens decls are.1

-- the name of a register without faults is first declared there
register_first : (all : List DeclForm) (k : ℕ) (x : Name) (type : TypeName) (kind : RegisterKind) →
    decl_faults (record { decls = all; number = k }) (d.Register x type kind) ≡ [] → stands_at k 2
    (first_named (declared_by all) x) ≡ true
register_first all k x type kind clean =
    met (stands_at k 2 (first_named (declared_by all) x)) 2 NameTaken
    (empty_first _ [] (names_clean all k (d.Register x type kind) clean))

-- registers behind one have other names
others_differ : (all : List DeclForm) (x : Name) (k m : ℕ) (decls : List DeclForm) → k < m →
    stands_at k 2 (first_named (declared_by all) x) ≡ true → AreClean all m decls →
    All (λ other. x ≢ other) (register_names decls)
others_differ all x k m [] less first clean = All-nil (λ other. x ≢ other)
others_differ all x k m (d.Register y type kind ∷ decls) less first clean =
    All-cons (λ other. x ≢ other) y (register_names decls)
    (λ e.
    let here : stands_at m 2 (first_named (declared_by all) x) ≡ true =
    subst (λ z. stands_at m 2 (first_named (declared_by all) z) ≡ true) (sym e)
    (register_first all m y type kind clean.0) in
    let same = (one_place (first_named (declared_by all) x) k m 2 2 first here).0 in
    omega (arith, same, less))
    (others_differ all x k (m + 1) decls (omega arith) first clean.1)
others_differ all x k m (_ ∷ decls) less first clean = others_differ all x k (m + 1) decls
    (omega arith) first clean.1

differ_from : (all : List DeclForm) (k : ℕ) (decls : List DeclForm) → AreClean all k decls →
    AllDiffer (register_names decls)
differ_from all k [] clean = none_differ
differ_from all k (d.Register x type kind ∷ decls) clean =
    differ_cons x (register_names decls)
    (others_differ all x k (k + 1) decls (omega arith) (register_first all k x type kind clean.0)
    clean.1)
    (differ_from all (k + 1) decls clean.1)
differ_from all k (_ ∷ decls) clean = differ_from all (k + 1) decls clean.1

-- the bounds of a memory that is not too wide are below 2 ^ 64
pub bounds_small : (width lo hi : ℕ) → is_width width ≡ true → has_bounds width lo hi ≡ true →
    lo + (hi - lo) ≤ 2 ^ 64
bounds_small width lo hi wide bounds =
    let parts = and_parts (nat_lt lo hi) (nat_le hi (2 ^ width) && nat_le (hi - lo) most_cells)
    bounds in
    let reach = leb-true hi (2 ^ width)
    (and_parts (nat_le hi (2 ^ width)) (nat_le (hi - lo) most_cells) parts.1).0 in
    let narrow : width ≤ 64 = leb-true width widest
    (and_parts (nat_le 1 width) (nat_le width widest) wide).1 in
    let most : 2 ^ width ≤ 2 ^ 64 = pow-le-pow_right (omega arith) narrow in
    omega (arith, ltb-true lo hi parts.0, reach, most)

memory_small : (all : List DeclForm) (k : ℕ) (decls : List DeclForm) → AreClean all k decls →
    IfSome (memory_from k decls) (λ (memory : Memory). memory.lo + (memory.hi - memory.lo) ≤ 2 ^ 64)
memory_small all k [] clean = tt
memory_small all k (d.Memory a c lo hi ∷ decls) clean =
    let inner = inner_clean all k (d.Memory a c lo hi) clean.0 in
    let widths = empty_second _ _ inner in
    bounds_small a lo hi (met (is_width a) 2 NoWidth (empty_first _ _ widths))
    (met (has_bounds a lo hi) 0 MemoryBounds (empty_second _ _ (empty_second _ _ widths)))
memory_small all k (_ ∷ decls) clean = memory_small all (k + 1) decls clean.1

indices_small : (memory : Option Memory) →
    IfSome memory (λ (m : Memory). m.lo + (m.hi - m.lo) ≤ 2 ^ 64) →
    unwrap_or (option_map (λ (m : Memory). m.lo) memory) 0
    + unwrap_or (option_map (λ (m : Memory). m.hi - m.lo) memory) 0 ≤ 2 ^ 64
indices_small None small = omega arith
indices_small (Some memory) small = small

pub machines_named : TokensByParts → MachinesHaveNames
machines_named tokens spec machine = record {
  registers = record {
    words = words_of tokens spec.decls machine.written;
    distinct = differ_from spec.decls 0 spec.decls machine.typed;
  };
  types = types_named tokens spec.decls 0 spec.decls machine.written machine.typed;
  indices = indices_small (memory_of spec.decls)
      (memory_small spec.decls 0 spec.decls machine.typed);
}
