-- The memory of a typed specification has widths, and bounds that its indices reach; and there are
-- few declarations.
use Rattle.std.proofs.Common.{◌≡◌, ℕ, ◌+◌, ◌≤◌, true, List, [], ◌∷◌, ◌++◌, length, not, is_some, arith}
use Rattle.std.specs.Prelude.{◌==◌, IfSome}
use Rattle.std.proofs.lemmas.Bool.{and_parts}
use Rattle.std.proofs.lemmas.Bool.Decides.{nat_tests}
use Rattle.std.specs.List.{AllByRecursion}
use Rattle.kat_value.specs.Widths.{is_width}
use Rattle.kat_ast.specs.declared.decl.DeclForm.{DeclForm}
use Rattle.kat_ast.specs.declared.decl.DeclForm.TheVariants as d
use Rattle.kat_ast.specs.Spec.{Spec}
use Rattle.kat_syntax.specs.declared.type_rule.TypeRule.TheVariants.{NoWidth, MemoryMissing, MemoryBounds, TooMany}
use Rattle.kat_syntax.specs.Around.{Around}
use Rattle.kat_syntax.specs.TypeRules.{Fault, unless}
use Rattle.kat_syntax.specs.Memories.{Memory, IsMemory, has_bounds, memory_before, memory_from}
use Rattle.kat_syntax.specs.States.{memory_of}
use Rattle.kat_syntax.specs.TypingDeclarations.{inner_faults, is_in_limits, own_names, taken_names}
use Rattle.kat_syntax.specs.Limits.{most_declarations}
use Rattle.kat_syntax.specs.FirstTypeFault.{IsTyped, faults_from}
use Rattle.kat_syntax.proofs.NoFaults.{empty_first, empty_second, met}
use Rattle.kat_syntax.proofs.EarlierTypes.{inner_clean}

-- a declared memory without faults
memory_is : (around : Around) (k a c lo hi : ℕ) → inner_faults around (d.Memory a c lo hi) ≡ [] →
    IsMemory (record { decl = k; index_width = a; cell_width = c; lo = lo; hi = hi })
memory_is around k a c lo hi e =
    let missing = unless (not (is_some (memory_before around))) 0 MemoryMissing in
    let index = unless (is_width a) 2 NoWidth in
    let cell = unless (is_width c) 3 NoWidth in
    let bounds = unless (has_bounds a lo hi) 0 MemoryBounds in
    let three = empty_second missing (index ++ (cell ++ bounds)) e in
    let two = empty_second index (cell ++ bounds) three in
    record {
      index = met (is_width a) 2 NoWidth (empty_first index (cell ++ bounds) three);
      cell = met (is_width c) 3 NoWidth (empty_first cell bounds two);
      bounds = met (has_bounds a lo hi) 0 MemoryBounds (empty_second cell bounds two);
    }

memory_from_clean : (all : List DeclForm) (k : ℕ) (decls : List DeclForm) →
    AllByRecursion (λ (faults : List Fault). faults ≡ []) (faults_from all k decls) →
    IfSome (memory_from k decls) IsMemory
memory_from_clean all k [] clean = tt
memory_from_clean all k (d.Memory a c lo hi ∷ decls) clean =
    memory_is (record { decls = all; number = k }) k a c lo hi
    (inner_clean all k (d.Memory a c lo hi) clean.0)
memory_from_clean all k (_ ∷ decls) clean = memory_from_clean all (k + 1) decls clean.1

pub memory_of_typed : (spec : Spec) → IsTyped spec → IfSome (memory_of spec.decls) IsMemory
memory_of_typed spec typed = memory_from_clean spec.decls 0 spec.decls typed

-- declarations without faults are no more than there may be
few_from : (all : List DeclForm) (k : ℕ) (decls : List DeclForm) → k ≤ most_declarations →
    AllByRecursion (λ (faults : List Fault). faults ≡ []) (faults_from all k decls) →
    k + length decls ≤ most_declarations
few_from all k [] below clean = omega (arith, below)
few_from all k (decl ∷ decls) below clean =
    let around : Around = record { decls = all; number = k } in
    let limits = unless (is_in_limits around decl) 0 TooMany in
    let held = met (is_in_limits around decl) 0 TooMany
    (empty_first limits (inner_faults around decl)
    (empty_second (taken_names around (own_names around decl)) (limits ++ inner_faults around decl)
    clean.0)) in
    let other : not (k == most_declarations) ≡ true = (and_parts _ _ held).0 in
    let next : k + 1 ≤ most_declarations = grind (arith, nat_tests) in
    let rest = few_from all (k + 1) decls next clean.1 in
    omega (arith, rest)

pub few_of_typed : (spec : Spec) → IsTyped spec → length spec.decls ≤ most_declarations
few_of_typed spec typed =
    let few = few_from spec.decls 0 spec.decls (omega arith) typed in omega (arith, few)
