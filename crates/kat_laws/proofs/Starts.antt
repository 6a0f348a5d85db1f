-- The state before an image is one of the machine.
use Rattle.std.proofs.Common.{◌≡◌, ℕ, zero, suc, ◌+◌, ◌-◌, true, List, [], ◌∷◌, map, replicate, Option, None, Some, refl, ap, subst, ◌∙◌}
use Rattle.std.specs.Prelude.{IfSome, IsTrue, slice_get, unwrap_or}
use Rattle.std.specs.Option.{option_map}
use Rattle.std.specs.List.{AllByRecursion}
use Rattle.std.proofs.lemmas.Bool.{and_from}
use Rattle.std.proofs.lemmas.List.{length-replicate}
use Rattle.kat_value.specs.declared.types.Ty.{Ty}
use Rattle.kat_value.specs.declared.types.TypeDecl.{TypeDecl}
use Rattle.kat_value.specs.declared.value.Value.{Value}
use Rattle.kat_value.specs.declared.value.Value.TheVariants.{Unit as UnitValue}
use Rattle.kat_value.specs.Typing.{has_type}
use Rattle.kat_value.specs.Widths.{is_number, is_width}
use Rattle.kat_ast.specs.declared.decl.DeclForm.{DeclForm}
use Rattle.kat_ast.specs.declared.decl.DeclForm.TheVariants as d
use Rattle.kat_ast.specs.Spec.{Spec}
use Rattle.kat_syntax.specs.declared.type_rule.TypeRule.TheVariants.{NoWidth}
use Rattle.kat_syntax.specs.FirstTypeFault.{IsTyped}
use Rattle.kat_syntax.specs.FirstValues.{firsts_with}
use Rattle.kat_syntax.specs.Memories.{Memory, memory_from}
use Rattle.kat_syntax.specs.Start.{first_or_unit}
use Rattle.kat_syntax.specs.States.{are_of_types, register_types, memory_of, cell_count}
use Rattle.kat_syntax.specs.TypeTable.{NamesEarlierTypes, types_of_decls}
use Rattle.kat_laws.specs.Runs.{IsMachine, StartsAreStates}
use Rattle.kat_laws.specs.CleanDeclarations.{AreClean}
use Rattle.kat_laws.proofs.Clean.{empty_first, empty_second, inner_clean, met}
use Rattle.kat_laws.proofs.FirstValues.{ArePlain, HasFirst, HasPart, types_have_firsts, zero_is_number}
use Rattle.kat_laws.proofs.KindsOfTypes.{StandsLast, registers_stand, types_have_parts}

-- what holds of all holds at each place
at_place : (P : TypeDecl → Type 0) (types : List TypeDecl) (p : ℕ) (one : TypeDecl) → AllByRecursion
    P types → slice_get types p ≡ Some one → P one
at_place P [] p one all at = absurd (let f : None ≡ Some one = at in cc)
at_place P (first ∷ types) zero one all at = let same : first ≡ one = cc in subst P same all.0
at_place P (first ∷ types) (suc p) one all at = at_place P types p one all.1 at

plain : (spec : Spec) → IsMachine spec → NamesEarlierTypes (types_of_decls spec.decls) →
    ArePlain (types_of_decls spec.decls)
plain spec machine earlier = λ p one at. (
  at_place HasPart (types_of_decls spec.decls) p one (types_have_parts spec.decls 0 spec.decls
      machine.written) at,
  earlier p one at,
)

-- the first values of types are of them
start_registers : (types : List TypeDecl) → ArePlain types → (tys : List Ty) → AllByRecursion
    (StandsLast types) tys →
    are_of_types types tys (map (first_or_unit types) tys) ≡ true
start_registers types plain [] stand = refl
start_registers types plain (t ∷ tys) stand =
    let has : HasFirst types (firsts_with [] types) t = types_have_firsts types plain t stand.0 in
    let typed : has_type types (first_or_unit types t) t ≡ true =
    ap (λ (o : Option Value). has_type types (unwrap_or o UnitValue) t) has.first ∙ has.typed in
    and_from (has_type types (first_or_unit types t) t)
    (are_of_types types tys (map (first_or_unit types) tys)) typed
    (start_registers types plain tys stand.1)

-- a memory has cells of a width
memory_wide : (all : List DeclForm) (k : ℕ) (decls : List DeclForm) → AreClean all k decls →
    IfSome (memory_from k decls) (λ (memory : Memory). is_width memory.cell_width ≡ true)
memory_wide all k [] clean = tt
memory_wide all k (d.Memory a c lo hi ∷ decls) clean =
    let inner = inner_clean all k (d.Memory a c lo hi) clean.0 in
    met (is_width c) 3 NoWidth (empty_first _ _ (empty_second _ _ (empty_second _ _ inner)))
memory_wide all k (_ ∷ decls) clean = memory_wide all (k + 1) decls clean.1

zeros_fit : (w n : ℕ) → is_number w 0 ≡ true → AllByRecursion (λ n. IsTrue (is_number w n))
    (replicate n 0)
zeros_fit w zero fits = tt
zeros_fit w (suc n) fits = (fits, zeros_fit w n fits)

-- the cells of a memory, where there is one
cells_fit : (memory : Option Memory) → IfSome memory (λ (m : Memory). is_width m.cell_width ≡ true)
    →
    AllByRecursion (λ n. IsTrue
    (is_number (unwrap_or (option_map (λ (m : Memory). m.cell_width) memory) 0) n))
    (replicate (unwrap_or (option_map (λ (m : Memory). m.hi - m.lo) memory) 0) 0)
cells_fit None wide = tt
cells_fit (Some memory) wide = zeros_fit memory.cell_width (memory.hi - memory.lo)
    (zero_is_number memory.cell_width wide)

pub starts_are_states : ((spec : Spec) → IsTyped spec → NamesEarlierTypes
    (types_of_decls spec.decls)) → StartsAreStates
starts_are_states earlier spec machine = record {
  registers = start_registers (types_of_decls spec.decls)
      (plain spec machine (earlier spec machine.typed)) (register_types spec.decls)
      (registers_stand spec.decls machine.typed);
  first = refl;
  count = length-replicate (cell_count spec.decls) 0;
  fitting = cells_fit (memory_of spec.decls) (memory_wide spec.decls 0 spec.decls machine.typed);
}
