-- A write from outside leaves the phase, the kept values and the code of a typed specification.
use Rattle.std.proofs.Common.{arith, ◌≡◌, ◌∙◌, ℕ, suc, ◌+◌, ◌-◌, true, not, ◌&&◌, List, [], ◌∷◌, ◌++◌, filter, get_or, map, slice_get, Option, Some, None, refl, sym, ap, subst}
use Rattle.std.specs.Prelude.{◌==◌, nat_le, nat_lt}
use Rattle.std.specs.Option.{option_map}
use Rattle.std.specs.List.{AllByRecursion, cons_option, filter_map, list_any, range_with_len}
use Rattle.std.specs.Str.{bytes_eq}
use Rattle.std.proofs.lemmas.Bool.{cond_both, false≢true, ne_eqb, not_from_false}
use Rattle.std.proofs.lemmas.Bool.Decides.{nat_tests}
use Rattle.std.proofs.lemmas.List.Quantifiers.{position-Some}
use Rattle.std.proofs.lemmas.Option.{cond_some, get_or_from_slice_get, option_and_then_some, slice_get-map}
use Rattle.std.proofs.lemmas.Slice.Eq.{bytes_eq-Decides}
use Rattle.kat_value.specs.declared.value.Value.{Value}
use Rattle.kat_value.specs.declared.value.Value.TheVariants.{Bits as Number}
use Rattle.kat_ast.specs.Spec.{Spec}
use Rattle.kat_ast.specs.declared.decl.DeclForm.{DeclForm}
use Rattle.kat_syntax.specs.declared.places.OutsidePlace.{OutsidePlace}
use Rattle.kat_syntax.specs.declared.places.OutsidePlace.TheVariants.{Register as OutsideRegister, Cells as OutsideCells}
use Rattle.kat_syntax.specs.declared.places.Poke.{Poke}
use Rattle.kat_syntax.specs.FirstTypeFault.{IsTyped}
use Rattle.kat_syntax.specs.Machine.{MachineState}
use Rattle.kat_syntax.specs.MeaningLaws.{ChangesOnePlace, OutsideWritesChangeOnePlace}
use Rattle.kat_syntax.specs.Memories.{Memory, protects, ranges_of}
use Rattle.kat_syntax.specs.OutsideWrites.{OneCell, OneRegister, Target, Wrote, outside_places, poked, target_in}
use Rattle.kat_syntax.specs.Phases.{phase_of}
use Rattle.kat_syntax.specs.States.{KeptCell, KeptPlace, KeptRegister, cell_at, cell_width, kept_cells, kept_of, kept_places, kept_register, memory_of, register_position, register_value, value_at, value_of_place}
use Rattle.kat_syntax.specs.Tables.{Name, RegisterDecl, register_names, registers_of}
use Rattle.kat_syntax.specs.TypingExpressions.{is_protected_kind}
use Rattle.kat_claims.specs.Outside.{IsCodeCell, OutsideWritesKeep}
use Rattle.kat_claims.proofs.OutsideCells.{IsOutsideAlone, alone_from, code_alone, code_there, unprotected}
use Rattle.kat_claims.proofs.OutsidePhase.{same_phase}
use Rattle.kat_claims.proofs.OutsideRegisters.{IsOutsideAt, means_first, not_both, same_register}
use Rattle.kat_claims.proofs.OutsidePlaces.{IsPlaceOf, placed}

-- what a target is of a typed specification: an outside register, or a cell of outside cells alone
abbrev IsOutsideTarget : List DeclForm → Target → Type 0
IsOutsideTarget decls (OneRegister at width) = IsOutsideAt (registers_of decls) at
IsOutsideTarget decls (OneCell index width) = IsOutsideAlone index decls

-- a place of cells, with an offset in it
within_place : (lo hi offset : ℕ) → nat_lt offset (hi - lo) ≡ true →
    (nat_le lo (lo + offset) && nat_lt (lo + offset) hi) ≡ true
within_place lo hi offset less = grind (arith, nat_tests)

-- the target in a place is such
target_is :
    (spec : Spec) → IsTyped spec → (offset : ℕ) (place : OutsidePlace) (target : Target) →
    IsPlaceOf 0 spec.decls place → target_in spec.decls offset place ≡ Some target →
    IsOutsideTarget spec.decls target
target_is spec typed offset (OutsideRegister at width) target from given =
    let same : from.further ≡ at = let further = from.is in omega (arith, further) in
    subst (IsOutsideTarget spec.decls)
    (cond_some (offset == 0) (OneRegister at width) target given).1
    (subst (IsOutsideAt (registers_of spec.decls)) same from.there)
target_is spec typed offset (OutsideCells lo hi) target lets given =
    let parts = cond_some (nat_lt offset (hi - lo))
    (OneCell (lo + offset) (cell_width spec.decls)) target given in
    subst (IsOutsideTarget spec.decls) parts.1
    (alone_from (lo + offset) spec.decls 0 spec.decls refl typed
    (lets (lo + offset) (within_place lo hi offset parts.0)))

-- the value of a register in two lists that have the same one at its position
value_same :
    (decls : List DeclForm) (r : Name) (ours theirs : List Value) →
    ((p : ℕ) → register_position decls r ≡ Some p → slice_get ours p ≡ slice_get theirs p) →
    register_value decls r ours ≡ register_value decls r theirs
value_same decls r ours theirs same = by (register_position decls r) refl
  where
    by : (o : Option ℕ) → register_position decls r ≡ o → value_at ours o ≡ value_at theirs o
    by None is = refl
    by (Some p) is = same p is

-- two positions that are another
apart : (at p : ℕ) → (at ≡ p → ⊥) → not (at == p) ≡ true
apart at p other = not_from_false (at == p) (ne_eqb at p other)

-- a register that stands at the position of a name has this name
named :
    (decls : List DeclForm) (r : Name) (p : ℕ) (out : IsOutsideAt (registers_of decls) p) →
    register_position decls r ≡ Some p → r ≡ out.register.name
named decls r p out is =
    (bytes_eq-Decides r (get_or (register_names decls) p [])).0
    (position-Some (bytes_eq r) (register_names decls) p [] is).1
    ∙ get_or_from_slice_get (register_names decls) p out.register.name []
    (slice_get-map (λ (register : RegisterDecl). register.name) (registers_of decls) p
    ∙ ap (option_map (λ (register : RegisterDecl). register.name)) out.there)

-- what is not changed of kept places
places_same :
    (decls : List DeclForm) (s t : MachineState) (places : List KeptPlace) →
    AllByRecursion (λ place. value_of_place decls s place ≡ value_of_place decls t place) places →
    filter_map (value_of_place decls s) places ≡ filter_map (value_of_place decls t) places
places_same decls s t [] same = refl
places_same decls s t (place ∷ places) same =
    ap (λ o. cons_option o (filter_map (value_of_place decls s) places)) same.0
    ∙ ap (cons_option (value_of_place decls t place)) (places_same decls s t places same.1)

-- what holds of two lists holds of both
all_both :
    (P : KeptPlace → Type 0) (xs ys : List KeptPlace) → AllByRecursion P xs → AllByRecursion P ys →
    AllByRecursion P (xs ++ ys)
all_both P [] ys first second = second
all_both P (x ∷ xs) ys first second = (first.0, all_both P xs ys first.1 second)

-- the protected registers among some
registers_kept :
    (P : KeptPlace → Type 0) (registers : List RegisterDecl) →
    ((at : ℕ) (one : RegisterDecl) → slice_get registers at ≡ Some one →
    is_protected_kind one.kind ≡ true → P (KeptRegister one.name)) →
    AllByRecursion P (filter_map kept_register registers)
registers_kept P [] each = tt
registers_kept P (one ∷ registers) each =
    let rest = registers_kept P registers (λ at. each (suc at)) in
    cond_both (is_protected_kind one.kind) (Some (KeptRegister one.name)) None
    (λ o. AllByRecursion P (cons_option o (filter_map kept_register registers)))
    (λ here. (each 0 one refl here, rest)) (λ no. rest)

-- the protected cells of a memory
cells_kept :
    (P : KeptPlace → Type 0) (decls : List DeclForm) (memory : Option Memory) →
    ((i : ℕ) → list_any (protects i) (ranges_of decls) ≡ true → P (KeptCell i)) →
    AllByRecursion P (kept_cells decls memory)
cells_kept P decls None each = tt
cells_kept P decls (Some memory) each = among (range_with_len memory.lo (memory.hi - memory.lo))
  where
    among : (indices : List ℕ) →
        AllByRecursion P
        (map KeptCell (filter (λ i. list_any (protects i) (ranges_of decls)) indices))
    among [] = tt
    among (i ∷ indices) =
        let later = filter (λ j. list_any (protects j) (ranges_of decls)) indices in
        cond_both (list_any (protects i) (ranges_of decls)) (i ∷ later) later
        (λ cells. AllByRecursion P (map KeptCell cells))
        (λ here. (each i here, among indices)) (λ no. among indices)

-- what an outside write does not change: what is no outside register, and no cell of outside cells
-- alone
record Stays (decls : List DeclForm) (s t : MachineState) : Type 0 where
  registers :
      (p : ℕ) → (IsOutsideAt (registers_of decls) p → ⊥) →
      slice_get t.registers p ≡ slice_get s.registers p
  cells : (i : ℕ) → (IsOutsideAlone i decls → ⊥) → cell_at t i ≡ cell_at s i

-- a write changes no other place than that of its target
others_stay :
    (decls : List DeclForm) (target : Target) (s t : MachineState) →
    IsOutsideTarget decls target → ChangesOnePlace target s t → Stays decls s t
others_stay decls (OneRegister at width) s t out changes = record {
  registers = λ p none. changes.other_registers p
      (apart at p (λ same. none (subst (IsOutsideAt (registers_of decls)) same out)));
  cells = λ i none. changes.other_cells i refl;
}
others_stay decls (OneCell index width) s t out changes = record {
  registers = λ p none. changes.other_registers p refl;
  cells = λ i none. changes.other_cells i
      (apart index i (λ same. none (subst (λ j. IsOutsideAlone j decls) same out)));
}

module _ (spec : Spec) (typed : IsTyped spec) (s t : MachineState)
    (stays : Stays spec.decls s t) where
  abbrev decls : List DeclForm
  decls = spec.decls

  -- the dispatch reads no outside register
  phase_same : phase_of decls t ≡ phase_of decls s
  phase_same = same_phase decls t.registers s.registers (λ r k plain.
      value_same decls r t.registers s.registers (λ p is. stays.registers p (λ out.
      false≢true (ap not (sym out.outside)
      ∙ means_first decls 0 0 decls r p out.register out.there (named decls r p out is)
      (position-Some (bytes_eq r) (register_names decls) p [] is).2 plain)))) 0 decls typed

  -- a protected register
  protected_same :
      (at : ℕ) (one : RegisterDecl) → slice_get (registers_of decls) at ≡ Some one →
      is_protected_kind one.kind ≡ true →
      register_value decls one.name t.registers ≡ register_value decls one.name s.registers
  protected_same at one there protected =
      value_same decls one.name t.registers s.registers (λ p is. stays.registers p (λ out.
      let same = same_register decls 0 decls at p one out.register typed there out.there
      (named decls one.name p out is) in
      not_both out.register.kind
      (ap (λ (r : RegisterDecl). is_protected_kind r.kind) (sym same) ∙ protected) out.outside))

  -- a protected cell
  cell_same : (i : ℕ) → list_any (protects i) (ranges_of decls) ≡ true → cell_at t i ≡ cell_at s i
  cell_same i protected =
      stays.cells i (λ alone. false≢true (sym (unprotected i decls alone) ∙ protected))

  -- all of it
  abbrev IsSame : KeptPlace → Type 0
  IsSame place = value_of_place decls t place ≡ value_of_place decls s place

  kept_same : kept_of decls t ≡ kept_of decls s
  kept_same =
      places_same decls t s (kept_places decls)
      (all_both IsSame (filter_map kept_register (registers_of decls))
      (kept_cells decls (memory_of decls))
      (registers_kept IsSame (registers_of decls) protected_same)
      (cells_kept IsSame decls (memory_of decls)
      (λ i protected. ap (option_map (Number (cell_width decls))) (cell_same i protected))))

  -- a code cell
  code_same : (i : ℕ) → IsCodeCell decls i → cell_at t i ≡ cell_at s i
  code_same i is = stays.cells i (code_alone i decls is)

-- what writes from outside keep
pub outside_writes_keep : OutsideWritesChangeOnePlace → OutsideWritesKeep
outside_writes_keep change = record {
  phase = λ spec poke before after typed wrote.
      phase_same spec typed before after (stay spec poke before after typed wrote);
  kept = λ spec poke before after typed wrote.
      kept_same spec typed before after (stay spec poke before after typed wrote);
  code_cells = λ spec poke before after i typed wrote.
      code_same spec typed before after (stay spec poke before after typed wrote) i;
  code = λ spec poke before after typed wrote.
      let same = code_same spec typed before after (stay spec poke before after typed wrote) in (
        code_there before after spec.decls (λ j is. sym (same j is)),
        code_there after before spec.decls same,
      );
}
  where
    stay :
        (spec : Spec) (poke : Poke) (before after : MachineState) → IsTyped spec →
        poked spec poke before ≡ Wrote after → Stays spec.decls before after
    stay spec poke before after typed wrote =
        let one = change spec poke before after wrote in
        others_stay spec.decls one.0 before after (option_and_then_some
        (target_in spec.decls poke.offset) (slice_get (outside_places spec.decls) poke.ordinal)
        one.0 one.1 (λ place there given. target_is spec typed poke.offset place one.0
        (placed 0 spec.decls poke.ordinal place there) given)) one.2
