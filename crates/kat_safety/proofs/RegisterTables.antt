-- The registers and the memory that typing finds are those of the states of a machine.
use Rattle.std.proofs.Common.{◌≡◌, ◌∙◌, ℕ, zero, suc, ◌+◌, ◌-◌, is_some, nat_le, nat_lt, Bool, true, false, not, List, [], ◌∷◌, ◌++◌, map, slice_get, Option, Some, None, refl, ap, sym, subst, if◌then◌else◌}
use Rattle.std.specs.Prelude.{filter_map, option_and_then, unwrap_or}
use Rattle.std.specs.List.{AllByRecursion, cons_option, list_any}
use Rattle.std.specs.Option.{option_map}
use Rattle.std.specs.Str.{bytes_eq}
use Rattle.std.proofs.lemmas.Bool.{and_parts, false≢true, or_left, or_right}
use Rattle.kat_names.specs.Names.{position_of}
use Rattle.kat_value.specs.declared.types.Ty.{Ty}
use Rattle.kat_value.specs.declared.types.Ty.TheVariants as ty
use Rattle.kat_value.specs.declared.types.TypeDecl.{TypeDecl}
use Rattle.kat_value.specs.declared.value.Value.{Value}
use Rattle.kat_value.specs.Shown.{ShownTypes}
use Rattle.kat_value.specs.Signatures.{agree, bits_of}
use Rattle.kat_value.specs.Typing.{has_type}
use Rattle.kat_value.specs.Widths.{is_number, is_width}
use Rattle.kat_ast.specs.declared.decl.DeclForm.{DeclForm}
use Rattle.kat_ast.specs.declared.decl.DeclForm.TheVariants as d
use Rattle.kat_ast.specs.declared.type_name.Param.{Param}
use Rattle.kat_ast.specs.Types.{trees_of_param}
use Rattle.kat_syntax.specs.declared.type_rule.TypeRule.TheVariants.{MemoryBounds, MemoryMissing, NoWidth}
use Rattle.kat_syntax.specs.Around.{Around, RegisterSeen, a_register, meant}
use Rattle.kat_syntax.specs.Declares.{Declared, ctors_from, declared_from, declared_in, look_up, members_from, type_of_name}
use Rattle.kat_syntax.specs.Machine.{MachineState}
use Rattle.kat_syntax.specs.Memories.{Memory, cell_type, has_bounds, index_type, memory_before, memory_from}
use Rattle.kat_syntax.specs.States.{IsState, KeptPlace, KeptRegister, are_of_types, cell_at, cell_width, is_kept_register, kept_register, memory_of, register_types, register_types_from, register_value, with_register, written, written_at}
use Rattle.kat_syntax.specs.Tables.{Name, RegisterDecl, register_names, registers_of}
use Rattle.kat_syntax.specs.TypeRules.{unless}
use Rattle.kat_syntax.specs.TypeTable.{named_type, no_type, types_of_decls}
use Rattle.kat_syntax.specs.TypingExpressions.{is_of_kind, is_protected_kind, type_of_register}
use Rattle.kat_safety.specs.Typed.{HasKnownValue, IsOfKnown}
use Rattle.kat_safety.proofs.Clean.{AreClean, empty_first, empty_second, inner_clean, met}
use Rattle.kat_safety.proofs.Lookups.{name_next}
use Rattle.kat_safety.proofs.TypedCalls.{found_behind, type_there}

no_members : (k p at : ℕ) (members : List Name) →
    AllByRecursion (λ (one : Declared). a_register one.decl one.is ≡ None)
    (members_from k p at members)
no_members k p at [] = tt
no_members k p at (x ∷ members) = (refl, no_members k p (at + 1) members)

no_ctors : (all : List DeclForm) (k p at : ℕ) (ctors : List Param) →
    AllByRecursion (λ (one : Declared). a_register one.decl one.is ≡ None)
    (ctors_from all k p at ctors)
no_ctors all k p at [] = tt
no_ctors all k p at (ctor ∷ ctors) =
    (refl, no_ctors all k p (at + trees_of_param ctor) ctors)

-- a register that typing knows: its position, its type, which is fixed, and that it is kept where
-- it is protected
pub record IsPlaced (registers : List RegisterDecl) (ts : List Ty) (r : Name)
    (o : Option RegisterSeen) : Type 0 where
  pub at : ℕ
  pub type : Ty
  pub place : position_of (map (λ (one : RegisterDecl). one.name) registers) r ≡ Some at
  pub typed : slice_get ts at ≡ Some type
  pub fixed : option_and_then (λ (seen : RegisterSeen). seen.type) o ≡ Some type
  pub kept :
      is_of_kind is_protected_kind o ≡ true →
      list_any (is_kept_register r) (filter_map kept_register registers) ≡ true

-- where a place is kept, the kept registers with one more have it
kept_next : (r : Name) (o : Option KeptPlace) (places : List KeptPlace) →
    list_any (is_kept_register r) places ≡ true →
    list_any (is_kept_register r) (cons_option o places) ≡ true
kept_next r None places any = any
kept_next r (Some place) places any =
    or_right (is_kept_register r place) (list_any (is_kept_register r) places) any

fixed_is : (o : Option Ty) → is_some o ≡ true → o ≡ Some (unwrap_or o no_type)
fixed_is None e = absurd (false≢true e)
fixed_is (Some t) e = refl

module _ (all : List DeclForm) (r : Name) where
  abbrev Placed : ℕ → ℕ → List DeclForm → Type 0
  Placed k p decls = (o : Option RegisterSeen) →
      look_up a_register (declared_from all k p decls) r ≡ o → is_some o ≡ true →
      IsPlaced (registers_of decls) (register_types_from all k decls) r o

  other : (k p q : ℕ) (ds : List Declared) (decls : List DeclForm) (o : Option RegisterSeen) →
      AllByRecursion (λ (one : Declared). a_register one.decl one.is ≡ None) ds →
      Placed (k + 1) q decls →
      look_up a_register (ds ++ declared_from all (k + 1) q decls) r ≡ o → is_some o ≡ true →
      IsPlaced (registers_of decls) (register_types_from all (k + 1) decls) r o
  other k p q ds decls o none later e some =
      later o (sym (found_behind a_register ds (declared_from all (k + 1) q decls) r none) ∙ e) some

  pub registers_placed : (k p : ℕ) (decls : List DeclForm) → AreClean all k decls → Placed k p decls
  registers_placed k p [] clean o e some = absurd (false≢true (ap is_some e ∙ some))
  registers_placed k p (d.Register x type kind ∷ decls) clean o e some =
      by (bytes_eq x r) refl (registers_placed (k + 1) p decls clean.1) e where
        fixed : type_of_name all k type ≡ Some (named_type all k type)
        fixed = fixed_is (type_of_name all k type) (type_there all k 3 type
            (empty_first _ _ (inner_clean all k (d.Register x type kind) clean.0)))

        kept_here : (b : Bool) → b ≡ true → bytes_eq x r ≡ true →
            list_any (is_kept_register r) (cons_option (if b then Some (KeptRegister x) else None)
            (filter_map kept_register (registers_of decls))) ≡ true
        kept_here true is same = or_left (bytes_eq x r)
            (list_any (is_kept_register r) (filter_map kept_register (registers_of decls))) same
        kept_here false is same = absurd (false≢true is)

        by : (b : Bool) → bytes_eq x r ≡ b → Placed (k + 1) p decls →
            (if b then Some (record { kind = kind; type = type_of_name all k type })
            else look_up a_register (declared_from all (k + 1) p decls) r) ≡ o →
            IsPlaced (registers_of (d.Register x type kind ∷ decls))
            (register_types_from all k (d.Register x type kind ∷ decls)) r o
        by true same later here = record {
          at = 0;
          type = named_type all k type;
          place = name_next x (register_names decls) r
              ∙ ap (λ b. if b then Some 0
              else option_map suc (position_of (register_names decls) r)) same;
          typed = refl;
          fixed = sym (ap (option_and_then (λ (seen : RegisterSeen). seen.type)) here) ∙ fixed;
          kept = λ is. kept_here (is_protected_kind kind)
              (ap (is_of_kind is_protected_kind) here ∙ is) same;
        }
        by false same later here =
            let rest = later o here some in record {
              at = suc rest.at;
              type = rest.type;
              place = name_next x (register_names decls) r
                  ∙ ap (λ b. if b then Some 0
                  else option_map suc (position_of (register_names decls) r)) same
                  ∙ ap (option_map suc) rest.place;
              typed = rest.typed;
              fixed = rest.fixed;
              kept = λ is. kept_next r
                  (kept_register (record { name = x; type = type; kind = kind }))
                  (filter_map kept_register (registers_of decls)) (rest.kept is);
            }
  registers_placed k p (d.Enum x members ∷ decls) clean o e some =
      other k p (p + 1) (declared_in all k p (d.Enum x members)) decls o
      (refl, no_members k p 4 members) (registers_placed (k + 1) (p + 1) decls clean.1) e some
  registers_placed k p (d.Union x ctors ∷ decls) clean o e some =
      other k p (p + 1) (declared_in all k p (d.Union x ctors)) decls o
      (refl, no_ctors all k p 4 ctors) (registers_placed (k + 1) (p + 1) decls clean.1) e some
  registers_placed k p (d.Record x fields ∷ decls) clean o e some =
      other k p (p + 1) (declared_in all k p (d.Record x fields)) decls o (refl, tt)
      (registers_placed (k + 1) (p + 1) decls clean.1) e some
  registers_placed k p (d.Fun x params result body ∷ decls) clean o e some =
      other k p p (declared_in all k p (d.Fun x params result body)) decls o (refl, tt)
      (registers_placed (k + 1) p decls clean.1) e some
  registers_placed k p (d.Region x params i guard ∷ decls) clean o e some =
      other k p p (declared_in all k p (d.Region x params i guard)) decls o (refl, tt)
      (registers_placed (k + 1) p decls clean.1) e some
  registers_placed k p (d.Predicate x inputs outputs definition ∷ decls) clean o e some =
      other k p p (declared_in all k p (d.Predicate x inputs outputs definition)) decls o
      (refl, tt) (registers_placed (k + 1) p decls clean.1) e some
  registers_placed k p (d.Lemma x params names pre post steps ∷ decls) clean o e some =
      other k p p (declared_in all k p (d.Lemma x params names pre post steps)) decls o (refl, tt)
      (registers_placed (k + 1) p decls clean.1) e some
  registers_placed k p (d.Block block ∷ decls) clean o e some =
      other k p p (declared_in all k p (d.Block block)) decls o (refl, tt)
      (registers_placed (k + 1) p decls clean.1) e some
  registers_placed k p (d.Memory a c lo hi ∷ decls) clean o e some =
      registers_placed (k + 1) p decls clean.1 o e some
  registers_placed k p (d.Cells kind lo hi ∷ decls) clean o e some =
      registers_placed (k + 1) p decls clean.1 o e some
  registers_placed k p (d.Code lo values ∷ decls) clean o e some =
      registers_placed (k + 1) p decls clean.1 o e some
  registers_placed k p (d.Contract g names pre x post ∷ decls) clean o e some =
      registers_placed (k + 1) p decls clean.1 o e some
  registers_placed k p (d.Step g ∷ decls) clean o e some =
      registers_placed (k + 1) p decls clean.1 o e some
  registers_placed k p (d.Dispatch cases otherwise ∷ decls) clean o e some =
      registers_placed (k + 1) p decls clean.1 o e some
  registers_placed k p (d.Untrusted holds ∷ decls) clean o e some =
      registers_placed (k + 1) p decls clean.1 o e some
  registers_placed k p (d.Boot x ∷ decls) clean o e some =
      registers_placed (k + 1) p decls clean.1 o e some

-- the value at the position of a type
pub value_typed : (types : List TypeDecl) (ts : List Ty) (vs : List Value) (at : ℕ) (t : Ty) →
    are_of_types types ts vs ≡ true → slice_get ts at ≡ Some t →
    (v : Value) × (slice_get vs at ≡ Some v) × (has_type types v t ≡ true)
value_typed types [] vs at t are there = absurd (let f : None ≡ Some t = there in cc)
value_typed types (u ∷ ts) [] at t are there = absurd (false≢true are)
value_typed types (u ∷ ts) (v ∷ vs) zero t are there =
    let same : u ≡ t = cc in (
      v,
      refl,
      subst (λ w. has_type types v w ≡ true) same
          (and_parts (has_type types v u) (are_of_types types ts vs) are).0,
    )
value_typed types (u ∷ ts) (v ∷ vs) (suc at) t are there =
    value_typed types ts vs at t (and_parts (has_type types v u) (are_of_types types ts vs) are).1
    there

-- a register that is known has a value of its type
pub read_there : (decls : List DeclForm) (k : ℕ) → AreClean decls 0 decls → (r : Name)
    (s : MachineState) → IsState decls s →
    is_some (meant a_register (record { decls = decls; number = k }) r) ≡ true →
    HasKnownValue (types_of_decls decls)
    (type_of_register (record { decls = decls; number = k }) r)
    (register_value decls r s.registers)
read_there decls k clean r s is some =
    let placed = registers_placed decls r 0 0 decls clean
    (meant a_register (record { decls = decls; number = k }) r) refl some in
    let v = value_typed (types_of_decls decls) (register_types decls) s.registers placed.at
    placed.type is.registers placed.typed in
    record {
      one = v.0;
      there = ap (option_and_then (slice_get s.registers)) placed.place ∙ v.1;
      typed = subst (λ (t : Option Ty). IsOfKnown (types_of_decls decls) t v.0)
          (sym placed.fixed) v.2;
    }

-- and takes a value of it
pub write_there : ShownTypes → (decls : List DeclForm) (k : ℕ) → AreClean decls 0 decls →
    (r : Name) (v : Value) (t : Option Ty) (s : MachineState) → IsState decls s →
    is_some (meant a_register (record { decls = decls; number = k }) r) ≡ true →
    agree (type_of_register (record { decls = decls; number = k }) r) t ≡ true →
    IsOfKnown (types_of_decls decls) t v → (next : MachineState) × (written decls r v s ≡ Some next)
write_there shown decls k clean r v None s is some agrees typed = absurd typed
write_there shown decls k clean r v (Some t) s is some agrees typed =
    let placed = registers_placed decls r 0 0 decls clean
    (meant a_register (record { decls = decls; number = k }) r) refl some in
    let same : placed.type ≡ t = shown.told placed.type t
    (sym (ap (λ (o : Option Ty). agree o (Some t)) placed.fixed) ∙ agrees) in
    let here : has_type (types_of_decls decls) v placed.type ≡ true =
    subst (λ u. has_type (types_of_decls decls) v u ≡ true) (sym same) typed in (
      with_register placed.at v s,
      ap (option_and_then (λ at. written_at decls at v s)) placed.place
          ∙ ap (option_and_then (λ (type : Ty). if has_type (types_of_decls decls) v type
          then Some (with_register placed.at v s) else None)) placed.typed
          ∙ ap (λ b. if b then Some (with_register placed.at v s) else None) here,
    )

-- the widths of a declared memory
pub memory_wide : (all : List DeclForm) (k : ℕ) (decls : List DeclForm) → AreClean all k decls →
    (m : Memory) → memory_from k decls ≡ Some m →
    (is_width m.index_width ≡ true) × (is_width m.cell_width ≡ true)
memory_wide all k [] clean m e = absurd (let f : None ≡ Some m = e in cc)
memory_wide all k (d.Memory a c lo hi ∷ decls) clean m e =
    let one : Memory = record { decl = k; index_width = a; cell_width = c; lo = lo; hi = hi } in
    let same : one ≡ m = cc in
    let around : Around = record { decls = all; number = k } in
    let first = unless (not (is_some (memory_before around))) 0 MemoryMissing in
    let index = unless (is_width a) 2 NoWidth in
    let cell = unless (is_width c) 3 NoWidth in
    let bounds = unless (has_bounds a lo hi) 0 MemoryBounds in
    let inner = empty_second first (index ++ (cell ++ bounds))
    (inner_clean all k (d.Memory a c lo hi) clean.0) in
    subst (λ (m : Memory). (is_width m.index_width ≡ true) × (is_width m.cell_width ≡ true)) same (
      met (is_width a) 2 NoWidth (empty_first index (cell ++ bounds) inner),
      met (is_width c) 3 NoWidth (empty_first cell bounds (empty_second index (cell ++ bounds)
          inner)),
    )
memory_wide all k (_ ∷ decls) clean m e = memory_wide all (k + 1) decls clean.1 m e

-- the memory before a declaration is that of the machine
pub memory_there : (decls : List DeclForm) (k : ℕ) → AreClean decls 0 decls →
    is_some (memory_before (record { decls = decls; number = k })) ≡ true →
    (m : Memory) × (memory_of decls ≡ Some m)
    × (index_type (record { decls = decls; number = k }) ≡ Some (ty.Bits m.index_width))
    × (cell_type (record { decls = decls; number = k }) ≡ Some (ty.Bits m.cell_width))
memory_there decls k clean some = by (memory_from 0 decls) refl some where
  by : (o : Option Memory) → memory_from 0 decls ≡ o →
      is_some (option_and_then (λ (m : Memory). if nat_lt m.decl k then Some m else None) o)
      ≡ true →
      (m : Memory) × (o ≡ Some m)
      × (option_and_then (λ (m : Memory). bits_of m.index_width)
      (option_and_then (λ (m : Memory). if nat_lt m.decl k then Some m else None) o)
      ≡ Some (ty.Bits m.index_width))
      × (option_and_then (λ (m : Memory). bits_of m.cell_width)
      (option_and_then (λ (m : Memory). if nat_lt m.decl k then Some m else None) o)
      ≡ Some (ty.Bits m.cell_width))
  by None at is = absurd (false≢true is)
  by (Some m) at is = before (nat_lt m.decl k) is where
    wide : (is_width m.index_width ≡ true) × (is_width m.cell_width ≡ true)
    wide = memory_wide decls 0 decls clean m at

    before : (b : Bool) → is_some (if b then Some m else None) ≡ true →
        (n : Memory) × (Some m ≡ Some n)
        × (option_and_then (λ (m : Memory). bits_of m.index_width) (if b then Some m else None)
        ≡ Some (ty.Bits n.index_width))
        × (option_and_then (λ (m : Memory). bits_of m.cell_width) (if b then Some m else None)
        ≡ Some (ty.Bits n.cell_width))
    before true there = (
      m,
      refl,
      ap (λ b. if b then Some (ty.Bits m.index_width) else None) wide.0,
      ap (λ b. if b then Some (ty.Bits m.cell_width) else None) wide.1,
    )
    before false there = absurd (false≢true there)

-- a number that is in a cell fits
number_at : (P : ℕ → Type 0) (xs : List ℕ) (at n : ℕ) → AllByRecursion P xs →
    slice_get xs at ≡ Some n → P n
number_at P [] at n are there = absurd (let f : None ≡ Some n = there in cc)
number_at P (x ∷ xs) zero n are there = let same : x ≡ n = cc in subst P same are.0
number_at P (x ∷ xs) (suc at) n are there = number_at P xs at n are.1 there

pub cell_there : (decls : List DeclForm) (m : Memory) (i n : ℕ) (s : MachineState) →
    memory_of decls ≡ Some m → IsState decls s → cell_at s i ≡ Some n →
    is_number m.cell_width n ≡ true
cell_there decls m i n s there is at = by (nat_le s.lo i) at where
  width : cell_width decls ≡ m.cell_width
  width = ap (λ o. unwrap_or (option_map (λ (one : Memory). one.cell_width) o) 0) there

  by : (b : Bool) → (if b then slice_get s.cells (i - s.lo) else None) ≡ Some n →
      is_number m.cell_width n ≡ true
  by true found =
      subst (λ w. is_number w n ≡ true) width
      (number_at (λ m. is_number (cell_width decls) m ≡ true) s.cells (i - s.lo) n is.fitting found)
  by false found = absurd (let f : None ≡ Some n = found in cc)
