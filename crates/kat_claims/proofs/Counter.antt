-- The counter machine boots.
use Rattle.std.proofs.Common.{arith, ◌≡◌, ◌∙◌, ℕ, zero, suc, ◌-◌, Bool, true, false, List, [], ◌∷◌, Option, Some, None, refl, sym, ap, subst, slice_get, if◌then◌else◌, unwrap_or, rules}
use Rattle.std.specs.Prelude.{IsTrue, IsSome, nat_le, nat_lt, ◌==◌, ◌&&◌, ◌||◌, ◌<◌, ◌≤◌, ◌^◌, codes}
use Rattle.std.specs.List.{AllByRecursion}
use Rattle.std.proofs.lemmas.Bool.{and_parts, cond_both}
use Rattle.std.proofs.lemmas.Bool.Decides.{nat_tests}
use Rattle.std.proofs.lemmas.Option.{none-some, slice_get-get_or, slice_get_past, slice_get_within}
use Rattle.kat_value.specs.declared.types.Ty.TheVariants as ty
use Rattle.kat_value.specs.declared.types.TypeDecl.{TypeDecl}
use Rattle.kat_value.specs.declared.value.Value.{Value, fold-roll-Value, map-Value, out-Value, roll-Value}
use Rattle.kat_value.specs.declared.value.Value.TheOpen as layer
use Rattle.kat_value.specs.declared.value.Value.TheVariants as value
use Rattle.kat_value.specs.declared.value.Value.TheVariants.{rolls-Bits, rolls-Member}
use Rattle.kat_value.specs.declared.value.Value.TheViews.{outs-Bits, outs-Member}
use Rattle.kat_value.specs.Equality.{same_layer, value_eq}
use Rattle.kat_value.specs.Typing.{has_type, layer_has_type}
use Rattle.kat_value.specs.Widths.{is_number, is_width}
use Rattle.kat_ast.specs.declared.assertion.Assertion.{Assertion}
use Rattle.kat_ast.specs.declared.decl.DeclForm.{DeclForm}
use Rattle.kat_ast.specs.declared.decl.Phase.TheVariants as phase
use Rattle.kat_ast.specs.declared.expr.Expr.TheOpen as expr
use Rattle.kat_ast.specs.declared.stm.Stm.{Stm}
use Rattle.kat_value.specs.Numbers.{IsNumber}
use Rattle.kat_ast.specs.declared.assertion.Assertion.TheOpen as assertion
use Rattle.kat_syntax.specs.Evaluation.{Environment, Nothing, value_of_expr}
use Rattle.kat_syntax.specs.Fragments.{Fragment, IsOfMemory, IsOfType, Join, nothing, one_register, whole}
use Rattle.kat_syntax.specs.Holds.{Holds, IsRegion, IsThere, guards, is_true, predicates_of}
use Rattle.kat_syntax.specs.Phases.{Boots, IsGuardedAt, in_dispatch, phase_of, with_kept}
use Rattle.kat_syntax.specs.States.{IsState, cell_at, memory_of, register_position, register_types}
use Rattle.kat_syntax.specs.TypeTable.{types_of_decls}
use Rattle.kat_claims.specs.Counter.{at_zero, byte, counter, entry, holding, image, in_user, mode_of, own, upper}
use Rattle.kat_claims.specs.Security.{CounterBoots}
use Rattle.kat_claims.proofs.Joins.{split_place, taken_off, with_nothing, without}
use Rattle.kat_claims.proofs.Layers.{closed}
use Rattle.kat_claims.proofs.Steps.{expr_layer, typed_by_layer}

-- numbers are of their types
bits_have_type :
    (types : List TypeDecl) (w n v : ℕ) →
    has_type types (value.Bits w n) (ty.Bits v) ≡ (w == v) && is_number w n
bits_have_type types w n v = typed_by_layer types (layer.Bits w n) _ (ty.Bits v) (rolls-Bits w n)

-- members are of theirs
member_has_type :
    (types : List TypeDecl) (p i q : ℕ) →
    has_type types (value.Member p i) (ty.Enum q)
    ≡ layer_has_type types (layer.Member p i) (ty.Enum q)
member_has_type types p i q =
    typed_by_layer types (layer.Member p i) _ (ty.Enum q) (rolls-Member p i)

-- equality of values is tested on their layers
equal_by_layer :
    (one : layer.Value-F Value) (x y : Value) → roll-Value one ≡ x →
    value_eq x y
    ≡ same_layer (map-Value Value (Value → Bool) value_eq one) (out-Value y)
equal_by_layer one x y is =
    ap (λ (v : Value). value_eq v y) (sym is)
    ∙ ap (λ (test : Value → Bool). test y)
    (fold-roll-Value (Value → Bool) (λ one x. same_layer one (out-Value x)) one)

-- of numbers, and of members
bits_equal : (w m v n : ℕ) → value_eq (value.Bits w m) (value.Bits v n) ≡ (w == v) && (m == n)
bits_equal w m v n = equal_by_layer (layer.Bits w m) _ _ (rolls-Bits w m) ∙ simp outs-Bits

members_equal :
    (p i q j : ℕ) → value_eq (value.Member p i) (value.Member q j) ≡ (p == q) && (i == j)
members_equal p i q j =
    equal_by_layer (layer.Member p i) _ _ (rolls-Member p i) ∙ simp outs-Member

module _ (trap user kernel step : Stm) (pre post : Assertion) where
  abbrev decls : List DeclForm
  decls = counter trap user kernel step pre post

  -- its image is a state of it
  pub image_is_state : IsState decls image
  image_is_state = record {
    registers = simp (bits_have_type, member_has_type);
    first = refl;
    count = refl;
    fitting = search rules;
  }

  -- the conditions of its dispatch
  abbrev there : Environment
  there = in_dispatch decls image

  not_in_user : value_of_expr there in_user ≡ Some (value.Bool false)
  not_in_user = simp (expr_layer, outs-Member, members_equal)

  is_at_zero : value_of_expr there at_zero ≡ Some (value.Bool true)
  is_at_zero = simp (expr_layer, outs-Bits, bits_equal)

  -- its phase is the handler
  pub image_phase : phase_of decls image ≡ Some (phase.Block (codes "handler"))
  image_phase = simp (not_in_user, is_at_zero)

  -- what its kernel owns: the mode, the counter of instructions, and the cells of user code
  abbrev kernel_mode : Value
  kernel_mode = value.Member 0 1

  abbrev first_byte : Value
  first_byte = value.Bits 8 0

  abbrev cells_of_user : ℕ → Option ℕ
  cells_of_user i = if nat_le 8 i then cell_at image i else None

  abbrev is_owned : ℕ → Bool
  is_owned at = (at == 0) || (at == 1)

  abbrev owned : Fragment
  owned = record {
    registers = λ at. if is_owned at then slice_get image.registers at else None;
    cells = cells_of_user;
  }

  -- and the rest
  abbrev rest : Fragment
  rest = record {
    registers = λ at. if is_owned at then None else slice_get image.registers at;
    cells = λ i. if nat_le 8 i then None else cell_at image i;
  }

  split_image : Join (whole image) owned rest
  split_image = record {
    registers = λ at. split_place (is_owned at) (slice_get image.registers at);
    cells = λ i. split_place (nat_le 8 i) (cell_at image i);
  }

  -- its region, which has no register
  abbrev region : Fragment
  region = without 1 (without 0 owned)

  no_register : (at : ℕ) → region.registers at ≡ None
  no_register at = by (at == 0) (at == 1)
    where
      by :
          (a b : Bool) →
          (if b then None
          else (if a then None else (if a || b then slice_get image.registers at else None)))
          ≡ None
      by a true = refl
      by true false = refl
      by false false = refl

  -- its fragment has neither the count nor the code
  no_count :
      (at : ℕ) → register_position decls (codes "count") ≡ Some at → owned.registers at ≡ None
  no_count at e =
      let third : 2 ≡ at = ap (λ o. unwrap_or o 2) e in
      subst (λ k. owned.registers k ≡ None) third refl

  -- where the entry of its handler is read
  abbrev env : Environment
  env = with_kept decls image

  -- the guard of its region
  upper_is :
      (i : ℕ) → is_number 8 i ≡ true →
      guards decls (record { params = []; index = codes "i"; guard = upper }) [] i ≡ nat_le 8 i
  upper_is i fits =
      let inner : Environment = record {
        decls = decls;
        reads = Nothing;
        locals = (codes "i", value.Bits 8 i) ∷ [];
      } in
      let value_is : value_of_expr inner upper ≡ Some (value.Bool (nat_le 8 i)) =
      simp (expr_layer, outs-Bits, fits) in
      ap is_true value_is

  -- all cells hold numbers that fit
  of_all :
      (xs : List ℕ) (i n : ℕ) → AllByRecursion (λ n. IsTrue (is_number 8 n)) xs →
      slice_get xs i ≡ Some n → is_number 8 n ≡ true
  of_all [] i n all e = absurd (cc)
  of_all (x ∷ xs) zero n all e =
      subst (λ m. is_number 8 m ≡ true) (ap (λ o. unwrap_or o x) e) all.0
  of_all (x ∷ xs) (suc i) n all e = of_all xs i n all.1 e

  -- a number that fits
  number_fits : (n : ℕ) → is_number 8 n ≡ true → IsNumber 8 n
  number_fits n e =
      let below : nat_lt n (2 ^ 8) ≡ true = (and_parts (is_width 8) (nat_lt n (2 ^ 8)) e).1 in
      record {
        width = record { positive = omega arith; small = omega arith };
        below = grind (arith, nat_tests);
      }

  -- a cell by its index
  cell_is : (i : ℕ) → cell_at image i ≡ slice_get image.cells i
  cell_is i =
      let low : nat_le 0 i ≡ true = grind (arith, nat_tests) in
      let same : i - 0 ≡ i = omega arith in
      ap (λ b. if b then slice_get image.cells (i - 0) else None) low
      ∙ ap (slice_get image.cells) same

  -- a cell of the region is one of the memory
  of_memory :
      (i n : ℕ) → slice_get image.cells i ≡ Some n → IsOfMemory (memory_of decls) i n
  of_memory i n e =
      let within : i < 16 = slice_get_within image.cells i n e in
      (omega arith, within, number_fits n (of_all image.cells i n image_is_state.fitting e))

  -- where there are cells, and where there are none
  cell_inside : (i : ℕ) → i < 16 → IsSome (cell_at image i)
  cell_inside i small =
      subst IsSome (sym (cell_is i ∙ slice_get-get_or image.cells i 0 small)) refl

  cell_past :
      (i : ℕ) (b : Bool) → 16 ≤ i → (if b then cell_at image i else None) ≡ None
  cell_past i true far = cell_is i ∙ slice_get_past image.cells i far
  cell_past i false far = refl

  cell_there :
      (i : ℕ) (low within : Bool) → nat_le 0 i ≡ low → nat_lt i 16 ≡ within →
      IsThere ((low && within)
      && guards decls (record { params = []; index = codes "i"; guard = upper }) [] i)
      (cells_of_user i)
  cell_there i false within not_low less = absurd (grind (arith, nat_tests))
  cell_there i true true low less =
      let small : i < 16 = grind (arith, nat_tests) in
      let below : i < 256 = omega (arith, small) in
      let test : nat_lt i 256 ≡ true = grind (arith, nat_tests) in
      subst (λ b. IsThere b (cells_of_user i)) (sym (upper_is i test))
      (elim (nat_le 8 i) as (λ b. IsThere b (if b then cell_at image i else None))
      [ true ↦ cell_inside i small | false ↦ refl ])
  cell_there i true false low past =
      let far : 16 ≤ i = grind (arith, nat_tests) in
      cell_past i (nat_le 8 i) far

  -- the fragment is the region
  is_region : IsRegion decls (codes "own") [] region
  is_region = (
    record { params = []; index = codes "i"; guard = upper },
    refl,
    [],
    refl,
    record {
      fits = record {
        registers = λ at v e. absurd (none-some v (sym (no_register at) ∙ e));
        cells = in_region;
      };
      registers = no_register;
      cells = λ i. cell_there i (nat_le 0 i) (nat_lt i 16) refl refl;
    },
  )
    where
      in_region : (i n : ℕ) → cells_of_user i ≡ Some n → IsOfMemory (memory_of decls) i n
      in_region i n = cond_both (nat_le 8 i) (cell_at image i) None
          (λ o. o ≡ Some n → IsOfMemory (memory_of decls) i n)
          (λ upper e. of_memory i n (sym (cell_is i) ∙ e)) (λ no e. absurd (none-some n e))

  -- it holds the entry
  entry_holds : Holds entry env owned
  entry_holds =
      let predicates = predicates_of decls in
      let own_mode = holding (codes "mode") (mode_of (codes "Kernel")) in
      let own_first = holding (codes "pc") (byte 0) in
      closed predicates (assertion.Star (own_mode ∷ own_first ∷ own ∷ [])) env owned (
        one_register 0 kernel_mode,
        without 0 owned,
        taken_off owned 0 kernel_mode refl,
        closed predicates (assertion.Register (codes "mode") (mode_of (codes "Kernel"))) env
            (one_register 0 kernel_mode) (
              0,
              kernel_mode,
              refl,
              expr_layer env (expr.Of (codes "Mode") (codes "Kernel")),
              mode_typed,
              refl,
            ),
        (
          one_register 1 first_byte,
          region,
          taken_off (without 0 owned) 1 first_byte refl,
          closed predicates (assertion.Register (codes "pc") (byte 0)) env
              (one_register 1 first_byte)
              (1, first_byte, refl, expr_layer env (expr.Bits 8 0), byte_typed, refl),
          (
            region,
            nothing,
            with_nothing region,
            closed predicates (assertion.Region (codes "own") []) env region ([], refl, is_region),
            refl,
          ),
        ),
      )
    where
      mode_typed : IsOfType decls (slice_get (register_types decls) 0) kernel_mode
      mode_typed = member_has_type (types_of_decls decls) 0 1 0

      byte_typed : IsOfType decls (slice_get (register_types decls) 1) first_byte
      byte_typed = bits_have_type (types_of_decls decls) 8 0 8

  -- its image boots
  pub image_boots : Boots decls image
  image_boots = record {
    name = codes "handler";
    declared = refl;
    phase = image_phase;
    guarded = subst (IsGuardedAt decls image) (sym image_phase) (record {
      code = ((refl, (refl, tt)), tt);
      owned = owned;
      rest = rest;
      part = split_image;
      without_kept = (no_count, tt);
      without_code = ((refl, (refl, tt)), tt);
      holds = entry_holds;
    });
  }

-- the counter machine's image boots, whatever its functions do
pub counter_boots : CounterBoots
counter_boots trap user kernel step pre post =
    (image_is_state trap user kernel step pre post, image_boots trap user kernel step pre post)
