-- What statements and outside writes leave as it was.
use Rattle.std.proofs.Common.{◌≡◌, ◌∙◌, ℕ, zero, suc, ◌+◌, ◌-◌, ◌≤◌, Bool, true, false, not, ◌||◌, nat_le, List, [], ◌∷◌, ◌++◌, length, slice_get, Option, Some, None, refl, ap, sym, subst, if◌then◌else◌, append_assoc, arith}
use Rattle.std.specs.Prelude.{◌==◌, slice_set}
use Rattle.std.specs.List.{AllByRecursion, list_any}
use Rattle.std.specs.Str.{bytes_eq}
use Rattle.std.proofs.lemmas.Bool.Decides.{nat_tests}
use Rattle.std.proofs.lemmas.List.{append-nil, length-set}
use Rattle.kat_value.specs.declared.types.Ty.{Ty}
use Rattle.kat_value.specs.declared.value.Value.{Value}
use Rattle.kat_value.specs.declared.value.Value.TheVariants.{Bits as Number}
use Rattle.kat_value.specs.Typing.{has_type}
use Rattle.kat_ast.specs.declared.decl.DeclForm.{DeclForm}
use Rattle.kat_ast.specs.declared.decl.DeclForm.TheVariants as d
use Rattle.kat_ast.specs.declared.stm.Stm.{Stm}
use Rattle.kat_ast.specs.Spec.{Spec}
use Rattle.kat_syntax.specs.declared.places.Poke.{Poke}
use Rattle.kat_syntax.specs.Tables.{Name, Function, function_at, function_from}
use Rattle.kat_syntax.specs.TypeTable.{types_of_decls}
use Rattle.kat_syntax.specs.Machine.{MachineState, Progress}
use Rattle.kat_syntax.specs.States.{register_position, register_types, cell_at, with_cell, with_register, written, written_at}
use Rattle.kat_syntax.specs.OutsideWrites.{Target, OneRegister, OneCell, target_of, takes_bits, with_target, Wrote, NoFit, poked_at}
use Rattle.kat_syntax.specs.MeaningLaws.{is_position, is_at, ChangesOnly, StatementsChangeWhatTheyWrite, ChangesOnePlace, OutsideWritesChangeOnePlace, written_by_stm, written_by_decls}
use Rattle.kat_syntax.proofs.KeptRelations.{some_then}
use Rattle.kat_syntax.proofs.SpentCalls.{KeptWithin, all_keep}

-- two numbers that a test tells apart
differ : (i j : ℕ) → (i == j) ≡ false → i ≡ j → ⊥
differ i j test same = grind (arith, nat_tests)

-- a test that is not met
fails : (b : Bool) → not b ≡ true → b ≡ false
fails true e = cc
fails false e = refl

holds_not : (b : Bool) → b ≡ false → not b ≡ true
holds_not b e = ap not e

-- where one or the other is not met, neither is
neither : (a b : Bool) → (a || b) ≡ false → (a ≡ false) × (b ≡ false)
neither false false e = (refl, refl)
neither false true e = absurd (cc)
neither true b e = absurd (cc)

-- another place than the one that is set
other_place : {A : Type 0} (xs : List A) (i j : ℕ) (a : A) → (i ≡ j → ⊥) →
    slice_get (slice_set xs i a) j ≡ slice_get xs j
other_place [] i j a other = refl
other_place (x ∷ xs) zero zero a other = absurd (other refl)
other_place (x ∷ xs) zero (suc j) a other = refl
other_place (x ∷ xs) (suc i) zero a other = refl
other_place (x ∷ xs) (suc i) (suc j) a other =
    other_place xs i j a (λ e. other (ap suc e))

-- from one state to another nothing changes but this cell
pub record CellSet (i : ℕ) (before after : MachineState) : Type 0 where
  pub registers : after.registers ≡ before.registers
  pub first : after.lo ≡ before.lo
  pub count : length after.cells ≡ length before.cells
  pub others : (j : ℕ) → (i ≡ j → ⊥) → cell_at after j ≡ cell_at before j

other_cell : (s : MachineState) (i n j : ℕ) (c : Bool) → nat_le s.lo i ≡ true → nat_le s.lo j ≡ c →
    (i ≡ j → ⊥) →
    (if c then slice_get (slice_set s.cells (i - s.lo) n) (j - s.lo) else None)
    ≡ (if c then slice_get s.cells (j - s.lo) else None)
other_cell s i n j false here there other = refl
other_cell s i n j true here there other =
    let first : s.lo ≤ i = grind (arith, nat_tests) in
    let second : s.lo ≤ j = grind (arith, nat_tests) in
    other_place s.cells (i - s.lo) (j - s.lo) n (λ e. other (omega (arith, first, second, e)))

cell_set_by : (i n : ℕ) (s : MachineState) (b : Bool) → nat_le s.lo i ≡ b →
    CellSet i s (if b then record s { cells = slice_set s.cells (i - s.lo) n } else s)
cell_set_by i n s true is = record {
  registers = refl;
  first = refl;
  count = length-set s.cells (i - s.lo) n;
  others = λ j other. other_cell s i n j (nat_le s.lo j) is refl other;
}
cell_set_by i n s false is = record {
  registers = refl;
  first = refl;
  count = refl;
  others = λ j other. refl;
}

pub cell_set : (i n : ℕ) (s : MachineState) → CellSet i s (with_cell i n s)
cell_set i n s = cell_set_by i n s (nat_le s.lo i) refl

-- a target that is written
target_written : (target : Target) (bits : ℕ) (s : MachineState) →
    ChangesOnePlace target s (with_target target bits s)
target_written (OneRegister at width) bits s = record {
  first = refl;
  registers = length-set s.registers at (Number width bits);
  cells = refl;
  other_registers = λ k other.
      other_place s.registers at k (Number width bits) (differ at k (fails (at == k) other));
  other_cells = λ i other. refl;
}
target_written (OneCell index width) bits s =
    let set = cell_set index bits s in
    record {
      first = set.first;
      registers = ap length set.registers;
      cells = set.count;
      other_registers = λ k other. ap (λ values. slice_get values k) set.registers;
      other_cells = λ i other. set.others i (differ index i (fails (index == i) other));
    }

-- what was written was written to a target that there is
poked_to : (spec : Spec) (poke : Poke) (before after : MachineState) (t : Option Target) →
    target_of spec.decls poke ≡ t → poked_at t poke.bits before ≡ Wrote after →
    (target : Target) × (target_of spec.decls poke ≡ Some target)
    × ChangesOnePlace target before after
poked_to spec poke before after None is wrote = absurd (cc)
poked_to spec poke before after (Some target) is wrote =
    (target, is, by (takes_bits poke.bits target) wrote) where
      by : (b : Bool) → (if b then Wrote (with_target target poke.bits before) else NoFit)
          ≡ Wrote after →
          ChangesOnePlace target before after
      by false e = absurd (cc)
      by true e =
          let same : with_target target poke.bits before ≡ after = cc in
          subst (ChangesOnePlace target before) same (target_written target poke.bits before)

pub outside_writes_change_one_place : OutsideWritesChangeOnePlace
outside_writes_change_one_place spec poke before after wrote =
    poked_to spec poke before after (target_of spec.decls poke) refl wrote

-- one progress changes to another in no other places than of these names
pub record Changes (decls : List DeclForm) (names : List Name) (p q : Progress) : Type 0 where
  pub indices : List ℕ
  pub only : ChangesOnly decls names indices p q

-- a name whose register is at none of the positions at which none of these is
abbrev pub IsNamed : List DeclForm → List Name → Name → Type 0
IsNamed decls names r =
    (at : ℕ) → list_any (is_at decls at) names ≡ false → is_at decls at r ≡ false

-- where no name of a list passes a test, none of these does
abbrev pub AreWithin : List Name → List Name → Type 0
AreWithin some all =
    (test : Name → Bool) → list_any test all ≡ false → list_any test some ≡ false

all_named : (decls : List DeclForm) (all some : List Name) → AreWithin some all →
    AllByRecursion (IsNamed decls all) some
all_named decls all [] within = tt
all_named decls all (x ∷ some) within = (
  (λ at none. (neither (is_at decls at x) (list_any (is_at decls at) some)
      (within (is_at decls at) none)).0),
  all_named decls all some
      (λ test none. (neither (test x) (list_any test some) (within test none)).1),
)

-- of two lists
within_first : (xs ys : List Name) → AreWithin xs (xs ++ ys)
within_first [] ys test none = refl
within_first (x ∷ xs) ys test none =
    let both = neither (test x) (list_any test (xs ++ ys)) none in
    ap (λ b. b || list_any test xs) both.0 ∙ within_first xs ys test both.1

within_second : (xs ys : List Name) → AreWithin ys (xs ++ ys)
within_second [] ys test none = none
within_second (x ∷ xs) ys test none =
    within_second xs ys test (neither (test x) (list_any test (xs ++ ys)) none).1

-- the body of a function that there may be
abbrev body_or : Stm → Option Function → Stm
body_or s None = s
body_or s (Some function) = function.body

-- what the body of a function writes is among what all bodies write
body_within : (k : ℕ) (decls : List DeclForm) (f : Name) (function : Function) →
    function_from k decls f ≡ Some function →
    AreWithin (written_by_stm function.body) (written_by_decls decls)
body_within k [] f function e test none = absurd (cc)
body_within k (d.Fun x params result body ∷ decls) f function e test none =
    by (bytes_eq x f) (λ same rest. body_within (k + 1) decls f function same test rest) e where
      by : (b : Bool) →
          (function_from (k + 1) decls f ≡ Some function →
          list_any test (written_by_decls decls) ≡ false →
          list_any test (written_by_stm function.body) ≡ false) →
          (if b then function_at k (d.Fun x params result body) else function_from (k + 1) decls f)
          ≡ Some function →
          list_any test (written_by_stm function.body) ≡ false
      by true later same =
          let is : body ≡ function.body = ap (body_or body) same in
          subst (λ s. list_any test (written_by_stm s) ≡ false) is
          (within_first (written_by_stm body) (written_by_decls decls) test none)
      by false later same =
          later same (within_second (written_by_stm body) (written_by_decls decls) test none)
body_within k (_ ∷ decls) f function e test none =
    body_within (k + 1) decls f function e test none

-- a register that is written
register_written : (decls : List DeclForm) (names : List Name) (r : Name) (v : Value) (p : Progress)
    (state : MachineState) → IsNamed decls names r → written decls r v p.state ≡ Some state →
    ChangesOnly decls names [] p (record p { state = state })
register_written decls names r v p state named is =
    let place = some_then (λ at. written_at decls at v p.state) (register_position decls r) state is
    in
    let type = some_then (λ (type : Ty).
    if has_type (types_of_decls decls) v type then Some (with_register place.0 v p.state) else None)
    (slice_get (register_types decls) place.0) state place.2 in
    by (has_type (types_of_decls decls) v type.0) place.0 place.1 type.2 where
      by : (b : Bool) (at : ℕ) → register_position decls r ≡ Some at →
          (if b then Some (with_register at v p.state) else None) ≡ Some state →
          ChangesOnly decls names [] p (record p { state = state })
      by false at there e = absurd (cc)
      by true at there e =
          let same : with_register at v p.state ≡ state = cc in
          subst (λ s. ChangesOnly decls names [] p (record p { state = s })) same (record {
            stores = sym (append-nil p.stores);
            first = refl;
            registers = length-set p.state.registers at v;
            cells = refl;
            other_registers = λ k none.
                other_place p.state.registers at k v
                (differ at k (sym (ap (is_position k) there) ∙ named k (fails _ none)));
            other_cells = λ i none. refl;
          })

-- a cell that is stored
cell_stored : (decls : List DeclForm) (names : List Name) (i n : ℕ) (p : Progress) →
    ChangesOnly decls names (i ∷ []) p
    (record p { state = with_cell i n p.state; stores = p.stores ++ i ∷ [] })
cell_stored decls names i n p =
    let set = cell_set i n p.state in
    record {
      stores = refl;
      first = set.first;
      registers = ap length set.registers;
      cells = set.count;
      other_registers = λ k none. ap (λ values. slice_get values k) set.registers;
      other_cells = λ j none.
          set.others j (λ e. differ j i (neither (j == i) false (fails _ none)).0 (sym e));
    }

-- one change behind another
changes_behind : (decls : List DeclForm) (names : List Name) (is js : List ℕ) (p q r : Progress) →
    ChangesOnly decls names is p q → ChangesOnly decls names js q r →
    ChangesOnly decls names (is ++ js) p r
changes_behind decls names is js p q r first second = record {
  stores = second.stores ∙ ap (λ stores. stores ++ js) first.stores ∙ append_assoc p.stores is js;
  first = second.first ∙ first.first;
  registers = second.registers ∙ first.registers;
  cells = second.cells ∙ first.cells;
  other_registers = λ at none. second.other_registers at none ∙ first.other_registers at none;
  other_cells = λ i none.
      let both = apart (λ j. i == j) is js (fails _ none) in
      second.other_cells i (holds_not _ both.1) ∙ first.other_cells i (holds_not _ both.0);
} where
  apart : (test : ℕ → Bool) (xs ys : List ℕ) → list_any test (xs ++ ys) ≡ false →
      (list_any test xs ≡ false) × (list_any test ys ≡ false)
  apart test [] ys none = (refl, none)
  apart test (x ∷ xs) ys none =
      let both = neither (test x) (list_any test (xs ++ ys)) none in
      let rest = apart test xs ys both.1 in
      (ap (λ b. b || list_any test xs) both.0 ∙ rest.0, rest.1)

-- nothing changes but the calls that are left
unchanged : (decls : List DeclForm) (names : List Name) (p : Progress) (left : ℕ) →
    ChangesOnly decls names [] p (record p { left = left })
unchanged decls names p left = record {
  stores = sym (append-nil p.stores);
  first = refl;
  registers = refl;
  cells = refl;
  other_registers = λ at none. refl;
  other_cells = λ i none. refl;
}

changes_within : (decls : List DeclForm) (names : List Name) →
    ((f : Name) (function : Function) → function_from 0 decls f ≡ Some function →
    AreWithin (written_by_stm function.body) names) →
    KeptWithin decls (IsNamed decls names) (Changes decls names)
changes_within decls names bodies = record {
  same = λ p. record { indices = []; only = unchanged decls names p p.left };
  behind = λ p q r first second. record {
    indices = first.indices ++ second.indices;
    only = changes_behind decls names first.indices second.indices p q r first.only second.only;
  };
  write = λ r v p state named is.
      record { indices = []; only = register_written decls names r v p state named is };
  store = λ i n before p is.
      record { indices = i ∷ []; only = cell_stored decls names i n p };
  spend = λ p left is. record { indices = []; only = unchanged decls names p left };
  bodies = λ f function found. all_named decls names (written_by_stm function.body)
      (bodies f function found);
}

pub statements_change_what_they_write : StatementsChangeWhatTheyWrite
statements_change_what_they_write decls depth stm locals p q v e =
    let own : List Name = written_by_stm stm in
    let names : List Name = own ++ written_by_decls decls in
    let changes : Changes decls names p q =
    all_keep decls (IsNamed decls names) (Changes decls names)
    (changes_within decls names (λ f function found test none.
    body_within 0 decls f function found test
    (within_second own (written_by_decls decls) test none)))
    depth stm (all_named decls names own (within_first own (written_by_decls decls)))
    locals p q v e in
    (changes.indices, changes.only)
