-- What the lines of a boundary tell: its state.
use Rattle.std.proofs.Common.{◌≡◌, ◌≢◌, ℕ, Bool, true, List, ◌++◌, get_or, sym, ap, subst, ◌∙◌, arith, append_assoc}
use Rattle.std.specs.List.{All, AllZip, range_with_len}
use Rattle.std.proofs.lemmas.Bool.{false≢true}
use Rattle.kat_names.specs.Names.{AllDiffer}
use Rattle.kat_value.specs.declared.types.TypeDecl.{TypeDecl}
use Rattle.kat_value.specs.declared.value.Value.{Value}
use Rattle.kat_value.specs.Equality.{value_eq, TestsEquality}
use Rattle.kat_ast.specs.Spec.{Spec}
use Rattle.kat_syntax.specs.Machine.{MachineState}
use Rattle.kat_syntax.specs.States.{IsState, first_index, cell_count, cell_width}
use Rattle.kat_syntax.specs.Tables.{register_names}
use Rattle.kat_syntax.specs.TypeTable.{types_of_decls}
use Rattle.kat_runner.specs.StateText.{CellText, cell_line, cell_text_of, indices_of, register_lines, changed_registers, filled_cells, changed_cells, first_lines, later_lines}
use Rattle.kat_laws.specs.TextLaw.{HasNames, IsWord}
use Rattle.kat_laws.proofs.TypedRegisters.{TypedRegister, names_are, typed_registers, registers_of_state}
use Rattle.kat_laws.proofs.TextLines.{AreApart, changed, changed_begin, changed_told}
use Rattle.kat_laws.proofs.TextRegisters.{NamesDiffer, IsOf, line_of, never, registers_apart, registers_tell, whole_are, changed_are}
use Rattle.kat_laws.proofs.TextCells.{IndicesDiffer, IsCell, is_zero, is_same, zeros_hide, same_hide, indices_apart, numbers_fit, cells_at, cells_tell, filled_are, changes_are}

-- what stands behind a boundary begins neither as a register nor as a cell does
pub record Behind (text : List ℕ) : Type 0 where
  pub register : get_or text 0 0 ≢ 114
  pub cell : get_or text 0 0 ≢ 99

same_state : (a b : MachineState) → a.registers ≡ b.registers → a.lo ≡ b.lo → a.cells ≡ b.cells →
    a ≡ b
same_state a b registers first cells =
    let state_of : List Value → ℕ → List ℕ → MachineState = λ registers lo cells. record
    { registers = registers; lo = lo; cells = cells } in
    ap (λ values. state_of values a.lo a.cells) registers
    ∙ ap (λ lo. state_of b.registers lo a.cells) first
    ∙ ap (state_of b.registers b.lo) cells

module _ (tests : TestsEquality) (spec : Spec) (names : HasNames spec) where
  -- the table of types
  abbrev types : List TypeDecl
  types = types_of_decls spec.decls

  -- the registers
  abbrev registers : List TypedRegister
  registers = typed_registers spec.decls

  -- how cells are shown
  abbrev text : CellText
  text = cell_text_of spec.decls

  -- the indices of the memory
  abbrev indices : List ℕ
  indices = indices_of spec.decls

  apart : AreApart TypedRegister NamesDiffer registers
  apart = registers_apart registers
      (subst (All IsWord) (sym (names_are spec.decls 0 spec.decls)) names.registers.words)
      (subst AllDiffer (sym (names_are spec.decls 0 spec.decls)) names.registers.distinct)

  cells_of_state : (state : MachineState) → IsState spec.decls state →
      AllZip (IsCell text) indices state.cells
  cells_of_state state is =
      subst (λ count. AllZip (IsCell text) (range_with_len (first_index spec.decls) count)
      state.cells) is.count
      (numbers_fit (cell_width spec.decls) (first_index spec.decls) state.cells is.fitting)

  -- the lines of a boundary behind a state, by what is not shown
  abbrev lines_by : (Value → Value → Bool) → (ℕ → ℕ → Bool) → MachineState → MachineState → List ℕ
  lines_by same equal before after =
      changed TypedRegister Value same (line_of types names.types) registers before.registers
      after.registers
      ++ changed ℕ ℕ equal (cell_line text) indices before.cells after.cells

  -- they tell the state, where the state before is known
  lines_told : (same : Value → Value → Bool)
      (hides : (old u v : Value) → same old u ≡ true → same old v ≡ true → u ≡ v)
      (equal : ℕ → ℕ → Bool)
      (hide : (old u v : ℕ) → equal old u ≡ true → equal old v ≡ true → u ≡ v)
      (before a b : MachineState) (r s : List ℕ) → IsState spec.decls before →
      IsState spec.decls a → IsState spec.decls b → Behind r → Behind s →
      lines_by same equal before a ++ r ≡ lines_by same equal before b ++ s → (a ≡ b) × (r ≡ s)
  lines_told same hides equal hide before a b r s o p q f g e =
      let line : TypedRegister → Value → List ℕ = line_of types names.types in
      let values : MachineState → List ℕ = λ state. changed TypedRegister Value same line registers
      before.registers state.registers in
      let cells : MachineState → List ℕ = λ state. changed ℕ ℕ equal (cell_line text) indices
      before.cells state.cells in
      let tell = registers_tell types names.types same hides in
      let tells = cells_tell text equal hide in
      let not_cell : (state : MachineState) (t : List ℕ) → Behind t →
      get_or (cells state ++ t) 0 0 ≢ 114 =
      λ state t h. changed_begin ℕ ℕ equal (cell_line text) 99 IndicesDiffer (IsCell text) tells
      114 indices before.cells state.cells t (λ e. omega (arith, e)) h.register in
      let first = changed_told TypedRegister Value same line 114 NamesDiffer
      (IsOf types names.types) tell registers before.registers a.registers b.registers
      (cells a ++ r) (cells b ++ s) apart (registers_of_state spec.decls before o)
      (registers_of_state spec.decls a p) (registers_of_state spec.decls b q) (not_cell a r f)
      (not_cell b s g)
      (sym (append_assoc (values a) (cells a) r) ∙ e ∙ append_assoc (values b) (cells b) s) in
      let second = changed_told ℕ ℕ equal (cell_line text) 99 IndicesDiffer (IsCell text) tells
      indices before.cells a.cells b.cells r s
      (indices_apart (first_index spec.decls) (cell_count spec.decls) names.indices)
      (cells_of_state before o) (cells_of_state a p) (cells_of_state b q) f.cell g.cell first.1 in
      (same_state a b first.0 (p.first ∙ sym q.first) second.0, second.1)

  first_are : (before state : MachineState) → IsState spec.decls before →
      IsState spec.decls state →
      first_lines spec.decls state ≡ lines_by never is_zero before state
  first_are before state o p =
      let from : ℕ = first_index spec.decls in
      let shown : List ℕ → List ℕ = λ cells. register_lines types (register_names spec.decls)
      state.registers ++ cells in
      let cells : filled_cells text state indices
      ≡ changed ℕ ℕ is_zero (cell_line text) indices before.cells state.cells =
      subst (λ count. filled_cells text state (range_with_len from count)
      ≡ changed ℕ ℕ is_zero (cell_line text) (range_with_len from count) before.cells
      state.cells) p.count
      (filled_are text state from before.cells state.cells (o.count ∙ sym p.count)
      (cells_at state from p.first)) in
      ap shown cells
      ∙ ap (λ ns. register_lines types ns state.registers
      ++ changed ℕ ℕ is_zero (cell_line text) indices before.cells state.cells)
      (sym (names_are spec.decls 0 spec.decls))
      ∙ ap (λ lines. lines
      ++ changed ℕ ℕ is_zero (cell_line text) indices before.cells state.cells)
      (whole_are types names.types registers before.registers state.registers
      (registers_of_state spec.decls before o) (registers_of_state spec.decls state p))

  later_are : (before state : MachineState) → IsState spec.decls before →
      IsState spec.decls state →
      later_lines spec.decls before state ≡ lines_by value_eq is_same before state
  later_are before state o p =
      let from : ℕ = first_index spec.decls in
      let shown : List ℕ → List ℕ = λ cells. changed_registers types (register_names spec.decls)
      before.registers state.registers ++ cells in
      let cells : changed_cells text before state indices
      ≡ changed ℕ ℕ is_same (cell_line text) indices before.cells state.cells =
      subst (λ count. changed_cells text before state (range_with_len from count)
      ≡ changed ℕ ℕ is_same (cell_line text) (range_with_len from count) before.cells
      state.cells) p.count
      (changes_are text before state from before.cells state.cells (o.count ∙ sym p.count)
      (cells_at before from o.first) (cells_at state from p.first)) in
      ap shown cells
      ∙ ap (λ ns. changed_registers types ns before.registers state.registers
      ++ changed ℕ ℕ is_same (cell_line text) indices before.cells state.cells)
      (sym (names_are spec.decls 0 spec.decls))
      ∙ ap (λ lines. lines
      ++ changed ℕ ℕ is_same (cell_line text) indices before.cells state.cells)
      (changed_are types names.types registers before.registers state.registers)

  -- the lines of boundary 0 tell its state
  pub first_told : (a b : MachineState) (r s : List ℕ) → IsState spec.decls a →
      IsState spec.decls b → Behind r → Behind s →
      first_lines spec.decls a ++ r ≡ first_lines spec.decls b ++ s → (a ≡ b) × (r ≡ s)
  first_told a b r s p q f g e =
      lines_told never (λ old u v h. absurd (false≢true h)) is_zero zeros_hide a a b
      r s p p q f g
      (sym (ap (λ lines. lines ++ r) (first_are a a p p)) ∙ e
      ∙ ap (λ lines. lines ++ s) (first_are a b p q))

  value_hides : (old u v : Value) → value_eq old u ≡ true → value_eq old v ≡ true → u ≡ v
  value_hides old u v p q = sym ((tests old u).0 p) ∙ (tests old v).0 q

  -- the lines of a later boundary tell its state, where the state before is known
  pub later_told : (before a b : MachineState) (r s : List ℕ) → IsState spec.decls before →
      IsState spec.decls a → IsState spec.decls b → Behind r → Behind s →
      later_lines spec.decls before a ++ r ≡ later_lines spec.decls before b ++ s →
      (a ≡ b) × (r ≡ s)
  later_told before a b r s o p q f g e =
      lines_told value_eq value_hides is_same same_hide before a b r s o p q f g
      (sym (ap (λ lines. lines ++ r) (later_are before a o p)) ∙ e
      ∙ ap (λ lines. lines ++ s) (later_are before b o q))
