-- The printed text of a state is an image of it, where each of its lines is read back.
use Rattle.std.proofs.Common.{◌≡◌, ℕ, ◌-◌, List, [], ◌∷◌, ◌++◌, append-nil, length, Option, Some, None, refl, sym, ap, ◌∙◌, subst, arith}
use Rattle.std.specs.List.{AllByRecursion}
use Rattle.std.specs.Option.{option_map}
use Rattle.std.specs.Prelude.{IsTrue, unwrap_or}
use Rattle.std.proofs.lemmas.List.{length-map}
use Rattle.std.proofs.lemmas.List.Elements.{All-nil}
use Rattle.kat_value.specs.Widths.{is_number}
use Rattle.kat_ast.specs.Spec.{Spec}
use Rattle.kat_syntax.specs.Machine.{MachineState}
use Rattle.kat_syntax.specs.Memories.{Memory}
use Rattle.kat_syntax.specs.Start.{first_or_unit}
use Rattle.kat_syntax.specs.States.{IsState, cell_width, memory_of, register_types}
use Rattle.kat_syntax.specs.Tables.{register_names}
use Rattle.kat_syntax.specs.TypeTable.{types_of_decls}
use Rattle.kat_image.specs.Image.{Lacks, Line, lines_of}
use Rattle.kat_image.specs.ImageText.{cells_text, digits_of_cell, image_text_of}
use Rattle.kat_image.specs.ReadsBack.{CellLinesComeBack, RegisterLinesComeBack, StatesComeBack}
use Rattle.kat_image.proofs.PrintedLines.{cells_are_runs, ended, ended-append, lines_of_ended, run_lines, runs_of}
use Rattle.kat_image.proofs.PrintedPlaces.{none_printed, printed_whole}
use Rattle.kat_image.proofs.PrintedText.{register_texts, registers_are_lines}
use Rattle.kat_image.proofs.PrintedRegisters.{Printed, one_type_each, one_value_each, registers_printed, stands_first}
use Rattle.kat_image.proofs.PrintedRuns.{all_runs_printed}

-- a list of length 0 is empty
no_items : {A : Type 0} → (xs : List A) → length xs ≡ 0 → xs ≡ []
no_items [] e = refl
no_items (x ∷ xs) e = absurd (omega (arith, e))

module _ (spec : Spec) (state : MachineState) where
  -- the lines of registers, and those of cells
  abbrev register_part : List Line
  register_part =
      register_texts (types_of_decls spec.decls) (register_names spec.decls) state.registers

  abbrev digits : ℕ
  digits = digits_of_cell (cell_width spec.decls)

  abbrev cell_part : List Line
  cell_part = run_lines digits (runs_of state.lo state.lo [] state.cells)

  -- the text is those lines
  text_is_lines : image_text_of spec state ≡ ended (register_part ++ cell_part)
  text_is_lines =
      ap (λ t. t ++ cells_text digits state.lo 0 state.cells)
      (registers_are_lines (types_of_decls spec.decls) (register_names spec.decls)
      state.registers)
      ∙ ap (λ t. ended register_part ++ t)
      (cells_are_runs digits state.cells state.lo state.lo [] (omega arith) (omega arith))
      ∙ sym (ended-append register_part cell_part)

  -- the lines of registers print all registers
  registers_first : RegisterLinesComeBack spec → IsState spec.decls state →
      Printed spec state register_part (length state.registers) 0
  registers_first back is =
      subst (λ k. Printed spec state register_part k 0) (omega arith)
      (registers_printed spec state back (register_names spec.decls) (register_types spec.decls)
      state.registers 0 [] (one_type_each spec.decls 0 spec.decls)
      (stands_first (register_names spec.decls)) (stands_first (register_types spec.decls))
      (stands_first state.registers) is.registers
      (none_printed spec state, All-nil (Lacks 10)))

  -- all lines, with and without a memory
  all_printed : RegisterLinesComeBack spec → CellLinesComeBack spec → IsState spec.decls state →
      (m : Option Memory) → memory_of spec.decls ≡ m →
      Printed spec state (register_part ++ cell_part) (length state.registers)
      (length state.cells)
  all_printed registers cells is None e =
      let none : length state.cells ≡ 0 =
      is.count
      ∙ ap (λ m. unwrap_or (option_map (λ (memory : Memory). memory.hi - memory.lo) m) 0) e in
      let same : state.cells ≡ [] = no_items state.cells none in
      subst (λ cs. Printed spec state
      (register_part ++ run_lines digits (runs_of state.lo state.lo [] cs))
      (length state.registers) (length cs)) (sym same)
      (subst (λ ls. Printed spec state ls (length state.registers) 0)
      (sym (append-nil register_part)) (registers_first registers is))
  all_printed registers cells is (Some memory) e =
      let first : memory.lo ≡ state.lo =
      sym (is.first ∙ ap (λ m. unwrap_or (option_map (λ (memory : Memory). memory.lo) m) 0) e) in
      let width : cell_width spec.decls ≡ memory.cell_width =
      ap (λ m. unwrap_or (option_map (λ (memory : Memory). memory.cell_width) m) 0) e in
      let count : length state.cells ≡ memory.hi - memory.lo =
      is.count
      ∙ ap (λ m. unwrap_or (option_map (λ (memory : Memory). memory.hi - memory.lo) m) 0) e in
      subst (λ w. Printed spec state (register_part
      ++ run_lines (digits_of_cell w) (runs_of state.lo state.lo [] state.cells))
      (length state.registers) (length state.cells)) (sym width)
      (subst (λ i. Printed spec state (register_part
      ++ run_lines (digits_of_cell memory.cell_width) (runs_of i i [] state.cells))
      (length state.registers) (length state.cells)) first
      (all_runs_printed spec state memory (length state.registers) e cells count register_part
      (subst (λ w. AllByRecursion (λ n. IsTrue (is_number w n)) state.cells) width is.fitting)
      (registers_first registers is)))

-- the printed text of each state is an image of it, where its lines are read back
pub states_come_back : (spec : Spec) → RegisterLinesComeBack spec → CellLinesComeBack spec →
    StatesComeBack spec
states_come_back spec registers cells state is =
    let all = all_printed spec state registers cells is (memory_of spec.decls) refl in
    let types = types_of_decls spec.decls in
    printed_whole spec state (image_text_of spec state)
    (register_part spec state ++ cell_part spec state)
    (ap lines_of (text_is_lines spec state)
    ∙ lines_of_ended (register_part spec state ++ cell_part spec state) all.1)
    (one_value_each types (register_types spec.decls) state.registers is.registers
    ∙ sym (length-map (register_types spec.decls) (first_or_unit types)))
    is.first is.count all.0
