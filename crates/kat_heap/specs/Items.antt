-- What the declarations say of code, of the dispatch and of what is owed in a phase.
use Rattle.std.specs.Prelude.{ℕ, ◌+◌, ◌-◌, ◌==◌, Bool, true, false, if◌then◌else◌, List, [], ◌∷◌, filter_map, Option, None, Some}
use Rattle.std.specs.List.{range_with_len}
use Rattle.std.specs.Option.{option_map, option_or}
use Rattle.std.specs.Str.{bytes_eq}
use Rattle.kat_ast.specs.declared.assertion.Assertion.{Assertion}
use Rattle.kat_ast.specs.declared.decl.DeclForm.{DeclForm}
use Rattle.kat_ast.specs.declared.decl.DeclForm.TheVariants as d
use Rattle.kat_ast.specs.declared.decl.Phase.{Phase}
use Rattle.kat_ast.specs.declared.decl.Phase.TheVariants as phase
use Rattle.kat_ast.specs.declared.decl.When.{When}
use Rattle.kat_syntax.specs.Memories.{Memory}
use Rattle.kat_syntax.specs.Phases.{entry_of, untrusted_of}
use Rattle.kat_syntax.specs.States.{KeptPlace, KeptCell, KeptRegister, memory_of}

-- the number at an index among those from `lo` on
abbrev pub stated_in : ℕ → List ℕ → ℕ → Option ℕ
stated_in lo [] i = None
stated_in lo (n ∷ values) i = if lo == i then Some n else stated_in (lo + 1) values i

-- the stated value of the code cell at an index
abbrev pub stated_at : List DeclForm → ℕ → Option ℕ
stated_at [] i = None
stated_at (d.Code lo values ∷ decls) i = option_or (stated_in lo values i) (stated_at decls i)
stated_at (_ ∷ decls) i = stated_at decls i

-- a code cell: its index and its stated value
pub record CodeCell : Type 0 where
  pub index : ℕ
  pub number : ℕ

-- the code cell at an index, where it is one
abbrev pub code_cell_at : List DeclForm → ℕ → Option CodeCell
code_cell_at decls i =
    option_map (λ n. record { index = i; number = n }) (stated_at decls i)

-- the code cells of a memory, by index
abbrev pub code_cells_in : List DeclForm → Option Memory → List CodeCell
code_cells_in decls None = []
code_cells_in decls (Some memory) =
    filter_map (code_cell_at decls) (range_with_len memory.lo (memory.hi - memory.lo))

-- the code cells, by index
abbrev pub code_cells : List DeclForm → List CodeCell
code_cells decls = code_cells_in decls (memory_of decls)

-- the dispatch: its conditions in order, and the phase where none is true
pub record DispatchOf : Type 0 where
  pub cases : List When
  pub otherwise : Phase

-- the first dispatch
abbrev pub dispatch_of : List DeclForm → Option DispatchOf
dispatch_of [] = None
dispatch_of (d.Dispatch cases otherwise ∷ decls) =
    Some (record { cases = cases; otherwise = otherwise })
dispatch_of (_ ∷ decls) = dispatch_of decls

-- whether two phases are the same
abbrev pub same_phase : Phase → Phase → Bool
same_phase phase.Untrusted phase.Untrusted = true
same_phase phase.Inside phase.Inside = true
same_phase (phase.Block x) (phase.Block y) = bytes_eq x y
same_phase _ _ = false

-- what is consumed in a phase that is not inside a block: the untrusted assertion, or the entry of
-- the block
abbrev pub guard_of : List DeclForm → Phase → Option Assertion
guard_of decls phase.Untrusted = untrusted_of decls
guard_of decls phase.Inside = None
guard_of decls (phase.Block x) = entry_of decls x

-- a kept place that is a register, with its kept value
abbrev pub registers_kept : {T : Type 0} → List KeptPlace → List T → List (List ℕ × T)
registers_kept [] values = []
registers_kept (place ∷ places) [] = []
registers_kept (KeptRegister r ∷ places) (t ∷ values) = (r, t) ∷ registers_kept places values
registers_kept (KeptCell i ∷ places) (t ∷ values) = registers_kept places values
