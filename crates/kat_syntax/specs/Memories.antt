-- The memory of a specification, the ranges of its cells, and the counts that have limits.
use Rattle.std.specs.Prelude.{◌≡◌, ℕ, ◌+◌, ◌-◌, ◌^◌, ◌&&◌, max, min, Bool, true, false, nat_le, nat_lt, if◌then◌else◌, List, [], ◌∷◌, length, take, sum_by, filter_map, Option, None, Some, option_and_then}
use Rattle.std.specs.List.{list_any}
use Rattle.kat_value.specs.declared.types.Ty.{Ty}
use Rattle.kat_value.specs.Signatures.{bits_of}
use Rattle.kat_value.specs.Widths.{is_width}
use Rattle.kat_ast.specs.declared.decl.RegisterKind.TheVariants as register
use Rattle.kat_ast.specs.declared.decl.CellsKind.{CellsKind}
use Rattle.kat_ast.specs.declared.decl.CellsKind.TheVariants as cells
use Rattle.kat_ast.specs.declared.decl.DeclForm.{DeclForm}
use Rattle.kat_ast.specs.declared.decl.DeclForm.TheVariants as d
use Rattle.kat_syntax.specs.Limits.{most_cells}
use Rattle.kat_syntax.specs.Around.{Around, is_before}

-- a memory: the number of its declaration, the widths of its indices and cells, and its bounds
pub record Memory : Type 0 where
  pub decl : ℕ
  pub index_width : ℕ
  pub cell_width : ℕ
  pub lo : ℕ
  pub hi : ℕ

-- the first memory, the first declaration having the number k
abbrev pub memory_from : ℕ → List DeclForm → Option Memory
memory_from k [] = None
memory_from k (d.Memory a c lo hi ∷ decls) =
    Some (record { decl = k; index_width = a; cell_width = c; lo = lo; hi = hi })
memory_from k (_ ∷ decls) = memory_from (k + 1) decls

-- the memory of a specification, wherever it stands
abbrev pub the_memory : Around → Option Memory
the_memory around = memory_from 0 around.decls

-- the memory, where it is declared earlier
abbrev pub memory_before : Around → Option Memory
memory_before around =
    option_and_then (λ memory. if is_before around memory.decl then Some memory else None)
    (the_memory around)

-- the type of the indices of the memory before
abbrev pub index_type : Around → Option Ty
index_type around = option_and_then (λ memory. bits_of memory.index_width) (memory_before around)

-- the type of the cells of the memory before
abbrev pub cell_type : Around → Option Ty
cell_type around = option_and_then (λ memory. bits_of memory.cell_width) (memory_before around)

-- the type of the cells of the memory, wherever it stands
abbrev pub kept_cell_type : Around → Option Ty
kept_cell_type around = option_and_then (λ memory. bits_of memory.cell_width) (the_memory around)

-- whether a memory has bounds that its indices reach, at most 1,048,576 cells apart
abbrev pub has_bounds : ℕ → ℕ → ℕ → Bool
has_bounds index_width lo hi =
    nat_lt lo hi && (nat_le hi (2 ^ index_width) && nat_le (hi - lo) most_cells)

-- a memory whose indices and cells have widths, and whose bounds its indices reach
pub record IsMemory (memory : Memory) : Type 0 where
  pub index : is_width memory.index_width ≡ true
  pub cell : is_width memory.cell_width ≡ true
  pub bounds : has_bounds memory.index_width memory.lo memory.hi ≡ true

-- the cells from lo to hi - 1 that a declaration has, and whether they are protected
pub record Range : Type 0 where
  pub lo : ℕ
  pub hi : ℕ
  pub protected : Bool

-- whether cells of this kind are protected
abbrev pub are_protected : CellsKind → Bool
are_protected cells.Protected = true
are_protected cells.Outside = false

-- the cells of `(cells kind lo hi)`
abbrev pub range_of_cells : CellsKind → ℕ → ℕ → Range
range_of_cells kind lo hi = record { lo = lo; hi = hi; protected = are_protected kind }

-- the cells of `(code lo n ..)`
abbrev pub range_of_code : ℕ → List ℕ → Range
range_of_code lo values = record { lo = lo; hi = lo + length values; protected = false }

-- the cells that a declaration has
abbrev pub range_of : DeclForm → Option Range
range_of (d.Cells kind lo hi) = Some (range_of_cells kind lo hi)
range_of (d.Code lo values) = Some (range_of_code lo values)
range_of _ = None

-- whether a number is a value of the cells of a memory, where there is one
abbrev pub is_cell_value : ℕ → Option Memory → Bool
is_cell_value n None = true
is_cell_value n (Some memory) = nat_lt n (2 ^ memory.cell_width)

-- whether a range has a cell, and all of them are cells of the memory, where there is one
abbrev pub is_within : Range → Option Memory → Bool
is_within range None = nat_lt range.lo range.hi
is_within range (Some memory) =
    nat_lt range.lo range.hi && (nat_le memory.lo range.lo && nat_le range.hi memory.hi)

-- whether two ranges have a cell in common
abbrev pub overlap : Range → Range → Bool
overlap a b = nat_lt (max a.lo b.lo) (min a.hi b.hi)

-- the ranges of declarations, in order
abbrev pub ranges_of : List DeclForm → List Range
ranges_of decls = filter_map range_of decls

-- whether an earlier declaration has a cell of this range
abbrev pub is_taken : Around → Range → Bool
is_taken around range = list_any (overlap range) (ranges_of (take around.number around.decls))

-- whether a range is protected and has this cell
abbrev pub protects : ℕ → Range → Bool
protects n range = range.protected && (nat_le range.lo n && nat_lt n range.hi)

-- whether some declaration protects this cell
abbrev pub is_protected_cell : Around → ℕ → Bool
is_protected_cell around n = list_any (protects n) (ranges_of around.decls)

-- how many places a declaration protects
abbrev pub protected_by : DeclForm → ℕ
protected_by (d.Register x type register.Protected) = 1
protected_by (d.Cells cells.Protected lo hi) = hi - lo
protected_by _ = 0

-- how many code cells a declaration has
abbrev pub code_of_decl : DeclForm → ℕ
code_of_decl (d.Code lo values) = length values
code_of_decl _ = 0

-- whether a count passes its limit with this declaration
abbrev pub passes : (DeclForm → ℕ) → ℕ → Around → DeclForm → Bool
passes count limit around decl =
    let before = sum_by count (take around.number around.decls) in
    nat_le before limit && nat_lt limit (before + count decl)
