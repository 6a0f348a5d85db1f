-- What the outside may write: fresh values in what is owned of the outside places.
use Rattle.std.specs.Prelude.{ℕ, ◌+◌, ◌-◌, ◌||◌, Bool, true, false, if◌then◌else◌, List, [], ◌∷◌, filter_map, remove, reverse, Option, None, Some, slice_get, unwrap_or}
use Rattle.std.specs.List.{list_any}
use Rattle.std.specs.Option.{option_map}
use Rattle.std.specs.Str.{bytes_eq}
use Rattle.kat_value.specs.declared.op.Op.TheVariants.{Or, Ult}
use Rattle.kat_ast.specs.declared.assertion.Assertion.TheOpen.{Assertion-F, Pure, Register, Cell, Star, If, Exists, Predicate, Region}
use Rattle.kat_ast.specs.declared.assertion.Assertion.TheFolds.{fold-Assertion}
use Rattle.kat_ast.specs.declared.decl.DeclForm.{DeclForm}
use Rattle.kat_ast.specs.declared.decl.DeclForm.TheVariants as d
use Rattle.kat_ast.specs.declared.decl.RegisterKind.{RegisterKind}
use Rattle.kat_ast.specs.declared.decl.RegisterKind.TheVariants as kind
use Rattle.kat_syntax.specs.Holds.{index_width}
use Rattle.kat_syntax.specs.OutsideWrites.{outside_places}
use Rattle.kat_syntax.specs.States.{register_types}
use Rattle.kat_syntax.specs.Tables.{Name, RegisterDecl, registers_of}
use Rattle.kat_syntax.specs.declared.places.OutsidePlace.{OutsidePlace}
use Rattle.kat_syntax.specs.declared.places.OutsidePlace.TheVariants.{Register as OutsideRegister, Cells as OutsideCells}
use Rattle.kat_term.specs.declared.prover.Answer.{Answer}
use Rattle.kat_term.specs.declared.prover.Answer.TheVariants.{Proved, Contradiction, Residue}
use Rattle.kat_term.specs.declared.term.Term.{Term}
use Rattle.kat_term.specs.Views.{bits, two}
use Rattle.kat_chunk.specs.declared.chunk.Chunk.{Chunk}
use Rattle.kat_chunk.specs.declared.chunk.Chunk.TheVariants as chunk
use Rattle.kat_chunk.specs.Chunks.{predicate_names}
use Rattle.kat_heap.specs.Asking.{Answers, growing, is_formula, known, normed, owe_false}
use Rattle.kat_heap.specs.Places.{PredicateAt, cell_type, predicate_at}
use Rattle.kat_heap.specs.Producing.{produce_definition}
use Rattle.kat_heap.specs.Walks.{Moved, On, Havoc, Walk, and_jobs, with_chunks}

-- whether a register is written from outside
abbrev pub is_outside_kind : RegisterKind → Bool
is_outside_kind kind.Outside = true
is_outside_kind kind.Plain = false
is_outside_kind kind.Protected = false

-- whether there is an outside register of this name
abbrev pub is_outside : List DeclForm → Name → Bool
is_outside decls r =
    list_any (λ (register : RegisterDecl).
    if bytes_eq register.name r then is_outside_kind register.kind else false) (registers_of decls)

-- whether the register at a position is written from outside
abbrev pub is_outside_at : List DeclForm → ℕ → Bool
is_outside_at decls at =
    unwrap_or (option_map (λ (register : RegisterDecl). is_outside_kind register.kind)
    (slice_get (registers_of decls) at)) false

-- whether one layer of an assertion has a cell or an outside register, the predicates among its
-- parts having one where this says so
abbrev pub exposes_layer : List DeclForm → (Name → Bool) → Assertion-F Bool → Bool
exposes_layer decls exposed (Pure e) = false
exposes_layer decls exposed (Register r e) = is_outside decls r
exposes_layer decls exposed (Cell index e) = true
exposes_layer decls exposed (Star parts) = list_any (λ part. part) parts
exposes_layer decls exposed (If test first second) = first || second
exposes_layer decls exposed (Exists x type body) = body
exposes_layer decls exposed (Predicate x args) = exposed x
exposes_layer decls exposed (Region x args) = false

-- whether the definition of a predicate has one, followed through the predicates before it, the
-- last of these declarations standing first
abbrev pub exposes_among : List DeclForm → List DeclForm → Name → Bool
exposes_among all [] x = false
exposes_among all (d.Predicate y inputs outputs definition ∷ before) x =
    if bytes_eq y x
    then fold-Assertion Bool (exposes_layer all (exposes_among all before)) definition
    else exposes_among all before x
exposes_among all (_ ∷ before) x = exposes_among all before x

-- whether the predicate at a position has one
abbrev pub exposes : List DeclForm → ℕ → Bool
exposes decls at =
    unwrap_or (option_map (exposes_among decls (reverse decls))
    (slice_get (predicate_names decls) at)) false

-- the place of the first chunk that is such a predicate, the first chunk having this place
abbrev pub exposed_from : List DeclForm → ℕ → List Chunk → Option ℕ
exposed_from decls place [] = None
exposed_from decls place (chunk.Pred at args ∷ chunks) =
    if exposes decls at then Some place else exposed_from decls (place + 1) chunks
exposed_from decls place (_ ∷ chunks) = exposed_from decls (place + 1) chunks

-- the predicate of a chunk, with its arguments
abbrev pub predicate_in : List DeclForm → Option Chunk → Option (PredicateAt × List Term)
predicate_in decls (Some (chunk.Pred at args)) =
    option_map (λ (pred : PredicateAt). (pred, args)) (predicate_at decls at)
predicate_in decls _ = None

-- the cells of an outside place
abbrev pub cells_of_place : OutsidePlace → Option (ℕ × ℕ)
cells_of_place (OutsideRegister at width) = None
cells_of_place (OutsideCells lo hi) = Some (lo, hi)

-- the goal that a key is no index of an outside range
abbrev pub outside_of_range : List DeclForm → Term → (ℕ × ℕ) → Term
outside_of_range decls key range =
    two Or (two Ult key (bits (index_width decls) range.0))
    (two Ult (bits (index_width decls) (range.1 - 1)) key)

-- the goals that a key is an index of no outside range, in order of declaration
abbrev pub outside_goals : List DeclForm → Term → List (ℕ × ℕ) → List Term
outside_goals decls key [] = []
outside_goals decls key (range ∷ ranges) =
    outside_of_range decls key range ∷ outside_goals decls key ranges

module _ (answers : Answers) (decls : List DeclForm) where
  -- goes on in one of two ways, by whether a goal holds
  abbrev pub when_held : Answer → Moved → Moved → Moved
  when_held (Residue residue) held other = other
  when_held Proved held other = held
  when_held Contradiction held other = held

  -- goes on in one of two ways, by whether all goals hold; they are asked until one does not
  abbrev pub when_all_hold : Walk → List Term → Moved → Moved → Moved
  when_all_hold w [] held other = held
  when_all_hold w (goal ∷ goals) held other =
      if is_formula answers decls w goal
      then normed (answers.normal w.world goal) (λ normal.
      when_held (answers.left w.world goal) (when_all_hold w goals held other) other)
      else owe_false answers decls w

  -- each outside register gets a fresh value
  abbrev pub fresh_registers : List Chunk → Walk → (List Chunk → Walk → Moved) → Moved
  fresh_registers [] w go = go [] w
  fresh_registers (chunk.Reg at value ∷ chunks) w go =
      if is_outside_at decls at
      then known answers decls (slice_get (register_types decls) at) w (λ type.
      growing decls type w (λ fresh grown.
      fresh_registers chunks grown (λ rest last. go (chunk.Reg at fresh ∷ rest) last)))
      else fresh_registers chunks w (λ rest last. go (chunk.Reg at value ∷ rest) last)
  fresh_registers (other ∷ chunks) w go =
      fresh_registers chunks w (λ rest last. go (other ∷ rest) last)

  -- each cell that may be an outside one gets a fresh value
  abbrev pub fresh_cells : List Chunk → Walk → (List Chunk → Walk → Moved) → Moved
  fresh_cells [] w go = go [] w
  fresh_cells (chunk.Cell key value ∷ chunks) w go =
      when_all_hold w
      (outside_goals decls key (filter_map cells_of_place (outside_places decls)))
      (fresh_cells chunks w (λ rest last. go (chunk.Cell key value ∷ rest) last))
      (growing decls (cell_type decls) w (λ fresh grown.
      fresh_cells chunks grown (λ rest last. go (chunk.Cell key fresh ∷ rest) last)))
  fresh_cells (other ∷ chunks) w go =
      fresh_cells chunks w (λ rest last. go (other ∷ rest) last)

  -- the outside writes: first the registers, then the cells
  abbrev pub outside_writes : Walk → Moved
  outside_writes w =
      fresh_registers w.chunks w (λ chunks grown.
      fresh_cells chunks grown (λ chunks last. On (with_chunks chunks last)))

  -- a predicate that has an outside place is opened first, and the outside writes behind it
  abbrev pub havoc_by : Option ℕ → Walk → Moved
  havoc_by None w = outside_writes w
  havoc_by (Some place) w =
      known answers decls (predicate_in decls (slice_get w.chunks place)) w (λ pair.
      produce_definition answers decls pair.0 pair.1
      (and_jobs (Havoc ∷ []) (with_chunks (remove w.chunks place) w)))

  -- nothing is done where no outside place is declared
  abbrev pub havoc_among : List OutsidePlace → Walk → Moved
  havoc_among [] w = On w
  havoc_among (place ∷ places) w = havoc_by (exposed_from decls 0 w.chunks) w

  -- the outside writes
  abbrev pub havoc : Walk → Moved
  havoc w = havoc_among (outside_places decls) w
