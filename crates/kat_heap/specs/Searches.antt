-- The search for a chunk: the goals that are asked in order, and what they come to.
use Rattle.std.specs.Prelude.{ℕ, ◌+◌, ◌-◌, ◌==◌, true, false, if◌then◌else◌, List, [], ◌∷◌, ◌++◌, length, map, take, zip, Option, None, Some, Result, Ok, Err, option_and_then, slice_get}
use Rattle.std.specs.Option.{option_map}
use Rattle.kat_value.specs.declared.op.Op.TheVariants.{And, Eq, Not, Or, Ule}
use Rattle.kat_ast.specs.declared.decl.DeclForm.{DeclForm}
use Rattle.kat_syntax.specs.Holds.{RegionDecl, region_of}
use Rattle.kat_syntax.specs.Memories.{Memory}
use Rattle.kat_syntax.specs.States.{memory_of}
use Rattle.kat_term.specs.declared.kind.Kind.{Kind}
use Rattle.kat_term.specs.declared.prover.Answer.{Answer}
use Rattle.kat_term.specs.declared.prover.Answer.TheVariants.{Proved, Contradiction, Residue}
use Rattle.kat_term.specs.declared.term.Term.{Term}
use Rattle.kat_term.specs.Views.{bits, one, truth, two}
use Rattle.kat_chunk.specs.declared.chunk.Chunk.{Chunk}
use Rattle.kat_chunk.specs.declared.chunk.Chunk.TheVariants.{Cell, Pred, Region}
use Rattle.kat_chunk.specs.Chunks.{region_names}
use Rattle.kat_heap.specs.Asking.{Answers, is_formula, owe, owe_false}
use Rattle.kat_heap.specs.Terms.{binding, plainly, term_of_expr}
use Rattle.kat_heap.specs.Walks.{Moved, Limit, Walk}

-- the goal by which a chunk at a place is asked for; none where there is no such term
pub record Asks : Type 0 where
  pub at : ℕ
  pub goal : Option Term

-- what a search comes to
pub data Search : Type 0 where
  -- the chunk at this place is the first whose goal holds
  Found : (at : ℕ) → Search
  -- none holds, and these are the residues of all goals, in order
  Absent : (residues : List Term) → Search
  -- a goal is no formula
  Untyped : Search
  -- the normal form of a goal passes a limit
  Over : (limit : Kind) → Search

-- terms joined by an operation, right nested; the other where there is none
abbrev pub joined : (Term → Term → Term) → Term → List Term → Term
joined join other [] = other
joined join other (t ∷ []) = t
joined join other (t ∷ next ∷ more) = join t (joined join other (next ∷ more))

-- all of these, `true` where there is none
abbrev pub all_of : List Term → Term
all_of terms = joined (two And) (truth true) terms

-- one of these, `false` where there is none
abbrev pub one_of : List Term → Term
one_of terms = joined (two Or) (truth false) terms

-- each term is equal to the one at its place
abbrev pub equal_in_turn : List Term → List Term → Term
equal_in_turn terms others =
    all_of (map (λ (pair : Term × Term). two Eq pair.0 pair.1) (zip terms others))

-- the index is none of these holes, joined on the right of a guard
abbrev pub without_holes : Term → Term → List Term → Term
without_holes key guard [] = guard
without_holes key guard (hole ∷ holes) =
    without_holes key (two And guard (one Not (two Eq hole key))) holes

-- a region's guard at a key, its names replaced
abbrev pub guard_at : List DeclForm → RegionDecl → List Term → Term → Option Term
guard_at decls region args key =
    option_and_then
    (λ names. term_of_expr decls (plainly ((region.index, key) ∷ names)) region.guard)
    (binding region.params args)

-- the region at a position
abbrev pub region_at : List DeclForm → ℕ → Option RegionDecl
region_at decls at = option_and_then (region_of decls) (slice_get (region_names decls) at)

-- a key is an index of a memory at which a guard is true
abbrev pub goal_within : Term → Memory → Term → Term
goal_within key memory guard =
    two And (two Ule (bits memory.index_width memory.lo) key)
    (two And (two Ule key (bits memory.index_width (memory.hi - 1))) guard)

-- the goal that a region has the cell at a key
abbrev pub region_goal : List DeclForm → Term → ℕ → List Term → List Term → Option Term
region_goal decls key region args holes =
    option_and_then (λ memory.
    option_map (λ guard. goal_within key memory (without_holes key guard holes))
    (option_and_then (λ (r : RegionDecl). guard_at decls r args key) (region_at decls region)))
    (memory_of decls)

-- the Cell chunks, each by the goal that its key is this one, the first chunk having this place
abbrev pub cells_from : Term → ℕ → List Chunk → List Asks
cells_from key at [] = []
cells_from key at (Cell k value ∷ chunks) =
    record { at = at; goal = Some (two Eq k key) } ∷ cells_from key (at + 1) chunks
cells_from key at (_ ∷ chunks) = cells_from key (at + 1) chunks

-- the Region chunks, each by the goal that it has the cell at this key
abbrev pub regions_from : List DeclForm → Term → ℕ → List Chunk → List Asks
regions_from decls key at [] = []
regions_from decls key at (Region region args holes ∷ chunks) =
    record { at = at; goal = region_goal decls key region args holes }
    ∷ regions_from decls key (at + 1) chunks
regions_from decls key at (_ ∷ chunks) = regions_from decls key (at + 1) chunks

-- the search for the cell at a key: first the cells, then the regions
abbrev pub cell_goals : List DeclForm → Term → List Chunk → List Asks
cell_goals decls key chunks = cells_from key 0 chunks ++ regions_from decls key 0 chunks

-- the Pred chunks of a predicate, each by the goal that its inputs are these
abbrev pub pred_goals : ℕ → List Term → ℕ → List Chunk → List Asks
pred_goals pred inputs at [] = []
pred_goals pred inputs at (Pred other args ∷ chunks) =
    if other == pred
    then record { at = at; goal = Some (equal_in_turn (take (length inputs) args) inputs) }
    ∷ pred_goals pred inputs (at + 1) chunks
    else pred_goals pred inputs (at + 1) chunks
pred_goals pred inputs at (_ ∷ chunks) = pred_goals pred inputs (at + 1) chunks

-- the Region chunks of a region, each by the goal that its arguments are these
abbrev pub region_goals : ℕ → List Term → ℕ → List Chunk → List Asks
region_goals region inputs at [] = []
region_goals region inputs at (Region other args holes ∷ chunks) =
    if other == region
    then record { at = at; goal = Some (equal_in_turn args inputs) }
    ∷ region_goals region inputs (at + 1) chunks
    else region_goals region inputs (at + 1) chunks
region_goals region inputs at (_ ∷ chunks) = region_goals region inputs (at + 1) chunks

-- a search in which a residue was left before
abbrev pub with_residue : Term → Search → Search
with_residue residue (Absent residues) = Absent (residue ∷ residues)
with_residue residue search = search

-- a goal holds where its answer is no residue; else the search goes on
abbrev pub held : Answer → ℕ → Search → Search
held (Residue residue) at search = with_residue residue search
held Proved at search = Found at
held Contradiction at search = Found at

-- goes on within the limits of normal forms
abbrev pub within : Result Term Kind → Search → Search
within (Ok normal) search = search
within (Err limit) search = Over limit

module _ (answers : Answers) (decls : List DeclForm) where
  -- what the goal of one chunk comes to, with what the search comes to behind it
  abbrev pub searched : Walk → ℕ → Option Term → Search → Search
  searched w at None search = Untyped
  searched w at (Some goal) search =
      if is_formula answers decls w goal
      then within (answers.normal w.world goal) (held (answers.left w.world goal) at search)
      else Untyped

  -- the first chunk whose goal holds
  abbrev pub search : Walk → List Asks → Search
  search w [] = Absent []
  search w (asks ∷ more) = searched w asks.at asks.goal (search w more)

  -- what a search that found nothing owes: one of the residues, and then `false`
  abbrev pub owe_one_of : Walk → List Term → Moved
  owe_one_of w [] = owe_false answers decls w
  owe_one_of w (residue ∷ residues) =
      owe answers decls w (one_of (residue ∷ residues)) (owe_false answers decls w)

  -- goes on with what was found
  abbrev pub found : Walk → Search → (ℕ → Moved) → Moved
  found w (Found at) go = go at
  found w (Absent residues) go = owe_one_of w residues
  found w Untyped go = owe_false answers decls w
  found w (Over limit) go = Limit limit

  -- goes on with what was found, or another way where nothing was
  abbrev pub found_or : Walk → Search → Moved → (ℕ → Moved) → Moved
  found_or w (Found at) other go = go at
  found_or w (Absent residues) other go = other
  found_or w Untyped other go = owe_false answers decls w
  found_or w (Over limit) other go = Limit limit
