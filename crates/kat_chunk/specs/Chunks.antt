-- What chunks stand for.
use Rattle.std.specs.Prelude.{◌≡◌, ◌++◌, ℕ, List, [], ◌∷◌, length, map, Some, Result, Ok, Err, slice_get}
use Rattle.std.specs.Prelude.{⊤}
use Rattle.kat_value.specs.Making.{all_there}
use Rattle.kat_value.specs.declared.value.Value.{Value}
use Rattle.kat_value.specs.declared.value.Value.TheVariants.{Bits as Number}
use Rattle.kat_ast.specs.declared.decl.DeclForm.{DeclForm}
use Rattle.kat_ast.specs.declared.decl.DeclForm.TheVariants as d
use Rattle.kat_syntax.specs.Fragments.{Fragment, IsOfMemory, IsOfType, Join, one_cell, one_register}
use Rattle.kat_syntax.specs.Holds.{index_width, predicates_of}
use Rattle.kat_syntax.specs.States.{cell_width, memory_of, register_types}
use Rattle.kat_syntax.specs.Tables.{Name}
use Rattle.kat_syntax.specs.TypeTable.{types_of_decls}
use Rattle.kat_term.specs.declared.term.Term.{Term}
use Rattle.kat_term.specs.Values.{Valuation, value_of}
use Rattle.kat_chunk.specs.declared.chunk.Chunk.{Chunk}
use Rattle.kat_chunk.specs.declared.chunk.Chunk.TheVariants.{Reg, Cell, Pred, Region}
use Rattle.kat_chunk.specs.declared.chunks.AddError.{AddError}
use Rattle.kat_chunk.specs.declared.chunks.AddError.TheVariants.{Full, Memory}
use Rattle.kat_chunk.specs.Limits.{max_chunks}
use Rattle.kat_chunk.specs.Regions.{IsRegionWithout}

-- the names of the predicates, in order of declaration
abbrev pub predicate_names : List DeclForm → List Name
predicate_names [] = []
predicate_names (d.Predicate x inputs outputs definition ∷ decls) = x ∷ predicate_names decls
predicate_names (_ ∷ decls) = predicate_names decls

-- the names of the regions, in order of declaration
abbrev pub region_names : List DeclForm → List Name
region_names [] = []
region_names (d.Region x params index guard ∷ decls) = x ∷ region_names decls
region_names (_ ∷ decls) = region_names decls

-- a term has this value under a valuation
abbrev pub HasValue : List DeclForm → Valuation → Term → Value → Type 0
HasValue decls ρ term v = value_of (types_of_decls decls) ρ term ≡ Some v

-- terms have these values, in order
abbrev pub HaveValues : List DeclForm → Valuation → List Term → List Value → Type 0
HaveValues decls ρ terms values =
    all_there (map (value_of (types_of_decls decls) ρ) terms) ≡ Some values

-- a fragment is what a chunk stands for under a valuation: one register or cell with its value,
-- what holds a predicate of its arguments, or the cells of a region without those at its holes
abbrev pub IsPart : List DeclForm → Valuation → Chunk → Fragment → Type 0
IsPart decls ρ (Reg at term) f =
    (v : Value) × HasValue decls ρ term v
    × IsOfType decls (slice_get (register_types decls) at) v × (f ≡ one_register at v)
IsPart decls ρ (Cell key term) f =
    (i : ℕ) × (n : ℕ) × HasValue decls ρ key (Number (index_width decls) i)
    × HasValue decls ρ term (Number (cell_width decls) n)
    × IsOfMemory (memory_of decls) i n × (f ≡ one_cell i n)
IsPart decls ρ (Pred at args) f =
    (x : Name) × (values : List Value) × (slice_get (predicate_names decls) at ≡ Some x)
    × HaveValues decls ρ args values × predicates_of decls x values f
IsPart decls ρ (Region at args holes) f =
    (x : Name) × (values : List Value) × (keys : List Value)
    × (slice_get (region_names decls) at ≡ Some x) × HaveValues decls ρ args values
    × HaveValues decls ρ holes keys × IsRegionWithout decls x values keys f

-- a list of chunks stands for a fragment under a valuation: it has pairwise disjoint parts, one for
-- each chunk; places that no chunk has are allowed
abbrev pub HasParts : List DeclForm → Valuation → List Chunk → Fragment → Type 0
HasParts decls ρ [] p = Unit {0}
HasParts decls ρ (chunk ∷ chunks) p =
    (f : Fragment) × (q : Fragment) × Join p f q
    × IsPart decls ρ chunk f × HasParts decls ρ chunks q

-- what an answer says: the chunk stands at the end, or there were as many as there may be
abbrev pub AnswersAdded : Result Unit AddError → List Chunk → List Chunk → Chunk → Type 0
AnswersAdded (Ok done) old new chunk = new ≡ old ++ chunk ∷ []
AnswersAdded (Err Full) old new chunk = length old ≡ max_chunks
AnswersAdded (Err Memory) old new chunk = ⊤
