-- Laws of what chunks stand for.
use Rattle.std.specs.Prelude.{◌≡◌, ◌++◌, ℕ, true, List, [], ◌∷◌, Some, remove, slice_get, slice_set}
use Rattle.kat_value.specs.declared.value.Value.{Value}
use Rattle.kat_value.specs.declared.value.Value.TheVariants.{Bits as Number}
use Rattle.kat_ast.specs.declared.decl.DeclForm.{DeclForm}
use Rattle.kat_syntax.specs.Cycle.{bound}
use Rattle.kat_syntax.specs.Evaluation.{Locals}
use Rattle.kat_syntax.specs.Fragments.{Fragment, IsOfMemory, Join, one_cell}
use Rattle.kat_syntax.specs.Holds.{RegionDecl, index_width, is_index, region_of}
use Rattle.kat_syntax.specs.States.{memory_of}
use Rattle.kat_syntax.specs.Tables.{Name}
use Rattle.kat_term.specs.Values.{Valuation}
use Rattle.kat_chunk.specs.declared.chunk.Chunk.{Chunk}
use Rattle.kat_chunk.specs.Chunks.{HasParts, IsPart}
use Rattle.kat_chunk.specs.Regions.{IsRegionWithout, has_cell}

-- the part of the chunk at a place, the parts of the others, and what may be put in its place
pub record Focus
    (decls : List DeclForm) (ρ : Valuation) (chunks : List Chunk) (at : ℕ) (chunk : Chunk)
    (p : Fragment) : Type 0 where
  pub part : Fragment
  pub others : Fragment
  pub is : Join p part others
  pub stands : IsPart decls ρ chunk part
  pub without : HasParts decls ρ (remove chunks at) others
  pub with :
      (other : Chunk) (f q : Fragment) → IsPart decls ρ other f → Join q f others →
      HasParts decls ρ (slice_set chunks at other) q

-- each chunk of a list has its part, and another may stand in its place
abbrev pub ChunksHaveParts : Type 0
ChunksHaveParts =
    (decls : List DeclForm) (ρ : Valuation) (chunks : List Chunk) (at : ℕ) (chunk : Chunk)
    (p : Fragment) → HasParts decls ρ chunks p → slice_get chunks at ≡ Some chunk →
    Focus decls ρ chunks at chunk p

-- a chunk that is added stands for a part that is added
abbrev pub PartsAreAdded : Type 0
PartsAreAdded =
    (decls : List DeclForm) (ρ : Valuation) (chunks : List Chunk) (chunk : Chunk)
    (p q f : Fragment) → Join p q f → HasParts decls ρ chunks q → IsPart decls ρ chunk f →
    HasParts decls ρ (chunks ++ chunk ∷ []) p

-- more may be owned than the chunks have
abbrev pub MoreMayBeOwned : Type 0
MoreMayBeOwned =
    (decls : List DeclForm) (ρ : Valuation) (chunks : List Chunk) (p q rest : Fragment) →
    Join p q rest → HasParts decls ρ chunks q → HasParts decls ρ chunks p

-- chunks stand for what they stood for, as the valuation is extended
abbrev pub PartsStay : Type 0
PartsStay =
    (decls : List DeclForm) (ρ more : Valuation) (chunks : List Chunk) (p : Fragment) →
    HasParts decls ρ chunks p → HasParts decls (ρ ++ more) chunks p

-- a region has a cell where an index of the memory is none of its holes and its guard is true there
pub record HasCellAt
    (decls : List DeclForm) (x : Name) (values holes : List Value) (i : ℕ) : Type 0 where
  pub region : RegionDecl
  pub locals : Locals
  pub declared : region_of decls x ≡ Some region
  pub binds : bound region.params values ≡ Some locals
  pub index : is_index (memory_of decls) i ≡ true
  pub inside : has_cell decls region locals holes i ≡ true

-- a cell of a fragment, and what is left of a region without it
pub record CellOut
    (decls : List DeclForm) (x : Name) (values holes : List Value) (i : ℕ) (f : Fragment)
    : Type 0 where
  pub number : ℕ
  pub others : Fragment
  pub is : Join f (one_cell i number) others
  pub fits : IsOfMemory (memory_of decls) i number
  pub left :
      IsRegionWithout decls x values (holes ++ Number (index_width decls) i ∷ []) others

-- a cell that a region has can be taken out of it, with any number, and leaves a hole there
abbrev pub CellsComeOut : Type 0
CellsComeOut =
    (decls : List DeclForm) (x : Name) (values holes : List Value) (i : ℕ) (f : Fragment) →
    IsRegionWithout decls x values holes f → HasCellAt decls x values holes i →
    CellOut decls x values holes i f

-- a cell put back at the first hole of a region fills it; where the region has no cell there, the
-- cell is left over
abbrev pub HolesAreFilled : Type 0
HolesAreFilled =
    (decls : List DeclForm) (x : Name) (values holes : List Value) (i n : ℕ) (p f : Fragment) →
    IsRegionWithout decls x values (Number (index_width decls) i ∷ holes) f →
    IsOfMemory (memory_of decls) i n → Join p f (one_cell i n) →
    (g : Fragment) × (rest : Fragment) × Join p g rest
    × IsRegionWithout decls x values holes g
