-- The registers, predicates and types that a step finds by their names and positions.
use Rattle.std.specs.Prelude.{ℕ, ◌+◌, ◌==◌, if◌then◌else◌, List, [], ◌∷◌, length, map, Option, None, Some, option_and_then, slice_get}
use Rattle.std.specs.Option.{option_map}
use Rattle.kat_names.specs.Names.{position_of}
use Rattle.kat_value.specs.Signatures.{same_type}
use Rattle.kat_value.specs.declared.types.Ty.{Ty}
use Rattle.kat_value.specs.declared.types.Ty.TheVariants as ty
use Rattle.kat_ast.specs.declared.assertion.Assertion.{Assertion}
use Rattle.kat_ast.specs.declared.decl.DeclForm.{DeclForm}
use Rattle.kat_ast.specs.declared.decl.DeclForm.TheVariants as d
use Rattle.kat_ast.specs.declared.type_name.Param.{Param}
use Rattle.kat_ast.specs.declared.type_name.TypeName.{TypeName}
use Rattle.kat_syntax.specs.Holds.{RegionDecl, index_width}
use Rattle.kat_syntax.specs.States.{cell_width, register_position, register_types}
use Rattle.kat_syntax.specs.Tables.{Name}
use Rattle.kat_syntax.specs.TypeTable.{named_type}
use Rattle.kat_term.specs.declared.term.Term.{Term}
use Rattle.kat_chunk.specs.declared.chunk.Chunk.{Chunk}
use Rattle.kat_chunk.specs.declared.chunk.Chunk.TheVariants.{Reg}
use Rattle.kat_chunk.specs.Chunks.{predicate_names, region_names}
use Rattle.kat_heap.specs.Asking.{Wanted}
use Rattle.kat_heap.specs.Searches.{region_at}

-- the type that a written type is
abbrev pub type_written : List DeclForm → TypeName → Ty
type_written decls type = named_type decls (length decls) type

-- the types of parameters, each wanted of its argument
abbrev pub wanted_of : List DeclForm → List Param → List Wanted
wanted_of decls params = map (λ (param : Param). same_type (type_written decls param.ty)) params

-- the type of the memory's indices
abbrev pub index_wanted : List DeclForm → Wanted
index_wanted decls = same_type (ty.Bits (index_width decls))

-- the type of its cells
abbrev pub cell_type : List DeclForm → Ty
cell_type decls = ty.Bits (cell_width decls)

-- a register: its position among the registers, and its type
pub record RegisterAt : Type 0 where
  pub at : ℕ
  pub type : Ty

-- the register of a name
abbrev pub register_found : List DeclForm → Name → Option RegisterAt
register_found decls r =
    option_and_then (λ at.
    option_map (λ type. record { at = at; type = type }) (slice_get (register_types decls) at))
    (register_position decls r)

-- a predicate: its position among the predicates, its inputs and outputs, and its definition
pub record PredicateAt : Type 0 where
  pub at : ℕ
  pub inputs : List Param
  pub outputs : List Param
  pub definition : Assertion

-- the predicate at a position, the first of these declarations having the position k
abbrev pub predicate_from : ℕ → List DeclForm → ℕ → Option PredicateAt
predicate_from k [] at = None
predicate_from k (d.Predicate x inputs outputs definition ∷ decls) at =
    if k == at
    then Some (record { at = k; inputs = inputs; outputs = outputs; definition = definition })
    else predicate_from (k + 1) decls at
predicate_from k (_ ∷ decls) at = predicate_from k decls at

-- the predicate at a position
abbrev pub predicate_at : List DeclForm → ℕ → Option PredicateAt
predicate_at decls at = predicate_from 0 decls at

-- the predicate of a name
abbrev pub predicate_found : List DeclForm → Name → Option PredicateAt
predicate_found decls x =
    option_and_then (predicate_at decls) (position_of (predicate_names decls) x)

-- a region: its position among the regions, and its parameters
pub record RegionAt : Type 0 where
  pub at : ℕ
  pub params : List Param

-- the region of a name
abbrev pub region_found : List DeclForm → Name → Option RegionAt
region_found decls x =
    option_and_then (λ at.
    option_map (λ (region : RegionDecl). record { at = at; params = region.params })
    (region_at decls at))
    (position_of (region_names decls) x)

-- a chunk of a register: its place among the chunks, and its value
pub record RegisterChunk : Type 0 where
  pub place : ℕ
  pub value : Term

-- the first Reg chunk of the register at a position, the first chunk having this place
abbrev pub register_from : ℕ → ℕ → List Chunk → Option RegisterChunk
register_from at place [] = None
register_from at place (Reg other value ∷ chunks) =
    if other == at
    then Some (record { place = place; value = value })
    else register_from at (place + 1) chunks
register_from at place (_ ∷ chunks) = register_from at (place + 1) chunks

-- the first Reg chunk of the register at a position
abbrev pub register_chunk : ℕ → List Chunk → Option RegisterChunk
register_chunk at chunks = register_from at 0 chunks

-- the first Reg chunk of the register of a name
abbrev pub register_chunk_of : List DeclForm → Name → List Chunk → Option RegisterChunk
register_chunk_of decls r chunks =
    option_and_then (λ at. register_chunk at chunks) (register_position decls r)
