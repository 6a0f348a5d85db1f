-- Walks whose terms have types: those that the specification gives to what its chunks hold.
use Rattle.std.specs.Prelude.{◌≡◌, List, [], ◌∷◌, ◌++◌, map, Option, None, Some, slice_get}
use Rattle.std.specs.List.{AllByRecursion}
use Rattle.kat_value.specs.declared.types.Ty.{Ty}
use Rattle.kat_value.specs.declared.types.Ty.TheVariants as ty
use Rattle.kat_ast.specs.declared.decl.DeclForm.{DeclForm}
use Rattle.kat_ast.specs.declared.type_name.Param.{Param}
use Rattle.kat_syntax.specs.Holds.{RegionDecl, index_width}
use Rattle.kat_syntax.specs.States.{register_types}
use Rattle.kat_syntax.specs.TypeTable.{types_of_decls}
use Rattle.kat_term.specs.Types.{IsTermOf}
use Rattle.kat_term.specs.Worlds.{IsWorldOf}
use Rattle.kat_term.specs.declared.term.Term.{Term}
use Rattle.kat_chunk.specs.declared.chunk.Chunk.{Chunk}
use Rattle.kat_chunk.specs.declared.chunk.Chunk.TheVariants.{Reg, Cell, Pred, Region}
use Rattle.kat_heap.specs.Places.{PredicateAt, cell_type, predicate_at, type_written}
use Rattle.kat_heap.specs.Searches.{region_at}
use Rattle.kat_heap.specs.Walks.{Job, Run, Produce, Consume, Owe, Match, Bind, Fresh, Return, Bound, Leave, Yield, Fold, Fill, Havoc, Compare, Restore, Decide, Exit, Chosen, OnlyIn, BehindUntrusted, BehindCycle, Names, Reading, Plain, Kept, AtBothEnds, Walk}

-- terms of the types of parameters, one for each
abbrev pub AreTermsOf : List DeclForm → List Ty → List Param → List Term → Type 0
AreTermsOf decls vars [] [] = Unit {0}
AreTermsOf decls vars [] (t ∷ ts) = ⊥
AreTermsOf decls vars (param ∷ params) [] = ⊥
AreTermsOf decls vars (param ∷ params) (t ∷ ts) =
    IsTermOf (types_of_decls decls) vars (type_written decls param.ty) t
    × AreTermsOf decls vars params ts

-- a term is an index of the memory
abbrev pub IsIndexTerm : List DeclForm → List Ty → Term → Type 0
IsIndexTerm decls vars t = IsTermOf (types_of_decls decls) vars (ty.Bits (index_width decls)) t

-- the terms of a chunk have the types that the specification gives
abbrev pub IsChunkOf : List DeclForm → List Ty → Chunk → Type 0
IsChunkOf decls vars (Reg at value) =
    (type : Ty) × (slice_get (register_types decls) at ≡ Some type)
    × IsTermOf (types_of_decls decls) vars type value
IsChunkOf decls vars (Cell key value) =
    IsIndexTerm decls vars key × IsTermOf (types_of_decls decls) vars (cell_type decls) value
IsChunkOf decls vars (Pred at args) =
    (pred : PredicateAt) × (predicate_at decls at ≡ Some pred)
    × AreTermsOf decls vars (pred.inputs ++ pred.outputs) args
IsChunkOf decls vars (Region at args holes) =
    (region : RegionDecl) × (region_at decls at ≡ Some region)
    × AreTermsOf decls vars region.params args
    × AllByRecursion (IsIndexTerm decls vars) holes

-- a term has a type
abbrev pub HasSomeType : List DeclForm → List Ty → Term → Type 0
HasSomeType decls vars term = (type : Ty) × IsTermOf (types_of_decls decls) vars type term

-- what names stand for
abbrev pub things_of_names : {T : Type 0} → Names T → List T
things_of_names names = map (λ name. name.1) names

-- what is read
abbrev pub things_of_reading : {T : Type 0} → Reading T → List T
things_of_reading Plain = []
things_of_reading (Kept kept) = kept
things_of_reading (AtBothEnds before after) = before ++ after

-- all terms of a reading have types
abbrev pub IsReadingOf : List DeclForm → List Ty → Reading Term → Type 0
IsReadingOf decls vars reading =
    AllByRecursion (HasSomeType decls vars) (things_of_reading reading)

-- what follows a phase
abbrev pub things_of_chosen : {T : Type 0} → Chosen T → List T
things_of_chosen (OnlyIn phase) = []
things_of_chosen (BehindUntrusted first) = first
things_of_chosen (BehindCycle block before left) = before

-- what may be there
abbrev pub things_of_option : {T : Type 0} → Option T → List T
things_of_option None = []
things_of_option (Some t) = t ∷ []

-- what a job holds
abbrev pub things_of_job : {T : Type 0} → Job T → List T
things_of_job (Run stm) = []
things_of_job (Produce reading assertion) = things_of_reading reading
things_of_job (Consume reading assertion) = things_of_reading reading
things_of_job (Owe goal) = goal ∷ []
things_of_job (Match value reading e) = value ∷ things_of_reading reading
things_of_job (Bind x) = []
things_of_job (Fresh type) = []
things_of_job (Return of kept) = things_of_names kept
things_of_job (Bound params) = []
things_of_job (Leave x type old) = things_of_option old
things_of_job (Yield outputs reading kept) = things_of_reading reading ++ things_of_names kept
things_of_job (Fold pred inputs outputs kept) = inputs ++ things_of_names kept
things_of_job (Fill key) = key ∷ []
things_of_job Havoc = []
things_of_job (Compare index number) = []
things_of_job (Restore r value) = value ∷ []
things_of_job (Decide cases otherwise chosen) = things_of_chosen chosen
things_of_job (Exit places taken block before guard) = taken ++ before

-- all terms of a walk have types in its world
pub record IsWalkOf (decls : List DeclForm) (w : Walk) : Type 0 where
  pub world : IsWorldOf (types_of_decls decls) w.world
  pub chunks : AllByRecursion (IsChunkOf decls w.world.vars) w.chunks
  pub names : AllByRecursion (HasSomeType decls w.world.vars) (things_of_names w.point.names)
  pub last : HasSomeType decls w.world.vars w.point.last
  pub jobs :
      AllByRecursion
      (λ job. AllByRecursion (HasSomeType decls w.world.vars) (things_of_job job)) w.point.jobs
