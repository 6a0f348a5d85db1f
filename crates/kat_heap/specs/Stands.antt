-- Walks under a valuation: the values of what they hold, and what they stand for.
use Rattle.std.specs.Prelude.{List, map, unwrap_or}
use Rattle.std.specs.Option.{option_map}
use Rattle.kat_value.specs.declared.value.Value.{Value}
use Rattle.kat_value.specs.declared.value.Value.TheVariants.{Unit as UnitValue}
use Rattle.kat_ast.specs.declared.decl.DeclForm.{DeclForm}
use Rattle.kat_syntax.specs.Fragments.{Fragment}
use Rattle.kat_syntax.specs.TypeTable.{types_of_decls}
use Rattle.kat_term.specs.declared.term.Term.{Term}
use Rattle.kat_term.specs.Values.{Valuation, value_of}
use Rattle.kat_term.specs.Worlds.{Fits}
use Rattle.kat_chunk.specs.Chunks.{HasParts}
use Rattle.kat_heap.specs.Walks.{Job, Run, Produce, Consume, Owe, Match, Bind, Fresh, Return, Bound, Leave, Yield, Fold, Fill, Havoc, Compare, Restore, Decide, Exit, Chosen, OnlyIn, BehindUntrusted, BehindCycle, Names, Point, Reading, Plain, Kept, AtBothEnds, Walk}

-- names with other things in the place of these
abbrev pub map_names : {T U : Type 0} → (T → U) → Names T → Names U
map_names f = map (λ name. (name.0, f name.1))

-- what is read, with other things in the place of these
abbrev pub map_reading : {T U : Type 0} → (T → U) → Reading T → Reading U
map_reading f Plain = Plain
map_reading f (Kept kept) = Kept (map f kept)
map_reading f (AtBothEnds before after) = AtBothEnds (map f before) (map f after)

-- what follows a phase, with other things in the place of these
abbrev pub map_chosen : {T U : Type 0} → (T → U) → Chosen T → Chosen U
map_chosen f (OnlyIn phase) = OnlyIn phase
map_chosen f (BehindUntrusted first) = BehindUntrusted (map f first)
map_chosen f (BehindCycle block before left) = BehindCycle block (map f before) left

-- a job, with other things in the place of these
abbrev pub map_job : {T U : Type 0} → (T → U) → Job T → Job U
map_job f (Run stm) = Run stm
map_job f (Produce reading assertion) = Produce (map_reading f reading) assertion
map_job f (Consume reading assertion) = Consume (map_reading f reading) assertion
map_job f (Owe goal) = Owe (f goal)
map_job f (Match value reading e) = Match (f value) (map_reading f reading) e
map_job f (Bind x) = Bind x
map_job f (Fresh type) = Fresh type
map_job f (Return of kept) = Return of (map_names f kept)
map_job f (Bound params) = Bound params
map_job f (Leave x type old) = Leave x type (option_map f old)
map_job f (Yield outputs reading kept) = Yield outputs (map_reading f reading) (map_names f kept)
map_job f (Fold pred inputs outputs kept) = Fold pred (map f inputs) outputs (map_names f kept)
map_job f (Fill key) = Fill (f key)
map_job f Havoc = Havoc
map_job f (Compare index number) = Compare index number
map_job f (Restore r value) = Restore r (f value)
map_job f (Decide cases otherwise chosen) = Decide cases otherwise (map_chosen f chosen)
map_job f (Exit places taken block before guard) =
    Exit places (map f taken) block (map f before) guard

-- a point, with other things in the place of these
abbrev pub map_point : {T U : Type 0} → (T → U) → Point T → Point U
map_point f point = record {
  names = map_names f point.names;
  last = f point.last;
  jobs = map (map_job f) point.jobs;
}

-- the value of a term of a walk; each has one, and unit stands for none
abbrev pub value_at : List DeclForm → Valuation → Term → Value
value_at decls ρ term = unwrap_or (value_of (types_of_decls decls) ρ term) UnitValue

-- the names, the last value and the jobs of a walk, with the values of their terms
abbrev pub point_at : List DeclForm → Valuation → Point Term → Point Value
point_at decls ρ point = map_point (value_at decls ρ) point

-- a walk stands for a fragment under a valuation: it fits the world, and the fragment has pairwise
-- disjoint parts, one for each chunk
pub record StandsFor (decls : List DeclForm) (w : Walk) (ρ : Valuation) (p : Fragment) :
    Type 0 where
  pub fits : Fits (types_of_decls decls) w.world ρ
  pub parts : HasParts decls ρ w.chunks p
