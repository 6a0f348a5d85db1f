-- To produce an assertion: what it says is owned and assumed from here on.
use Rattle.std.specs.Prelude.{List, [], ◌∷◌, ◌++◌, map}
use Rattle.kat_value.specs.Signatures.{same_type}
use Rattle.kat_value.specs.declared.types.Ty.TheVariants as ty
use Rattle.kat_ast.specs.declared.assertion.Assertion.{Assertion}
use Rattle.kat_ast.specs.declared.assertion.Assertion.TheOpen.{Assertion-F, Pure, Register, Cell, Star, If, Exists, Predicate, Region}
use Rattle.kat_ast.specs.declared.assertion.Assertion.TheViews.{out-Assertion}
use Rattle.kat_ast.specs.declared.decl.DeclForm.{DeclForm}
use Rattle.kat_syntax.specs.FirstValues.{first_value}
use Rattle.kat_syntax.specs.TypeTable.{types_of_decls}
use Rattle.kat_term.specs.declared.term.Term.{Term}
use Rattle.kat_chunk.specs.declared.chunk.Chunk.TheVariants as chunk
use Rattle.kat_heap.specs.declared.mode.Mode.{Mode}
use Rattle.kat_heap.specs.declared.mode.Mode.TheVariants.{ByContract, Inline}
use Rattle.kat_heap.specs.Asking.{Answers, adding, assumed, branch, counted, growing, known, with_term, with_terms}
use Rattle.kat_heap.specs.Places.{PredicateAt, RegionAt, RegisterAt, cell_type, index_wanted, predicate_found, region_found, register_found, type_written, wanted_of}
use Rattle.kat_heap.specs.Terms.{binding, sources_of}
use Rattle.kat_heap.specs.Walks.{Moved, On, OfDefinition, OfScope, Plain, Produce, Reading, Return, Walk, and_jobs, naming, with_names}

module _ (answers : Answers) (decls : List DeclForm) where
  -- the definition of a predicate with these arguments is produced
  abbrev pub produce_definition : PredicateAt → List Term → Walk → Moved
  produce_definition pred args w =
      known answers decls (binding (pred.inputs ++ pred.outputs) args) w
      (λ names. On (and_jobs
      (Produce Plain pred.definition ∷ Return OfDefinition w.point.names ∷ [])
      (with_names names w)))

  -- a predicate is a chunk, or its definition
  abbrev pub produce_predicate : Mode → PredicateAt → List Term → Walk → Moved
  produce_predicate ByContract pred args w = adding (chunk.Pred pred.at args) w On
  produce_predicate Inline pred args w = produce_definition pred args w

  -- by cases on the form
  abbrev pub produce_layer : Mode → Reading Term → Assertion-F Assertion → Walk → Moved
  produce_layer mode reading (Pure e) w =
      with_term answers decls (sources_of decls w.point.names reading) e (same_type ty.Bool) w
      (λ formula. assumed answers decls formula w)
  produce_layer mode reading (Register r e) w =
      known answers decls (register_found decls r) w (λ (register : RegisterAt).
      with_term answers decls (sources_of decls w.point.names reading) e
      (same_type register.type) w
      (λ value. adding (chunk.Reg register.at value) w On))
  produce_layer mode reading (Cell index e) w =
      with_term answers decls (sources_of decls w.point.names reading) index
      (index_wanted decls) w (λ key.
      with_term answers decls (sources_of decls w.point.names reading) e
      (same_type (cell_type decls)) w
      (λ value. adding (chunk.Cell key value) w On))
  produce_layer mode reading (Star parts) w = On (and_jobs (map (Produce reading) parts) w)
  produce_layer mode reading (If test first second) w =
      with_term answers decls (sources_of decls w.point.names reading) test
      (same_type ty.Bool) w
      (λ condition. branch answers decls condition w
      (and_jobs (Produce reading first ∷ []) w) (and_jobs (Produce reading second ∷ []) w))
  produce_layer mode reading (Exists x type body) w =
      known answers decls (first_value (types_of_decls decls) (type_written decls type)) w
      (λ first. growing decls (type_written decls type) w (λ value grown.
      On (and_jobs (Produce reading body ∷ Return OfScope w.point.names ∷ [])
      (with_names (naming x value w.point.names) grown))))
  produce_layer mode reading (Predicate x args) w =
      known answers decls (predicate_found decls x) w (λ (pred : PredicateAt).
      with_terms answers decls (sources_of decls w.point.names reading) args
      (wanted_of decls (pred.inputs ++ pred.outputs)) w
      (λ terms. produce_predicate mode pred terms w))
  produce_layer mode reading (Region x args) w =
      known answers decls (region_found decls x) w (λ (region : RegionAt).
      with_terms answers decls (sources_of decls w.point.names reading) args
      (wanted_of decls region.params) w
      (λ terms. adding (chunk.Region region.at terms []) w On))

  -- one step
  abbrev pub produce : Mode → Reading Term → Assertion → Walk → Moved
  produce mode reading assertion w =
      counted w (produce_layer mode reading (out-Assertion assertion))
