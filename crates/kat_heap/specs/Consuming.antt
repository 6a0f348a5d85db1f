-- To consume an assertion: what it says is taken out of what is owned, and owed.
use Rattle.std.specs.Prelude.{ℕ, ◌++◌, drop, if◌then◌else◌, List, [], ◌∷◌, length, map, remove, take, zip, Option, None, Some, option_and_then, slice_get, slice_set}
use Rattle.std.specs.Option.{option_map}
use Rattle.kat_value.specs.Making.{all_there}
use Rattle.kat_value.specs.Signatures.{same_type}
use Rattle.kat_value.specs.declared.op.Op.{Op}
use Rattle.kat_value.specs.declared.op.Op.TheVariants.{Eq}
use Rattle.kat_value.specs.declared.types.Ty.TheVariants as ty
use Rattle.kat_ast.specs.declared.assertion.Assertion.{Assertion}
use Rattle.kat_ast.specs.declared.assertion.Assertion.TheOpen.{Assertion-F, Pure, Register, Cell, Star, If, Exists, Predicate, Region}
use Rattle.kat_ast.specs.declared.assertion.Assertion.TheViews.{out-Assertion}
use Rattle.kat_ast.specs.declared.decl.DeclForm.{DeclForm}
use Rattle.kat_ast.specs.declared.expr.Expr.{Expr}
use Rattle.kat_ast.specs.declared.expr.Expr.TheOpen.{Expr-F, Name as Named, Apply}
use Rattle.kat_ast.specs.declared.expr.Expr.TheViews.{out-Expr}
use Rattle.kat_syntax.specs.Tables.{Name}
use Rattle.kat_term.specs.Equality.{op_eq}
use Rattle.kat_term.specs.declared.term.Term.{Term}
use Rattle.kat_term.specs.Views.{two}
use Rattle.kat_chunk.specs.declared.chunk.Chunk.{Chunk}
use Rattle.kat_chunk.specs.declared.chunk.Chunk.TheVariants as chunk
use Rattle.kat_heap.specs.Asking.{Answers, any_type, branch, counted, growing, is_wanted, known, owe, owe_false, type_in, with_term, with_terms}
use Rattle.kat_heap.specs.Places.{PredicateAt, RegionAt, RegisterAt, RegisterChunk, cell_type, index_wanted, predicate_found, region_found, register_chunk, register_found, wanted_of}
use Rattle.kat_heap.specs.Searches.{cell_goals, found, found_or, pred_goals, region_goals, search}
use Rattle.kat_heap.specs.Terms.{Sources, binding, sources_of}
use Rattle.kat_heap.specs.Walks.{Moved, On, Consume, Fill, Leave, Match, Names, Plain, Reading, Walk, Yield, and_jobs, named, naming, unnamed, with_chunks, with_names}

-- a name that stands for nothing yet
abbrev pub if_unbound : {T : Type 0} → Name → Option T → Option Name
if_unbound x None = Some x
if_unbound x (Some t) = None

-- the name of one layer of an expression
abbrev pub name_in : Expr-F Expr → Option Name
name_in (Named x) = Some x
name_in _ = None

-- the name that an expression is, where it is unbound
abbrev pub unbound_name : {T : Type 0} → Names T → Expr → Option Name
unbound_name names e =
    option_and_then (λ x. if_unbound x (named names x)) (name_in (out-Expr e))

-- the two sides of an equation of one layer
abbrev pub sides_of : Op → List Expr → Option (Expr × Expr)
sides_of op (a ∷ b ∷ []) = if op_eq op Eq then Some (a, b) else None
sides_of op _ = None

-- the two sides of an equation
abbrev pub equation_in : Expr-F Expr → Option (Expr × Expr)
equation_in (Apply op args) = sides_of op args
equation_in _ = None

-- the unbound name and the expression of a pure part that binds: `(eq x e)`
abbrev pub binds : {T : Type 0} → Names T → Expr → Option (Name × Expr)
binds names e =
    option_and_then (λ (sides : Expr × Expr).
    option_map (λ x. (x, sides.1)) (unbound_name names sides.0)) (equation_in (out-Expr e))

-- the arguments of a chunk that is a predicate
abbrev pub args_of_pred : Option Chunk → Option (List Term)
args_of_pred (Some (chunk.Pred at args)) = Some args
args_of_pred _ = None

-- the holes of a chunk that is a region
abbrev pub holes_of_region : Option Chunk → Option (List Term)
holes_of_region (Some (chunk.Region at args holes)) = Some holes
holes_of_region _ = None

module _ (answers : Answers) (decls : List DeclForm) where
  -- a value is bound to an expression that is an unbound name, or owed to be that of the expression
  abbrev pub match_by : Option Name → Term → Sources → Expr → Walk → Moved
  match_by (Some x) value sources e w = On (with_names (naming x value w.point.names) w)
  match_by None value sources e w =
      with_term answers decls sources e
      (λ type. is_wanted (same_type type) (type_in answers decls w value)) w
      (λ term. owe answers decls w (two Eq value term) (On w))

  -- the same of an expression where these names stand
  abbrev pub match : Term → Reading Term → Expr → Walk → Moved
  match value reading e w =
      match_by (unbound_name w.point.names e) value
      (sources_of decls w.point.names reading) e w

  -- the first Reg chunk of a register is taken
  abbrev pub take_register : ℕ → Walk → (Term → Walk → Moved) → Moved
  take_register at w go =
      known answers decls (register_chunk at w.chunks) w (λ (found : RegisterChunk).
      go found.value (with_chunks (remove w.chunks found.place) w))

  -- the cell at a key is taken from the chunk at a place: a Cell chunk is removed, and a region has
  -- a hole there from here on, any value coming out of it
  abbrev pub take_from : Option Chunk → ℕ → Term → Walk → (Term → Walk → Moved) → Moved
  take_from (Some (chunk.Cell other value)) place key w go =
      go value (with_chunks (remove w.chunks place) w)
  take_from (Some (chunk.Region region args holes)) place key w go =
      growing decls (cell_type decls) w (λ value grown.
      go value (with_chunks
      (slice_set w.chunks place (chunk.Region region args (holes ++ key ∷ []))) grown))
  take_from (Some (chunk.Reg at value)) place key w go = owe_false answers decls w
  take_from (Some (chunk.Pred at args)) place key w go = owe_false answers decls w
  take_from None place key w go = owe_false answers decls w

  -- the cell at a key is searched and taken
  abbrev pub take_cell : Term → Walk → (Term → Walk → Moved) → Moved
  take_cell key w go =
      found answers decls w (search answers decls w (cell_goals decls key w.chunks)) (λ place.
      take_from (slice_get w.chunks place) place key w go)

  -- a pure part binds an unbound name, and is owed else
  abbrev pub consume_pure : Option (Name × Expr) → Reading Term → Expr → Walk → Moved
  consume_pure (Some pair) reading e w =
      with_term answers decls (sources_of decls w.point.names reading) pair.1 any_type w
      (λ term. On (with_names (naming pair.0 term w.point.names) w))
  consume_pure None reading e w =
      with_term answers decls (sources_of decls w.point.names reading) e (same_type ty.Bool) w
      (λ goal. owe answers decls w goal (On w))

  -- the definition of a predicate with these inputs is consumed, and its outputs are matched
  abbrev pub consume_definition :
      PredicateAt → List Term → Reading Term → Names Expr → Walk → Moved
  consume_definition pred inputs reading outputs w =
      known answers decls (binding pred.inputs inputs) w (λ names.
      On (and_jobs
      (Consume Plain pred.definition ∷ Yield outputs reading w.point.names ∷ [])
      (with_names names w)))

  -- a predicate: the first chunk of it with these inputs is removed, and its outputs are matched
  -- one by one; with none the definition is consumed
  abbrev pub consume_predicate :
      PredicateAt → List Term → Reading Term → Names Expr → Walk → Moved
  consume_predicate pred inputs reading outputs w =
      found_or answers decls w
      (search answers decls w (pred_goals pred.at inputs 0 w.chunks))
      (consume_definition pred inputs reading outputs w) (λ place.
      known answers decls (args_of_pred (slice_get w.chunks place)) w (λ args.
      On (and_jobs
      (map (λ (pair : Term × (Name × Expr)). Match pair.0 reading pair.1.1)
      (zip (drop (length inputs) args) outputs))
      (with_chunks (remove w.chunks place) w))))

  -- a region: the first chunk of it with these arguments is removed, and each of its holes is
  -- filled
  abbrev pub consume_region : ℕ → List Term → Walk → Moved
  consume_region region args w =
      found answers decls w
      (search answers decls w (region_goals region args 0 w.chunks)) (λ place.
      known answers decls (holes_of_region (slice_get w.chunks place)) w (λ holes.
      On (and_jobs (map Fill holes) (with_chunks (remove w.chunks place) w))))

  -- by cases on the form
  abbrev pub consume_layer : Reading Term → Assertion-F Assertion → Walk → Moved
  consume_layer reading (Pure e) w = consume_pure (binds w.point.names e) reading e w
  consume_layer reading (Register r e) w =
      known answers decls (register_found decls r) w (λ (register : RegisterAt).
      take_register register.at w (λ value left. match value reading e left))
  consume_layer reading (Cell index e) w =
      with_term answers decls (sources_of decls w.point.names reading) index
      (index_wanted decls) w (λ key.
      take_cell key w (λ value left. match value reading e left))
  consume_layer reading (Star parts) w = On (and_jobs (map (Consume reading) parts) w)
  consume_layer reading (If test first second) w =
      with_term answers decls (sources_of decls w.point.names reading) test
      (same_type ty.Bool) w
      (λ condition. branch answers decls condition w
      (and_jobs (Consume reading first ∷ []) w) (and_jobs (Consume reading second ∷ []) w))
  consume_layer reading (Exists x type body) w =
      On (and_jobs (Consume reading body ∷ Leave x type (named w.point.names x) ∷ [])
      (with_names (unnamed x w.point.names) w))
  consume_layer reading (Predicate x args) w =
      known answers decls (predicate_found decls x) w (λ (pred : PredicateAt).
      known answers decls (binding pred.outputs (drop (length pred.inputs) args)) w (λ outputs.
      with_terms answers decls (sources_of decls w.point.names reading)
      (take (length pred.inputs) args) (wanted_of decls pred.inputs) w
      (λ inputs. consume_predicate pred inputs reading outputs w)))
  consume_layer reading (Region x args) w =
      known answers decls (region_found decls x) w (λ (region : RegionAt).
      with_terms answers decls (sources_of decls w.point.names reading) args
      (wanted_of decls region.params) w
      (λ terms. consume_region region.at terms w))

  -- one step
  abbrev pub consume : Reading Term → Assertion → Walk → Moved
  consume reading assertion w = counted w (consume_layer reading (out-Assertion assertion))

  -- the cell at a key is taken, whatever it holds: a hole of a region is filled, or a place is
  -- removed
  abbrev pub fill : Term → Walk → Moved
  fill key w = take_cell key w (λ value left. On left)

  -- the names are these again, and the outputs of a definition are matched one by one
  abbrev pub yield : Names Expr → Reading Term → Names Term → Walk → Moved
  yield outputs reading kept w =
      known answers decls
      (all_there (map (λ (output : Name × Expr). named w.point.names output.0) outputs)) w
      (λ values. On (and_jobs
      (map (λ (pair : Term × (Name × Expr)). Match pair.0 reading pair.1.1) (zip values outputs))
      (with_names kept w)))
