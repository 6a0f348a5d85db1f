-- The moves of a walk beside production, consumption and the writes of the outside.
use Rattle.std.specs.Prelude.{ℕ, ◌++◌, if◌then◌else◌, List, [], ◌∷◌, map, remove, Option, None, Some, slice_get}
use Rattle.kat_value.specs.Making.{all_there}
use Rattle.kat_value.specs.Signatures.{same_type}
use Rattle.kat_value.specs.declared.op.Op.TheVariants.{Eq}
use Rattle.kat_value.specs.declared.types.Ty.{Ty}
use Rattle.kat_ast.specs.declared.decl.DeclForm.{DeclForm}
use Rattle.kat_ast.specs.declared.type_name.Param.{Param}
use Rattle.kat_ast.specs.declared.type_name.TypeName.{TypeName}
use Rattle.kat_syntax.specs.FirstValues.{first_value}
use Rattle.kat_syntax.specs.Holds.{index_width}
use Rattle.kat_syntax.specs.States.{cell_width, register_position}
use Rattle.kat_syntax.specs.Tables.{Name}
use Rattle.kat_syntax.specs.TypeTable.{types_of_decls}
use Rattle.kat_term.specs.declared.term.Term.{Term}
use Rattle.kat_term.specs.Views.{bits, two}
use Rattle.kat_chunk.specs.declared.chunk.Chunk.{Chunk}
use Rattle.kat_chunk.specs.declared.chunk.Chunk.TheVariants as chunk
use Rattle.kat_heap.specs.Asking.{Answers, Wanted, adding, growing, is_wanted, known, owe, owe_false, type_in}
use Rattle.kat_heap.specs.Consuming.{args_of_pred, take_register}
use Rattle.kat_heap.specs.Places.{PredicateAt, cell_type, predicate_at, type_written, wanted_of}
use Rattle.kat_heap.specs.Producing.{produce_definition}
use Rattle.kat_heap.specs.Searches.{cell_goals, found, pred_goals, search}
use Rattle.kat_heap.specs.Terms.{binding}
use Rattle.kat_heap.specs.Walks.{Moved, On, Consume, Fold, Names, Plain, Walk, and_jobs, named, naming, naming_again, with_chunks, with_last, with_names}

module _ (answers : Answers) (decls : List DeclForm) where
  -- the value of the cell that was searched: that of a Cell chunk, and any where a region has it
  abbrev pub read_from : Option Chunk → Walk → (Term → Walk → Moved) → Moved
  read_from (Some (chunk.Cell other value)) w go = go value w
  read_from (Some (chunk.Region region args holes)) w go = growing decls (cell_type decls) w go
  read_from (Some (chunk.Reg at value)) w go = owe_false answers decls w
  read_from (Some (chunk.Pred at args)) w go = owe_false answers decls w
  read_from None w go = owe_false answers decls w

  -- the cell at a key is searched and read
  abbrev pub read_cell : Term → Walk → (Term → Walk → Moved) → Moved
  read_cell key w go =
      found answers decls w (search answers decls w (cell_goals decls key w.chunks)) (λ place.
      read_from (slice_get w.chunks place) w go)

  -- the first chunk of a predicate with these inputs is removed, and its definition is produced
  abbrev pub unfolded : PredicateAt → List Term → Walk → Moved
  unfolded pred inputs w =
      found answers decls w
      (search answers decls w (pred_goals pred.at inputs 0 w.chunks)) (λ place.
      known answers decls (args_of_pred (slice_get w.chunks place)) w (λ args.
      produce_definition answers decls pred args (with_chunks (remove w.chunks place) w)))

  -- the definition of a predicate with these inputs is consumed; the chunk is added behind it
  abbrev pub fold_up : PredicateAt → List Term → Walk → Moved
  fold_up pred inputs w =
      known answers decls (binding pred.inputs inputs) w (λ names.
      On (and_jobs
      (Consume Plain pred.definition
      ∷ Fold pred.at inputs (map (λ (param : Param). param.name) pred.outputs) w.point.names ∷ [])
      (with_names names w)))

  -- a name stands for the last value
  abbrev pub bind : Name → Walk → Moved
  bind x w = On (with_names (naming x w.point.last w.point.names) w)

  -- the last value is a fresh one; a type without values owes `false`
  abbrev pub fresh : Ty → Walk → Moved
  fresh type w =
      known answers decls (first_value (types_of_decls decls) type) w (λ first.
      growing decls type w (λ value grown. On (with_last value grown)))

  -- the names are these again
  abbrev pub return : Names Term → Walk → Moved
  return kept w = On (with_names kept w)

  -- goes on where a term is there and of a wanted type; else `false` is owed
  abbrev pub when_typed : Option Term → Wanted → Walk → Moved → Moved
  when_typed None wanted w next = owe_false answers decls w
  when_typed (Some term) wanted w next =
      if is_wanted wanted (type_in answers decls w term) then next else owe_false answers decls w

  -- each of these terms is of its wanted type, or `false` is owed
  abbrev pub when_all_typed : List Term → List Wanted → Walk → Moved → Moved
  when_all_typed [] [] w next = next
  when_all_typed [] (wanted ∷ more) w next = owe_false answers decls w
  when_all_typed (term ∷ terms) [] w next = owe_false answers decls w
  when_all_typed (term ∷ terms) (wanted ∷ more) w next =
      when_typed (Some term) wanted w (when_all_typed terms more w next)

  -- the chunk of a predicate whose definition was consumed is added, its terms being of its types
  abbrev pub folded : ℕ → List Term → List Name → Names Term → Walk → Moved
  folded pred inputs outputs kept w =
      known answers decls (predicate_at decls pred) w (λ (found : PredicateAt).
      known answers decls (all_there (map (named w.point.names) outputs)) w (λ values.
      when_all_typed (inputs ++ values) (wanted_of decls (found.inputs ++ found.outputs)) w
      (adding (chunk.Pred pred (inputs ++ values)) (with_names kept w) On)))

  -- each of these names stands for a term of its type, or `false` is owed
  abbrev pub bound_all : List Param → Walk → Moved
  bound_all [] w = On w
  bound_all (param ∷ params) w =
      when_typed (named w.point.names param.name) (same_type (type_written decls param.ty)) w
      (bound_all params w)

  -- a name, which stands for a term of this type, stands again for what it stood for
  abbrev pub leave : Name → TypeName → Option Term → Walk → Moved
  leave x type old w =
      when_typed (named w.point.names x) (same_type (type_written decls type)) w
      (On (with_names (naming_again x old w.point.names) w))

  -- the cell at an index is searched, and owed to have its stated value
  abbrev pub compare : ℕ → ℕ → Walk → Moved
  compare index number w =
      read_cell (bits (index_width decls) index) w (λ value read.
      owe answers decls read (two Eq (bits (cell_width decls) number) value) (On read))

  -- the chunk of a register is taken, and owed to have a value
  abbrev pub restore : Name → Term → Walk → Moved
  restore r wanted w =
      known answers decls (register_position decls r) w (λ at.
      take_register answers decls at w (λ value left.
      owe answers decls left (two Eq value wanted) (On left)))
