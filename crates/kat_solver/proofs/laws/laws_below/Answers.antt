use Rattle.kat_solver.proofs.laws.laws_below.Goals as goal

pub returns : goal.returns
returns c = record {
  operations = c.equal_terms_are_tested.ensures.operations;
  equal = c.equality_is_tested.ensures;
  truths = c.types_of_values.ensures.truths;
  parts = c.terms_by_parts.ensures;
  values = c.values_of_operations.ensures;
  typed = c.types_are_values.ensures;
  valuations = c.worlds_grow.ensures.valuations;
  told = c.told_types_hold.ensures.truths;
  pairs = c.normal_forms_keep_values.ensures.pairs;
  norm_values = c.normal_forms_keep_values.ensures.values;
  norm_types = c.normal_forms_keep_types.ensures;
  known = c.known_atoms_hold.ensures.known;
  atom_values = c.known_atoms_hold.ensures.values;
  atom_types = c.known_atoms_hold.ensures.types;
  normal_values = c.reducing_keeps.ensures.normal_values;
  normal_types = c.reducing_keeps.ensures.normal_types;
  reduced_values = c.reducing_keeps.ensures.values;
  reduced_types = c.reducing_keeps.ensures.types;
  strict_values = c.reducing_keeps.ensures.strict_values;
  found = c.parts_are_found.ensures.values;
}
