use Rattle.kat_state.proofs.FirstFields.{SoFar}
use Rattle.kat_state.proofs.first_values.first_fields.Given as goal

-- the values so far and those of the fields that are left are all
abbrev pub invariant-loop-field : goal.invariant-loop-field
invariant-loop-field l = SoFar l.firsts l.fields l.values l.field-index
