use Rattle.std.proofs.Common.{◌+◌, ◌*◌}
use Rattle.kat_term.proofs.FreshSteps.{SoFar}
use Rattle.kat_term.proofs.fresh.+fresh.Given as goal

abbrev pub decreases-fresh_record : goal.decreases-fresh_record
decreases-fresh_record l = 2 * l.levels + 1

abbrev pub decreases-fresh_value : goal.decreases-fresh_value
decreases-fresh_value l = 2 * l.levels

abbrev pub invariant-fresh_record-loop-field : goal.invariant-fresh_record-loop-field
invariant-fresh_record-loop-field l = SoFar l.types l.levels l.fields l.fn.vars l.terms l.vars l.field-index
