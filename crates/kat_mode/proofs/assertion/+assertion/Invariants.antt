-- Parts have fewer trees than the whole, and the parts of a star are read one by one.
use Rattle.std.proofs.Common.{◌+◌, ◌*◌, sum_by}
use Rattle.kat_ast.specs.Assertions.{trees_of_assertion}
use Rattle.kat_syntax.specs.Modes.{inputs_among}
use Rattle.kat_mode.proofs.Going.{IsLeft}
use Rattle.kat_mode.proofs.Parts.{parts_from}
use Rattle.kat_mode.proofs.assertion.+assertion.Given as goal

-- each part of an assertion has fewer trees than the whole
abbrev pub decreases-read_assertion : goal.decreases-read_assertion
decreases-read_assertion l = 2 * trees_of_assertion l.assertion.now

abbrev pub decreases-read_star : goal.decreases-read_star
decreases-read_star l = 1 + 2 * sum_by trees_of_assertion l.parts.now

abbrev pub decreases-read_if : goal.decreases-read_if
decreases-read_if l = 2 + 2 * (trees_of_assertion l.then.now + trees_of_assertion l.otherwise.now)

abbrev pub decreases-read_branches : goal.decreases-read_branches
decreases-read_branches l =
    1 + 2 * (trees_of_assertion l.then.now + trees_of_assertion l.otherwise.now)

abbrev pub decreases-read_exists : goal.decreases-read_exists
decreases-read_exists l = 1 + 2 * trees_of_assertion l.body.now

-- the parts that are left make the whole
abbrev pub invariant-read_star-loop-part : goal.invariant-read_star-loop-part
invariant-read_star-loop-part l =
    IsLeft (parts_from (inputs_among l.inputs) l.part-items 0)
    (parts_from (inputs_among l.inputs) l.part-items l.part-index) l.initial.unbound l.unbound
