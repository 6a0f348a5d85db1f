use Rattle.std.proofs.Common.{◌+◌, ◌*◌, drop, map}
use Rattle.std.specs.Prelude.{sum}
use Rattle.kat_term.specs.Sizes.{nodes}
use Rattle.kat_rules.specs.Rules.{rule_of}
use Rattle.kat_norm.proofs.Runs.{HeadSoFar, AllSoFar}
use Rattle.kat_norm.proofs.norm.+norm.Given as goal

-- more for a rule that is left than for all nodes of a right side
abbrev pub decreases-norm_term : goal.decreases-norm_term
decreases-norm_term l = l.left.now * 196618 + (3 * nodes l.term.now + 1)

abbrev pub decreases-norm_right : goal.decreases-norm_right
decreases-norm_right l = l.left.now * 196618

abbrev pub decreases-norm_parts : goal.decreases-norm_parts
decreases-norm_parts l = l.left.now * 196618 + 3 * nodes l.term.now

abbrev pub decreases-norm_terms : goal.decreases-norm_terms
decreases-norm_terms l = l.left.now * 196618 + (3 * sum (map nodes l.terms.now) + 2)

abbrev pub invariant-norm_term-loop-current : goal.invariant-norm_term-loop-current
invariant-norm_term-loop-current l = HeadSoFar (rule_of l.vars) l.fn.left l.fn.term l.current l.left

abbrev pub decreases-norm_term-loop-current : goal.decreases-norm_term-loop-current
decreases-norm_term-loop-current l = l.left

abbrev pub invariant-norm_terms-loop-term : goal.invariant-norm_terms-loop-term
invariant-norm_terms-loop-term l = AllSoFar (rule_of l.vars) l.fn.left l.terms l.normed l.left (drop l.term-index l.terms)
