use Rattle.std.proofs.Common.{◌≡◌, ◌++◌, drop, map}
use Rattle.kat_tree.specs.Written.{behind_spaces}
use Rattle.kat_print.specs.Terms.{text_of_term}
use Rattle.kat_print.proofs.terms.+term.Given as goal

-- the terms that are still to come make the text whole
abbrev pub invariant-put_terms-loop-term : goal.invariant-put_terms-loop-term
invariant-put_terms-loop-term l = l.out ++ behind_spaces (map (text_of_term l.types) (drop l.term-index l.terms)) ≡ l.initial.out ++ behind_spaces (map (text_of_term l.types) l.terms)
