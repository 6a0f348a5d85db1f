-- The normal form, said by the parts of a term.
use Rattle.std.specs.Prelude.{◌≡◌, ℕ, Option}
use Rattle.kat_term.specs.declared.term.Term.{Term}
use Rattle.kat_term.specs.declared.term.Term.TheViews.{out-Term}
use Rattle.kat_norm.specs.Norm.{norm_from, and_go, norm_parts, norm_head}

-- the parts are normed from left to right; then the rule that is there is used, and its right side
-- is normed in its turn; where none is there, the term stays
abbrev pub GoesByArguments : Type 0
GoesByArguments =
    (rule : Term → Option Term) (left : ℕ) (t : Term) →
    norm_from rule left t ≡ and_go (norm_parts rule left (out-Term t)) (norm_head rule)
