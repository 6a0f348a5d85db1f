-- The levels of a right side that are to be normed.
use Rattle.std.specs.Prelude.{ℕ, Bool, true, false, if◌then◌else◌, Option}
use Rattle.kat_term.specs.declared.term.Term.{Term}
use Rattle.kat_term.specs.Limits.{max_depth}
use Rattle.kat_rules.specs.RightSides.{equates_record, new_levels}
use Rattle.kat_norm.specs.Norm.{Step, Still, To, Over, step_of}

-- whether no rule is used
abbrev pub is_still : {A : Type 0} → Step A → Bool
is_still Still = true
is_still (To new) = false
is_still (Over limit) = false

-- whether no rule is there, in the term or in any part of it
abbrev pub is_normal : (Term → Option Term) → Term → Bool
is_normal rule t = is_still (step_of rule t)

-- how many levels of the right side of the rule at a term may have rules left, where the parts of
-- the term have none: the new ones, or all of an equation of records
abbrev pub levels_of : Term → ℕ
levels_of t = if equates_record t then max_depth else new_levels t
