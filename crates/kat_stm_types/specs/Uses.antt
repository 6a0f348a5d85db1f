-- The parts of typing that statements and assertions share.
use Rattle.std.specs.Prelude.{ℕ, ◌+◌, List, ◌++◌, Option}
use Rattle.kat_syntax.specs.Tables.{Name}
use Rattle.kat_syntax.specs.declared.type_rule.TypeRule.TheVariants.{UsedBefore}
use Rattle.kat_syntax.specs.TypeRules.{Fault, unless}
use Rattle.kat_syntax.specs.Declares.{TypedName}
use Rattle.kat_syntax.specs.Around.{Around, ProofSeen, a_register, meant}
use Rattle.kat_syntax.specs.Memories.{index_type, cell_type}
use Rattle.kat_syntax.specs.TypingExpressions.{Known, wanting, given_faults, unknown, type_of_register}
use Rattle.kat_syntax.specs.TypingStatements.{is_usable, without_memory}

-- the faults of an index and a value of the memory before, behind a head at this tree
abbrev pub cell_parts_faults : Around → ℕ → Known → Known → List Fault
cell_parts_faults around at place value =
    without_memory around at
    ++ (place.faults (at + 2)
    ++ (wanting (index_type around) (at + 2) place.type
    ++ (value.faults (at + 2 + place.trees)
    ++ wanting (cell_type around) (at + 2 + place.trees) value.type)))

-- the faults of a register and its value, behind a head at this tree
abbrev pub register_value_faults : Around → ℕ → Name → Known → List Fault
register_value_faults around at r value =
    unknown (at + 2) (meant a_register around r)
    ++ (value.faults (at + 3) ++ wanting (type_of_register around r) (at + 3) value.type)

-- the faults of a use at this tree of a predicate or lemma that is found, with its arguments, of
-- which these are wanted
abbrev pub use_faults :
    Around → Option ProofSeen → Option (List TypedName) → ℕ → List Known → List Fault
use_faults around found wanted at args =
    unknown (at + 2) found
    ++ (unless (is_usable around found) (at + 2) UsedBefore ++ given_faults wanted at args)
