-- Typing of assertions: the faults of each.
use Rattle.std.specs.Prelude.{ℕ, ◌+◌, List, [], ◌∷◌, ◌++◌, map, Some}
use Rattle.std.specs.Option.{option_map}
use Rattle.kat_value.specs.declared.types.Ty.TheVariants as ty
use Rattle.kat_value.specs.Signatures.{agree}
use Rattle.kat_ast.specs.declared.assertion.Assertion.{Assertion}
use Rattle.kat_ast.specs.declared.assertion.Assertion.TheOpen.{Assertion-F, Pure, Register, Cell, Star, If, Exists, Predicate, Region}
use Rattle.kat_ast.specs.declared.assertion.Assertion.TheFolds.{map-Assertion, fold-Assertion}
use Rattle.kat_ast.specs.Assertions.{assertion_trees}
use Rattle.kat_ast.specs.Types.{trees_of_type}
use Rattle.kat_syntax.specs.declared.type_rule.TypeRule.TheVariants.{UsedBefore}
use Rattle.kat_syntax.specs.TypeRules.{Fault, unless}
use Rattle.kat_syntax.specs.Declares.{TypedName}
use Rattle.kat_syntax.specs.Around.{Around, ProofSeen, a_register, a_region, a_predicate, meant}
use Rattle.kat_syntax.specs.Memories.{index_type, cell_type}
use Rattle.kat_syntax.specs.TypesWritten.{Scope, hiding, type_faults_at, type_here}
use Rattle.kat_syntax.specs.TypingExpressions.{Standing, wanting, given_faults, unknown, type_of_register, known_of_expr}
use Rattle.kat_syntax.specs.TypingStatements.{condition_faults, is_usable, without_memory}

-- what typing knows of an assertion: how many trees it has, and its faults where it is at a tree
pub record Judged : Type 0 where
  pub trees : ℕ
  pub faults : ℕ → List Fault

-- the faults of assertions side by side, the first standing at this tree
abbrev pub side_by_side : ℕ → List Judged → List Fault
side_by_side at [] = []
side_by_side at (part ∷ parts) = part.faults at ++ side_by_side (at + part.trees) parts

-- what a predicate's arguments are: its inputs, and then its outputs
abbrev pub inputs_and_outputs : ProofSeen → List TypedName
inputs_and_outputs seen = seen.inputs ++ seen.outputs

-- the faults of one layer of an assertion that stands at a tree: its own, and those of its parts
abbrev pub assertion_faults :
    Around → Standing → Assertion-F (Scope → Judged) → Scope → ℕ → List Fault
assertion_faults around standing (Pure e) scope at =
    condition_faults (agree (Some ty.Bool)) (at + 2) (known_of_expr around standing scope e)
assertion_faults around standing (Register r e) scope at =
    let value = known_of_expr around standing scope e in
    unknown (at + 2) (meant a_register around r)
    ++ (value.faults (at + 3) ++ wanting (type_of_register around r) (at + 3) value.type)
assertion_faults around standing (Cell index e) scope at =
    let place = known_of_expr around standing scope index in
    let value = known_of_expr around standing scope e in
    without_memory around at
    ++ (place.faults (at + 2)
    ++ (wanting (index_type around) (at + 2) place.type
    ++ (value.faults (at + 2 + place.trees)
    ++ wanting (cell_type around) (at + 2 + place.trees) value.type)))
assertion_faults around standing (Star parts) scope at =
    side_by_side (at + 2) (map (λ (part : Scope → Judged). part scope) parts)
assertion_faults around standing (If test then_ otherwise) scope at =
    let known = known_of_expr around standing scope test in
    condition_faults (agree (Some ty.Bool)) (at + 2) known
    ++ side_by_side (at + 2 + known.trees) (then_ scope ∷ otherwise scope ∷ [])
assertion_faults around standing (Exists x type body) scope at =
    hiding around scope (at + 3) x
    ++ (type_faults_at around (at + 4) type
    ++ (body (record { name = x; type = type_here around type } ∷ scope)).faults
    (at + 4 + trees_of_type type))
assertion_faults around standing (Predicate p args) scope at =
    let seen = meant a_predicate around p in
    unknown (at + 2) seen
    ++ (unless (is_usable around seen) (at + 2) UsedBefore
    ++ given_faults (option_map inputs_and_outputs seen) at
    (map (known_of_expr around standing scope) args))
assertion_faults around standing (Region g args) scope at =
    without_memory around at
    ++ (unknown (at + 2) (meant a_region around g)
    ++ given_faults (meant a_region around g) at (map (known_of_expr around standing scope) args))

-- one layer of an assertion, with what is known of each part in its place
abbrev pub assertion_judged : Around → Standing → Assertion-F (Scope → Judged) → Scope → Judged
assertion_judged around standing layer scope = record {
  trees = assertion_trees (map-Assertion (Scope → Judged) ℕ (λ part. (part scope).trees) layer);
  faults = assertion_faults around standing layer scope;
}

-- what is known of an assertion in a scope, whose expressions stand so
abbrev pub judged_assertion : Around → Standing → Assertion → Scope → Judged
judged_assertion around standing =
    fold-Assertion (Scope → Judged) (assertion_judged around standing)
