-- What is known of statements and assertions where they stand.
use Rattle.std.specs.Prelude.{◌≡◌, ℕ, ◌+◌, List, ◌∷◌, ◌++◌, map, Option, option_and_then}
use Rattle.kat_ast.specs.declared.stm.Stm.{Stm}
use Rattle.kat_ast.specs.declared.stm.CaseArm.{CaseArm}
use Rattle.kat_ast.specs.declared.stm.MatchArm.{MatchArm}
use Rattle.kat_ast.specs.declared.stm.Stm.TheShapes.{former-Stm-Case-1-at-2 as case_arm, former-Stm-Match-1-at-3 as match_arm}
use Rattle.kat_ast.specs.declared.assertion.Assertion.{Assertion}
use Rattle.kat_syntax.specs.TypeRules.{Fault, least_with}
use Rattle.kat_syntax.specs.Declares.{TypedName}
use Rattle.kat_syntax.specs.Around.{Around, CtorSeen, a_ctor, meant}
use Rattle.kat_syntax.specs.TypesWritten.{Scope, hiding}
use Rattle.kat_syntax.specs.TypingExpressions.{Known, unknown}
use Rattle.kat_syntax.specs.TypingStatements.{InScope, known_of_stm}
use Rattle.kat_syntax.specs.TypingAssertions.{Judged, judged_assertion}
use Rattle.kat_expr_types.specs.declared.setting.Setting.{Setting}
use Rattle.kat_expr_types.specs.Judging.{standing_of}
use Rattle.kat_expr_types.specs.Scopes.{scope_of}

-- what is known of an assertion in a setting
abbrev pub judged_here : Setting → Assertion → Judged
judged_here setting assertion =
    judged_assertion setting.around.now (standing_of setting.standing) assertion
    (scope_of setting.scope.now)

-- the trees of an assertion at this tree are answered, and its faults are noted
pub record Counts (judged : Judged) (at trees : ℕ) (old new : Option Fault) : Type 0 where
  pub counted : trees ≡ judged.trees
  pub noted : new ≡ least_with old (judged.faults at)

-- the arms of a `case`, with what is known of each body
abbrev pub case_arms_of : Around → List (CaseArm Stm) → List (CaseArm InScope)
case_arms_of around arms = map (case_arm.map Stm InScope (known_of_stm around)) arms

-- the arms of a `match`, with what is known of each body
abbrev pub match_arms_of : Around → List (MatchArm Stm) → List (MatchArm InScope)
match_arms_of around arms = map (match_arm.map Stm InScope (known_of_stm around)) arms

-- the payload of an arm as a local
abbrev pub payload_here : Around → MatchArm Stm → TypedName
payload_here around arm = record {
  name = arm.payload;
  type = option_and_then (λ (seen : CtorSeen). seen.payload) (meant a_ctor around arm.ctor);
}

-- what is known of the body of an arm of a `match`
abbrev pub body_known : Around → Scope → MatchArm Stm → Known
body_known around scope arm = known_of_stm around arm.body (payload_here around arm ∷ scope)

-- the faults of one arm of a `match` at this tree
abbrev pub match_arm_fault : Around → Scope → ℕ → MatchArm Stm → List Fault
match_arm_fault around scope at arm =
    unknown (at + 1) (meant a_ctor around arm.ctor)
    ++ (hiding around scope (at + 2) arm.payload
    ++ (body_known around scope arm).faults (at + 3))
