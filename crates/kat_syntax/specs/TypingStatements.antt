-- Typing of statements: the type of each, where something fixes it, and its faults.
use Rattle.std.specs.Prelude.{ℕ, ◌+◌, ◌&&◌, Bool, true, false, if◌then◌else◌, List, [], ◌∷◌, ◌++◌, map, Option, None, Some, is_some, option_and_then}
use Rattle.std.specs.List.{list_all}
use Rattle.std.specs.Option.{option_map}
use Rattle.std.specs.Str.{bytes_eq}
use Rattle.kat_value.specs.declared.types.Ty.{Ty}
use Rattle.kat_value.specs.declared.types.Ty.TheVariants as ty
use Rattle.kat_value.specs.Signatures.{agree}
use Rattle.kat_ast.specs.declared.stm.Stm.{Stm}
use Rattle.kat_ast.specs.declared.stm.CaseArm.{CaseArm}
use Rattle.kat_ast.specs.declared.stm.MatchArm.{MatchArm}
use Rattle.kat_ast.specs.declared.stm.Stm.TheOpen.{Stm-F, Ret, Let, Seq, If, Case, Match, Read, Write, Load, Store, Call, Check, Fail, Open, Close, Lemma}
use Rattle.kat_ast.specs.declared.stm.Stm.TheFolds.{map-Stm, fold-Stm}
use Rattle.kat_ast.specs.declared.expr.Expr.{Expr}
use Rattle.kat_ast.specs.Statements.{stm_trees}
use Rattle.kat_syntax.specs.Tables.{Name}
use Rattle.kat_syntax.specs.declared.type_rule.TypeRule.TheVariants.{NotListed, BranchesDiffer, MemoryMissing, UsedBefore, TypeOther}
use Rattle.kat_syntax.specs.TypeRules.{Fault, unless}
use Rattle.kat_syntax.specs.Declares.{TypedName}
use Rattle.kat_syntax.specs.Around.{Around, CtorSeen, FunctionSeen, ProofSeen, a_member, a_ctor, a_register, a_predicate, a_function, a_lemma, meant, is_before, is_member_of, is_ctor_of, names_that, as_enum, as_union}
use Rattle.kat_syntax.specs.Memories.{memory_before, index_type, cell_type}
use Rattle.kat_syntax.specs.TypesWritten.{Scope, hiding}
use Rattle.kat_syntax.specs.TypingExpressions.{Plain, Known, wanting, known_types, parts_faults, given_faults, unknown, type_of_register, known_of_expr}

-- a statement in a scope, as far as typing knows it
abbrev pub InScope : Type 0
InScope = Scope → Known

-- what is known of an expression in a statement
abbrev pub plain : Around → Scope → Expr → Known
plain around scope = known_of_expr around Plain scope

-- what is known of expressions in a statement
abbrev pub plains : Around → Scope → List Expr → List Known
plains around scope exprs = map (plain around scope) exprs

-- the first type that is known
abbrev pub first_known : List (Option Ty) → Option Ty
first_known [] = None
first_known (None ∷ types) = first_known types
first_known (Some type ∷ types) = Some type

-- whether all types that are known are one
abbrev pub all_agree : List (Option Ty) → Bool
all_agree types = list_all (agree (first_known types)) types

-- the type of branches of these types; nothing fixes it where they differ
abbrev pub type_of_branches : List (Option Ty) → Option Ty
type_of_branches types = if all_agree types then first_known types else None

-- the last of types
abbrev pub last_type : List (Option Ty) → Option Ty
last_type [] = None
last_type (type ∷ []) = type
last_type (type ∷ next ∷ types) = last_type (next ∷ types)

-- whether two lists of names are the same
abbrev pub same_names : List Name → List Name → Bool
same_names [] [] = true
same_names (x ∷ xs) (y ∷ ys) = bytes_eq x y && same_names xs ys
same_names _ _ = false

-- the names that arms have to list for a value of this type: the members of an enum
abbrev pub members_wanted : Around → Option Ty → Option (List Name)
members_wanted around type =
    option_map (λ p. names_that (is_member_of p) around) (option_and_then as_enum type)

-- the constructors of a union
abbrev pub ctors_wanted : Around → Option Ty → Option (List Name)
ctors_wanted around type =
    option_map (λ p. names_that (is_ctor_of p) around) (option_and_then as_union type)

-- whether arms list what they have to, where that is known
abbrev pub are_listed : Option (List Name) → List Name → Bool
are_listed None names = true
are_listed (Some wanted) names = same_names wanted names

-- whether a type that is known is an enum
abbrev pub may_be_enum : Option Ty → Bool
may_be_enum None = true
may_be_enum (Some type) = is_some (as_enum type)

-- whether a type that is known is a union
abbrev pub may_be_union : Option Ty → Bool
may_be_union None = true
may_be_union (Some type) = is_some (as_union type)

-- the payload of an arm as a local
abbrev pub payload_of : Around → MatchArm InScope → TypedName
payload_of around arm = record {
  name = arm.payload;
  type = option_and_then (λ (seen : CtorSeen). seen.payload) (meant a_ctor around arm.ctor);
}

-- the arms of a `case` in this scope
abbrev pub case_bodies : Scope → List (CaseArm InScope) → List Known
case_bodies scope arms = map (λ (arm : CaseArm InScope). arm.body scope) arms

-- the arms of a `match` in this scope, each with its payload
abbrev pub match_bodies : Around → Scope → List (MatchArm InScope) → List Known
match_bodies around scope arms =
    map (λ (arm : MatchArm InScope). arm.body (payload_of around arm ∷ scope)) arms

-- the faults of the arms of a `case`, the first standing at this tree
abbrev pub case_arm_faults : Around → Scope → ℕ → List (CaseArm InScope) → List Fault
case_arm_faults around scope at [] = []
case_arm_faults around scope at (arm ∷ arms) =
    unknown (at + 1) (meant a_member around arm.member)
    ++ ((arm.body scope).faults (at + 2)
    ++ case_arm_faults around scope (at + 2 + (arm.body scope).trees) arms)

-- the faults of the arms of a `match`, the first standing at this tree
abbrev pub match_arm_faults : Around → Scope → ℕ → List (MatchArm InScope) → List Fault
match_arm_faults around scope at [] = []
match_arm_faults around scope at (arm ∷ arms) =
    let body = arm.body (payload_of around arm ∷ scope) in
    unknown (at + 1) (meant a_ctor around arm.ctor)
    ++ (hiding around scope (at + 2) arm.payload
    ++ (body.faults (at + 3) ++ match_arm_faults around scope (at + 3 + body.trees) arms))

-- the condition of `case`, `match` or `if` at this tree: its faults, and that it is as wanted
abbrev pub condition_faults : (Option Ty → Bool) → ℕ → Known → List Fault
condition_faults wanted at test = test.faults at ++ unless (wanted test.type) at TypeOther

-- whether a predicate or lemma that is known is declared earlier
abbrev pub is_usable : Around → Option ProofSeen → Bool
is_usable around None = true
is_usable around (Some seen) = is_before around seen.decl

-- the faults of a proof statement at this tree, of what it names and its inputs
abbrev pub proof_faults : Around → Option ProofSeen → ℕ → List Known → List Fault
proof_faults around seen at args =
    unknown (at + 2) seen
    ++ (unless (is_usable around seen) (at + 2) UsedBefore
    ++ given_faults (option_map (λ (one : ProofSeen). one.inputs) seen) at args)

-- the fault of what needs a memory before it, at this tree
abbrev pub without_memory : Around → ℕ → List Fault
without_memory around at = unless (is_some (memory_before around)) at MemoryMissing

-- the type of one layer of a statement
abbrev pub stm_type : Around → Stm-F InScope → Scope → Option Ty
stm_type around (Ret e) scope = (plain around scope e).type
stm_type around (Let x first then_) scope =
    (then_ (record { name = x; type = (first scope).type } ∷ scope)).type
stm_type around (Seq parts) scope = last_type (map (λ (part : InScope). (part scope).type) parts)
stm_type around (If test then_ otherwise) scope =
    type_of_branches ((then_ scope).type ∷ (otherwise scope).type ∷ [])
stm_type around (Case e arms) scope = type_of_branches (known_types (case_bodies scope arms))
stm_type around (Match e arms) scope =
    type_of_branches (known_types (match_bodies around scope arms))
stm_type around (Read r) scope = type_of_register around r
stm_type around (Write r e) scope = Some ty.Unit
stm_type around (Load index) scope = cell_type around
stm_type around (Store index e) scope = Some ty.Unit
stm_type around (Call f args) scope =
    option_and_then (λ (seen : FunctionSeen). seen.result) (meant a_function around f)
stm_type around (Check e) scope = Some ty.Unit
stm_type around Fail scope = None
stm_type around (Open p inputs) scope = Some ty.Unit
stm_type around (Close p inputs) scope = Some ty.Unit
stm_type around (Lemma l args) scope = Some ty.Unit

-- the faults of one layer of a statement that stands at a tree: its own, and those of its parts
abbrev pub stm_faults : Around → Stm-F InScope → Scope → ℕ → List Fault
stm_faults around (Ret e) scope at = (plain around scope e).faults (at + 2)
stm_faults around (Let x first then_) scope at =
    hiding around scope (at + 2) x
    ++ ((first scope).faults (at + 3)
    ++ (then_ (record { name = x; type = (first scope).type } ∷ scope)).faults
    (at + 3 + (first scope).trees))
stm_faults around (Seq parts) scope at =
    parts_faults (at + 2) (map (λ (part : InScope). part scope) parts)
stm_faults around (If test then_ otherwise) scope at =
    condition_faults (agree (Some ty.Bool)) (at + 2) (plain around scope test)
    ++ (parts_faults (at + 2 + (plain around scope test).trees) (then_ scope ∷ otherwise scope ∷ [])
    ++ unless (all_agree ((then_ scope).type ∷ (otherwise scope).type ∷ [])) at BranchesDiffer)
stm_faults around (Case e arms) scope at =
    condition_faults may_be_enum (at + 2) (plain around scope e)
    ++ (case_arm_faults around scope (at + 2 + (plain around scope e).trees) arms
    ++ (unless (are_listed (members_wanted around (plain around scope e).type)
    (map (λ (arm : CaseArm InScope). arm.member) arms)) at NotListed
    ++ unless (all_agree (known_types (case_bodies scope arms))) at BranchesDiffer))
stm_faults around (Match e arms) scope at =
    condition_faults may_be_union (at + 2) (plain around scope e)
    ++ (match_arm_faults around scope (at + 2 + (plain around scope e).trees) arms
    ++ (unless (are_listed (ctors_wanted around (plain around scope e).type)
    (map (λ (arm : MatchArm InScope). arm.ctor) arms)) at NotListed
    ++ unless (all_agree (known_types (match_bodies around scope arms))) at BranchesDiffer))
stm_faults around (Read r) scope at = unknown (at + 2) (meant a_register around r)
stm_faults around (Write r e) scope at =
    unknown (at + 2) (meant a_register around r)
    ++ ((plain around scope e).faults (at + 3)
    ++ wanting (type_of_register around r) (at + 3) (plain around scope e).type)
stm_faults around (Load index) scope at =
    without_memory around at
    ++ ((plain around scope index).faults (at + 2)
    ++ wanting (index_type around) (at + 2) (plain around scope index).type)
stm_faults around (Store index e) scope at =
    let value_at = at + 2 + (plain around scope index).trees in
    without_memory around at
    ++ ((plain around scope index).faults (at + 2)
    ++ (wanting (index_type around) (at + 2) (plain around scope index).type
    ++ ((plain around scope e).faults value_at
    ++ wanting (cell_type around) value_at (plain around scope e).type)))
stm_faults around (Call f args) scope at =
    unknown (at + 2) (meant a_function around f)
    ++ given_faults (option_map (λ (seen : FunctionSeen). seen.params) (meant a_function around f))
    at (plains around scope args)
stm_faults around (Check e) scope at =
    condition_faults (agree (Some ty.Bool)) (at + 2) (plain around scope e)
stm_faults around Fail scope at = []
stm_faults around (Open p inputs) scope at =
    proof_faults around (meant a_predicate around p) at (plains around scope inputs)
stm_faults around (Close p inputs) scope at =
    proof_faults around (meant a_predicate around p) at (plains around scope inputs)
stm_faults around (Lemma l args) scope at =
    proof_faults around (meant a_lemma around l) at (plains around scope args)

-- one layer of a statement, with what is known of each part in its place
abbrev pub stm_known : Around → Stm-F InScope → InScope
stm_known around layer scope = record {
  trees = stm_trees (map-Stm InScope ℕ (λ part. (part scope).trees) layer);
  type = stm_type around layer scope;
  faults = stm_faults around layer scope;
}

-- what is known of a statement in a scope
abbrev pub known_of_stm : Around → Stm → InScope
known_of_stm around = fold-Stm InScope (stm_known around)
