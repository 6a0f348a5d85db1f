-- Scopes: which names an assertion may use, and how many begin bound in each declaration.
use Rattle.std.specs.Prelude.{◌≡◌, ℕ, ◌&&◌, not, Bool, true, List, ◌∷◌, length, map, Option, None, Some}
use Rattle.std.specs.List.{list_all}
use Rattle.kat_ast.specs.declared.assertion.Assertion.{Assertion}
use Rattle.kat_ast.specs.declared.assertion.Assertion.TheOpen.{Assertion-F, Pure, Register, Cell, Star, If, Exists, Predicate, Region}
use Rattle.kat_ast.specs.declared.assertion.Assertion.TheFolds.{fold-Assertion}
use Rattle.kat_ast.specs.declared.decl.DeclForm.{DeclForm}
use Rattle.kat_syntax.specs.Tables.{Name}
use Rattle.kat_syntax.specs.Declares.{TypedName, declared_by, look_up}
use Rattle.kat_syntax.specs.Around.{ProofSeen, a_function, a_predicate}
use Rattle.kat_syntax.specs.TypesWritten.{Scope}
use Rattle.kat_syntax.specs.TypingDeclarations.{params_seen}
use Rattle.kat_syntax.specs.Modes.{used_in, names_of_parts, is_in, inputs_among}

-- whether names all stand in a scope
abbrev pub are_in : List Name → List Name → Bool
are_in scope names = list_all (is_in scope) names

-- whether assertions stay in a scope
abbrev pub all_stay : List (List Name → Bool) → List Name → Bool
all_stay parts scope = list_all (λ (part : List Name → Bool). part scope) parts

-- one layer of an assertion; an `exists` adds its name, which was not in scope
abbrev pub layer_stays : Assertion-F (List Name → Bool) → List Name → Bool
layer_stays (Pure e) scope = are_in scope (used_in e).names
layer_stays (Register r e) scope = are_in scope (used_in e).names
layer_stays (Cell index e) scope =
    are_in scope (used_in index).names && are_in scope (used_in e).names
layer_stays (Star parts) scope = all_stay parts scope
layer_stays (If test then_ otherwise) scope =
    are_in scope (used_in test).names && (then_ scope && otherwise scope)
layer_stays (Exists x type body) scope = not (is_in scope x) && body (x ∷ scope)
layer_stays (Predicate p args) scope = are_in scope (names_of_parts (map used_in args))
layer_stays (Region g args) scope = are_in scope (names_of_parts (map used_in args))

-- whether an assertion stays in a scope
abbrev pub stays_in : Assertion → List Name → Bool
stays_in = fold-Assertion (List Name → Bool) layer_stays

-- each name that an assertion uses stands in scope, and no `exists` hides one
abbrev pub StaysIn : List Name → Assertion → Type 0
StaysIn scope assertion = stays_in assertion scope ≡ true

-- the names of typed locals
abbrev pub names_in : Scope → List Name
names_in scope = map (λ (local : TypedName). local.name) scope

-- the names of the parameters of the function of this name
abbrev pub params_of : List DeclForm → Name → List Name
params_of decls f = names_in (params_seen (look_up a_function (declared_by decls) f))

-- how many inputs a predicate that was looked up has, none where there is none
abbrev pub inputs_seen : Option ProofSeen → ℕ
inputs_seen None = 0
inputs_seen (Some seen) = length seen.inputs

-- modes give a predicate as many inputs as typing does
abbrev pub InputsAreTyped : Type 0
InputsAreTyped =
    (decls : List DeclForm) (p : Name) →
    inputs_among decls p ≡ inputs_seen (look_up a_predicate (declared_by decls) p)
