-- The paths of a reading: an assertion is produced or consumed from left to right, with the set of
-- names that are bound, and what it evaluates has all its names among them.
use Rattle.std.specs.Prelude.{◌≡◌, ℕ, Bool, true, false, if◌then◌else◌, List, [], ◌∷◌, ◌++◌, take, drop, map, Option, None, Some}
use Rattle.std.specs.List.{AllByRecursion}
use Rattle.std.specs.Str.{bytes_eq}
use Rattle.kat_ast.specs.declared.assertion.Assertion.{Assertion}
use Rattle.kat_ast.specs.declared.assertion.Assertion.TheOpen.{Assertion-F, Pure, Register, Cell, Star, If, Exists, Predicate, Region}
use Rattle.kat_ast.specs.declared.assertion.Assertion.TheViews.{out-Assertion}
use Rattle.kat_ast.specs.declared.assertion.Assertion.TheFolds.{fold-Assertion, map-Assertion}
use Rattle.kat_ast.specs.declared.decl.DeclForm.{DeclForm}
use Rattle.kat_ast.specs.declared.decl.DeclForm.TheVariants as d
use Rattle.kat_ast.specs.Spec.{Spec}
use Rattle.kat_syntax.specs.Tables.{Name}
use Rattle.kat_syntax.specs.FirstTypeFault.{IsTyped}
use Rattle.kat_syntax.specs.Modes.{Used, used_in, names_of_parts, equating, is_in, Read, reading_of, names_of, inputs_among, IsModed}
use Rattle.kat_mode.specs.Scopes.{StaysIn, params_of}

-- which names are bound
abbrev pub BoundNames : Type 0
BoundNames = Name → Bool

-- a name is bound from now on, or is not
abbrev pub with_name : Name → Bool → BoundNames → BoundNames
with_name x is_bound bound y = if bytes_eq y x then is_bound else bound y

-- the paths of a reading: some names are used, where so many are bound, before what is behind; and
-- an `if` is read in one of two ways
pub data Paths : Type 0 where
  End : Paths
  Uses : (names : List Name) → (bound : BoundNames) → (behind : Paths) → Paths
  Either : (first : Paths) → (second : Paths) → Paths

-- along every path, all names that are used are bound at that moment
abbrev pub AreBound : Paths → Type 0
AreBound End = Unit {0}
AreBound (Uses names bound behind) =
    AllByRecursion (λ x. bound x ≡ true) names × AreBound behind
AreBound (Either first second) = AreBound first × AreBound second

-- the paths of what is still to be read, where these names are bound
abbrev pub Rest : Type 0
Rest = BoundNames → Paths

-- the paths of something, before those of the rest
abbrev pub Course : Type 0
Course = Rest → Rest

-- names are used
abbrev pub uses : List Name → Course
uses names rest bound = Uses names bound (rest bound)

-- an unbound name is bound by what it is equal to, and the names in that alone are used; else all
-- names are
abbrev pub binds_or_uses : Option (Name × List Name) → List Name → Course
binds_or_uses None names rest bound = uses names rest bound
binds_or_uses (Some equation) names rest bound =
    if bound equation.0 then uses names rest bound
    else Uses equation.1 bound (rest (with_name equation.0 true bound))

-- an expression where a value stands: an unbound name alone is bound by the value
abbrev pub value_course : Used → Course
value_course used = binds_or_uses (equating used.alone []) used.names

-- a truth: `(eq x E)` binds an unbound x
abbrev pub truth_course : Used → Course
truth_course used = binds_or_uses used.equates used.names

-- one behind the other
abbrev pub in_order : List Course → Course
in_order [] rest bound = rest bound
in_order (part ∷ parts) rest bound = part (in_order parts rest) bound

-- arguments: this many are inputs, which are used, and the others are values
abbrev pub args_course : ℕ → List Used → Course
args_course inputs args rest bound =
    uses (names_of_parts (take inputs args)) (in_order (map value_course (drop inputs args)) rest)
    bound

-- one of two, each before all that is behind
abbrev pub branches : Course → Course → Course
branches first second rest bound = Either (first rest bound) (second rest bound)

-- one layer of an assertion; the name of an `exists` begins bound where it is produced and unbound
-- where it is consumed, counts as used at the end of its scope, and is then as it was before
abbrev pub assertion_course : (Name → ℕ) → Bool → Assertion-F Course → Course
assertion_course inputs produced (Pure e) rest bound = truth_course (used_in e) rest bound
assertion_course inputs produced (Register r e) rest bound = value_course (used_in e) rest bound
assertion_course inputs produced (Cell index e) rest bound =
    uses (used_in index).names (value_course (used_in e) rest) bound
assertion_course inputs produced (Star parts) rest bound = in_order parts rest bound
assertion_course inputs produced (If test then_ otherwise) rest bound =
    uses (used_in test).names (branches then_ otherwise rest) bound
assertion_course inputs produced (Exists x type body) rest bound =
    body (uses (x ∷ []) (λ later. rest (with_name x (bound x) later))) (with_name x produced bound)
assertion_course inputs produced (Predicate p args) rest bound =
    args_course (inputs p) (map used_in args) rest bound
assertion_course inputs produced (Region g args) rest bound =
    uses (names_of_parts (map used_in args)) rest bound

-- the paths of an assertion that is produced, or else consumed; how many inputs a predicate has is
-- told
abbrev pub course_of : (Name → ℕ) → Bool → Assertion → Course
course_of inputs produced = fold-Assertion Course (assertion_course inputs produced)

-- the paths of an assertion are those of its layer
abbrev pub CourseByLayers : Type 0
CourseByLayers =
    (inputs : Name → ℕ) (produced : Bool) (assertion : Assertion) →
    (y : Assertion-F Assertion) → out-Assertion assertion ≡ y →
    course_of inputs produced assertion
    ≡ assertion_course inputs produced
    (map-Assertion Assertion Course (course_of inputs produced) y)

-- of the names in scope all are bound but these, if not these too
abbrev pub AreAllBut : List Name → List Name → BoundNames → Type 0
AreAllBut scope unbound bound =
    (x : Name) → is_in scope x ≡ true → is_in unbound x ≡ false → bound x ≡ true

-- where all names in scope are bound but `unbound`, each name that is used along any path is bound
-- then, and the rest begins where all names in scope are bound but `behind`
abbrev pub KeepsBound : List Name → Course → List Name → List Name → Type 0
KeepsBound scope course unbound behind =
    (bound : BoundNames) (rest : Rest) → AreAllBut scope unbound bound →
    ((later : BoundNames) → AreAllBut scope behind later → AreBound (rest later)) →
    AreBound (course rest bound)

-- an assertion that stays in scope, and that the modes read from names that are unbound to others
abbrev pub ReadingKeepsBound : Type 0
ReadingKeepsBound =
    (inputs : Name → ℕ) (produced : Bool) (assertion : Assertion) →
    (scope unbound behind : List Name) →
    StaysIn scope assertion →
    reading_of inputs assertion unbound ≡ Read behind →
    KeepsBound scope (course_of inputs produced assertion) unbound behind

-- an assertion uses names in scope alone; where these of them begin unbound, each name that is used
-- is bound, and at the end all names in scope are
pub record BindsAll
    (inputs : Name → ℕ) (scope names : List Name) (assertion : Assertion) : Type 0 where
  pub stays : StaysIn scope assertion
  pub binds : (produced : Bool) → KeepsBound scope (course_of inputs produced assertion) names []

-- the assertions of a declaration: a definition begins with its inputs bound and its outputs not, a
-- precondition with the parameters bound and the names of the contract or lemma not, and a
-- postcondition with all of these bound, and a contract's result
abbrev pub DeclBindsAll : List DeclForm → DeclForm → Type 0
DeclBindsAll decls (d.Predicate x ins outs definition) =
    BindsAll (inputs_among decls) (names_of ins ++ names_of outs) (names_of outs) definition
DeclBindsAll decls (d.Contract f names pre x post) =
    let scope = params_of decls f ++ names_of names in
    BindsAll (inputs_among decls) scope (names_of names) pre
    × BindsAll (inputs_among decls) (x ∷ scope) [] post
DeclBindsAll decls (d.Lemma x params names pre post steps) =
    let scope = names_of params ++ names_of names in
    BindsAll (inputs_among decls) scope (names_of names) pre
    × BindsAll (inputs_among decls) scope [] post
DeclBindsAll decls (d.Untrusted holds) = BindsAll (inputs_among decls) [] [] holds
DeclBindsAll decls (d.Block block) = BindsAll (inputs_among decls) [] [] block.entry
DeclBindsAll decls _ = Unit {0}

-- the declarations of a specification that is typed and moded
abbrev pub ModedBindsAll : Type 0
ModedBindsAll =
    (spec : Spec) → IsTyped spec → IsModed spec →
    AllByRecursion (DeclBindsAll spec.decls) spec.decls
