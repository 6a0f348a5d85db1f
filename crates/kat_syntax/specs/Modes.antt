-- Modes: which names are bound where an assertion is read from left to right, and the first name
-- that is used, or left, unbound.
use Rattle.std.specs.Prelude.{◌≡◌, ℕ, ◌+◌, ◌||◌, not, Bool, if◌then◌else◌, List, [], ◌∷◌, ◌++◌, filter, length, take, drop, map, Option, None, Some}
use Rattle.std.specs.List.{list_any}
use Rattle.std.specs.Option.{option_map, option_or}
use Rattle.std.specs.Str.{bytes_eq}
use Rattle.kat_value.specs.declared.op.Op.TheVariants.{Eq}
use Rattle.kat_ast.specs.declared.type_name.Param.{Param}
use Rattle.kat_ast.specs.declared.expr.Expr.{Expr}
use Rattle.kat_ast.specs.declared.expr.Expr.TheOpen.{Expr-F, Name as Named, Make, Rec, Apply, Get}
use Rattle.kat_ast.specs.declared.expr.Expr.TheFolds.{fold-Expr}
use Rattle.kat_ast.specs.declared.assertion.Assertion.{Assertion}
use Rattle.kat_ast.specs.declared.assertion.Assertion.TheOpen.{Assertion-F, Pure, Register, Cell, Star, If, Exists, Predicate, Region}
use Rattle.kat_ast.specs.declared.assertion.Assertion.TheFolds.{fold-Assertion}
use Rattle.kat_ast.specs.declared.decl.DeclForm.{DeclForm}
use Rattle.kat_ast.specs.declared.decl.DeclForm.TheVariants as d
use Rattle.kat_ast.specs.Spec.{Spec}
use Rattle.kat_syntax.specs.Tables.{Name}

-- what an expression is to a reader of modes: the names in it, from left to right; the name that it
-- is alone; and, of `(eq x E)`, that name and the names in E
pub record Used : Type 0 where
  pub names : List Name
  pub alone : Option Name
  pub equates : Option (Name × List Name)

-- the names of parts, in order
abbrev pub names_of_parts : List Used → List Name
names_of_parts [] = []
names_of_parts (part ∷ parts) = part.names ++ names_of_parts parts

-- an expression that is no name alone and no equation of one, with the names of its parts
abbrev pub using : List Name → Used
using names = record { names = names; alone = None; equates = None }

-- a name with the names in what it is equal to
abbrev pub equating : Option Name → List Name → Option (Name × List Name)
equating alone names = option_map (λ x. (x, names)) alone

-- one layer of an expression
abbrev pub expr_used : Expr-F Used → Used
expr_used (Named x) = record { names = x ∷ []; alone = Some x; equates = None }
expr_used (Make k payload) = using payload.names
expr_used (Rec r fields) = using (names_of_parts fields)
expr_used (Apply Eq (a ∷ b ∷ [])) =
    record { names = a.names ++ b.names; alone = None; equates = equating a.alone b.names }
expr_used (Apply op args) = using (names_of_parts args)
expr_used (Get r f value) = using value.names
expr_used _ = using []

-- what an expression is to a reader of modes
abbrev pub used_in : Expr → Used
used_in = fold-Expr Used expr_used

-- whether a name stands among names
abbrev pub is_in : List Name → Name → Bool
is_in names x = list_any (bytes_eq x) names

-- names without one
abbrev pub without : Name → List Name → List Name
without x names = filter (λ y. not (bytes_eq x y)) names

-- the first of some names that is among the unbound ones
abbrev pub first_in : List Name → List Name → Option Name
first_in unbound [] = None
first_in unbound (x ∷ names) = if is_in unbound x then Some x else first_in unbound names

-- how the reading of an assertion ends: with the names that are unbound behind it, or at a name
-- that is used, or left, unbound
pub data Reading : Type 0 where
  Read : (unbound : List Name) → Reading
  Stopped : (name : Name) → Reading

-- an assertion to be read where these names are unbound
abbrev pub Reader : Type 0
Reader = List Name → Reading

-- goes on behind what was read
abbrev pub and_read : Reading → Reader → Reading
and_read (Read unbound) next = next unbound
and_read (Stopped name) next = Stopped name

-- stops at a name, if there is one
abbrev pub unless_stopped : Option Name → Reading → Reading
unless_stopped None reading = reading
unless_stopped (Some name) reading = Stopped name

-- all names that are used have to be bound
abbrev pub read_names : List Name → Reader
read_names names unbound = unless_stopped (first_in unbound names) (Read unbound)

-- a name that is unbound is bound; where it is not, this is the reading
abbrev pub bind_or : Name → Reading → Reader
bind_or x reading unbound = if is_in unbound x then Read (without x unbound) else reading

-- a name alone is bound where it is unbound
abbrev pub read_alone : Option Name → Reading → Reader
read_alone None reading unbound = reading
read_alone (Some x) reading unbound = bind_or x reading unbound

-- a name that is equal to something is bound where it is unbound and all names in that are bound
abbrev pub read_equation : Option (Name × List Name) → Reading → Reader
read_equation None reading unbound = reading
read_equation (Some equation) reading unbound =
    if is_in unbound equation.0
    then unless_stopped (option_map (λ y. equation.0) (first_in unbound equation.1))
    (Read (without equation.0 unbound))
    else reading

-- an expression where a value stands: an unbound name alone is bound by it
abbrev pub read_value : Used → Reader
read_value used unbound = read_alone used.alone (read_names used.names unbound) unbound

-- a truth: `(eq x E)` binds an unbound x where all names in E are bound
abbrev pub read_truth : Used → Reader
read_truth used unbound = read_equation used.equates (read_names used.names unbound) unbound

-- values one behind the other
abbrev pub read_values : List Used → Reader
read_values [] unbound = Read unbound
read_values (used ∷ more) unbound = and_read (read_value used unbound) (read_values more)

-- arguments, of which this many are inputs and the others outputs
abbrev pub read_args : ℕ → List Used → Reader
read_args inputs args unbound =
    and_read (read_names (names_of_parts (take inputs args)) unbound)
    (read_values (drop inputs args))

-- assertions one behind the other
abbrev pub read_all : List Reader → Reader
read_all [] unbound = Read unbound
read_all (part ∷ parts) unbound = and_read (part unbound) (read_all parts)

-- the names that were unbound before an `if` and are so behind one of its branches
abbrev pub join_branch : List Name → List Name → Reading → Reading
join_branch unbound first (Stopped name) = Stopped name
join_branch unbound first (Read second) =
    Read (filter (λ x. is_in first x || is_in second x) unbound)

-- behind an `if`, those names are bound that both branches bind
abbrev pub read_branches : Reader → Reader → Reader
read_branches a b unbound = and_read (a unbound) (λ behind. join_branch unbound behind (b unbound))

-- a name at the end of its scope has to be bound
abbrev pub leave : Name → Reader
leave x unbound = if is_in unbound x then Stopped x else Read unbound

-- one layer of an assertion; how many inputs a predicate has is told
abbrev pub assertion_read : (Name → ℕ) → Assertion-F Reader → Reader
assertion_read inputs (Pure e) unbound = read_truth (used_in e) unbound
assertion_read inputs (Register r e) unbound = read_value (used_in e) unbound
assertion_read inputs (Cell index e) unbound =
    and_read (read_names (used_in index).names unbound) (read_value (used_in e))
assertion_read inputs (Star parts) unbound = read_all parts unbound
assertion_read inputs (If test then_ otherwise) unbound =
    and_read (read_names (used_in test).names unbound) (read_branches then_ otherwise)
assertion_read inputs (Exists x type body) unbound = and_read (body (x ∷ unbound)) (leave x)
assertion_read inputs (Predicate p args) unbound = read_args (inputs p) (map used_in args) unbound
assertion_read inputs (Region g args) unbound =
    read_names (names_of_parts (map used_in args)) unbound

-- the reading of an assertion
abbrev pub reading_of : (Name → ℕ) → Assertion → Reader
reading_of inputs = fold-Assertion Reader (assertion_read inputs)

-- names that have to be bound at an end, in order
abbrev pub leave_all : List Name → Reader
leave_all names unbound = unless_stopped (first_in unbound names) (Read unbound)

-- an assertion with names that begin unbound and have to be bound at its end
abbrev pub read_binding : (Name → ℕ) → List Name → Assertion → Reading
read_binding inputs names assertion =
    and_read (reading_of inputs assertion names) (leave_all names)

-- the names of parameters
abbrev pub names_of : List Param → List Name
names_of params = map (λ (param : Param). param.name) params

-- how many inputs the first predicate of this name has
abbrev pub inputs_among : List DeclForm → Name → ℕ
inputs_among [] p = 0
inputs_among (d.Predicate x inputs outputs definition ∷ decls) p =
    if bytes_eq x p then length inputs else inputs_among decls p
inputs_among (_ ∷ decls) p = inputs_among decls p

-- the reading of the assertions of a declaration, in order: a predicate's definition binds its
-- outputs, a precondition the names of the contract or lemma, which are bound in the postcondition
abbrev pub decl_reading : (Name → ℕ) → DeclForm → Reading
decl_reading inputs (d.Predicate x ins outs definition) =
    read_binding inputs (names_of outs) definition
decl_reading inputs (d.Contract f names pre x post) =
    and_read (read_binding inputs (names_of names) pre) (λ unbound. reading_of inputs post [])
decl_reading inputs (d.Lemma x params names pre post steps) =
    and_read (read_binding inputs (names_of names) pre) (λ unbound. reading_of inputs post [])
decl_reading inputs (d.Untrusted holds) = reading_of inputs holds []
decl_reading inputs (d.Block block) = reading_of inputs block.entry []
decl_reading inputs _ = Read []

-- the name at which a reading stops
abbrev pub stop_of : Reading → Option Name
stop_of (Read unbound) = None
stop_of (Stopped name) = Some name

-- a name that is used, or left, unbound, with the number of its declaration
pub record ModeFault : Type 0 where
  pub decl : ℕ
  pub name : Name

-- the first of declarations that has one, the first of them having the number k
abbrev pub mode_fault_from : (Name → ℕ) → ℕ → List DeclForm → Option ModeFault
mode_fault_from inputs k [] = None
mode_fault_from inputs k (decl ∷ decls) =
    option_or (option_map (λ x. record { decl = k; name = x }) (stop_of (decl_reading inputs decl)))
    (mode_fault_from inputs (k + 1) decls)

-- the first fault of modes of a specification, if it has one
abbrev pub first_mode_fault : Spec → Option ModeFault
first_mode_fault spec = mode_fault_from (inputs_among spec.decls) 0 spec.decls

-- each use of a name follows its binding, and each name is bound at the end of its scope
abbrev pub IsModed : Spec → Type 0
IsModed spec = first_mode_fault spec ≡ None
