-- What an assertion says of a fragment.
use Rattle.std.specs.Prelude.{◌≡◌, ◌&&◌, ◌-◌, ℕ, Bool, true, false, nat_le, nat_lt, if◌then◌else◌, List, [], ◌∷◌, ◌++◌, reverse, length, IsSome, Option, None, Some, slice_get, unwrap_or}
use Rattle.std.specs.Option.{option_map}
use Rattle.std.specs.Str.{bytes_eq}
use Rattle.kat_value.specs.declared.value.Value.{Value}
use Rattle.kat_value.specs.declared.value.Value.TheVariants.{Bool as Truth, Bits as Number}
use Rattle.kat_value.specs.Typing.{HasType}
use Rattle.kat_ast.specs.declared.assertion.Assertion.{Assertion}
use Rattle.kat_ast.specs.declared.assertion.Assertion.TheOpen.{Assertion-F, Pure, Register, Cell, Star, If, Exists, Predicate, Region}
use Rattle.kat_ast.specs.declared.assertion.Assertion.TheFolds.{rec-Assertion}
use Rattle.kat_ast.specs.declared.decl.DeclForm.{DeclForm}
use Rattle.kat_ast.specs.declared.decl.DeclForm.TheVariants as d
use Rattle.kat_ast.specs.declared.expr.Expr.{Expr}
use Rattle.kat_ast.specs.declared.type_name.Param.{Param}
use Rattle.kat_ast.specs.declared.type_name.TypeName.{TypeName}
use Rattle.kat_syntax.specs.Cycle.{bound}
use Rattle.kat_syntax.specs.Evaluation.{Environment, Locals, value_of_expr, values_of_exprs}
use Rattle.kat_syntax.specs.Fragments.{Fragment, IsFragment, IsOfMemory, IsOfType, Join, nothing, one_cell, one_register}
use Rattle.kat_syntax.specs.Meaning.{plainly}
use Rattle.kat_syntax.specs.Memories.{Memory}
use Rattle.kat_syntax.specs.States.{cell_width, memory_of, register_position, register_types}
use Rattle.kat_syntax.specs.Tables.{Name}
use Rattle.kat_syntax.specs.TypeTable.{named_type, types_of_decls}

-- what a predicate says of its inputs and outputs, and of a fragment
abbrev pub Predicates : Type 1
Predicates = Name → List Value → Fragment → Type 0

-- an environment with one name more
abbrev pub with_name : Name → Value → Environment → Environment
with_name x v env = record env { locals = (x, v) ∷ env.locals }

-- a value is of a written type, wherever it is written
abbrev pub IsOfWritten : List DeclForm → TypeName → Value → Type 0
IsOfWritten decls type v = HasType (types_of_decls decls) (named_type decls (length decls) type) v

-- the width of the memory's indices, and no width where there is no memory
abbrev pub index_width : List DeclForm → ℕ
index_width decls =
    unwrap_or (option_map (λ (memory : Memory). memory.index_width) (memory_of decls)) 0

-- the first of two where this is true, else the second
abbrev pub IfTrue : Bool → Type 0 → Type 0 → Type 0
IfTrue true A B = A
IfTrue false A B = B

-- there is something, or there is nothing
abbrev pub IsThere : {A : Type 0} → Bool → Option A → Type 0
IsThere true o = IsSome o
IsThere false o = o ≡ None

-- a region as it is declared: its parameters, the name of the index, and the guard
pub record RegionDecl : Type 0 where
  pub params : List Param
  pub index : Name
  pub guard : Expr

-- the first region of this name
abbrev pub region_of : List DeclForm → Name → Option RegionDecl
region_of [] x = None
region_of (d.Region y params index guard ∷ decls) x =
    if bytes_eq y x then Some (record { params = params; index = index; guard = guard })
    else region_of decls x
region_of (_ ∷ decls) x = region_of decls x

-- whether a value is true
abbrev pub is_true : Option Value → Bool
is_true (Some (Truth b)) = b
is_true _ = false

-- whether the guard of a region is true at an index, its parameters having these values
abbrev pub guards : List DeclForm → RegionDecl → Locals → ℕ → Bool
guards decls region locals i =
    is_true (value_of_expr (plainly decls ((region.index, Number (index_width decls) i) ∷ locals))
    region.guard)

-- whether an index is one of a memory, where there is one
abbrev pub is_index : Option Memory → ℕ → Bool
is_index None i = false
is_index (Some memory) i = nat_le memory.lo i && nat_lt i memory.hi

-- the places of a fragment are exactly the cells of the memory where this is true, with any
-- contents
pub record HasCellsWhere (decls : List DeclForm) (guard : ℕ → Bool) (f : Fragment) : Type 0 where
  pub fits : IsFragment decls f
  pub registers : (at : ℕ) → f.registers at ≡ None
  pub cells : (i : ℕ) → IsThere (is_index (memory_of decls) i && guard i) (f.cells i)

-- a fragment is a region with arguments of these values
abbrev pub IsRegion : List DeclForm → Name → List Value → Fragment → Type 0
IsRegion decls x values f =
    (region : RegionDecl) × (region_of decls x ≡ Some region)
    × (locals : Locals) × (bound region.params values ≡ Some locals)
    × HasCellsWhere decls (guards decls region locals) f

-- one layer of an assertion, with what its parts say in their places
module _ (predicates : Predicates) (X : Type 0) (holds : X → Environment → Fragment → Type 0) where
  -- a fragment is the union of disjoint fragments that hold the parts
  abbrev pub HoldsAll : List X → Environment → Fragment → Type 0
  HoldsAll [] env f = f ≡ nothing
  HoldsAll (part ∷ parts) env f =
      (g : Fragment) × (h : Fragment) × Join f g h × holds part env g × HoldsAll parts env h

  -- by cases on the form
  abbrev pub HoldsLayer : Assertion-F X → Environment → Fragment → Type 0
  HoldsLayer (Pure e) env f = (value_of_expr env e ≡ Some (Truth true)) × (f ≡ nothing)
  HoldsLayer (Register r e) env f =
      (at : ℕ) × (v : Value) × (register_position env.decls r ≡ Some at)
      × (value_of_expr env e ≡ Some v)
      × IsOfType env.decls (slice_get (register_types env.decls) at) v × (f ≡ one_register at v)
  HoldsLayer (Cell index e) env f =
      (i : ℕ) × (n : ℕ) × (value_of_expr env index ≡ Some (Number (index_width env.decls) i))
      × (value_of_expr env e ≡ Some (Number (cell_width env.decls) n))
      × IsOfMemory (memory_of env.decls) i n × (f ≡ one_cell i n)
  HoldsLayer (Star parts) env f = HoldsAll parts env f
  HoldsLayer (If test first second) env f =
      (b : Bool) × (value_of_expr env test ≡ Some (Truth b))
      × IfTrue b (holds first env f) (holds second env f)
  HoldsLayer (Exists x type body) env f =
      (v : Value) × IsOfWritten env.decls type v × holds body (with_name x v env) f
  HoldsLayer (Predicate x args) env f =
      (values : List Value) × (values_of_exprs env args ≡ Some values) × predicates x values f
  HoldsLayer (Region x args) env f =
      (values : List Value) × (values_of_exprs env args ≡ Some values)
      × IsRegion env.decls x values f

-- a fragment holds an assertion, the predicates meaning this
abbrev pub HoldsBy : Predicates → Assertion → Environment → Fragment → Type 0
HoldsBy predicates =
    rec-Assertion (Environment → Fragment → Type 0)
    (λ X whole holds layer. HoldsLayer predicates X holds layer)

-- a predicate of this definition, whose parameters have these values
abbrev pub HoldsDefined :
    List DeclForm → Predicates → List Param → Assertion → List Value → Fragment → Type 0
HoldsDefined decls predicates params definition values f =
    (locals : Locals) × (bound params values ≡ Some locals)
    × HoldsBy predicates definition (plainly decls locals) f

-- what the predicates among these declarations say, the last of them first: in the definition of
-- one stand those before it alone
abbrev pub predicates_among : List DeclForm → List DeclForm → Predicates
predicates_among all [] x values f = ⊥
predicates_among all (d.Predicate y inputs outputs definition ∷ before) x values f =
    IfTrue (bytes_eq y x)
    (HoldsDefined all (predicates_among all before) (inputs ++ outputs) definition values f)
    (predicates_among all before x values f)
predicates_among all (_ ∷ before) x values f = predicates_among all before x values f

-- what the predicates of a specification say
abbrev pub predicates_of : List DeclForm → Predicates
predicates_of decls = predicates_among decls (reverse decls)

-- a fragment holds an assertion of a specification, in this environment
abbrev pub Holds : Assertion → Environment → Fragment → Type 0
Holds assertion env f = HoldsBy (predicates_of env.decls) assertion env f
