-- Small machines, to see that security says what it should.
use Rattle.std.specs.Prelude.{true, false, Bool, List, [], ◌∷◌}
use Rattle.kat_value.specs.declared.op.Op.TheVariants as op
use Rattle.kat_value.specs.declared.value.Value.TheVariants.{Bool as Truth}
use Rattle.kat_ast.specs.Spec.{Spec}
use Rattle.kat_ast.specs.declared.assertion.Assertion.{Assertion}
use Rattle.kat_ast.specs.declared.assertion.Assertion.TheOpen as assertion
use Rattle.kat_ast.specs.declared.assertion.Assertion.TheViews.{roll-Assertion}
use Rattle.kat_ast.specs.declared.decl.DeclForm.{DeclForm}
use Rattle.kat_ast.specs.declared.decl.DeclForm.TheVariants as d
use Rattle.kat_ast.specs.declared.decl.Phase.{Phase}
use Rattle.kat_ast.specs.declared.decl.Phase.TheVariants as phase
use Rattle.kat_ast.specs.declared.decl.RegisterKind.{RegisterKind}
use Rattle.kat_ast.specs.declared.decl.RegisterKind.TheVariants as register
use Rattle.kat_ast.specs.declared.decl.When.{When}
use Rattle.kat_ast.specs.declared.expr.Expr.{Expr}
use Rattle.kat_ast.specs.declared.expr.Expr.TheOpen as expr
use Rattle.kat_ast.specs.declared.expr.Expr.TheViews.{roll-Expr}
use Rattle.kat_ast.specs.declared.stm.Stm.{Stm}
use Rattle.kat_ast.specs.declared.stm.Stm.TheOpen as stm
use Rattle.kat_ast.specs.declared.stm.Stm.TheViews.{roll-Stm}
use Rattle.kat_ast.specs.declared.type_name.TypeName.TheVariants as type
use Rattle.kat_syntax.specs.Machine.{MachineState}
use Rattle.kat_syntax.specs.Tables.{Name}

-- the names of the machines: the register of the phase, a second one, the step function, the block,
-- a local
abbrev pub mode : Name
mode = 109 ∷ []

abbrev pub guarded : Name
guarded = 103 ∷ []

abbrev pub step : Name
step = 115 ∷ []

abbrev pub block : Name
block = 98 ∷ []

abbrev pub local : Name
local = 120 ∷ []

-- `true`, `false`, `unit` and the local
abbrev pub yes : Expr
yes = roll-Expr (expr.Truth true)

abbrev pub falsehood : Expr
falsehood = roll-Expr (expr.Truth false)

abbrev pub no_value : Expr
no_value = roll-Expr expr.Unit

abbrev pub the_local : Expr
the_local = roll-Expr (expr.Name local)

-- `(star)`, which says nothing
abbrev pub anything : Assertion
anything = roll-Assertion (assertion.Star [])

-- `(reg mode)` and `(reg guarded)` in the dispatch
abbrev pub in_block : Expr
in_block = roll-Expr (expr.Register mode)

abbrev pub in_second : Expr
in_second = roll-Expr (expr.Register guarded)

-- `(when (reg mode) (block b))`
abbrev pub when_block : When
when_block = record { test = in_block; phase = phase.Block block }

-- `(when (reg guarded) untrusted)`
abbrev pub when_untrusted : When
when_untrusted = record { test = in_second; phase = phase.Untrusted }

-- a machine of two truths, the second of this kind, with these cases of the dispatch and this phase
-- behind them, a block that takes one cycle with this change, and a step of this body
abbrev pub machine_of : RegisterKind → List When → Phase → Expr → Stm → List DeclForm
machine_of kind cases otherwise change body =
    d.Register mode type.Bool register.Plain
    ∷ d.Register guarded type.Bool kind
    ∷ d.Fun step [] type.Unit body
    ∷ d.Step step
    ∷ d.Dispatch cases otherwise
    ∷ d.Untrusted anything
    ∷ d.Block (record { name = block; entry = anything; within = 1; change = change })
    ∷ d.Boot block
    ∷ []

-- a machine whose second register is protected, with one case of the dispatch and any change
abbrev pub machine : Phase → Stm → List DeclForm
machine otherwise body = machine_of register.Protected (when_block ∷ []) otherwise yes body

-- its specification
abbrev pub as_spec : List DeclForm → Spec
as_spec decls = record { version = 1; decls = decls }

-- a state of these machines
abbrev pub state_of : Bool → Bool → MachineState
state_of a b = record { registers = Truth a ∷ Truth b ∷ []; lo = 0; cells = [] }

-- `(ret unit)`: a step that does nothing
abbrev pub rests : Stm
rests = roll-Stm (stm.Ret no_value)

-- `(fail)`: a step that fails
abbrev pub fails : Stm
fails = roll-Stm stm.Fail

-- `(write r e)`
abbrev pub write : Name → Expr → Stm
write r e = roll-Stm (stm.Write r e)

-- `(let x (read mode) (seq (write guarded x) (write mode false)))`: a step that hands the first
-- truth on to the second
abbrev pub shifts : Stm
shifts =
    roll-Stm (stm.Let local (roll-Stm (stm.Read mode))
    (roll-Stm (stm.Seq (write guarded the_local ∷ write mode falsehood ∷ []))))

-- `(not (after guarded))`: what is protected is false behind the block
abbrev pub not_set : Expr
not_set = roll-Expr (expr.Apply op.Not (roll-Expr (expr.After guarded) ∷ []))

-- the machine that rests is in its block at each boundary
abbrev pub resting : Spec
resting = as_spec (machine phase.Untrusted rests)

-- the machine that fails in its first cycle
abbrev pub failing : Spec
failing = as_spec (machine phase.Untrusted fails)

-- its block leaves to untrusted code, whose first cycle writes the protected register
abbrev pub tampering : Spec
tampering = as_spec (machine phase.Untrusted shifts)

-- its block may take one cycle, and is inside behind it
abbrev pub lingering : Spec
lingering = as_spec (machine phase.Inside (write mode falsehood))

-- its block may not set the protected register, and does
abbrev pub exceeding : Spec
exceeding =
    as_spec (machine_of register.Protected (when_block ∷ []) phase.Untrusted not_set
    (write guarded yes))

-- nothing is protected; its block leaves to untrusted code, whose first cycle leads inside
abbrev pub slipping : Spec
slipping =
    as_spec (machine_of register.Plain (when_block ∷ when_untrusted ∷ []) phase.Inside yes shifts)

-- each cycle would fail, and is untrusted, so that no state boots
abbrev pub unbootable : Spec
unbootable = as_spec (machine_of register.Protected [] phase.Untrusted yes fails)
