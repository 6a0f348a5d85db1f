-- The counter machine of the documents, whatever its functions do, and the state of its image.
use Rattle.std.specs.Prelude.{ℕ, List, [], ◌∷◌, codes}
use Rattle.kat_value.specs.declared.op.Op.TheVariants as op
use Rattle.kat_value.specs.declared.value.Value.TheVariants as value
use Rattle.kat_ast.specs.declared.assertion.Assertion.{Assertion}
use Rattle.kat_ast.specs.declared.assertion.Assertion.TheOpen as assertion
use Rattle.kat_ast.specs.declared.assertion.Assertion.TheViews.{roll-Assertion}
use Rattle.kat_ast.specs.declared.decl.DeclForm.{DeclForm}
use Rattle.kat_ast.specs.declared.decl.DeclForm.TheVariants as d
use Rattle.kat_ast.specs.declared.decl.Phase.TheVariants as phase
use Rattle.kat_ast.specs.declared.decl.RegisterKind.TheVariants as register
use Rattle.kat_ast.specs.declared.decl.When.{When}
use Rattle.kat_ast.specs.declared.expr.Expr.{Expr}
use Rattle.kat_ast.specs.declared.expr.Expr.TheOpen as expr
use Rattle.kat_ast.specs.declared.expr.Expr.TheViews.{roll-Expr}
use Rattle.kat_value.specs.declared.op.Op.{Op}
use Rattle.kat_ast.specs.declared.stm.Stm.{Stm}
use Rattle.kat_ast.specs.declared.type_name.TypeName.TheVariants as type
use Rattle.kat_syntax.specs.Machine.{MachineState}
use Rattle.kat_syntax.specs.Tables.{Name}

-- a byte, a member of the type of modes, and an operation on two
abbrev pub byte : ℕ → Expr
byte n = roll-Expr (expr.Bits 8 n)

abbrev pub mode_of : Name → Expr
mode_of x = roll-Expr (expr.Of (codes "Mode") x)

abbrev pub named : Name → Expr
named x = roll-Expr (expr.Name x)

abbrev pub of_two : Op → Expr → Expr → Expr
of_two one a b = roll-Expr (expr.Apply one (a ∷ b ∷ []))

-- a register in the dispatch
abbrev pub read : Name → Expr
read r = roll-Expr (expr.Register r)

-- a register holds this, and the region of user code
abbrev pub holding : Name → Expr → Assertion
holding r e = roll-Assertion (assertion.Register r e)

abbrev pub own : Assertion
own = roll-Assertion (assertion.Region (codes "own") [])

-- `(eq (reg mode) (of Mode User))`, `(eq (reg pc) (bits 8 0))`
abbrev pub in_user : Expr
in_user = of_two op.Eq (read (codes "mode")) (mode_of (codes "User"))

abbrev pub at_zero : Expr
at_zero = of_two op.Eq (read (codes "pc")) (byte 0)

-- `(ule (bits 8 8) i)`
abbrev pub upper : Expr
upper = of_two op.Ule (byte 8) (named (codes "i"))

-- what the kernel's first cycle begins with
abbrev pub entry : Assertion
entry =
    roll-Assertion (assertion.Star
    (holding (codes "mode") (mode_of (codes "Kernel")) ∷ holding (codes "pc") (byte 0) ∷ own ∷ []))

-- what user code has
abbrev pub of_user : Assertion
of_user =
    roll-Assertion (assertion.Exists (codes "p") (type.Bits 8) (roll-Assertion (assertion.Star
    (holding (codes "mode") (mode_of (codes "User")) ∷ holding (codes "pc") (named (codes "p"))
    ∷ own ∷ []))))

-- `(eq (after count) (add (before count) (bits 8 1)))`
abbrev pub counted : Expr
counted =
    of_two op.Eq (roll-Expr (expr.After (codes "count")))
    (of_two op.Add (roll-Expr (expr.Before (codes "count"))) (byte 1))

-- the cases of its dispatch
abbrev pub cases : List When
cases =
    record { test = in_user; phase = phase.Untrusted }
    ∷ record { test = at_zero; phase = phase.Block (codes "handler") }
    ∷ []

-- its declarations, with these bodies of its functions and this contract
abbrev pub counter : (trap user kernel step : Stm) (pre post : Assertion) → List DeclForm
counter trap user kernel step pre post =
    d.Enum (codes "Mode") (codes "User" ∷ codes "Kernel" ∷ [])
    ∷ d.Register (codes "mode") (type.Named (codes "Mode")) register.Plain
    ∷ d.Register (codes "pc") (type.Bits 8) register.Plain
    ∷ d.Register (codes "count") (type.Bits 8) register.Protected
    ∷ d.Register (codes "line") (type.Bits 8) register.Outside
    ∷ d.Memory 8 8 0 16
    ∷ d.Code 0 (1 ∷ 2 ∷ [])
    ∷ d.Region (codes "own") [] (codes "i") upper
    ∷ d.Fun (codes "trap") [] type.Unit trap
    ∷ d.Contract (codes "trap") [] pre (codes "r") post
    ∷ d.Fun (codes "user_step") [] type.Unit user
    ∷ d.Fun (codes "kernel_step") [] type.Unit kernel
    ∷ d.Fun (codes "step") [] type.Unit step
    ∷ d.Step (codes "step")
    ∷ d.Dispatch cases phase.Inside
    ∷ d.Untrusted of_user
    ∷ d.Block (record { name = codes "handler"; entry = entry; within = 2; change = counted })
    ∷ d.Boot (codes "handler")
    ∷ []

-- its image: the kernel at its first instruction, its code in the first two cells, one cell of user
-- code, and all else zero
abbrev pub image : MachineState
image = record {
  registers = value.Member 0 1 ∷ value.Bits 8 0 ∷ value.Bits 8 0 ∷ value.Bits 8 0 ∷ [];
  lo = 0;
  cells = 1 ∷ 2 ∷ 0 ∷ 0 ∷ 0 ∷ 0 ∷ 0 ∷ 0 ∷ 9 ∷ 0 ∷ 0 ∷ 0 ∷ 0 ∷ 0 ∷ 0 ∷ 0 ∷ [];
}
