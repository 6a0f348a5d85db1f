-- The generated specification of a number: as many registers, each with a function that counts it
-- up to its own number, under a step function that calls all of them.
use Rattle.std.specs.Prelude.{ℕ, zero, suc, ◌+◌, ◌≤◌, List, [], ◌∷◌, ◌++◌, codes}
use Rattle.std.specs.Fmt.{decimal}
use Rattle.kat_value.specs.declared.op.Op.TheVariants.{Eq, Ult, Add}
use Rattle.kat_ast.specs.declared.type_name.TypeName.TheVariants.{Unit as UnitName}
use Rattle.kat_ast.specs.declared.type_name.TypeName.TheVariants.{Bits as BitsName}
use Rattle.kat_ast.specs.declared.type_name.TypeName.{TypeName}
use Rattle.kat_ast.specs.declared.expr.Expr.{Expr}
use Rattle.kat_ast.specs.declared.expr.Expr.TheVariants as e
use Rattle.kat_ast.specs.declared.stm.Stm.{Stm}
use Rattle.kat_ast.specs.declared.stm.Stm.TheVariants as s
use Rattle.kat_ast.specs.declared.assertion.Assertion.{Assertion}
use Rattle.kat_ast.specs.declared.assertion.Assertion.TheVariants as a
use Rattle.kat_ast.specs.declared.decl.RegisterKind.TheVariants.{Plain, Protected}
use Rattle.kat_ast.specs.declared.decl.Phase.TheVariants as p
use Rattle.kat_ast.specs.declared.decl.DeclForm.{DeclForm}
use Rattle.kat_ast.specs.declared.decl.DeclForm.TheVariants as d
use Rattle.kat_ast.specs.Spec.{Spec}

-- a specification is generated for each of these numbers
pub record IsAsked (number : ℕ) : Type 0 where
  pub some : 1 ≤ number
  pub few : number ≤ 500

-- what each number below n gives, in order
abbrev pub for_each : {A : Type 0} → (ℕ → List A) → ℕ → List A
for_each give zero = []
for_each give (suc n) = for_each give n ++ give n

-- some text and a number behind it
unfoldable pub numbered : List ℕ → ℕ → List ℕ
numbered text i = text ++ decimal i

-- the register, the function and the value of a number
abbrev pub register_name : ℕ → List ℕ
register_name i = numbered (codes "r") i

abbrev pub function_name : ℕ → List ℕ
function_name i = numbered (codes "f") i

abbrev pub value_name : ℕ → List ℕ
value_name i = numbered (codes "a") i

-- `(bits 16)`
abbrev pub sixteen_bits : TypeName
sixteen_bits = BitsName 16

-- `a`, the name of a value
abbrev pub the_value : Expr
the_value = e.Name (codes "a")

-- `(ult a (bits 16 i+1))`
abbrev pub is_below : ℕ → Expr
is_below i = e.Apply Ult (the_value ∷ e.Bits 16 (i + 1) ∷ [])

-- `(write ri (add a (bits 16 1)))`
abbrev pub one_more : ℕ → Stm
one_more i = s.Write (register_name i) (e.Apply Add (the_value ∷ e.Bits 16 1 ∷ []))

-- `(if (ult a (bits 16 i+1)) (write ri (add a (bits 16 1))) (ret unit))`
abbrev pub one_more_below : ℕ → Stm
one_more_below i = s.If (is_below i) (one_more i) (s.Ret e.Unit)

-- `(let a (read ri) (if ..))`
abbrev pub counting : ℕ → Stm
counting i = s.Let (codes "a") (s.Read (register_name i)) (one_more_below i)

-- `(exists (x (bits 16)) (reg r x))`
abbrev pub holding_some : List ℕ → List ℕ → Assertion
holding_some x r = a.Exists x sixteen_bits (a.Register r (e.Name x))

-- `(register ri (bits 16) plain)`
abbrev pub register_of : ℕ → DeclForm
register_of i = d.Register (register_name i) sixteen_bits Plain

-- `(fun fi () unit ..)`
abbrev pub function_of : ℕ → DeclForm
function_of i = d.Fun (function_name i) [] UnitName (counting i)

-- `(contract fi () (pre A) (res z) (post A))`
abbrev pub contract_between : ℕ → Assertion → Assertion → DeclForm
contract_between i pre post = d.Contract (function_name i) [] pre (codes "z") post

-- the register has some value before the function and behind it
abbrev pub contract_of : ℕ → DeclForm
contract_of i =
    contract_between i (holding_some (codes "a") (register_name i))
    (holding_some (codes "b") (register_name i))

-- the three declarations of a number
abbrev pub counter_of : ℕ → List DeclForm
counter_of i = register_of i ∷ function_of i ∷ contract_of i ∷ []

-- `(call f0)` to the last
abbrev pub calls : ℕ → List Stm
calls = for_each (λ i. s.Call (function_name i) [] ∷ [])

-- `(exists (ai (bits 16)) (reg ri ai))` for each register
abbrev pub parts : ℕ → List Assertion
parts = for_each (λ i. holding_some (value_name i) (register_name i) ∷ [])

-- `(eq E (bits 1 1))`
abbrev pub is_one : Expr → Expr
is_one value = e.Apply Eq (value ∷ e.Bits 1 1 ∷ [])

-- `(let m (read mode) (if (eq m (bits 1 1)) (write mode (bits 1 0)) (seq calls)))`
abbrev pub stepping : ℕ → Stm
stepping n =
    s.Let (codes "m") (s.Read (codes "mode"))
    (s.If (is_one (e.Name (codes "m"))) (s.Write (codes "mode") (e.Bits 1 0)) (s.Seq (calls n)))

-- `(star (reg mode (bits 1 MODE)) parts)`
abbrev pub all_parts : ℕ → ℕ → Assertion
all_parts mode n = a.Star (a.Register (codes "mode") (e.Bits 1 mode) ∷ parts n)

-- `(eq (after hold) (before hold))`
abbrev pub holds_still : Expr
holds_still = e.Apply Eq (e.After (codes "hold") ∷ e.Before (codes "hold") ∷ [])

-- `(register mode (bits 1) plain)`
abbrev pub mode_register : DeclForm
mode_register = d.Register (codes "mode") (BitsName 1) Plain

-- `(register hold (bits 16) protected)`
abbrev pub hold_register : DeclForm
hold_register = d.Register (codes "hold") sixteen_bits Protected

-- `(fun step () unit ..)`
abbrev pub step_function : ℕ → DeclForm
step_function n = d.Fun (codes "step") [] UnitName (stepping n)

-- `(step step)`
abbrev pub the_step : DeclForm
the_step = d.Step (codes "step")

-- `(dispatch (when (eq (reg mode) (bits 1 1)) (block boot_block)) (else untrusted))`
abbrev pub the_dispatch : DeclForm
the_dispatch =
    d.Dispatch
    (record {
      test = is_one (e.Register (codes "mode"));
      phase = p.Block (codes "boot_block");
    } ∷ [])
    p.Untrusted

-- `(untrusted (star (reg mode (bits 1 0)) parts))`
abbrev pub the_untrusted : ℕ → DeclForm
the_untrusted n = d.Untrusted (all_parts 0 n)

-- `(block boot_block (entry (star (reg mode (bits 1 1)) parts)) (within 1) (change ..))`
abbrev pub boot_block : ℕ → DeclForm
boot_block n =
    d.Block
    (record {
      name = codes "boot_block";
      entry = all_parts 1 n;
      within = 1;
      change = holds_still;
    })

-- `(boot boot_block)`
abbrev pub the_boot : DeclForm
the_boot = d.Boot (codes "boot_block")

-- the registers of every generated specification
abbrev pub first_decls : List DeclForm
first_decls = mode_register ∷ hold_register ∷ []

-- what a cycle does, and what it is
abbrev pub cycle_decls : ℕ → List DeclForm
cycle_decls n = step_function n ∷ the_step ∷ the_dispatch ∷ []

-- what holds between cycles, and how the machine starts
abbrev pub boundary_decls : ℕ → List DeclForm
boundary_decls n = the_untrusted n ∷ boot_block n ∷ the_boot ∷ []

-- the declarations in their order
unfoldable pub decls_of : ℕ → List DeclForm
decls_of n = first_decls ++ for_each counter_of n ++ cycle_decls n ++ boundary_decls n

-- the generated specification of a number
abbrev pub generated_of : ℕ → Spec
generated_of n = record { version = 1; decls = decls_of n }
