-- What an answer of `read_image` says.
use Rattle.std.specs.Prelude.{◌≡◌, ℕ, List, ⊤, Result, Ok, Err}
use Rattle.kat_image.specs.declared.fault.ImageError.{ImageError}
use Rattle.kat_image.specs.declared.fault.ImageError.TheVariants.{Line, Memory}
use Rattle.kat_ast.specs.Spec.{Spec}
use Rattle.kat_syntax.specs.Machine.{MachineState}
use Rattle.kat_image.specs.Image.{IsFirstRefused}

-- an error other than want of memory names the first line that is not of the format
abbrev pub IsFault : Spec → List ℕ → ImageError → Type 0
IsFault spec bytes (Line number) = IsFirstRefused spec bytes number
IsFault spec bytes Memory = ⊤

-- the answer is this state, unless memory ran out
abbrev pub Gives : Result MachineState ImageError → MachineState → Type 0
Gives (Ok given) state = given ≡ state
Gives (Err error) state = error ≡ Memory

-- the answer names this line, unless memory ran out
abbrev pub Names : Result MachineState ImageError → ℕ → Type 0
Names (Ok state) number = ⊥
Names (Err (Line given)) number = given ≡ number
Names (Err Memory) number = ⊤
