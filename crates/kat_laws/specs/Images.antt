-- What an image stands for.
use Rattle.std.specs.Prelude.{ℕ, List}
use Rattle.kat_ast.specs.Spec.{Spec}
use Rattle.kat_syntax.specs.Machine.{MachineState}
use Rattle.kat_syntax.specs.States.{IsState}
use Rattle.kat_image.specs.Image.{IsImageOf}
use Rattle.kat_image.specs.ImageText.{image_text_of}
use Rattle.kat_laws.specs.Runs.{IsMachine}

-- an image stands for states of the machine alone
abbrev pub ImagesAreStates : Type 0
ImagesAreStates =
    (spec : Spec) (bytes : List ℕ) (state : MachineState) →
    IsMachine spec → IsImageOf spec bytes state → IsState spec.decls state

-- of a machine the printed text of each state is an image of it
abbrev pub PrintedImagesComeBack : Type 0
PrintedImagesComeBack =
    (spec : Spec) (state : MachineState) → IsMachine spec → IsState spec.decls state →
    IsImageOf spec (image_text_of spec state) state
