-- The line that is refused is the first that is not of the format.
use Rattle.std.proofs.Common.{◌≡◌, ℕ, List, refl, subst}
use Rattle.kat_ast.specs.Spec.{Spec}
use Rattle.kat_image.specs.Image.{IsFirstRefused}
use Rattle.kat_image.specs.ImageError.{IsFault}
use Rattle.kat_image.specs.declared.fault.ImageError.{ImageError}
use Rattle.kat_image.specs.declared.fault.ImageError.TheVariants as image
use Rattle.kat_top.proofs.inputs.start_of.Goals as goal

refused_line : (given machine : Spec) (bytes : List ℕ) (error : ImageError) (line : ℕ) →
    given ≡ machine → error ≡ image.Line line → IsFault given bytes error →
    IsFirstRefused machine bytes line
refused_line given machine bytes error line same is fault =
    subst (λ m. IsFirstRefused m bytes line) same (subst (IsFault given bytes) is fault)

pub returns-in-Err-Line : goal.returns-in-Err-Line
returns-in-Err-Line c = λ earlier is.
    let error : c.in-Err-Line.field-0 ≡ image.Line c.in-Err-Line.number =
    let same = c.in-Err-Line.field-0-is in cc in
    record {
      machine = c.args.machine.now;
      line = c.in-Err-Line.number;
      said_is = refl;
      machine_is = is;
      first = refused_line c.checked.result.now c.args.machine.now c.args.text.now
          c.in-Err-Line.field-0 c.in-Err-Line.number c.checked.ensures.checked error
          c.in-Err-Line.ensures.line;
    }
