-- What the lower crates say of the bytes of a file.
use Rattle.std.specs.Prelude.{◌≡◌, ℕ, List, Result, MatchOption}
use Rattle.kat_tree.specs.declared.tree.Tree.{Tree}
use Rattle.kat_tree.specs.declared.error.TreeError.{TreeError}
use Rattle.kat_tree.specs.Faults.{Owes}
use Rattle.kat_ast.specs.Spec.{Spec}
use Rattle.kat_syntax.specs.Machine.{MachineState}
use Rattle.kat_syntax.specs.FirstTypeFault.{IsTyped, first_type_fault}
use Rattle.kat_ast.specs.Specifications.{Describes, Reads}
use Rattle.kat_shapes.specs.declared.misfit.Misfit.{Misfit}
use Rattle.kat_forms.specs.Reading.{IsFirstMisfit}
use Rattle.kat_image.specs.Image.{IsImageOf, IsFirstRefused}

-- bytes are of one tree or have one fault, they stand for one specification, whose tree has no
-- misfit, a tree has one first misfit, a specification is typed where it has no first fault of
-- typing, and bytes are an image of one state, or have one first line that is not of the format
pub record FileLaws : Type 0 where
  pub one_outcome : (bytes : List ℕ) (first second : Result Tree TreeError) →
      Owes bytes first → Owes bytes second → first ≡ second
  pub one_spec : (bytes : List ℕ) (first second : Spec) →
      Reads bytes first → Reads bytes second → first ≡ second
  pub no_misfit : (tree : Tree) (spec : Spec) (misfit : Misfit) →
      Describes tree spec → IsFirstMisfit tree misfit → ⊥
  pub one_misfit : (tree : Tree) (first second : Misfit) →
      IsFirstMisfit tree first → IsFirstMisfit tree second → first ≡ second
  pub typed_or_not : (spec : Spec) →
      MatchOption (first_type_fault spec) (IsTyped spec) (λ found. IsTyped spec → ⊥)
  pub one_state : (spec : Spec) (bytes : List ℕ) (first second : MachineState) →
      IsImageOf spec bytes first → IsImageOf spec bytes second → first ≡ second
  pub no_image : (spec : Spec) (bytes : List ℕ) (line : ℕ) (state : MachineState) →
      IsFirstRefused spec bytes line → IsImageOf spec bytes state → ⊥
  pub one_line : (spec : Spec) (bytes : List ℕ) (first second : ℕ) →
      IsFirstRefused spec bytes first → IsFirstRefused spec bytes second → first ≡ second
