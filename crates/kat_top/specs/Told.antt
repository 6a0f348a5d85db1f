-- What the printed text of a run tells its reader.
use Rattle.std.specs.Prelude.{◌≡◌, ◌≤◌, ◌++◌, ℕ, List, replicate}
use Rattle.kat_ast.specs.Spec.{Spec}
use Rattle.kat_syntax.specs.Machine.{MachineState}
use Rattle.kat_syntax.specs.Run.{Cycle, Run, run_of}
use Rattle.kat_runner.specs.StateText.{state_text_of}
use Rattle.kat_image.specs.Image.{IsImageOf}
use Rattle.kat_words.specs.Limits.{most_cycles}
use Rattle.kat_top.specs.Inputs.{IsModedText}

-- a run of a machine that some bytes stand for, from a state that some bytes are an image of: of so
-- many cycles, at most as many as words may ask for, each with so many calls
pub record IsToldRun (spec : Spec) (run : Run) : Type 0 where
  pub text : List ℕ
  pub image : List ℕ
  pub start : MachineState
  pub cycles : ℕ
  pub calls : ℕ
  pub machine : IsModedText text spec
  pub state : IsImageOf spec image start
  pub few : cycles ≤ most_cycles
  pub run_is : run ≡ run_of spec calls start (replicate cycles Cycle)

-- two such runs of one machine that print the same text are the same run
abbrev pub TextTellsToldRun : Type 0
TextTellsToldRun =
    (spec : Spec) (first second : Run) → IsToldRun spec first → IsToldRun spec second →
    state_text_of spec first ≡ state_text_of spec second → first ≡ second

-- where the texts of two such runs begin one text, they are the same run, and so is what follows
abbrev pub BeginningTellsToldRun : Type 0
BeginningTellsToldRun =
    (spec : Spec) (first second : Run) (more other : List ℕ) →
    IsToldRun spec first → IsToldRun spec second →
    state_text_of spec first ++ more ≡ state_text_of spec second ++ other →
    (first ≡ second) × (more ≡ other)
