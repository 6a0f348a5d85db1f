-- The runs of machines and images that files tell are runs of their machines.
use Rattle.std.proofs.Common.{◌≡◌, ℕ, ◌<◌, ◌≤◌, ◌^◌, List, ◌++◌, length, replicate, sym, ap, ◌∙◌, arith}
use Rattle.std.proofs.lemmas.List.{length-replicate}
use Rattle.kat_ast.specs.Spec.{Spec}
use Rattle.kat_syntax.specs.Run.{Cycle, Run}
use Rattle.kat_runner.specs.StateText.{state_text_of}
use Rattle.kat_laws.specs.Runs.{IsMachine, Setup, TextTellsItsRun, BeginningTellsItsRun}
use Rattle.kat_laws.specs.Images.{ImagesAreStates}
use Rattle.kat_words.specs.Limits.{most_cycles}
use Rattle.kat_top.specs.Told.{IsToldRun, TextTellsToldRun, BeginningTellsToldRun}

is_machine : (spec : Spec) (run : Run) → IsToldRun spec run → IsMachine spec
is_machine spec run told = record { typed = told.machine.passes.typed; written = told.machine.reads.described.kept.decls }

few_events : (n : ℕ) → n ≤ most_cycles → length (replicate n Cycle) < 2 ^ 64
few_events n few = let counted : length (replicate n Cycle) ≡ n = length-replicate n Cycle in omega arith

unfoldable setup : ImagesAreStates → (spec : Spec) (run : Run) → IsToldRun spec run → Setup spec
setup images spec run told = record {
  calls = told.calls;
  start = told.start;
  events = replicate told.cycles Cycle;
  is_state = images spec told.image told.start (is_machine spec run told) told.state;
  few = few_events told.cycles told.few;
}

pub text_tells : ImagesAreStates → TextTellsItsRun → TextTellsToldRun
unfolding setup
text_tells images law spec first second a b same =
    a.run_is ∙ law spec (setup images spec first a) (setup images spec second b) (is_machine spec first a)
    (ap (state_text_of spec) (sym a.run_is) ∙ same ∙ ap (state_text_of spec) b.run_is) ∙ sym b.run_is

pub beginning_tells : ImagesAreStates → BeginningTellsItsRun → BeginningTellsToldRun
unfolding setup
beginning_tells images law spec first second more other a b same =
    let both = law spec (setup images spec first a) (setup images spec second b) more other (is_machine spec first a)
    (ap (λ r. state_text_of spec r ++ more) (sym a.run_is) ∙ same ∙ ap (λ r. state_text_of spec r ++ other) b.run_is) in
    (a.run_is ∙ both.0 ∙ sym b.run_is, both.1)
