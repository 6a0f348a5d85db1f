use Rattle.kat_top.proofs.Typed.{typed_or_not}
use Rattle.kat_top.proofs.laws.file_laws.Goals as goal

pub returns : goal.returns
returns c = record {
  one_outcome = c.one_outcome.ensures.one;
  one_spec = c.one_reading.ensures;
  no_misfit = c.one_description.ensures.never_both;
  one_misfit = c.one_description.ensures.misfit;
  typed_or_not = λ spec. typed_or_not spec (c.first_faults_are_least.ensures spec);
  one_state = c.one_state.ensures;
  no_image = c.one_refusal.ensures.no_image;
  one_line = c.one_refusal.ensures.line;
}
