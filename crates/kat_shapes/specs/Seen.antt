-- What the code holds, as the definitions see it.
use Rattle.kat_shapes.specs.declared.form.Form.{Form as CodeForm}
use Rattle.kat_shapes.specs.Forms.{Form}

-- a form of the code, as the definitions see it
abbrev pub seen_form : CodeForm → Form
seen_form form = record {
  since = form.since;
  first = form.first.now;
  middle = form.middle;
  last = form.last.now;
}
