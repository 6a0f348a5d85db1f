use Rattle.std.proofs.Common.{◌∙◌, sym, subst}
use Rattle.kat_ast.specs.Specifications.{Reads}
use Rattle.kat_gen.specs.Generated.{generated_of}
use Rattle.kat_gen.proofs.Texts.{text_is}
use Rattle.kat_gen.proofs.spec.spec_of.Goals as goal

pub returns-clause-canonical : goal.returns-clause-canonical
returns-clause-canonical c =
    c.into_string.ensures ∙ c.in_ok-generated.ensures ∙ sym (text_is c.args.number)

pub returns-clause-read_back : goal.returns-clause-read_back
returns-clause-read_back c =
    subst (λ bytes. Reads bytes (generated_of c.args.number))
    (sym (c.into_string.ensures ∙ c.in_ok-generated.ensures ∙ sym (text_is c.args.number)))
    (c.reads_back.ensures (generated_of c.args.number)
    (c.generated_has_its_form.ensures c.args.number c.requires))
