use Rattle.std.proofs.Common.{◌≡◌, subst}
use Rattle.std.specs.Prelude.{IfOk}
use Rattle.kat_syntax.specs.FirstTypeFault.{first_from, faults_from}
use Rattle.kat_typing.proofs.first.first_type_fault.Goals as goal

pub returns : goal.returns
returns c =
    subst (λ decls. IfOk c.first_of.result (λ found.
    found ≡ first_from 0 (faults_from decls 0 decls)))
    c.decls-decls.ensures.decls c.first_of.ensures
