use Rattle.std.proofs.Common.{sym, ap, subst, ◌∙◌}
use Rattle.std.specs.Prelude.{option_and_then}
use Rattle.kat_ast.specs.Spec.{Spec}
use Rattle.kat_syntax.specs.RunTables.{declared_at}
use Rattle.kat_syntax.specs.Tables.{step_function_of}
use Rattle.kat_syntax.specs.Functions.{IsFunctionSeen}
use Rattle.kat_syntax.proofs.FunctionPlaces.{seen_none, step_tells}
use Rattle.kat_syntax.proofs.checked.Checked.step_function.Goals as goal

pub returns-in_err-decl-clause-found : goal.returns-in_err-decl-clause-found
returns-in_err-decl-clause-found c =
    let all = c.self.inside.spec.decls in
    seen_none c.from_residual.result (step_function_of c.args.self.now.decls)
    c.from_residual.ensures
    (sym (ap (λ (s : Spec). step_function_of s.decls) c.self.view_is)
    ∙ step_tells all
    ∙ ap (option_and_then (declared_at all))
    (sym c.self.invariant.found.functions.step ∙ c.in_err-decl.was))

pub returns-clause-found : goal.returns-clause-found
returns-clause-found c =
    let all = c.self.inside.spec.decls in
    subst (IsFunctionSeen c.function_at.result)
    (sym (ap (λ (s : Spec). declared_at s.decls c.in_ok-decl.decl) c.self.view_is)
    ∙ sym (step_tells all
    ∙ ap (option_and_then (declared_at all))
    (sym c.self.invariant.found.functions.step ∙ c.in_ok-decl.was))
    ∙ ap (λ (s : Spec). step_function_of s.decls) c.self.view_is)
    c.function_at.ensures.found
