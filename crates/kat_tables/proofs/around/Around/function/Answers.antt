use Rattle.std.proofs.Common.{List, map, Bor, Some, None, sym, ap, ◌∙◌}
use Rattle.std.specs.Option.{option_map, option_copied}
use Rattle.kat_ast.specs.declared.type_name.TypeName.{TypeName}
use Rattle.kat_ast.specs.declared.type_name.Param.{Param}
use Rattle.kat_syntax.specs.Declares.{declared_by, typed_params, type_of_name}
use Rattle.kat_syntax.specs.Around.{a_function}
use Rattle.kat_tables.specs.Meanings.{noted, first_with, function_in}
use Rattle.kat_tables.proofs.DeclaredForms.{function_form, function_seen, seen_as}
use Rattle.kat_tables.proofs.Lookups.{functions_by_form, means_none, means_given}
use Rattle.kat_tables.proofs.around.Around.function.Goals as goal

pub returns-in_err-decl : goal.returns-in_err-decl
returns-in_err-decl c =
    let all = c.self.inside.tables.now in
    let x = c.args.name.now in
    c.from_residual.ensures
    ∙ means_none all function_in a_function (function_form all) (functions_by_form all)
    c.args.self.now (ap (λ a. a.decls) c.self.view_is) x
    (sym c.in_err-decl.was ∙ c.function.ensures ∙ c.tables.invariant.kinds_are.functions x
    ∙ ap (λ ds. first_with function_in (map noted (declared_by ds)) x) c.tables.view_is)

pub returns-in_err-form : goal.returns-in_err-form
returns-in_err-form c =
    let all = c.self.inside.tables.now in
    let x = c.args.name.now in
    c.from_residual-in_err-form.ensures
    ∙ means_given all function_in a_function (function_form all) (functions_by_form all)
    c.args.self.now (ap (λ a. a.decls) c.self.view_is) x c.in_ok-decl.decl
    (sym c.in_ok-decl.was ∙ c.function.ensures ∙ c.tables.invariant.kinds_are.functions x
    ∙ ap (λ ds. first_with function_in (map noted (declared_by ds)) x) c.tables.view_is)
    None (sym (ap option_copied c.in_err-form.was) ∙ c.form.ensures)

pub returns-in_err-params : goal.returns-in_err-params
returns-in_err-params c =
    let all = c.self.inside.tables.now in
    let x = c.args.name.now in
    c.from_residual-in_err-params.ensures
    ∙ ap (option_map (function_seen all c.in_ok-decl.decl))
    (sym (ap (option_map (λ (parts : Bor (List Param) × Bor TypeName). (parts.0.now, parts.1.now)))
    c.in_err-params.was) ∙ c.function_types.ensures)
    ∙ means_given all function_in a_function (function_form all) (functions_by_form all)
    c.args.self.now (ap (λ a. a.decls) c.self.view_is) x c.in_ok-decl.decl
    (sym c.in_ok-decl.was ∙ c.function.ensures ∙ c.tables.invariant.kinds_are.functions x
    ∙ ap (λ ds. first_with function_in (map noted (declared_by ds)) x) c.tables.view_is)
    (Some c.in_ok-form.field-0.now) (sym (ap option_copied c.in_ok-form.was) ∙ c.form.ensures)

pub returns : goal.returns
returns c =
    let all = c.self.inside.tables.now in
    let x = c.args.name.now in
    let k = c.in_ok-decl.decl in
    let type = c.type_of_name-ty.ensures c.tables.inside.decls.now c.tables.invariant.heads_are
    ∙ ap (λ ds. type_of_name ds k c.in_ok-params.written.now) c.tables.view_is in
    ap (λ seen. Some seen) (c.new.ensures
    ∙ ap (λ names. seen_as names c.type_of_name-ty.result) c.one.ensures
    ∙ ap (λ type. seen_as (typed_params all k c.in_ok-params.params.now) type) type)
    ∙ ap (option_map (function_seen all c.in_ok-decl.decl))
    (sym (ap (option_map (λ (parts : Bor (List Param) × Bor TypeName). (parts.0.now, parts.1.now)))
    c.in_ok-params.was) ∙ c.function_types.ensures)
    ∙ means_given all function_in a_function (function_form all) (functions_by_form all)
    c.args.self.now (ap (λ a. a.decls) c.self.view_is) x c.in_ok-decl.decl
    (sym c.in_ok-decl.was ∙ c.function.ensures ∙ c.tables.invariant.kinds_are.functions x
    ∙ ap (λ ds. first_with function_in (map noted (declared_by ds)) x) c.tables.view_is)
    (Some c.in_ok-form.field-0.now) (sym (ap option_copied c.in_ok-form.was) ∙ c.form.ensures)
