use Rattle.std.proofs.Common.{None, refl, sym, ap, subst, ◌∙◌, ◌+◌, ◌<◌, length, get_or, arith}
use Rattle.std.specs.Option.{option_copied}
use Rattle.kat_ast.specs.Spec.{Spec}
use Rattle.kat_ast.specs.Limits.{decl_trees_bound}
use Rattle.kat_ast.specs.Types.{trees_of_type, trees_of_params}
use Rattle.kat_ast.specs.Statements.{trees_of_stm}
use Rattle.kat_syntax.specs.RunTables.{FindsPositions, declared_at, param_names}
use Rattle.kat_syntax.proofs.FunctionPlaces.{seen_none, within_tables, no_declared, params_found, function_seen, other_declared, small_function}
use Rattle.kat_syntax.proofs.checked.Checked.function_at.Goals as goal

-- a number without a table is no declaration's
pub returns-in_err-positions-clause-found : goal.returns-in_err-positions-clause-found
returns-in_err-positions-clause-found c =
    seen_none c.from_residual.result (declared_at c.args.self.now.decls c.args.decl)
    c.from_residual.ensures
    (sym (ap (λ (s : Spec). declared_at s.decls c.args.decl) c.self.view_is)
    ∙ no_declared c.self.inside.spec.decls c.self.inside.tables.functions.params c.args.decl
    c.self.invariant.found.functions.params
    (sym c.get.ensures.value ∙ ap option_copied c.in_err-positions.was))

-- a number with a table is that of a declaration
pub bounds-decls-decl : goal.bounds-decls-decl
bounds-decls-decl c =
    let within = within_tables c.self.inside.spec.decls c.self.inside.tables.functions.params
    c.args.decl c.in_ok-positions.positions.now c.self.invariant.found.functions.params
    (sym c.get.ensures.value ∙ ap option_copied c.in_ok-positions.was) in
    let same = ap length c.decls.ensures.decls in
    omega (arith, within, same)

pub returns-in-Fun-clause-found : goal.returns-in-Fun-clause-found
returns-in-Fun-clause-found c =
    let all = c.self.inside.spec.decls in
    let k = c.args.decl in
    let decl = c.index-decls-decl.result in
    let within = within_tables all c.self.inside.tables.functions.params k
    c.in_ok-positions.positions.now c.self.invariant.found.functions.params
    (sym c.get.ensures.value ∙ ap option_copied c.in_ok-positions.was) in
    rw (← c.self.view_is) (function_seen all k decl c.form.result.now c.in-Fun.name c.in-Fun.params
    c.in-Fun.result c.in-Fun.body _ within
    (c.index-decls-decl.is ∙ ap (λ ds. get_or ds k decl) c.decls.ensures.decls)
    c.form.ensures.form c.in-Fun.is refl (sym c.as_slice.ensures) refl refl)

pub returns-in-Fun-clause-callable : goal.returns-in-Fun-clause-callable
returns-in-Fun-clause-callable c =
    let all = c.self.inside.spec.decls in
    let tables = c.self.inside.tables.functions.params in
    let k = c.args.decl in
    let decl = c.index-decls-decl.result in
    let are = c.self.invariant.found.functions.params in
    let table = sym c.get.ensures.value ∙ ap option_copied c.in_ok-positions.was in
    let within = within_tables all tables k c.in_ok-positions.positions.now are table in
    record {
      small = subst (λ ps. 3 + trees_of_params ps + trees_of_type c.in-Fun.result
          + trees_of_stm c.in-Fun.body < decl_trees_bound) (sym c.as_slice.ensures)
          (small_function c.places_are_of_the_tree.ensures.decl decl c.form.result.now
          c.in-Fun.name c.in-Fun.params c.in-Fun.result c.in-Fun.body c.form.ensures.kept
          c.form.ensures.form c.in-Fun.is);
      positions = subst (λ ps. FindsPositions (param_names ps) c.in_ok-positions.positions.now)
          (sym c.as_slice.ensures)
          (params_found all tables k c.in_ok-positions.positions.now decl c.form.result.now
          c.in-Fun.name c.in-Fun.params c.in-Fun.result c.in-Fun.body are table within
          (c.index-decls-decl.is ∙ ap (λ ds. get_or ds k decl) c.decls.ensures.decls)
          c.form.ensures.form c.in-Fun.is);
    }

-- another declaration is no function
pub returns-in_default : goal.returns-in_default
returns-in_default c =
    let all = c.self.inside.spec.decls in
    let k = c.args.decl in
    let decl = c.index-decls-decl.result in
    let within = within_tables all c.self.inside.tables.functions.params k
    c.in_ok-positions.positions.now c.self.invariant.found.functions.params
    (sym c.get.ensures.value ∙ ap option_copied c.in_ok-positions.was) in
    record {
      found = seen_none None (declared_at c.args.self.now.decls k) refl
          (sym (ap (λ (s : Spec). declared_at s.decls k) c.self.view_is)
          ∙ other_declared all k decl c.form.result.now within
          (c.index-decls-decl.is ∙ ap (λ ds. get_or ds k decl) c.decls.ensures.decls)
          c.form.ensures.form c.in_default.not-Fun);
      callable = tt;
    }
