-- The names in scope as the list of their names and types.
use Rattle.std.specs.Prelude.{◌∷◌}
use Rattle.kat_syntax.specs.TypesWritten as typing
use Rattle.kat_expr_types.specs.declared.scope.Scope.{Scope, fold-Scope}
use Rattle.kat_expr_types.specs.declared.scope.Scope.TheOpen.{Scope-F, Base, More}

-- one layer, with the rest as a list
abbrev pub scope_step : Scope-F typing.Scope → typing.Scope
scope_step (Base base) = base.now
scope_step (More name type rest) = record { name = name.now; type = type } ∷ rest.now

-- all names, the newest first
abbrev pub scope_of : Scope → typing.Scope
scope_of = fold-Scope typing.Scope scope_step
