-- The parts of typing that several expressions share, as the walk has them.
use Rattle.std.specs.Prelude.{ℕ, not, Bool, false, List, Option, None, Some}
use Rattle.kat_value.specs.declared.types.Ty.{Ty}
use Rattle.kat_ast.specs.declared.decl.RegisterKind.{RegisterKind}
use Rattle.kat_syntax.specs.declared.type_rule.TypeRule.TheVariants.{TypeUnknown, NameUnknown}
use Rattle.kat_syntax.specs.TypeRules.{Fault, unless}
use Rattle.kat_syntax.specs.TypingExpressions.{is_outside_kind, is_protected_kind}
use Rattle.kat_expr_types.specs.declared.expr.Wanted.{Wanted}
use Rattle.kat_expr_types.specs.declared.expr.Wanted.TheVariants.{NotOutside, Protected}

-- whether a register of this kind may be named
abbrev pub is_wanted : Wanted → RegisterKind → Bool
is_wanted NotOutside kind = not (is_outside_kind kind)
is_wanted Protected kind = is_protected_kind kind

-- the fault of a name at this tree that is to be a type declared earlier, and of the kind wanted
abbrev pub unknown_named : ℕ → Option Ty → Bool → List Fault
unknown_named at None is_wanted = unless false at TypeUnknown
unknown_named at (Some type) is_wanted = unless is_wanted at NameUnknown
