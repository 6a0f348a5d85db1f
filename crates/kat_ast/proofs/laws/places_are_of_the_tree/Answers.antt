use Rattle.kat_ast.proofs.Types.{type_counted, params_counted}
use Rattle.kat_ast.proofs.Expressions.{expr_counted}
use Rattle.kat_ast.proofs.Statements.{stm_counted}
use Rattle.kat_ast.proofs.Assertions.{assertion_counted}
use Rattle.kat_ast.proofs.Declarations.{phase_counted, when_counted, decl_counted}
use Rattle.kat_ast.proofs.laws.places_are_of_the_tree.Goals as goal

pub returns-clause-type_name : goal.returns-clause-type_name
returns-clause-type_name c = type_counted

pub returns-clause-params : goal.returns-clause-params
returns-clause-params c = params_counted

pub returns-clause-expr : goal.returns-clause-expr
returns-clause-expr c = expr_counted

pub returns-clause-stm : goal.returns-clause-stm
returns-clause-stm c = stm_counted

pub returns-clause-assertion : goal.returns-clause-assertion
returns-clause-assertion c = assertion_counted

pub returns-clause-phase : goal.returns-clause-phase
returns-clause-phase c = phase_counted

pub returns-clause-when : goal.returns-clause-when
returns-clause-when c = when_counted

pub returns-clause-decl : goal.returns-clause-decl
returns-clause-decl c = decl_counted
