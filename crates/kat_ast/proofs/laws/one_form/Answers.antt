use Rattle.kat_ast.proofs.Types.{one_type}
use Rattle.kat_ast.proofs.Expressions.{one_expr}
use Rattle.kat_ast.proofs.Statements.{one_stm}
use Rattle.kat_ast.proofs.Assertions.{one_assertion}
use Rattle.kat_ast.proofs.Declarations.{one_decl}
use Rattle.kat_ast.proofs.Specifications.{one_spec}
use Rattle.kat_ast.proofs.laws.one_form.Goals as goal

pub returns-clause-type_name : goal.returns-clause-type_name
returns-clause-type_name c = one_type

pub returns-clause-expr : goal.returns-clause-expr
returns-clause-expr c = one_expr

pub returns-clause-stm : goal.returns-clause-stm
returns-clause-stm c = one_stm

pub returns-clause-assertion : goal.returns-clause-assertion
returns-clause-assertion c = one_assertion

pub returns-clause-decl : goal.returns-clause-decl
returns-clause-decl c = one_decl

pub returns-clause-spec : goal.returns-clause-spec
returns-clause-spec c = one_spec
