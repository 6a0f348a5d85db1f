-- All rules on truths and choices, and all on equations, keep values.
use Rattle.kat_rules.specs.Keeps.{AllKeep}
use Rattle.kat_rules.specs.Equations.{equation_rules}
use Rattle.kat_rules.specs.Truths.{truth_rules}
use Rattle.kat_rules.proofs.ChoiceLaws.{ite_of_not_keeps, ite_of_truths_keeps}
use Rattle.kat_rules.proofs.EquationLaws.{eq_of_same_keeps, eq_out_of_order_keeps, eq_of_truth_keeps, eq_of_literal_and_add_keeps, eq_of_literal_and_bxor_keeps, eq_of_literal_and_bnot_keeps, eq_of_literal_and_zext_keeps, eq_of_literal_and_cat_keeps, eq_of_zexts_keeps, eq_of_cats_keeps, eq_of_literal_and_ite_keeps}
use Rattle.kat_rules.proofs.LiteralLaws.{op_on_literals_keeps}
use Rattle.kat_rules.proofs.PartLaws.{get_of_rec_keeps, eq_of_makes_keeps, eq_of_recs_keeps}
use Rattle.kat_rules.proofs.TermLaws.{TermLaws}
use Rattle.kat_rules.proofs.TruthLaws.{not_of_not_keeps, not_of_and_keeps, not_of_or_keeps, not_of_ult_keeps, not_of_ule_keeps, not_of_slt_keeps, not_of_sle_keeps, and_of_first_false_keeps, and_of_second_false_keeps, and_of_first_true_keeps, and_of_second_true_keeps, or_of_first_true_keeps, or_of_second_true_keeps, or_of_first_false_keeps, or_of_second_false_keeps, and_of_same_keeps, or_of_same_keeps, ite_of_truth_keeps, ite_of_same_keeps}

-- all rules on literals, fields, truths and choices
pub truths_keep : TermLaws → AllKeep truth_rules
truths_keep laws = (op_on_literals_keeps, (get_of_rec_keeps laws, (λ types vars v given. not_of_not_keeps laws.operations laws.terms types v vars, (λ types vars v given. not_of_and_keeps laws.operations laws.terms types v vars, (λ types vars v given. not_of_or_keeps laws.operations laws.terms types v vars, (λ types vars v given. not_of_ult_keeps laws.operations laws.terms types v vars, (λ types vars v given. not_of_ule_keeps laws.operations laws.terms types v vars, (λ types vars v given. not_of_slt_keeps laws.operations laws.terms types v vars, (λ types vars v given. not_of_sle_keeps laws.operations laws.terms types v vars, (λ types vars v given. and_of_first_false_keeps laws.operations laws.terms types v vars, (λ types vars v given. and_of_second_false_keeps laws.operations laws.terms types v vars, (λ types vars v given. and_of_first_true_keeps laws.operations laws.terms types v vars, (λ types vars v given. and_of_second_true_keeps laws.operations laws.terms types v vars, (λ types vars v given. or_of_first_true_keeps laws.operations laws.terms types v vars, (λ types vars v given. or_of_second_true_keeps laws.operations laws.terms types v vars, (λ types vars v given. or_of_first_false_keeps laws.operations laws.terms types v vars, (λ types vars v given. or_of_second_false_keeps laws.operations laws.terms types v vars, (λ types vars v given. and_of_same_keeps laws.operations laws.terms types v vars, (λ types vars v given. or_of_same_keeps laws.operations laws.terms types v vars, (λ types vars v given. ite_of_truth_keeps laws.operations laws.terms types v vars, (λ types vars v given. ite_of_same_keeps laws.operations laws.terms types v vars, (ite_of_not_keeps laws, (ite_of_truths_keeps laws, tt)))))))))))))))))))))))

-- all rules on equations
pub equations_keep : TermLaws → AllKeep equation_rules
equations_keep laws = (λ types vars v given. eq_of_same_keeps laws types v vars, (eq_of_recs_keeps laws, (eq_of_makes_keeps laws, (λ types vars v given. eq_out_of_order_keeps laws types v vars, (λ types vars v given. eq_of_truth_keeps laws types v vars, (λ types vars v given. eq_of_literal_and_add_keeps laws types v vars, (λ types vars v given. eq_of_literal_and_bxor_keeps laws types v vars, (λ types vars v given. eq_of_literal_and_bnot_keeps laws types v vars, (eq_of_literal_and_zext_keeps laws, (eq_of_literal_and_cat_keeps laws, (eq_of_zexts_keeps laws, (eq_of_cats_keeps laws, (λ types vars v given. eq_of_literal_and_ite_keeps laws types v vars, tt)))))))))))))
