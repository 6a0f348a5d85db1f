-- The laws are lemmas of `Noting`.
use Rattle.kat_expr_types.proofs.Noting.{sum-cons, least_both, least_part, least_parts, least_given, trees_known, all_trees_known}
use Rattle.kat_expr_types.proofs.laws.typing_laws.Goals as goal

pub returns : goal.returns
returns c = record {
  noting = record {
    both = least_both;
    part = least_part;
    parts = least_parts;
    given = least_given;
  };
  trees = record { sum = sum-cons; one = trees_known; all = all_trees_known };
}
