use Rattle.std.proofs.Common.{ap, sym, ◌∙◌}
use Rattle.std.proofs.lemmas.List.Filters.{dedup_is}
use Rattle.std.proofs.lemmas.List.Sorted.{list_any-IsPermutation}
use Rattle.std.proofs.lemmas.Map.Keys.{IsStrictlyIncreasing-dedup}
use Rattle.std.specs.Prelude.{◌==◌}
use Rattle.kat_runner.specs.Runner.{is_stored}
use Rattle.kat_runner.proofs.Cells.{stored_before_dedup}
use Rattle.kat_runner.proofs.shown.sorted.Goals as goal

-- what is left rises, and has each of the indices
pub returns : goal.returns
returns c =
    let is = dedup_is _ _ _ c.dedup.ensures.filtered in
    record {
      rises = rw is (IsStrictlyIncreasing-dedup _ c.sort_unstable.ensures.sorted);
      keeps = λ index none.
          ap (λ xs. is_stored xs index) (sym c.in_ok-all.ensures.items)
          ∙ list_any-IsPermutation (λ stored. index == stored) _ _
          c.sort_unstable.ensures.permutation
          ∙ stored_before_dedup _ index (ap (λ xs. is_stored xs index) (sym is) ∙ none);
    }
