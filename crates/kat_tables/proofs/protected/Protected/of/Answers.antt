use Rattle.std.proofs.Common.{ap, subst, ◌∙◌, arith, IsPermutation}
use Rattle.std.proofs.lemmas.List.Sorted.{length_permutation}
use Rattle.kat_tables.specs.Protected.{raised}
use Rattle.kat_tables.proofs.Reaches.{is_protected, written_over}
use Rattle.kat_tables.proofs.protected.Protected.of.Goals as goal

pub returns : goal.returns
returns c =
    let items = c.in_ok-reaches.reaches.items in
    let sorted = c.sort_by_first.new.reaches in
    let moved = subst (λ l. IsPermutation l sorted) c.deref_mut.ensures.value
    c.sort_by_first.ensures.permutation in
    is_protected c.args.decls.now items sorted c.in_ok-reaches-2.reaches c.in_ok-reaches.ensures
    moved c.sort_by_first.ensures.sorted
    (c.in_ok-reaches-2.ensures
    ∙ ap (raised 0) (c.deref.ensures.value
    ∙ written_over sorted items c.in_ok-reaches.reaches.len
    (omega (arith, c.in_ok-reaches.reaches.ok.0)) (length_permutation items sorted moved)))
