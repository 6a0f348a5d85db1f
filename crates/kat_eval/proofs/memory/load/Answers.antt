use Rattle.std.proofs.Common.{◌≡◌, ◌≤◌, ℕ, true, subst, ap, arith}
use Rattle.std.proofs.lemmas.Bool.Decides.{nat_tests}
use Rattle.std.specs.Option.{IfSome}
use Rattle.kat_value.specs.Widths.{is_width}
use Rattle.kat_syntax.specs.Memories.{Memory, IsMemory}
use Rattle.kat_eval.proofs.memory.load.Goals as goal

-- a width is small
width_small : (w : ℕ) → is_width w ≡ true → w ≤ 64
width_small w is = grind (arith, nat_tests)

pub overflow_cast-result : goal.overflow_cast-result
overflow_cast-result c =
    let memory = c.in-Some.memory in
    let kept = subst (λ found. IfSome found IsMemory) c.in-Some.is c.memory.ensures.kept in
    let small = width_small memory.cell_width kept.cell in
    let same = ap (λ (m : Memory). m.cell_width) c.memory-2.view_is in
    omega (arith, small, same)
