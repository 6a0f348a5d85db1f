use Rattle.std.proofs.Common.{◌≡◌, ◌^◌, true, take}
use Rattle.std.specs.Prelude.{nat_lt}
use Rattle.std.specs.List.{list_all}
use Rattle.kat_typing.proofs.cells.are_below.Given as goal

abbrev pub invariant-loop-number : goal.invariant-loop-number
invariant-loop-number l =
    list_all (λ n. nat_lt n (2 ^ l.width)) (take l.number-index l.numbers) ≡ true
