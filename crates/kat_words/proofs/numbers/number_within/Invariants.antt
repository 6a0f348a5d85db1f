use Rattle.std.proofs.Common.{◌≡◌, ◌≤◌, drop}
use Rattle.kat_words.specs.Numbers.{number_from, between}
use Rattle.kat_words.proofs.numbers.number_within.Given as goal

-- the number so far is within, and what is left makes of it what the whole word makes of 0
abbrev pub invariant-loop-digit : goal.invariant-loop-digit
invariant-loop-digit l = (l.number ≤ l.high)
    × (between l.low l.high (number_from l.number (drop l.digit-index l.digits))
    ≡ between l.low l.high (number_from 0 l.digits))
