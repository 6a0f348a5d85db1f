-- Each word is below 2 to the power of 64 or more.
use Rattle.std.proofs.Common.{◌≡◌, ℕ, true, nat_lt, ◌^◌, ◌<◌, ◌≤◌, sym, arith}
use Rattle.std.proofs.Math.Nat.{pow-le-pow_right}
use Rattle.std.proofs.lemmas.Bool.{lt-ltb}
use Rattle.kat_rules.proofs.equations.is_below.Goals as goal

-- from 64 bits on each word is below
all_below : (w n : ℕ) → 64 ≤ w → n < 2 ^ 64 → true ≡ nat_lt n (2 ^ w)
all_below w n wide word =
    let longer : 2 ^ 64 ≤ 2 ^ w = pow-le-pow_right (omega arith) wide in
    sym (lt-ltb n (2 ^ w) (omega arith))

pub returns-then-width-ge64 : goal.returns-then-width-ge64
returns-then-width-ge64 c = all_below c.args.width c.args.number (omega arith) (omega arith)
