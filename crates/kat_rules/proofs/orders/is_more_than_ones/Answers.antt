-- No word is past the numbers of 64 bits or more.
use Rattle.std.proofs.Common.{◌≡◌, ℕ, false, nat_le, ◌^◌, ◌<◌, ◌≤◌, sym, arith}
use Rattle.std.proofs.Math.Nat.{pow-le-pow_right}
use Rattle.std.proofs.lemmas.Bool.{lt-leb}
use Rattle.kat_rules.proofs.orders.is_more_than_ones.Goals as goal

-- from 64 bits on no word is as large
none_past : (w n : ℕ) → 64 ≤ w → n < 2 ^ 64 → false ≡ nat_le (2 ^ w) n
none_past w n wide word =
    let longer : 2 ^ 64 ≤ 2 ^ w = pow-le-pow_right (omega arith) wide in
    sym (lt-leb (2 ^ w) n (omega arith))

pub returns-then-width-ge64 : goal.returns-then-width-ge64
returns-then-width-ge64 c = none_past c.args.width c.args.number (omega arith) (omega arith)
