-- No word reaches the greatest number of a width that is more than its own.
use Rattle.std.proofs.Common.{◌≡◌, ℕ, nat_eq, nat_le, ◌^◌, ◌-◌, ◌<◌, ◌≤◌, ◌∙◌, sym, arith}
use Rattle.std.proofs.Math.Nat.{pow-le-pow_right}
use Rattle.std.proofs.lemmas.Bool.{lt-leb, ne_eqb}
use Rattle.kat_rules.proofs.orders.is_ones_or_more.Goals as goal

-- past 64 bits neither side holds
too_wide : (w n : ℕ) → 64 < w → n < 2 ^ 64 → nat_eq w 64 ≡ nat_le (2 ^ w - 1) n
too_wide w n wide word =
    let longer : 2 ^ 65 ≤ 2 ^ w = pow-le-pow_right (omega arith) wide in
    ne_eqb w 64 (λ e. omega arith) ∙ sym (lt-leb (2 ^ w - 1) n (omega arith))

pub returns-else-width-eq64 : goal.returns-else-width-eq64
returns-else-width-eq64 c = too_wide c.args.width c.args.number (omega arith) (omega arith)
