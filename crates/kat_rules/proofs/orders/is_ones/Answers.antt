-- No word is the greatest number of a width that is more than its own.
use Rattle.std.proofs.Common.{◌≡◌, ℕ, nat_eq, ◌==◌, ◌^◌, ◌-◌, ◌<◌, ◌≤◌, ◌∙◌, sym, arith}
use Rattle.std.proofs.Math.Nat.{pow-le-pow_right}
use Rattle.std.proofs.lemmas.Bool.{ne_eqb}
use Rattle.kat_rules.proofs.orders.is_ones.Goals as goal

-- past 64 bits neither side holds
too_wide : (w n : ℕ) → 64 < w → n < 2 ^ 64 → nat_eq w 64 ≡ (n == 2 ^ w - 1)
too_wide w n wide word =
    let longer : 2 ^ 65 ≤ 2 ^ w = pow-le-pow_right (omega arith) wide in
    ne_eqb w 64 (λ e. omega arith) ∙ sym (ne_eqb n (2 ^ w - 1) (λ e. omega arith))

pub returns-else-width-eq64 : goal.returns-else-width-eq64
returns-else-width-eq64 c = too_wide c.args.width c.args.number (omega arith) (omega arith)
