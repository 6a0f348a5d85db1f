use Rattle.std.proofs.Common.{◌≡◌, ◌+◌, ◌-◌, ◌/◌, ◌^◌, ◌≤◌, ◌<◌, ℕ, min, ap, sym, ◌∙◌, arith}
use Rattle.kat_value.specs.Numbers.{sign_extended}
use Rattle.kat_value.proofs.NumberLemmas.{moved_down, complement_moved_down, sign_extended_top}
use Rattle.kat_value.proofs.arithmetic.shifted_down_signed.Goals as goal

-- the complement moved down, where its word and the ones are known by their sums
moved : (w k n complement ones down : ℕ) → w ≤ 64 → 2 ^ (w - 1) ≤ n → n < 2 ^ w → complement + n + 1 ≡ 2 ^ w → ones + 1 ≡ 2 ^ w → down ≡ complement / 2 ^ k → ones - down ≡ sign_extended w (w + k) n / 2 ^ k
moved w k n complement ones down small top below whole all is =
    let first : complement ≡ (2 ^ w - 1) - n = omega arith in
    let full : ones ≡ 2 ^ w - 1 = omega arith in
    ap (λ x. x - down) full
    ∙ ap (λ x. (2 ^ w - 1) - x) (is ∙ ap (λ x. x / 2 ^ k) first)
    ∙ complement_moved_down n w k below
    ∙ sym (ap (λ x. x / 2 ^ k) (sign_extended_top w (w + k) n top))

pub returns-else-number-top_bit : goal.returns-else-number-top_bit
returns-else-number-top_bit c =
    let w = c.args.width in
    let n = c.args.number in
    let places : c.min-places.result ≡ min c.args.by w = omega arith in
    let top : 2 ^ (w - 1) ≤ n = omega arith in
    let complement : c.ones.result - n + n + 1 ≡ 2 ^ w = omega arith in
    let rest : c.ones.result - n < 2 ^ w = omega arith in
    let down : c.unbounded_shr-else-number-top_bit.result ≡ (c.ones.result - n) / 2 ^ min c.args.by w =
    c.unbounded_shr-else-number-top_bit.ensures
    ∙ moved_down (c.ones.result - n) w c.min-places.result c.requires.width.small rest
    ∙ ap (λ k. (c.ones.result - n) / 2 ^ k) places in
    moved w (min c.args.by w) n (c.ones.result - n) c.ones-else-number-top_bit.result c.unbounded_shr-else-number-top_bit.result
    c.requires.width.small top c.requires.below complement c.ones-else-number-top_bit.ensures down
