-- The numbers that words spell.
use Rattle.std.proofs.Common.{◌≡◌, ℕ, ◌+◌, ◌-◌, ◌*◌, ◌<◌, refl, arith, List, [], ◌∷◌}
use Rattle.std.proofs.Common.{true, false, None, if◌then◌else◌}
use Rattle.std.proofs.lemmas.Bool.Decides.{nat_tests}
use Rattle.std.specs.Char.{is_ascii_digit}
use Rattle.kat_words.specs.Numbers.{number_from, between}

-- a number past the range does not come back into it
pub past_is_none : (low high n : ℕ) (bytes : List ℕ) → high < n
    → between low high (number_from n bytes) ≡ None
past_is_none low high n [] past = grind (arith, nat_tests)
past_is_none low high n (byte ∷ bytes) past =
    let next : ℕ = n * 10 + (byte - 48) in
    elim (is_ascii_digit byte)
    as (λ b. between low high (if b then number_from next bytes else None) ≡ None)
    [ true ↦ past_is_none low high next bytes (omega arith) | false ↦ refl ]
