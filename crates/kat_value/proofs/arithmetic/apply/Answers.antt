use Rattle.std.proofs.Common.{◌*◌, ◌∙◌, arith}
use Rattle.std.proofs.lemmas.Nat.{or_lt, xor_lt}
use Rattle.kat_value.proofs.NumberLemmas.{low_difference, low_bits_of_word, pow_of_longer, joined_in_word, joined_below, sign_extended_below, sign_moved_down_below}
use Rattle.kat_value.proofs.arithmetic.apply.Goals as goal

pub returns-in-Sub-clause-value : goal.returns-in-Sub-clause-value
returns-in-Sub-clause-value c =
    let can = rw c.in-Sub.is at c.requires in
    rw c.in-Sub.is (c.low_bits-in-Sub.ensures ∙ low_difference c.args.a c.args.b c.args.width can.first.width.small can.second.below)

pub returns-in-Mul-clause-value : goal.returns-in-Mul-clause-value
returns-in-Mul-clause-value c =
    let can = rw c.in-Mul.is at c.requires in
    rw c.in-Mul.is (c.low_bits-in-Mul.ensures ∙ low_bits_of_word (c.args.a * c.args.b) c.args.width can.first.width.small)

pub returns-in-Bor-clause-within : goal.returns-in-Bor-clause-within
returns-in-Bor-clause-within c =
    let can = rw c.in-Bor.is at c.requires in
    rw c.in-Bor.is (or_lt c.args.width c.args.a c.args.b can.first.below can.second.below)

pub returns-in-Bxor-clause-within : goal.returns-in-Bxor-clause-within
returns-in-Bxor-clause-within c =
    let can = rw c.in-Bxor.is at c.requires in
    rw c.in-Bxor.is (xor_lt c.args.width c.args.a c.args.b can.first.below can.second.below)

pub returns-in-Sar-clause-within : goal.returns-in-Sar-clause-within
returns-in-Sar-clause-within c =
    let can = rw c.in-Sar.is at c.requires in
    rw (c.in-Sar.is, c.shifted_down_signed.ensures) (sign_moved_down_below c.args.width _ c.args.a can.first.below)

pub returns-in-Cat-clause-value : goal.returns-in-Cat-clause-value
returns-in-Cat-clause-value c =
    let can = rw c.in-Cat.is at c.requires in
    rw (c.in-Cat.is, c.unbounded_shl.ensures) (joined_in_word c.args.a c.args.b c.args.width can.0.width.small can.1 can.0.below)

pub returns-in-Cat-clause-within : goal.returns-in-Cat-clause-within
returns-in-Cat-clause-within c = rw c.in-Cat.is (or_lt 64 c.unbounded_shl.result c.args.b (omega arith) (omega arith))

pub returns-in-Cat-clause-joined : goal.returns-in-Cat-clause-joined
returns-in-Cat-clause-joined c is v fits =
    let can = rw c.in-Cat.is at c.requires in
    rw (c.unbounded_shl.ensures, joined_in_word c.args.a c.args.b c.args.width can.0.width.small can.1 can.0.below) (joined_below c.args.a c.args.b v c.args.width fits can.0.below)

pub returns-in-Zext-clause-within : goal.returns-in-Zext-clause-within
returns-in-Zext-clause-within c =
    let can = rw c.in-Zext.is at c.requires in
    rw c.in-Zext.is (omega (arith, can.0.below, pow_of_longer c.args.width c.in-Zext.width can.1))

pub returns-in-Sext-clause-within : goal.returns-in-Sext-clause-within
returns-in-Sext-clause-within c =
    let can = rw c.in-Sext.is at c.requires in
    rw (c.in-Sext.is, c.sign_extended.ensures) (sign_extended_below c.args.width c.in-Sext.wide c.args.a can.0.below can.1)
