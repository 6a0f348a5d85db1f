use Rattle.std.proofs.Common.{rules, arith, ◌-◌, length, take, drop}
use Rattle.std.proofs.lemmas.Grind.{common_steps}
use Rattle.kat_tree.proofs.Digits.{gives-slice}
use Rattle.kat_tree.proofs.number.word_number.Goals as goal

pub returns-in-0 : goal.returns-in-0
returns-in-0 c =
    let digits = take (length c.args.word.now - 2) (drop 2 c.args.word.now) in
    let e = c.digits_number.ensures digits (gives-slice c.copied.result digits (search rules)) in
    grind (arith, common_steps)

pub returns-in_default : goal.returns-in_default
returns-in_default c =
    let e = c.digits_number-in_default.ensures c.args.word.now (gives-slice c.copied-in_default.result c.args.word.now (search rules)) in
    search rules
