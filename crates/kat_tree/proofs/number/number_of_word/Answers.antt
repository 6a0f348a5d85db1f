use Rattle.std.proofs.Common.{◌≡◌, ◌∷◌, sym, ap, ◌∙◌}
use Rattle.std.specs.Str.{chars}
use Rattle.kat_tree.specs.Number.{word_number}
use Rattle.kat_tree.proofs.Digits.{gives-text}
use Rattle.kat_tree.proofs.Marked.{IsUtf8-behind_mark, marked_number, plain_number, number_stands, number_only}
use Rattle.kat_tree.proofs.number.number_of_word.Goals as goal

marked : (c : goal.After-digits_number) → word_number (chars c.args.word.now) ≡ c.digits_number.result
marked c =
    let word = c.args.word.now in
    let digits = c.in-Some.digits.now in
    let is = c.in-Some.ensures.cases.1.1 ∙ ap (λ rest. 48 ∷ 120 ∷ rest) (sym c.in-Some.ensures.cases.2) in
    let gives = gives-text c.chars.result digits (IsUtf8-behind_mark word digits c.utf8.word is) c.chars.ensures.rest in
    marked_number word digits c.utf8.word is ∙ sym (c.digits_number.ensures (chars digits) gives)

plain : (c : goal.After-digits_number-in-None) → word_number (chars c.args.word.now) ≡ c.digits_number-in-None.result
plain c =
    let word = c.args.word.now in
    let gives = gives-text c.chars-in-None.result word c.utf8.word c.chars-in-None.ensures.rest in
    plain_number word c.utf8.word c.in-None.ensures.cases ∙ sym (c.digits_number-in-None.ensures (chars word) gives)

pub returns-in-Some-clause-found : goal.returns-in-Some-clause-found
returns-in-Some-clause-found c = number_stands (chars c.args.word.now) c.digits_number.result (marked c)

pub returns-in-Some-clause-only : goal.returns-in-Some-clause-only
returns-in-Some-clause-only c = number_only (chars c.args.word.now) c.digits_number.result (marked c)

pub returns-in-None-clause-found : goal.returns-in-None-clause-found
returns-in-None-clause-found c = number_stands (chars c.args.word.now) c.digits_number-in-None.result (plain c)

pub returns-in-None-clause-only : goal.returns-in-None-clause-only
returns-in-None-clause-only c = number_only (chars c.args.word.now) c.digits_number-in-None.result (plain c)
