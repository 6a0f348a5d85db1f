use Rattle.std.proofs.Common.{◌∙◌, ◌≡◌, ap, sym, subst, arith, Option, IfSome}
use Rattle.kat_rv.specs.declared.instr.Instr.{Instr}
use Rattle.kat_rv.specs.Decoding.{instr_in, instr_of}
use Rattle.kat_rv.specs.Encoding.{word_of}
use Rattle.kat_rv.proofs.Encoded.{word_of-instr_of}
use Rattle.kat_rv.proofs.decode.decode_word.Goals as goal

pub returns-clause-back : goal.returns-clause-back
returns-clause-back c =
    let word = c.args.word in
    let is : instr_of word ≡ c.instr_in.result =
    ap (instr_in word) (sym c.of.ensures.parts) ∙ sym c.instr_in.ensures in
    subst (λ (o : Option Instr). IfSome o (λ i. word_of i ≡ word)) is
    (word_of-instr_of word (omega arith))
