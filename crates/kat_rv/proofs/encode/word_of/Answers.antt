use Rattle.std.proofs.Common.{◌∙◌, ap}
use Rattle.kat_rv.specs.Decoding.{instr_of}
use Rattle.kat_rv.specs.Parts.{joined}
use Rattle.kat_rv.proofs.Decoded.{instr_of-word_of}
use Rattle.kat_rv.proofs.encode.word_of.Goals as goal

pub returns-clause-back : goal.returns-clause-back
returns-clause-back c =
    ap instr_of (c.joined.ensures ∙ ap joined c.parts_of_instr.ensures.parts)
    ∙ instr_of-word_of c.args.instr.now c.parts_of_instr.ensures.numbers
