use Rattle.std.proofs.Common.{◌∙◌, sym, subst}
use Rattle.std.specs.Str.{IsUtf8}
use Rattle.kat_image.proofs.WordLemmas.{word_found, word_none}
use Rattle.kat_image.proofs.unread.Unread.word.Goals as goal

pub returns-in-Ok : goal.returns-in-Ok
returns-in-Ok c =
    word_found c.args.self.now.rest.now c.in-Ok.word.now c.split_at.result.1.now c.memchr2.result c.unwrap_or-end.result c.memchr2.ensures c.unwrap_or-end.ensures (c.in-Ok.ensures.cases.0 ∙ c.split_at.ensures.front) c.split_at.ensures.back
    (subst IsUtf8 (sym c.in-Ok.ensures.cases.0) c.in-Ok.ensures.cases.1)

pub returns-in-Err : goal.returns-in-Err
returns-in-Err c =
    word_none c.args.self.now.rest.now c.split_at.result.0.now c.memchr2.result c.unwrap_or-end.result c.memchr2.ensures c.unwrap_or-end.ensures c.split_at.ensures.front c.in-Err.ensures.cases.0
