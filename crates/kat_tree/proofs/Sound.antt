-- Whatever the machine answers is so by the grammar.
use Rattle.std.proofs.Common.{◌≡◌, ◌≢◌, ℕ, ◌+◌, true, false, eqb, ltb, inl, inr, ⊎_elim, List, [], ◌∷◌, ◌++◌, length, Option, Some, None, Result, Ok, Err, sym, ap, ◌∙◌, subst, refl, arith, append_assoc, append-nil}
use Rattle.std.specs.Char.{len_utf8}
use Rattle.std.specs.List.{AllByRecursion}
use Rattle.std.proofs.lemmas.Bool.{cond-true, cond-false, ltb-false, cases_Bool, eqb-true, eqb-false}
use Rattle.unicode_ident.specs.Ident.{is_xid_continue}
use Rattle.kat_tree.specs.declared.error.TreeError.{TreeError}
use Rattle.kat_tree.specs.declared.error.TreeError.TheVariants.{Stray, BadToken, Deep}
use Rattle.kat_tree.specs.declared.tree.Token.{Token}
use Rattle.kat_tree.specs.declared.tree.Tree.{Tree}
use Rattle.kat_tree.specs.declared.tree.Tree.TheVariants as tree
use Rattle.kat_tree.specs.declared.progress.Progress.{Progress}
use Rattle.kat_tree.specs.declared.progress.Progress.TheVariants.{Open, Whole}
use Rattle.kat_tree.specs.Character.{is_blank, begins_word}
use Rattle.kat_tree.specs.Lexeme.{Lexeme, Opening, Closing, Leaf}
use Rattle.kat_tree.specs.Spelling.{Lexes, nothing, blank, comment, opening, closing, word, IsWord, EndsWord, EndsComment, SpellsToken}
use Rattle.kat_tree.specs.Faults.{BeginsNothing, size}
use Rattle.kat_tree.specs.Machine.{◌>>=◌, opened, closed, with_tree, with_token, with_word, word_token, finished, begun, run}
use Rattle.kat_tree.proofs.Goes.{taken, goes, none_some}
use Rattle.kat_tree.proofs.ReadsOn.{run-cons, run-nil}
use Rattle.kat_tree.proofs.Words.{word_token_is, word_token_from, begins_word-not_blank, begins_word-not_semicolon}
use Rattle.std.specs.Option.{option_and_then}
use Rattle.kat_tree.proofs.Lexing.{size-cons, size-append, between, in_comment, in_word, begun-comment, begun-word, comment_step, comment_ends, word_ends, blank_read, opening_read, closing_read}
use Rattle.kat_tree.proofs.Outcome.{EndsAs, Reaches, stray_run, nothing_run}

-- inside a comment
pub record CommentReads (at : ℕ) (p : Progress) (text : List ℕ) (r : Result Tree TreeError) : Type 0 where
  pub words : List ℕ
  pub more : List ℕ
  pub here : ℕ
  pub parts : text ≡ words ++ more
  pub here_is : here ≡ at + size words
  pub all : AllByRecursion (λ c. c ≢ 10) words
  pub ends : EndsComment more
  pub reaches : Reaches here p more r

-- what a word did to the tree's progress, and how the reading then ends
abbrev pub Then : Result Progress TreeError → ℕ → List ℕ → Result Tree TreeError → Type 0
Then (Ok q) here more r = Reaches here q more r
Then (Err e) here more r = r ≡ Err e

-- inside a word
pub record WordReads (from : ℕ) (w : List ℕ) (at : ℕ) (p : Progress) (text : List ℕ) (r : Result Tree TreeError) : Type 0 where
  pub cs : List ℕ
  pub more : List ℕ
  pub here : ℕ
  pub whole : List ℕ
  pub parts : text ≡ cs ++ more
  pub here_is : here ≡ at + size cs
  pub whole_is : whole ≡ w ++ cs
  pub all : AllByRecursion (λ d. is_xid_continue d ≡ true) cs
  pub ends : EndsWord more
  pub then_reads : Then (with_word from whole p) here more r

-- the reading from each of the machine's states
pub record Readings (at : ℕ) (text : List ℕ) : Type 0 where
  pub plain : (p : Progress) → Reaches at p text (run at (between p) text)
  pub remark : (p : Progress) → CommentReads at p text (run at (in_comment p) text)
  pub token : (from : ℕ) (w : List ℕ) (p : Progress) → WordReads from w at p text (run at (in_word from w p) text)

-- here the reading ends
ends_here : (at : ℕ) (p : Progress) (text : List ℕ) (r : Result Tree TreeError) → EndsAs p text at r → Reaches at p text r
ends_here at p text r ends = record {
  lexemes = [];
  rest = text;
  end = at;
  progress = p;
  lexes = nothing text;
  goes_there = refl;
  offset_is = refl;
  ends = ends;
}

then_from : (s : Result Progress TreeError) (here : ℕ) (more : List ℕ) → ((q : Progress) → Reaches here q more (run here (between q) more)) → Then s here more (s >>= λ q. run here (between q) more)
then_from (Ok q) here more reads = reads q
then_from (Err e) here more reads = refl

comment_at_end : (at : ℕ) (p : Progress) (text : List ℕ) → EndsComment text → Reaches at p text (run at (between p) text) → CommentReads at p text (run at (in_comment p) text)
comment_at_end at p text ends reads = record {
  words = [];
  more = text;
  here = at;
  parts = refl;
  here_is = omega arith;
  all = tt;
  ends = ends;
  reaches = subst (Reaches at p text) (sym (comment_ends text at p ends)) reads;
}

word_at_end : (from : ℕ) (w : List ℕ) (at : ℕ) (p : Progress) (text : List ℕ) → EndsWord text → ((q : Progress) → Reaches at q text (run at (between q) text)) → WordReads from w at p text (run at (in_word from w p) text)
word_at_end from w at p text ends reads = record {
  cs = [];
  more = text;
  here = at;
  whole = w;
  parts = refl;
  here_is = omega arith;
  whole_is = sym (append-nil w);
  all = tt;
  ends = ends;
  then_reads = subst (Then (with_word from w p) at text) (sym (word_ends text at from w p ends)) (then_from (with_word from w p) at text reads);
}

-- the text's end
nothing_left : (at : ℕ) (p : Progress) → EndsAs p [] at (finished at p)
nothing_left at (Whole t) = (refl, refl)
nothing_left at (Open lists) = (refl, refl)

at_end : (at : ℕ) (p : Progress) → Reaches at p [] (run at (between p) [])
at_end at p = subst (Reaches at p []) (sym (run-nil at (between p))) (ends_here at p [] (finished at p) (nothing_left at p))

-- a blank before
with_blank : (at : ℕ) (p : Progress) (c : ℕ) (cs : List ℕ) (r : Result Tree TreeError) → is_blank c ≡ true → Reaches (at + len_utf8 c) p cs r → Reaches at p (c ∷ cs) r
with_blank at p c cs r is reads = record {
  lexemes = reads.lexemes;
  rest = reads.rest;
  end = reads.end;
  progress = reads.progress;
  lexes = blank c cs reads.lexemes reads.rest is reads.lexes;
  goes_there = reads.goes_there;
  offset_is = let o = reads.offset_is in let n = size-cons c cs in omega arith;
  ends = reads.ends;
}

-- a comment before
with_comment : (at : ℕ) (p : Progress) (cs : List ℕ) (r : Result Tree TreeError) → CommentReads (at + len_utf8 59) p cs r → Reaches at p (59 ∷ cs) r
with_comment at p cs r is =
    let reads = is.reaches in
    record {
      lexemes = reads.lexemes;
      rest = reads.rest;
      end = reads.end;
      progress = reads.progress;
      lexes = subst (λ text. Lexes (59 ∷ text) reads.lexemes reads.rest) (sym is.parts) (comment is.words is.more reads.lexemes reads.rest is.all is.ends reads.lexes);
      goes_there = reads.goes_there;
      offset_is =
          let o = reads.offset_is in let n = size-cons 59 cs in let m = size-append is.words is.more in let here = is.here_is in
          let k = ap size is.parts in omega arith;
      ends = reads.ends;
    }

-- a token before
after_token : (x : Lexeme) (xs : List Lexeme) (p q end : Progress) → taken p x ≡ Some q → goes q xs ≡ Some end → goes p (x ∷ xs) ≡ Some end
after_token x xs p q end step rest = ap (option_and_then (λ s. goes s xs)) step ∙ rest

with_opening : (at : ℕ) (p q : Progress) (cs : List ℕ) (r : Result Tree TreeError) → taken p Opening ≡ Some q → Reaches (at + len_utf8 40) q cs r → Reaches at p (40 ∷ cs) r
with_opening at p q cs r step reads = record {
  lexemes = Opening ∷ reads.lexemes;
  rest = reads.rest;
  end = reads.end;
  progress = reads.progress;
  lexes = opening cs reads.lexemes reads.rest reads.lexes;
  goes_there = after_token Opening reads.lexemes p q reads.progress step reads.goes_there;
  offset_is = let o = reads.offset_is in let n = size-cons 40 cs in omega arith;
  ends = reads.ends;
}

with_closing : (at : ℕ) (p q : Progress) (cs : List ℕ) (r : Result Tree TreeError) → taken p Closing ≡ Some q → Reaches (at + len_utf8 41) q cs r → Reaches at p (41 ∷ cs) r
with_closing at p q cs r step reads = record {
  lexemes = Closing ∷ reads.lexemes;
  rest = reads.rest;
  end = reads.end;
  progress = reads.progress;
  lexes = closing cs reads.lexemes reads.rest reads.lexes;
  goes_there = after_token Closing reads.lexemes p q reads.progress step reads.goes_there;
  offset_is = let o = reads.offset_is in let n = size-cons 41 cs in omega arith;
  ends = reads.ends;
}

with_leaf : (at here : ℕ) (p q : Progress) (w more : List ℕ) (token : Token) (r : Result Tree TreeError) → IsWord w → EndsWord more → SpellsToken w token → here ≡ at + size w → taken p (Leaf token) ≡ Some q → Reaches here q more r → Reaches at p (w ++ more) r
with_leaf at here p q w more token r is ends stands here_is step reads = record {
  lexemes = Leaf token ∷ reads.lexemes;
  rest = reads.rest;
  end = reads.end;
  progress = reads.progress;
  lexes = word w more token reads.lexemes reads.rest is stands ends reads.lexes;
  goes_there = after_token (Leaf token) reads.lexemes p q reads.progress step reads.goes_there;
  offset_is = let o = reads.offset_is in let n = size-append w more in omega arith;
  ends = reads.ends;
}

-- a whole word, by what it stands for
word_stands : (at here : ℕ) (lists : List (List Tree)) (w more : List ℕ) (r : Result Tree TreeError) → IsWord w → EndsWord more → here ≡ at + size w → (o : Option Token) → word_token w ≡ o → Then (with_token at lists o) here more r → Reaches at (Open lists) (w ++ more) r
word_stands at here lists [] more r is ends here_is o e reads = absurd is
word_stands at here lists (c ∷ cs) more r is ends here_is None e reads =
    subst (Reaches at (Open lists) ((c ∷ cs) ++ more)) (sym reads)
    (ends_here at (Open lists) ((c ∷ cs) ++ more) (Err (BadToken at)) (
      inr (record {
        word = c ∷ cs;
        behind = more;
        parts = refl;
        is_word = is;
        ends = ends;
        bad = λ token stands. none_some token (sym e ∙ word_token_from (c ∷ cs) token is stands);
      }),
      refl,
    ))
word_stands at here lists (c ∷ cs) more r is ends here_is (Some token) e reads =
    with_leaf at here (Open lists) (with_tree (tree.Atom token) lists) (c ∷ cs) more token r is ends (word_token_is (c ∷ cs) token is e) here_is refl reads

semicolon_not : (c : ℕ) → begins_word c ≡ true → c ≢ 59
semicolon_not c is = eqb-false c 59 (begins_word-not_semicolon c is)

with_word_before : (at : ℕ) (p : Progress) (c : ℕ) (cs : List ℕ) (r : Result Tree TreeError) → begins_word c ≡ true → WordReads at (c ∷ []) (at + len_utf8 c) p cs r → Reaches at p (c ∷ cs) r
with_word_before at (Whole t) c cs r is reads =
    subst (Reaches at (Whole t) (c ∷ cs)) (sym reads.then_reads)
    (ends_here at (Whole t) (c ∷ cs) (Err (Stray at)) ((begins_word-not_blank c is, semicolon_not c is), refl))
with_word_before at (Open lists) c cs r is reads =
    let n = size-cons c reads.cs in
    let here = reads.here_is in
    let stands = subst (λ w. Then (with_word at w (Open lists)) reads.here reads.more r) reads.whole_is reads.then_reads in
    subst (λ text. Reaches at (Open lists) (c ∷ text) r) (sym reads.parts)
    (word_stands at reads.here lists (c ∷ reads.cs) reads.more r (is, reads.all) reads.ends (omega arith) (word_token (c ∷ reads.cs)) refl stands)

-- brackets
opening_reads : (at : ℕ) (p : Progress) (cs : List ℕ) → ((q : Progress) → Reaches (at + len_utf8 40) q cs (run (at + len_utf8 40) (between q) cs)) → Reaches at p (40 ∷ cs) (opened at p >>= λ q. run (at + len_utf8 40) (between q) cs)
opening_reads at (Whole t) cs reads = ends_here at (Whole t) (40 ∷ cs) (Err (Stray at)) ((refl, eqb-false 40 59 refl), refl)
opening_reads at (Open lists) cs reads = ⊎_elim
    (λ is. subst (Reaches at (Open lists) (40 ∷ cs)) (sym (ap (λ s. s >>= λ q. run (at + len_utf8 40) (between q) cs) (cond-true (ltb (length lists) 64) (Ok (Open ([] ∷ lists))) (Err (Deep at)) is)))
    (with_opening at (Open lists) (Open ([] ∷ lists)) cs (run (at + len_utf8 40) (between (Open ([] ∷ lists))) cs) (cond-true (ltb (length lists) 64) (Some (Open ([] ∷ lists))) None is) (reads (Open ([] ∷ lists)))))
    (λ is. subst (Reaches at (Open lists) (40 ∷ cs)) (sym (ap (λ s. s >>= λ q. run (at + len_utf8 40) (between q) cs) (cond-false (ltb (length lists) 64) (Ok (Open ([] ∷ lists))) (Err (Deep at)) is)))
    (ends_here at (Open lists) (40 ∷ cs) (Err (Deep at)) (refl, (ltb-false (length lists) 64 is, refl))))
    (cases_Bool (ltb (length lists) 64))

closing_reads : (at : ℕ) (p : Progress) (cs : List ℕ) → ((q : Progress) → Reaches (at + len_utf8 41) q cs (run (at + len_utf8 41) (between q) cs)) → Reaches at p (41 ∷ cs) (closed at p >>= λ q. run (at + len_utf8 41) (between q) cs)
closing_reads at (Whole t) cs reads = ends_here at (Whole t) (41 ∷ cs) (Err (Stray at)) ((refl, eqb-false 41 59 refl), refl)
closing_reads at (Open []) cs reads = ends_here at (Open []) (41 ∷ cs) (Err (Stray at)) (refl, (refl, refl))
closing_reads at (Open (list ∷ outer)) cs reads =
    let q = with_tree (tree.List list) outer in
    with_closing at (Open (list ∷ outer)) q cs (run (at + len_utf8 41) (between q) cs) refl (reads q)

-- a character that begins nothing
refused_reads : (at : ℕ) (p : Progress) (c : ℕ) (cs : List ℕ) → is_blank c ≡ false → c ≢ 59 → begins_word c ≡ false → c ≢ 40 → c ≢ 41 → Reaches at p (c ∷ cs) (run at (between p) (c ∷ cs))
refused_reads at (Whole t) c cs no_blank no_comment no_word no_opening no_closing =
    subst (Reaches at (Whole t) (c ∷ cs)) (sym (stray_run c cs at t no_blank no_comment)) (ends_here at (Whole t) (c ∷ cs) (Err (Stray at)) ((no_blank, no_comment), refl))
refused_reads at (Open lists) c cs no_blank no_comment no_word no_opening no_closing =
    let nothing_begins : BeginsNothing c = record { no_blank = no_blank; no_comment = no_comment; no_opening = no_opening; no_closing = no_closing; no_word = no_word } in
    subst (Reaches at (Open lists) (c ∷ cs)) (sym (nothing_run c cs at lists nothing_begins)) (ends_here at (Open lists) (c ∷ cs) (Err (BadToken at)) (inl nothing_begins, refl))

abbrev ReadsAt : ℕ → List ℕ → Progress → ℕ → Type 0
ReadsAt at cs p c = Readings (at + len_utf8 c) cs → Reaches at p (c ∷ cs) (run at (between p) (c ∷ cs))

comment_begins : (cs : List ℕ) (at : ℕ) (p : Progress) → run at (between p) (59 ∷ cs) ≡ run (at + len_utf8 59) (in_comment p) cs
comment_begins cs at p = run-cons at (between p) 59 cs ∙ ap (λ r. r >>= λ next. run (at + len_utf8 59) next cs) (begun-comment at p)

comment_class : (at : ℕ) (cs : List ℕ) (p : Progress) → ReadsAt at cs p 59
comment_class at cs p more = subst (Reaches at p (59 ∷ cs)) (sym (comment_begins cs at p)) (with_comment at p cs (run (at + len_utf8 59) (in_comment p) cs) (more.remark p))

word_begins : (c : ℕ) (cs : List ℕ) (at : ℕ) (p : Progress) → begins_word c ≡ true → run at (between p) (c ∷ cs) ≡ run (at + len_utf8 c) (in_word at (c ∷ []) p) cs
word_begins c cs at p is = run-cons at (between p) c cs ∙ ap (λ r. r >>= λ next. run (at + len_utf8 c) next cs) (begun-word at p c is)

-- one character, by its class
by_class : (at : ℕ) (c : ℕ) (cs : List ℕ) → Readings (at + len_utf8 c) cs → (p : Progress) → Reaches at p (c ∷ cs) (run at (between p) (c ∷ cs))
by_class at c cs more p = ⊎_elim
    (λ is. subst (Reaches at p (c ∷ cs)) (sym (blank_read c cs at p is)) (with_blank at p c cs (run (at + len_utf8 c) (between p) cs) is (more.plain p)))
    (λ no_blank. ⊎_elim
    (λ is. subst (ReadsAt at cs p) (sym (eqb-true c 59 is)) (comment_class at cs p) more)
    (λ no_comment. ⊎_elim
    (λ is. subst (Reaches at p (c ∷ cs)) (sym (word_begins c cs at p is)) (with_word_before at p c cs (run (at + len_utf8 c) (in_word at (c ∷ []) p) cs) is (more.token at (c ∷ []) p)))
    (λ no_word. ⊎_elim
    (λ is. subst (ReadsAt at cs p) (sym (eqb-true c 40 is)) (λ m. subst (Reaches at p (40 ∷ cs)) (sym (opening_read cs at p)) (opening_reads at p cs m.plain)) more)
    (λ no_opening. ⊎_elim
    (λ is. subst (ReadsAt at cs p) (sym (eqb-true c 41 is)) (λ m. subst (Reaches at p (41 ∷ cs)) (sym (closing_read cs at p)) (closing_reads at p cs m.plain)) more)
    (λ no_closing. refused_reads at p c cs no_blank (eqb-false c 59 no_comment) no_word (eqb-false c 40 no_opening) (eqb-false c 41 no_closing))
    (cases_Bool (eqb c 41)))
    (cases_Bool (eqb c 40)))
    (cases_Bool (begins_word c)))
    (cases_Bool (eqb c 59)))
    (cases_Bool (is_blank c))

comment_more : (at : ℕ) (p : Progress) (c : ℕ) (cs : List ℕ) (r : Result Tree TreeError) → c ≢ 10 → CommentReads (at + len_utf8 c) p cs r → CommentReads at p (c ∷ cs) r
comment_more at p c cs r other reads = record {
  words = c ∷ reads.words;
  more = reads.more;
  here = reads.here;
  parts = ap (λ text. c ∷ text) reads.parts;
  here_is = let n = size-cons c reads.words in let here = reads.here_is in omega arith;
  all = (other, reads.all);
  ends = reads.ends;
  reaches = reads.reaches;
}

in_comment_reads : (at : ℕ) (c : ℕ) (cs : List ℕ) → Readings (at + len_utf8 c) cs → ((p : Progress) → Reaches at p (c ∷ cs) (run at (between p) (c ∷ cs))) → (p : Progress) → CommentReads at p (c ∷ cs) (run at (in_comment p) (c ∷ cs))
in_comment_reads at c cs more plain p = ⊎_elim
    (λ is. comment_at_end at p (c ∷ cs) (eqb-true c 10 is) (plain p))
    (λ other. subst (CommentReads at p (c ∷ cs))
    (sym (run-cons at (in_comment p) c cs ∙ ap (λ r. r >>= λ next. run (at + len_utf8 c) next cs) (comment_step at p c (eqb-false c 10 other))))
    (comment_more at p c cs (run (at + len_utf8 c) (in_comment p) cs) (eqb-false c 10 other) (more.remark p)))
    (cases_Bool (eqb c 10))

word_more : (from : ℕ) (w : List ℕ) (at : ℕ) (p : Progress) (c : ℕ) (cs : List ℕ) (r : Result Tree TreeError) → is_xid_continue c ≡ true → WordReads from (w ++ c ∷ []) (at + len_utf8 c) p cs r → WordReads from w at p (c ∷ cs) r
word_more from w at p c cs r is reads = record {
  cs = c ∷ reads.cs;
  more = reads.more;
  here = reads.here;
  whole = reads.whole;
  parts = ap (λ text. c ∷ text) reads.parts;
  here_is = let n = size-cons c reads.cs in let here = reads.here_is in omega arith;
  whole_is = reads.whole_is ∙ append_assoc w (c ∷ []) reads.cs;
  all = (is, reads.all);
  ends = reads.ends;
  then_reads = reads.then_reads;
}

in_word_reads : (at : ℕ) (c : ℕ) (cs : List ℕ) → Readings (at + len_utf8 c) cs → ((p : Progress) → Reaches at p (c ∷ cs) (run at (between p) (c ∷ cs))) → (from : ℕ) (w : List ℕ) (p : Progress) → WordReads from w at p (c ∷ cs) (run at (in_word from w p) (c ∷ cs))
in_word_reads at c cs more plain from w p = ⊎_elim
    (λ is. subst (WordReads from w at p (c ∷ cs))
    (sym (run-cons at (in_word from w p) c cs ∙ ap (λ r. r >>= λ next. run (at + len_utf8 c) next cs) (cond-true (is_xid_continue c) (Ok (in_word from (w ++ c ∷ []) p)) (with_word from w p >>= λ q. begun at q c) is)))
    (word_more from w at p c cs (run (at + len_utf8 c) (in_word from (w ++ c ∷ []) p) cs) is (more.token from (w ++ c ∷ []) p)))
    (λ is. word_at_end from w at p (c ∷ cs) is plain)
    (cases_Bool (is_xid_continue c))

pub readings : (text : List ℕ) (at : ℕ) → Readings at text
readings [] at = record {
  plain = λ p. at_end at p;
  remark = λ p. comment_at_end at p [] tt (at_end at p);
  token = λ from w p. word_at_end from w at p [] tt (λ q. at_end at q);
}
readings (c ∷ cs) at =
    let more = readings cs (at + len_utf8 c) in
    let plain : (p : Progress) → Reaches at p (c ∷ cs) (run at (between p) (c ∷ cs)) = by_class at c cs more in
    record { plain = plain; remark = in_comment_reads at c cs more plain; token = in_word_reads at c cs more plain }
