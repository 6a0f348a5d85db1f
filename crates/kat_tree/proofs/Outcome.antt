-- How a reading ends, in the grammar's words and in the machine's.
use Rattle.std.proofs.Common.{◌≡◌, ◌≢◌, ℕ, ◌+◌, ◌≤◌, false, eqb, ltb, inl, inr, ⊎_elim, List, [], ◌∷◌, ◌++◌, length, Option, Some, None, Result, Ok, Err, sym, ap, ◌∙◌, refl, arith}
use Rattle.std.specs.Char.{len_utf8}
use Rattle.std.proofs.lemmas.Bool.{cond-true, cond-false, ne_eqb, le-ltb, cases_Bool}
use Rattle.unicode_ident.specs.Ident.{is_xid_continue}
use Rattle.kat_tree.specs.declared.error.TreeError.{TreeError}
use Rattle.kat_tree.specs.declared.error.TreeError.TheVariants.{NotText, Unclosed, Stray, BadToken, Deep, Memory}
use Rattle.kat_tree.specs.declared.tree.Token.{Token}
use Rattle.kat_tree.specs.declared.tree.Tree.{Tree}
use Rattle.kat_tree.specs.declared.progress.Progress.{Progress}
use Rattle.kat_tree.specs.declared.progress.Progress.TheVariants.{Open, Whole}
use Rattle.kat_tree.specs.Character.{is_blank, begins_word}
use Rattle.kat_tree.specs.Lexeme.{Lexeme, lexemes_of}
use Rattle.kat_tree.specs.Spelling.{Lexes, IsWord, EndsWord, SpellsToken}
use Rattle.kat_tree.specs.Faults.{BeginsWith, BeginsMore, BeginsNothing, BeginsNoToken, size, Front, ReadsAs}
use Rattle.kat_tree.specs.Machine.{◌>>=◌, with_token, word_token, marked, run, start}
use Rattle.kat_tree.proofs.Goes.{goes, goes_count, finished_whole, unfinished_open}
use Rattle.kat_tree.proofs.ReadsOn.{run-cons, run-nil}
use Rattle.kat_tree.proofs.Words.{word_token_is}
use Rattle.kat_tree.proofs.Lexing.{between, in_word, begun-word, begun-mark, lexes_run, word_read, opening_read, closing_read}

-- what stands at an offset ends the reading, with the tree or with a fault
abbrev pub EndsAs : Progress → List ℕ → ℕ → Result Tree TreeError → Type 0
EndsAs (Whole t) rest at (Ok u) = (rest ≡ []) × (t ≡ u)
EndsAs (Whole t) rest at (Err (Stray n)) = BeginsMore rest × (n ≡ at)
EndsAs (Open lists) rest at (Err (Unclosed n)) = (rest ≡ []) × (n ≡ at)
EndsAs (Open lists) rest at (Err (BadToken n)) = BeginsNoToken rest × (n ≡ at)
EndsAs (Open lists) rest at (Err (Deep n)) = BeginsWith 40 rest × ((64 ≤ length lists) × (n ≡ at))
EndsAs (Open lists) rest at (Err (Stray n)) = BeginsWith 41 rest × ((lists ≡ []) × (n ≡ at))
EndsAs p rest at r = ⊥

-- the tokens at the front, and what stands behind them ends the reading
pub record Reaches (at : ℕ) (p : Progress) (text : List ℕ) (r : Result Tree TreeError) : Type 0 where
  pub lexemes : List Lexeme
  pub rest : List ℕ
  pub end : ℕ
  pub progress : Progress
  pub lexes : Lexes text lexemes rest
  pub goes_there : goes p lexemes ≡ Some progress
  pub offset_is : end + size rest ≡ at + size text
  pub ends : EndsAs progress rest end r

-- behind a whole tree each word is too much
whole_word : (cs : List ℕ) (t : Tree) (at from : ℕ) (w : List ℕ) → run at (in_word from w (Whole t)) cs ≡ Err (Stray from)
whole_word [] t at from w = run-nil at (in_word from w (Whole t))
whole_word (c ∷ cs) t at from w = ⊎_elim
    (λ is. run-cons at (in_word from w (Whole t)) c cs
    ∙ ap (λ r. r >>= λ next. run (at + len_utf8 c) next cs) (cond-true (is_xid_continue c) (Ok (in_word from (w ++ c ∷ []) (Whole t))) (Err (Stray from)) is)
    ∙ whole_word cs t (at + len_utf8 c) from (w ++ c ∷ []))
    (λ is. run-cons at (in_word from w (Whole t)) c cs
    ∙ ap (λ r. r >>= λ next. run (at + len_utf8 c) next cs) (cond-false (is_xid_continue c) (Ok (in_word from (w ++ c ∷ []) (Whole t))) (Err (Stray from)) is))
    (cases_Bool (is_xid_continue c))

marked-Whole : (at c : ℕ) (t : Tree) → marked at (Whole t) c ≡ Err (Stray at)
unfolding marked
marked-Whole at c t = ⊎_elim (λ is. rw is refl) (λ is. rw is (⊎_elim (λ e. rw e refl) (λ e. rw e refl) (cases_Bool (eqb c 41)))) (cases_Bool (eqb c 40))

marked-Open : (at c : ℕ) (lists : List (List Tree)) → c ≢ 40 → c ≢ 41 → marked at (Open lists) c ≡ Err (BadToken at)
unfolding marked
marked-Open at c lists h k =
    let no_opening = ne_eqb c 40 h in
    let no_closing = ne_eqb c 41 k in
    rw (no_opening, no_closing) refl

pub stray_run : (c : ℕ) (cs : List ℕ) (at : ℕ) (t : Tree) → is_blank c ≡ false → c ≢ 59 → run at (between (Whole t)) (c ∷ cs) ≡ Err (Stray at)
stray_run c cs at t no_blank no_comment = ⊎_elim
    (λ is. run-cons at (between (Whole t)) c cs ∙ ap (λ r. r >>= λ next. run (at + len_utf8 c) next cs) (begun-word at (Whole t) c is)
    ∙ whole_word cs t (at + len_utf8 c) at (c ∷ []))
    (λ is. run-cons at (between (Whole t)) c cs ∙ ap (λ r. r >>= λ next. run (at + len_utf8 c) next cs) (begun-mark at (Whole t) c no_blank (ne_eqb c 59 no_comment) is)
    ∙ ap (λ r. (r >>= λ q. Ok (between q)) >>= λ next. run (at + len_utf8 c) next cs) (marked-Whole at c t))
    (cases_Bool (begins_word c))

pub nothing_run : (c : ℕ) (cs : List ℕ) (at : ℕ) (lists : List (List Tree)) → BeginsNothing c → run at (between (Open lists)) (c ∷ cs) ≡ Err (BadToken at)
nothing_run c cs at lists is =
    run-cons at (between (Open lists)) c cs ∙ ap (λ r. r >>= λ next. run (at + len_utf8 c) next cs) (begun-mark at (Open lists) c is.no_blank (ne_eqb c 59 is.no_comment) is.no_word)
    ∙ ap (λ r. (r >>= λ q. Ok (between q)) >>= λ next. run (at + len_utf8 c) next cs) (marked-Open at c lists is.no_opening is.no_closing)

no_token : (w : List ℕ) (r : Option Token) → word_token w ≡ r → IsWord w → ((token : Token) → SpellsToken w token → ⊥) → word_token w ≡ None
no_token w None e is bad = e
no_token w (Some token) e is bad = absurd (bad token (word_token_is w token is e))

bad_word_run : (w behind : List ℕ) (at : ℕ) (lists : List (List Tree)) → IsWord w → EndsWord behind → ((token : Token) → SpellsToken w token → ⊥) → run at (between (Open lists)) (w ++ behind) ≡ Err (BadToken at)
bad_word_run [] behind at lists is ends bad = absurd is
bad_word_run (c ∷ cs) behind at lists is ends bad =
    word_read c cs behind at (Open lists) is ends
    ∙ ap (λ o. with_token at lists o >>= λ q. run (at + size (c ∷ cs)) (between q) behind) (no_token (c ∷ cs) (word_token (c ∷ cs)) refl is bad)

deep_run : (cs : List ℕ) (at : ℕ) (lists : List (List Tree)) → 64 ≤ length lists → run at (between (Open lists)) (40 ∷ cs) ≡ Err (Deep at)
deep_run cs at lists full =
    opening_read cs at (Open lists)
    ∙ ap (λ r. r >>= λ q. run (at + len_utf8 40) (between q) cs) (cond-false (ltb (length lists) 64) (Ok (Open ([] ∷ lists))) (Err (Deep at)) (le-ltb (length lists) 64 full))

-- the machine ends so
pub ends_run : (p : Progress) (rest : List ℕ) (at : ℕ) (r : Result Tree TreeError) → EndsAs p rest at r → run at (between p) rest ≡ r
ends_run (Whole t) rest at (Ok u) ends = ap (run at (between (Whole t))) ends.0 ∙ run-nil at (between (Whole t)) ∙ ap Ok ends.1
ends_run (Whole t) rest at (Err (NotText n)) ends = absurd ends
ends_run (Whole t) rest at (Err (Unclosed n)) ends = absurd ends
ends_run (Whole t) [] at (Err (Stray n)) ends = absurd ends.0
ends_run (Whole t) (c ∷ cs) at (Err (Stray n)) ends = stray_run c cs at t ends.0.0 ends.0.1 ∙ ap (λ m. Err (Stray m)) (sym ends.1)
ends_run (Whole t) rest at (Err (BadToken n)) ends = absurd ends
ends_run (Whole t) rest at (Err (Deep n)) ends = absurd ends
ends_run (Whole t) rest at (Err Memory) ends = absurd ends
ends_run (Open lists) rest at (Ok u) ends = absurd ends
ends_run (Open lists) rest at (Err (NotText n)) ends = absurd ends
ends_run (Open lists) rest at (Err (Unclosed n)) ends =
    ap (run at (between (Open lists))) ends.0 ∙ run-nil at (between (Open lists)) ∙ ap (λ m. Err (Unclosed m)) (sym ends.1)
ends_run (Open lists) [] at (Err (Stray n)) ends = absurd ends.0
ends_run (Open lists) (c ∷ cs) at (Err (Stray n)) ends =
    ap (λ d. run at (between (Open lists)) (d ∷ cs)) ends.0 ∙ ap (λ l. run at (between (Open l)) (41 ∷ cs)) ends.1.0
    ∙ closing_read cs at (Open []) ∙ ap (λ m. Err (Stray m)) (sym ends.1.1)
ends_run (Open lists) [] at (Err (BadToken n)) ends = absurd ends.0
ends_run (Open lists) (c ∷ cs) at (Err (BadToken n)) ends = ⊎_elim
    (λ is. nothing_run c cs at lists is)
    (λ is. ap (run at (between (Open lists))) is.parts ∙ bad_word_run is.word is.behind at lists is.is_word is.ends is.bad)
    ends.0 ∙ ap (λ m. Err (BadToken m)) (sym ends.1)
ends_run (Open lists) [] at (Err (Deep n)) ends = absurd ends.0
ends_run (Open lists) (c ∷ cs) at (Err (Deep n)) ends =
    ap (λ d. run at (between (Open lists)) (d ∷ cs)) ends.0 ∙ deep_run cs at lists ends.1.0 ∙ ap (λ m. Err (Deep m)) (sym ends.1.1)
ends_run (Open lists) rest at (Err Memory) ends = absurd ends

pub reaches_run : (text : List ℕ) (r : Result Tree TreeError) → Reaches 0 (Open []) text r → run 0 start text ≡ r
reaches_run text r is =
    lexes_run text is.lexemes is.rest is.lexes 0 is.end (Open []) is.progress is.goes_there is.offset_is ∙ ends_run is.progress is.rest is.end r is.ends

-- an unfinished front, and what stands behind it
abbrev reached : (text : List ℕ) (offset : ℕ) (lexemes : List Lexeme) (rest : List ℕ) (p : Progress) (r : Result Tree TreeError) → Front text offset lexemes rest → goes (Open []) lexemes ≡ Some p → EndsAs p rest offset r → Reaches 0 (Open []) text r
reached text offset lexemes rest p r front there ends = record {
  lexemes = lexemes;
  rest = rest;
  end = offset;
  progress = p;
  lexes = front.lexes;
  goes_there = there;
  offset_is = let o = front.offset_is in omega arith;
  ends = ends;
}

-- what the grammar says of a reading's end, as the machine comes to it
pub reads_reaches : (text : List ℕ) (r : Result Tree TreeError) → ReadsAs text r → Reaches 0 (Open []) text r
reads_reaches text (Ok t) reads =
    reached text (size text) (lexemes_of t) [] (Whole t) (Ok t) (record { lexes = reads.0; offset_is = omega arith })
    (finished_whole (lexemes_of t) (record { tree = t; whole = refl; shallow = reads.1 })) (refl, refl)
reads_reaches text (Err (NotText n)) reads = absurd reads
reads_reaches text (Err (Unclosed n)) reads =
    let opens = unfinished_open reads.lexemes reads.unfinished in
    reached text n reads.lexemes [] (Open opens.0) (Err (Unclosed n)) reads.front opens.1 (refl, refl)
reads_reaches text (Err (Stray n)) (inl reads) =
    reached text n [] reads.rest (Open []) (Err (Stray n)) reads.front refl (reads.closes, (refl, refl))
reads_reaches text (Err (Stray n)) (inr reads) =
    reached text n reads.lexemes reads.rest (Whole reads.finished.tree) (Err (Stray n)) reads.front (finished_whole reads.lexemes reads.finished) (reads.more, refl)
reads_reaches text (Err (BadToken n)) reads =
    let opens = unfinished_open reads.lexemes reads.unfinished in
    reached text n reads.lexemes reads.rest (Open opens.0) (Err (BadToken n)) reads.front opens.1 (reads.bad, refl)
reads_reaches text (Err (Deep n)) reads =
    let opens = unfinished_open reads.lexemes reads.unfinished in
    let count = goes_count reads.lexemes (Open []) (Open opens.0) opens.1 in
    let full = reads.full in
    let most : 64 ≤ length opens.0 = omega arith in
    reached text n reads.lexemes reads.rest (Open opens.0) (Err (Deep n)) reads.front opens.1 (reads.opens, (most, refl))
reads_reaches text (Err Memory) reads = absurd reads

-- the characters read as the machine says
pub reads_run : (text : List ℕ) (r : Result Tree TreeError) → ReadsAs text r → run 0 start text ≡ r
reads_run text r reads = reaches_run text r (reads_reaches text r reads)
