-- The reader as a machine over characters.
use Rattle.std.specs.Prelude.{◌≡◌, ℕ, ◌+◌, List, [], ◌∷◌, ◌++◌, length, Option, Some, None, Result, Ok, Err, nat_lt, ◌==◌, if◌then◌else◌, encode_utf8_all}
use Rattle.std.specs.Char.{len_utf8, is_ascii_digit}
use Rattle.unicode_ident.specs.Ident.{is_xid_continue}
use Rattle.kat_tree.specs.declared.error.TreeError.{TreeError}
use Rattle.kat_tree.specs.declared.error.TreeError.TheVariants.{Unclosed, Stray, BadToken, Deep, Memory}
use Rattle.kat_tree.specs.declared.tree.Token.{Token}
use Rattle.kat_tree.specs.declared.tree.Token.TheVariants.{Number, Name}
use Rattle.kat_tree.specs.declared.tree.Tree.{Tree}
use Rattle.kat_tree.specs.declared.tree.Tree.TheVariants as tree
use Rattle.kat_tree.specs.declared.progress.Progress.{Progress}
use Rattle.kat_tree.specs.declared.progress.Progress.TheVariants.{Open, Whole}
use Rattle.kat_tree.specs.declared.reader.Mode.{Mode}
use Rattle.kat_tree.specs.declared.reader.Mode.TheVariants.{Between, Comment, Word}
use Rattle.kat_tree.specs.declared.reader.Reader.{Reader}
use Rattle.kat_tree.specs.Character.{is_blank, begins_word}
use Rattle.kat_tree.specs.Lexeme.{most_open}
use Rattle.kat_tree.specs.Number.{word_number}

-- goes on from what was read
infixl 10 ◌>>=◌
abbrev pub ◌>>=◌ :
    {A B : Type 0} → Result A TreeError → (A → Result B TreeError) → Result B TreeError
(Ok x) >>= f = f x
(Err e) >>= f = Err e

-- an error other than want of memory is the one that is owed
abbrev pub Fails : {A : Type 0} → TreeError → Result A TreeError → Type 0
Fails Memory owed = Unit {0}
Fails e owed = owed ≡ Err e

-- what a function returned is what is owed, unless memory ran out
abbrev pub Gives : {A : Type 0} → Result A TreeError → Result A TreeError → Type 0
Gives (Ok x) owed = owed ≡ Ok x
Gives (Err e) owed = Fails e owed

-- a tree has ended among the open lists, the innermost first
abbrev pub with_tree : Tree → List (List Tree) → Progress
with_tree t [] = Whole t
with_tree t (list ∷ outer) = Open ((list ++ t ∷ []) ∷ outer)

-- a `(`, of which no more may be open than that many
abbrev pub opened : ℕ → Progress → Result Progress TreeError
opened at (Whole t) = Err (Stray at)
opened at (Open lists) =
    if nat_lt (length lists) most_open then Ok (Open ([] ∷ lists)) else Err (Deep at)

-- a `)`
abbrev pub closed : ℕ → Progress → Result Progress TreeError
closed at (Whole t) = Err (Stray at)
closed at (Open []) = Err (Stray at)
closed at (Open (list ∷ outer)) = Ok (with_tree (tree.List list) outer)

-- the number of a word
abbrev pub number_token : Option ℕ → Option Token
number_token None = None
number_token (Some n) = Some (Number n)

-- the token that a whole word spells
unfoldable pub word_token : List ℕ → Option Token
word_token [] = Some (Name [])
word_token (c ∷ cs) =
    if is_ascii_digit c then number_token (word_number (c ∷ cs))
    else Some (Name (encode_utf8_all (c ∷ cs)))

-- a word's token is there, or the word is none
abbrev pub with_token : ℕ → List (List Tree) → Option Token → Result Progress TreeError
with_token at lists None = Err (BadToken at)
with_token at lists (Some token) = Ok (with_tree (tree.Atom token) lists)

-- a word that began at an offset
abbrev pub with_word : ℕ → List ℕ → Progress → Result Progress TreeError
with_word at word (Whole t) = Err (Stray at)
with_word at word (Open lists) = with_token at lists (word_token word)

-- the text's end
abbrev pub finished : ℕ → Progress → Result Tree TreeError
finished at (Whole t) = Ok t
finished at (Open lists) = Err (Unclosed at)

-- a character that begins nothing
abbrev pub refused : ℕ → Progress → Result Progress TreeError
refused at (Whole t) = Err (Stray at)
refused at (Open lists) = Err (BadToken at)

-- a bracket, or a character that begins nothing
unfoldable pub marked : ℕ → Progress → ℕ → Result Progress TreeError
marked at progress c =
    if c == 40 then opened at progress
    else (if c == 41 then closed at progress else refused at progress)

-- a character that belongs to nothing before it
unfoldable pub begun : ℕ → Progress → ℕ → Result Reader TreeError
begun at progress c =
    if is_blank c then Ok (record { mode = Between; progress = progress })
    else (if c == 59 then Ok (record { mode = Comment; progress = progress })
    else (if begins_word c then Ok (record { mode = Word at (c ∷ []); progress = progress })
    else (marked at progress c >>= λ p. Ok (record { mode = Between; progress = p }))))

-- one character more, by what it may belong to
abbrev pub stepped_in : ℕ → Mode → Progress → ℕ → Result Reader TreeError
stepped_in at Between progress c = begun at progress c
stepped_in at Comment progress c =
    Ok (record { mode = (if c == 10 then Between else Comment); progress = progress })
stepped_in at (Word from word) progress c =
    if is_xid_continue c
    then Ok (record { mode = Word from (word ++ c ∷ []); progress = progress })
    else (with_word from word progress >>= λ p. begun at p c)

-- one character more
abbrev pub stepped : ℕ → Reader → ℕ → Result Reader TreeError
stepped at reader c = stepped_in at reader.mode reader.progress c

-- the text's end, by what it may end
abbrev pub ended_in : ℕ → Mode → Progress → Result Tree TreeError
ended_in at Between progress = finished at progress
ended_in at Comment progress = finished at progress
ended_in at (Word from word) progress = with_word from word progress >>= λ p. finished at p

-- the text's end
abbrev pub ended : ℕ → Reader → Result Tree TreeError
ended at reader = ended_in at reader.mode reader.progress

-- before the first character
abbrev pub start : Reader
start = record { mode = Between; progress = Open [] }

-- the characters that are left, from an offset on
unfoldable pub run : ℕ → Reader → List ℕ → Result Tree TreeError
run at reader [] = ended at reader
run at reader (c ∷ cs) = stepped at reader c >>= λ next. run (at + len_utf8 c) next cs
