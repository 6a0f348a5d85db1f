-- The faults that are said, each in one line.
use Rattle.std.specs.Prelude.{ℕ, List, [], ◌∷◌, ◌++◌, codes}
use Rattle.std.specs.Fmt.{decimal}
use Rattle.kat_ast.specs.declared.place.Place.{Place}
use Rattle.kat_shapes.specs.declared.wanted.Wanted.{Wanted}
use Rattle.kat_shapes.specs.declared.wanted.Wanted.TheVariants as wanted
use Rattle.kat_syntax.specs.declared.type_rule.TypeRule.{TypeRule}
use Rattle.kat_syntax.specs.TypeRules.{code_of}
use Rattle.kat_top.specs.declared.fault.Fault.{Fault}
use Rattle.kat_top.specs.declared.fault.Fault.TheVariants as fault
use Rattle.kat_top.specs.declared.fault.TreeKind.{TreeKind}
use Rattle.kat_top.specs.declared.fault.TreeKind.TheVariants.{NotText, Unclosed, Stray, BadToken, Deep}

-- the word KIND of a fault line
abbrev pub word_of_kind : TreeKind → List ℕ
word_of_kind NotText = codes "text"
word_of_kind Unclosed = codes "unclosed"
word_of_kind Stray = codes "stray"
word_of_kind BadToken = codes "token"
word_of_kind Deep = codes "deep"

-- the word WANTED of a fault line
abbrev pub word_of_wanted : Wanted → List ℕ
word_of_wanted wanted.Spec = codes "spec"
word_of_wanted wanted.Version = codes "version"
word_of_wanted wanted.Declaration = codes "declaration"
word_of_wanted wanted.Type = codes "type"
word_of_wanted wanted.Name = codes "name"
word_of_wanted wanted.Number = codes "number"
word_of_wanted wanted.Place = codes "place"
word_of_wanted wanted.Statement = codes "statement"
word_of_wanted wanted.Expression = codes "expression"
word_of_wanted wanted.Assertion = codes "assertion"
word_of_wanted wanted.Phase = codes "phase"
word_of_wanted wanted.Part = codes "part"

-- a space and a word
abbrev pub part : List ℕ → List ℕ
part word = 32 ∷ word

-- `read NAME`
abbrev pub read_words : List ℕ → List ℕ
read_words name = codes "read" ++ part name

-- `long NAME TAKEN`
abbrev pub long_words : List ℕ → ℕ → List ℕ
long_words name taken = codes "long" ++ part name ++ part (decimal taken)

-- `tree KIND OFFSET`
abbrev pub tree_words : TreeKind → ℕ → List ℕ
tree_words kind offset = codes "tree" ++ part (word_of_kind kind) ++ part (decimal offset)

-- `form PLACE WANTED`
abbrev pub form_words : ℕ → Wanted → List ℕ
form_words place wanted = codes "form" ++ part (decimal place) ++ part (word_of_wanted wanted)

-- `type DECL TREE CODE`
abbrev pub type_words : ℕ → ℕ → TypeRule → List ℕ
type_words decl tree rule =
    codes "type" ++ part (decimal decl) ++ part (decimal tree) ++ part (decimal (code_of rule))

-- `mode DECL NAME`
abbrev pub mode_words : ℕ → List ℕ → List ℕ
mode_words decl name = codes "mode" ++ part (decimal decl) ++ part name

-- `image LINE`
abbrev pub image_words : ℕ → List ℕ
image_words line = codes "image" ++ part (decimal line)

-- `out CYCLE`
abbrev pub out_words : ℕ → List ℕ
out_words cycle = codes "out" ++ part (decimal cycle)

-- `failed CYCLE DECL TREE`
abbrev pub failed_words : ℕ → Place → List ℕ
failed_words cycle site =
    codes "failed" ++ part (decimal cycle) ++ part (decimal site.decl) ++ part (decimal site.tree)

-- the words of a fault
abbrev pub words_of_fault : Fault → List ℕ
words_of_fault fault.Usage = codes "usage"
words_of_fault (fault.Read name) = read_words name
words_of_fault (fault.Long name taken) = long_words name taken
words_of_fault (fault.Tree kind offset) = tree_words kind offset
words_of_fault (fault.Form place wanted) = form_words place wanted
words_of_fault (fault.Image line) = image_words line
words_of_fault (fault.IllTyped decl tree rule) = type_words decl tree rule
words_of_fault (fault.IllModed decl name) = mode_words decl name
words_of_fault (fault.Out cycle) = out_words cycle
words_of_fault (fault.Failed cycle site) = failed_words cycle site

-- the line of a fault: its words and a newline
abbrev pub fault_text_of : Fault → List ℕ
fault_text_of said = words_of_fault said ++ 10 ∷ []
