-- The table of forms: the word with which each begins, and what its parts are read as.
use Rattle.std.specs.Prelude.{ℕ, ◌+◌, ◌-◌, ◌==◌, nat_le, Bool, true, false, ◌&&◌, not, if◌then◌else◌, List, [], ◌∷◌, ◌++◌, length, map, replicate, codes, Option, Some, None}
use Rattle.std.specs.Option.{option_map, option_and_then}
use Rattle.std.specs.Str.{bytes_eq}
use Rattle.kat_tree.specs.declared.tree.Token.{Token}
use Rattle.kat_tree.specs.declared.tree.Token.TheVariants as token
use Rattle.kat_value.specs.declared.op.Op.{Op}
use Rattle.kat_value.specs.Words.{word_of_op, numbers_of_op, arity_of, written_ops}
use Rattle.kat_shapes.specs.declared.sort.Sort.{Sort}
use Rattle.kat_shapes.specs.declared.sort.Sort.TheVariants.{Spec, Version, Declaration, TypeName, Name, Number, RegisterPlace, CellsPlace, Statement, Expression, Assertion, Phase, Members, Params, Fields, Param, CaseArm, MatchArm, Pre, Res, Post, Steps, When, Else, Entry, Within, Change, Word}
pub use Rattle.kat_value.specs.Words.{is_name}
pub use Rattle.kat_value.specs.Version.{is_version, newest}

-- Parts of these sorts, then any number of one sort, then last parts; with no sort in the middle
-- none stand there. The word that begins a form is a part too. It is there from a version on.
pub record Form : Type 0 where
  pub since : ℕ
  pub first : List Sort
  pub middle : Option Sort
  pub last : List Sort

-- exactly these parts
abbrev pub exactly : List Sort → Form
exactly sorts = record { since = 1; first = sorts; middle = None; last = [] }

-- these parts, and then any number of one sort
abbrev pub many : List Sort → Sort → Form
many sorts sort = record { since = 1; first = sorts; middle = Some sort; last = [] }

-- these parts, then any number of one sort, then these
abbrev pub between : List Sort → Sort → List Sort → Form
between sorts sort last = record { since = 1; first = sorts; middle = Some sort; last = last }

-- rows of a word and what it stands for
abbrev pub Rows : Type 0 → Type 0
Rows A = List (List ℕ × A)

-- what stands in the first row with this word
abbrev pub row_of : {A : Type 0} → Rows A → List ℕ → Option A
row_of [] word = None
row_of (row ∷ rows) word = if bytes_eq word row.0 then Some row.1 else row_of rows word

-- the declarations
abbrev pub declarations : Rows Form
declarations =
    (codes "enum", exactly (Word ∷ Name ∷ Members ∷ []))
    ∷ (codes "union", exactly (Word ∷ Name ∷ Fields ∷ []))
    ∷ (codes "record", exactly (Word ∷ Name ∷ Fields ∷ []))
    ∷ (codes "register", exactly (Word ∷ Name ∷ TypeName ∷ RegisterPlace ∷ []))
    ∷ (codes "memory", exactly (Word ∷ Number ∷ Number ∷ Number ∷ Number ∷ []))
    ∷ (codes "cells", exactly (Word ∷ CellsPlace ∷ Number ∷ Number ∷ []))
    ∷ (codes "code", many (Word ∷ Number ∷ Number ∷ []) Number)
    ∷ (codes "region", exactly (Word ∷ Name ∷ Params ∷ Name ∷ Expression ∷ []))
    ∷ (codes "pred", exactly (Word ∷ Name ∷ Params ∷ Params ∷ Assertion ∷ []))
    ∷ (codes "fun", exactly (Word ∷ Name ∷ Params ∷ TypeName ∷ Statement ∷ []))
    ∷ (codes "contract", exactly (Word ∷ Name ∷ Params ∷ Pre ∷ Res ∷ Post ∷ []))
    ∷ (codes "lemma", exactly (Word ∷ Name ∷ Params ∷ Params ∷ Pre ∷ Post ∷ Steps ∷ []))
    ∷ (codes "step", exactly (Word ∷ Name ∷ []))
    ∷ (codes "dispatch", between (Word ∷ []) When (Else ∷ []))
    ∷ (codes "untrusted", exactly (Word ∷ Assertion ∷ []))
    ∷ (codes "block", exactly (Word ∷ Name ∷ Entry ∷ Within ∷ Change ∷ []))
    ∷ (codes "boot", exactly (Word ∷ Name ∷ []))
    ∷ []

-- the statements
abbrev pub statements : Rows Form
statements =
    (codes "ret", exactly (Word ∷ Expression ∷ []))
    ∷ (codes "let", exactly (Word ∷ Name ∷ Statement ∷ Statement ∷ []))
    ∷ (codes "seq", many (Word ∷ Statement ∷ []) Statement)
    ∷ (codes "if", exactly (Word ∷ Expression ∷ Statement ∷ Statement ∷ []))
    ∷ (codes "case", many (Word ∷ Expression ∷ []) CaseArm)
    ∷ (codes "match", many (Word ∷ Expression ∷ []) MatchArm)
    ∷ (codes "read", exactly (Word ∷ Name ∷ []))
    ∷ (codes "write", exactly (Word ∷ Name ∷ Expression ∷ []))
    ∷ (codes "load", exactly (Word ∷ Expression ∷ []))
    ∷ (codes "store", exactly (Word ∷ Expression ∷ Expression ∷ []))
    ∷ (codes "call", many (Word ∷ Name ∷ []) Expression)
    ∷ (codes "check", exactly (Word ∷ Expression ∷ []))
    ∷ (codes "fail", exactly (Word ∷ []))
    ∷ (codes "open", many (Word ∷ Name ∷ []) Expression)
    ∷ (codes "close", many (Word ∷ Name ∷ []) Expression)
    ∷ (codes "lemma", many (Word ∷ Name ∷ []) Expression)
    ∷ []

-- what the parts of an operation are read as: its word, its numbers, and its arguments
abbrev pub form_of_op : Op → Form
form_of_op op =
    let numbers = replicate (length (numbers_of_op op)) Number in
    exactly (Word ∷ (numbers ++ replicate (arity_of op) Expression))

-- the operations, as kat_value's table has them
abbrev pub operations : Rows Form
operations = map (λ op. (word_of_op op, form_of_op op)) written_ops

-- the expressions that are lists: the operations are the last rows
abbrev pub expressions : Rows Form
expressions =
    ((codes "bits", exactly (Word ∷ Number ∷ Number ∷ []))
    ∷ (codes "of", exactly (Word ∷ Name ∷ Name ∷ []))
    ∷ (codes "make", exactly (Word ∷ Name ∷ Expression ∷ []))
    ∷ (codes "rec", many (Word ∷ Name ∷ []) Expression)
    ∷ (codes "reg", exactly (Word ∷ Name ∷ []))
    ∷ (codes "kept", exactly (Word ∷ Name ∷ []))
    ∷ (codes "kept_cell", exactly (Word ∷ Number ∷ []))
    ∷ (codes "before", exactly (Word ∷ Name ∷ []))
    ∷ (codes "after", exactly (Word ∷ Name ∷ []))
    ∷ (codes "before_cell", exactly (Word ∷ Number ∷ []))
    ∷ (codes "after_cell", exactly (Word ∷ Number ∷ []))
    ∷ (codes "get", exactly (Word ∷ Name ∷ Name ∷ Expression ∷ []))
    ∷ [])
    ++ operations

-- the assertions
abbrev pub assertions : Rows Form
assertions =
    (codes "pure", exactly (Word ∷ Expression ∷ []))
    ∷ (codes "reg", exactly (Word ∷ Name ∷ Expression ∷ []))
    ∷ (codes "cell", exactly (Word ∷ Expression ∷ Expression ∷ []))
    ∷ (codes "star", many (Word ∷ []) Assertion)
    ∷ (codes "if", exactly (Word ∷ Expression ∷ Assertion ∷ Assertion ∷ []))
    ∷ (codes "exists", exactly (Word ∷ Param ∷ Assertion ∷ []))
    ∷ (codes "pred", many (Word ∷ Name ∷ []) Expression)
    ∷ (codes "region", many (Word ∷ Name ∷ []) Expression)
    ∷ []

-- a specification, and the lists inside forms that a word of their own begins
abbrev pub parts_of : Sort → Rows Form
parts_of Spec = (codes "spec", many (Word ∷ Version ∷ []) Declaration) ∷ []
parts_of TypeName = (codes "bits", exactly (Word ∷ Number ∷ [])) ∷ []
parts_of Phase = (codes "block", exactly (Word ∷ Name ∷ [])) ∷ []
parts_of Pre = (codes "pre", exactly (Word ∷ Assertion ∷ [])) ∷ []
parts_of Res = (codes "res", exactly (Word ∷ Name ∷ [])) ∷ []
parts_of Post = (codes "post", exactly (Word ∷ Assertion ∷ [])) ∷ []
parts_of Steps = (codes "steps", many (Word ∷ []) Statement) ∷ []
parts_of When = (codes "when", exactly (Word ∷ Expression ∷ Phase ∷ [])) ∷ []
parts_of Else = (codes "else", exactly (Word ∷ Phase ∷ [])) ∷ []
parts_of Entry = (codes "entry", exactly (Word ∷ Assertion ∷ [])) ∷ []
parts_of Within = (codes "within", exactly (Word ∷ Number ∷ [])) ∷ []
parts_of Change = (codes "change", exactly (Word ∷ Expression ∷ [])) ∷ []
parts_of _ = []

-- the forms of a sort, each told by its word
abbrev pub forms_of : Sort → Rows Form
forms_of Declaration = declarations
forms_of Statement = statements
forms_of Expression = expressions
forms_of Assertion = assertions
forms_of sort = parts_of sort

-- the form of a list that is told by where it stands and not by a word
abbrev pub form_by_place : Sort → Option Form
form_by_place Members = Some (many (Name ∷ []) Name)
form_by_place Params = Some (many [] Param)
form_by_place Fields = Some (many (Param ∷ []) Param)
form_by_place Param = Some (exactly (Name ∷ TypeName ∷ []))
form_by_place CaseArm = Some (exactly (Name ∷ Statement ∷ []))
form_by_place MatchArm = Some (exactly (Name ∷ Name ∷ Statement ∷ []))
form_by_place _ = None

-- the words that stand alone for a sort, each with the version from which on it does
abbrev pub words_of : Sort → Rows ℕ
words_of RegisterPlace = (codes "plain", 1) ∷ (codes "protected", 1) ∷ (codes "outside", 1) ∷ []
words_of CellsPlace = (codes "protected", 1) ∷ (codes "outside", 1) ∷ []
words_of Phase = (codes "untrusted", 1) ∷ (codes "inside", 1) ∷ []
words_of _ = []

-- a form, in a version that has it
abbrev pub form_in : ℕ → Form → Option Form
form_in version form = if nat_le form.since version then Some form else None

-- the form of a list that begins with this word, if it does with one
abbrev pub form_of_word : ℕ → Sort → Option (List ℕ) → Option Form
form_of_word version sort None = None
form_of_word version sort (Some word) =
    option_and_then (form_in version) (row_of (forms_of sort) word)

-- the form of a list, in a version of the text: by its place or by its first word
abbrev pub form_of : ℕ → Sort → Option (List ℕ) → Option Form
form_of version Members first = form_by_place Members
form_of version Params first = form_by_place Params
form_of version Fields first = form_by_place Fields
form_of version Param first = form_by_place Param
form_of version CaseArm first = form_by_place CaseArm
form_of version MatchArm first = form_by_place MatchArm
form_of version sort first = form_of_word version sort first

-- the sorts of so many parts in the middle; with no sort there, none may stand there
abbrev pub middles : Option Sort → ℕ → Option (List Sort)
middles None count = if count == 0 then Some [] else None
middles (Some sort) count = Some (replicate count sort)

-- the sorts of so many parts, one each, where a form has as many
abbrev pub sorts_of : Form → ℕ → Option (List Sort)
sorts_of form count =
    if nat_le (length form.first + length form.last) count
    then option_map (λ sorts. form.first ++ sorts ++ form.last)
    (middles form.middle (count - (length form.first + length form.last)))
    else None

-- what the parts of a list are read as, by its first word and their count; none where it has no
-- form of the sort
abbrev pub sorts_for : ℕ → Sort → Option (List ℕ) → ℕ → Option (List Sort)
sorts_for version sort first count =
    option_and_then (λ form. sorts_of form count) (form_of version sort first)

-- whether a row is there in a version
abbrev pub is_since : ℕ → Option ℕ → Bool
is_since version None = false
is_since version (Some since) = nat_le since version

-- whether a number or a name stands for a sort
abbrev pub fits_token : ℕ → Sort → Token → Bool
fits_token version Version (token.Number n) = is_version n
fits_token version Number (token.Number n) = true
fits_token version Name (token.Name x) = is_name x
fits_token version TypeName (token.Name x) =
    not (bytes_eq x (codes "true")) && not (bytes_eq x (codes "false"))
fits_token version Expression (token.Name x) = true
fits_token version Word token = true
fits_token version sort (token.Number n) = false
fits_token version sort (token.Name x) = is_since version (row_of (words_of sort) x)
