-- What came of an input that was asked for.
use Rattle.std.specs.Prelude.{◌≡◌, ◌≤◌, ◌<◌, ◌⊎◌, ◌+◌, ℕ, List, [], ◌∷◌, ◌++◌, length, Option, IfSome, Result, Ok, Err}
use Rattle.std.specs.Global.{Vec}
use Rattle.kat_io.specs.Counts.{Rose}
use Rattle.kat_io.specs.Seen.{FilesSeen, Kept}
use Rattle.kat_tree.specs.declared.error.TreeError.{TreeError}
use Rattle.kat_tree.specs.declared.error.TreeError.TheVariants as tree
use Rattle.kat_forms.specs.declared.error.FormError.{FormError}
use Rattle.kat_forms.specs.declared.error.FormError.TheVariants as form
use Rattle.kat_top.specs.declared.fault.Fault.{Fault}
use Rattle.kat_top.specs.declared.fault.Fault.TheVariants as fault
use Rattle.kat_top.specs.declared.fault.TreeKind.TheVariants.{NotText, Unclosed, Stray, BadToken, Deep}
use Rattle.kat_top.specs.declared.inputs.InputError.{InputError}
use Rattle.kat_top.specs.declared.inputs.InputError.TheVariants as why
use Rattle.kat_ast.specs.Spec.{Spec}
use Rattle.kat_top.specs.Inputs.{Name, Kind, Input, Thing, IsNotModed, IsNotTyped, IsReadAs, IsRefusedAs, IsTypedAndModed}
use Rattle.kat_top.specs.Limits.{most_bytes}

-- a read, as files note it: the name and the limit
abbrev pub read_of : Name → Name × ℕ
read_of name = (name, most_bytes)

-- these bytes were read: they are at most as many as are read, and those that are told, where these
-- are told
pub record WereRead (told : Option (List ℕ)) (bytes : List ℕ) : Type 0 where
  pub few : length bytes ≤ most_bytes
  pub as_told : IfSome told (λ t. bytes ≡ t)

-- no fault of reading was counted
pub record IsUncounted (before after : FilesSeen) : Type 0 where
  pub faults : after.faults ≡ before.faults
  pub overlong : after.overlong ≡ before.overlong

-- the read of a file failed
pub record FailedToRead (name : Name) (said : Fault) (before after : FilesSeen) : Type 0 where
  pub said_is : said ≡ fault.Read name
  pub rose : Rose before.faults after.faults

-- a file has more bytes than are read
pub record WasTooLong (name : Name) (said : Fault) (before after : FilesSeen) : Type 0 where
  pub said_is : said ≡ fault.Long name (most_bytes + 1)
  pub rose : Rose before.overlong after.overlong
  pub many : IfSome (before.told name) (λ bytes. most_bytes < length bytes)

-- bytes were read, which no count shows as a fault, and refused with this fault
pub record WereRefused
    (earlier : List Thing) (input : Input) (said : Fault) (before after : FilesSeen) :
    Type 0 where
  pub bytes : List ℕ
  pub uncounted : IsUncounted before after
  pub were_read : WereRead (before.told input.name) bytes
  pub refuses : IsRefusedAs earlier input.kind bytes said

-- bytes were read, which no count shows as a fault, and read as this
pub record WereTaken
    (earlier : List Thing) (input : Input) (thing : Thing) (before after : FilesSeen) :
    Type 0 where
  pub bytes : List ℕ
  pub uncounted : IsUncounted before after
  pub were_read : WereRead (before.told input.name) bytes
  pub reads : IsReadAs earlier input.kind bytes thing

-- what came of an input: what its bytes were read as; a fault; or memory ran out
abbrev pub Came : List Thing → Input → Result Thing InputError → FilesSeen → FilesSeen → Type 0
Came earlier input (Ok thing) before after = WereTaken earlier input thing before after
Came earlier input (Err (why.Fault said)) before after =
    FailedToRead input.name said before after
    ⊎ (WasTooLong input.name said before after ⊎ WereRefused earlier input said before after)
Came earlier input (Err why.Memory) before after = Unit {0}

-- the read was noted; where memory ran out it may not have been
abbrev pub IsNotedFor :
    {T : Type 0} → Result T InputError → List (Name × ℕ) → List (Name × ℕ) → Name → Type 0
IsNotedFor (Err why.Memory) old new name = (new ≡ old) ⊎ (new ≡ old ++ read_of name ∷ [])
IsNotedFor outcome old new name = new ≡ old ++ read_of name ∷ []

-- an input was asked for, by one read, and this came of it
pub record Loads
    (earlier : List Thing) (input : Input) (outcome : Result Thing InputError)
    (before after : FilesSeen) : Type 0 where
  pub kept : Kept before after
  pub noted : IsNotedFor outcome before.reads after.reads input.name
  pub came : Came earlier input outcome before after

-- what came of an input, as a thing
abbrev pub as_thing : {A : Type 0} → (A → Thing) → Result A InputError → Result Thing InputError
as_thing thing (Ok a) = Ok (thing a)
as_thing thing (Err error) = Err error

-- why the bytes of a file were not had
abbrev pub IsUnread : Name → InputError → FilesSeen → FilesSeen → Type 0
IsUnread name (why.Fault said) before after =
    FailedToRead name said before after ⊎ WasTooLong name said before after
IsUnread name why.Memory before after = Unit {0}

-- the bytes of a file were had, and no fault was counted
pub record WereHad (told : Option (List ℕ)) (bytes : List ℕ) (before after : FilesSeen) :
    Type 0 where
  pub were_read : WereRead told bytes
  pub uncounted : IsUncounted before after

-- what came of the bytes of a file
abbrev pub HasBytes : Name → Result (List ℕ) InputError → FilesSeen → FilesSeen → Type 0
HasBytes name (Ok bytes) before after = WereHad (before.told name) bytes before after
HasBytes name (Err error) before after = IsUnread name error before after

-- the bytes of a file were asked for, by one read, and this came of it
pub record LoadsBytes
    (name : Name) (outcome : Result (List ℕ) InputError) (before after : FilesSeen) : Type 0 where
  pub kept : Kept before after
  pub noted : IsNotedFor outcome before.reads after.reads name
  pub came : HasBytes name outcome before after

-- what came of the bytes of an input: what they are read as; the fault with which they are refused;
-- or memory ran out
abbrev pub ComesOf : List Thing → Kind → List ℕ → Result Thing InputError → Type 0
ComesOf earlier kind bytes (Ok thing) = IsReadAs earlier kind bytes thing
ComesOf earlier kind bytes (Err (why.Fault said)) = IsRefusedAs earlier kind bytes said
ComesOf earlier kind bytes (Err why.Memory) = Unit {0}

-- what a specification is judged as that is to be typed and moded: it is, or the fault is its first
-- one, or memory ran out
abbrev pub IsJudged : Spec → Result Unit InputError → Type 0
IsJudged spec (Ok done) = IsTypedAndModed spec
IsJudged spec (Err (why.Fault said)) = IsNotTyped spec said ⊎ IsNotModed spec said
IsJudged spec (Err why.Memory) = Unit {0}

-- what came is this specification, or memory ran out
abbrev pub IsThisOrMemory : Spec → Result Spec InputError → Type 0
IsThisOrMemory spec (Ok moded) = moded ≡ spec
IsThisOrMemory spec (Err error) = error ≡ why.Memory

-- an error is this fault, or memory ran out
abbrev pub IsFaultOrMemory : Fault → InputError → Type 0
IsFaultOrMemory wanted (why.Fault said) = said ≡ wanted
IsFaultOrMemory wanted why.Memory = Unit {0}

-- the error of a text that is no tree
abbrev pub error_of_tree : TreeError → InputError
error_of_tree (tree.NotText at) = why.Fault (fault.Tree NotText at)
error_of_tree (tree.Unclosed at) = why.Fault (fault.Tree Unclosed at)
error_of_tree (tree.Stray at) = why.Fault (fault.Tree Stray at)
error_of_tree (tree.BadToken at) = why.Fault (fault.Tree BadToken at)
error_of_tree (tree.Deep at) = why.Fault (fault.Tree Deep at)
error_of_tree tree.Memory = why.Memory

-- the error of a tree that is no specification
abbrev pub error_of_form : FormError → InputError
error_of_form (form.Wanted place wanted) = why.Fault (fault.Form place wanted)
error_of_form form.Memory = why.Memory

-- the bytes of what came, as a list
abbrev pub items_of : Result (Vec ℕ) InputError → Result (List ℕ) InputError
items_of (Ok bytes) = Ok bytes.items
items_of (Err error) = Err error
