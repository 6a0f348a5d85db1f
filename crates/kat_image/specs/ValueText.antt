-- The values that a text has at its front, by their types.
use Rattle.std.specs.Prelude.{ℕ, zero, suc, ◌==◌, Bool, true, false, if◌then◌else◌, List, [], ◌∷◌, codes, Option, None, Some, option_and_then, unwrap_or}
use Rattle.std.specs.Option.{option_map}
use Rattle.std.specs.Str.{bytes_eq}
use Rattle.kat_names.specs.Names.{position_of}
use Rattle.kat_value.specs.declared.types.Field.{Field}
use Rattle.kat_value.specs.declared.types.Ty.{Ty}
use Rattle.kat_value.specs.declared.types.Ty.TheVariants as ty
use Rattle.kat_value.specs.declared.types.TypeDecl.{TypeDecl}
use Rattle.kat_value.specs.declared.value.Value.{Value}
use Rattle.kat_value.specs.declared.value.Value.TheVariants as value
use Rattle.kat_value.specs.Typing.{ctor_at, fields_at}
use Rattle.kat_value.specs.Widths.{is_number}
use Rattle.kat_syntax.specs.declared.run_tables.CtorPlace.{CtorPlace}
use Rattle.kat_syntax.specs.NamedValues.{ctor_from, members_of, names_at, type_position}
use Rattle.kat_image.specs.Words.{Front, word_front, behind, head_front, number_of}

-- the value that one word is of a type without parts
abbrev pub value_of_word : List TypeDecl → Ty → List ℕ → Option Value
value_of_word types ty.Unit word = if bytes_eq word (codes "unit") then Some value.Unit else None
value_of_word types ty.Bool word =
    if bytes_eq word (codes "true") then Some (value.Bool true)
    else if bytes_eq word (codes "false") then Some (value.Bool false)
    else None
value_of_word types (ty.Bits w) word =
    option_and_then (λ n. if is_number w n then Some (value.Bits w n) else None) (number_of word)
value_of_word types (ty.Enum p) word =
    option_map (value.Member p) (position_of (names_at members_of types p) word)
value_of_word types _ word = None

-- a value that is one word
abbrev pub word_value : List TypeDecl → Ty → List ℕ → Front Value
word_value types type text =
    option_and_then (λ word. option_map (λ v. (v, word.1)) (value_of_word types type word.0))
    (word_front text)

-- how a value of each type is read
abbrev pub Reader : Type 0
Reader = Ty → List ℕ → Front Value

-- values of fields, each behind a space
abbrev pub fields_front : Reader → List Field → List ℕ → Front (List Value)
fields_front read [] text = Some ([], text)
fields_front read (field ∷ fields) text =
    option_and_then (λ (one : Value × List ℕ).
    option_map (λ more. (one.0 ∷ more.0, more.1)) (fields_front read fields one.1))
    (option_and_then (read field.ty) (behind 32 text))

-- the same with a closing bracket
abbrev pub closed_front : Reader → List Field → List ℕ → Front (List Value)
closed_front read fields text =
    option_and_then (λ (all : List Value × List ℕ).
    option_map (λ rest. (all.0, rest)) (behind 41 all.1))
    (fields_front read fields text)

-- a value behind a space, and a closing bracket
abbrev pub payload_front : Reader → Ty → List ℕ → Front Value
payload_front read type text =
    option_and_then (λ (one : Value × List ℕ).
    option_map (λ rest. (one.0, rest)) (behind 41 one.1))
    (option_and_then (read type) (behind 32 text))

-- the place of the constructor of this name, where it is one of the union at this position
abbrev pub ctor_of : List TypeDecl → ℕ → List ℕ → Option ℕ
ctor_of types p name =
    option_and_then (λ (place : CtorPlace). if place.of == p then Some place.ctor else None)
    (ctor_from 0 types name)

-- `(K value)`, K a constructor of the union at this position
abbrev pub made_front : Reader → List TypeDecl → ℕ → List ℕ → Front Value
made_front read types p text =
    option_and_then (λ (head : List ℕ × List ℕ).
    option_and_then (λ ctor.
    option_and_then (λ (field : Field).
    option_map (λ (one : Value × List ℕ). (value.Made p ctor one.0, one.1))
    (payload_front read field.ty head.1))
    (ctor_at types p ctor))
    (ctor_of types p head.0))
    (head_front text)

-- whether this is the name of the type at this position
abbrev pub is_name_of : List TypeDecl → ℕ → List ℕ → Bool
is_name_of types p name =
    unwrap_or (option_map (λ q. q == p) (type_position types name)) false

-- `(R value ..)`, R the record at this position
abbrev pub record_front : Reader → List TypeDecl → ℕ → List ℕ → Front Value
record_front read types p text =
    option_and_then (λ (head : List ℕ × List ℕ).
    if is_name_of types p head.0
    then option_and_then (λ (fields : List Field).
    option_map (λ (all : List Value × List ℕ). (value.Rec p all.0, all.1))
    (closed_front read fields head.1))
    (fields_at types p)
    else None)
    (head_front text)

-- a value, its parts being read so
abbrev pub layer_front : Reader → List TypeDecl → Reader
layer_front read types ty.Unit text = word_value types ty.Unit text
layer_front read types ty.Bool text = word_value types ty.Bool text
layer_front read types (ty.Bits w) text = word_value types (ty.Bits w) text
layer_front read types (ty.Enum p) text = word_value types (ty.Enum p) text
layer_front read types (ty.Union p) text = made_front read types p text
layer_front read types (ty.Rec p) text = record_front read types p text

-- a value of so many types in one another
abbrev pub value_front : ℕ → List TypeDecl → Reader
value_front zero types type text = None
value_front (suc levels) types type text =
    layer_front (value_front levels types) types type text
