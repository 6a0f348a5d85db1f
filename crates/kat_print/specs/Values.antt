-- The text of values, with the names of the table of types.
use Rattle.std.specs.Prelude.{ℕ, true, false, ◌+◌, ◌/◌, List, [], ◌∷◌, ◌++◌, codes}
use Rattle.kat_text.specs.Hexadecimal.{hex_digits}
use Rattle.kat_value.specs.declared.types.TypeDecl.{TypeDecl}
use Rattle.kat_value.specs.declared.value.Value.{Value, fold-Value}
use Rattle.kat_value.specs.declared.value.Value.TheOpen.{Value-F, Unit, Bool as Truth, Bits, Member, Made, Rec}
use Rattle.kat_print.specs.Lists.{listed}
use Rattle.kat_print.specs.Terms.{name_of_type, name_of_member, name_of_ctor}

-- the text of one layer of a value, with the text of each part in its place: bits have as many
-- digits as a quarter of the width, rounded up
abbrev pub text_of_layer : List TypeDecl → Value-F (List ℕ) → List ℕ
text_of_layer types Unit = codes "unit"
text_of_layer types (Truth true) = codes "true"
text_of_layer types (Truth false) = codes "false"
text_of_layer types (Bits width number) = codes "0x" ++ hex_digits ((width + 3) / 4) number
text_of_layer types (Member of index) = name_of_member types of index
text_of_layer types (Made of ctor inner) = listed (name_of_ctor types of ctor) (inner ∷ [])
text_of_layer types (Rec of fields) = listed (name_of_type types of) fields

-- the text of a value: `unit`, a truth, bits in hexadecimal, the name of a member, `(K value)` or
-- `(R value ..)`
abbrev pub text_of_value : List TypeDecl → Value → List ℕ
text_of_value types = fold-Value (List ℕ) (text_of_layer types)

-- the line of a register
abbrev pub register_line : List TypeDecl → List ℕ → Value → List ℕ
register_line types name value =
    codes "reg " ++ name ++ codes " " ++ text_of_value types value ++ 10 ∷ []
