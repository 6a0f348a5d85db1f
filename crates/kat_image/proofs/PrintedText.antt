-- The text of registers as lines.
use Rattle.std.proofs.Common.{◌≡◌, ℕ, List, [], ◌∷◌, ◌++◌, append_assoc, refl, ap, ◌∙◌}
use Rattle.kat_value.specs.declared.types.TypeDecl.{TypeDecl}
use Rattle.kat_value.specs.declared.value.Value.{Value}
use Rattle.kat_syntax.specs.Tables.{Name}
use Rattle.kat_image.specs.Image.{Line}
use Rattle.kat_image.specs.ImageText.{register_lines}
use Rattle.kat_image.specs.ReadsBack.{register_text}
use Rattle.kat_image.proofs.PrintedLines.{ended}

-- the line of each register, without its end
abbrev pub register_texts : List TypeDecl → List Name → List Value → List Line
register_texts types (name ∷ names) (value ∷ values) =
    register_text types name value ∷ register_texts types names values
register_texts types _ _ = []

-- the end of a line, before other text
line_before : (a more : List ℕ) → (a ++ 10 ∷ []) ++ more ≡ a ++ 10 ∷ more
line_before a more = append_assoc a (10 ∷ []) more

-- the text of registers is their lines
pub registers_are_lines : (types : List TypeDecl) (names : List Name) (values : List Value) →
    register_lines types names values ≡ ended (register_texts types names values)
registers_are_lines types [] values = refl
registers_are_lines types (name ∷ names) [] = refl
registers_are_lines types (name ∷ names) (value ∷ values) =
    let text = register_text types name value in
    line_before text (register_lines types names values)
    ∙ ap (λ t. text ++ 10 ∷ t) (registers_are_lines types names values)
