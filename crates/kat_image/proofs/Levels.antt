-- A value is read one level of types at a time.
use Rattle.std.proofs.Common.{◌≡◌, ℕ, suc, ◌+◌, ◌-◌, ◌≤◌, List, length, Option, Some, sym, ap, ◌∙◌, arith}
use Rattle.std.specs.Prelude.{option_and_then}
use Rattle.std.specs.Option.{option_map}
use Rattle.kat_value.specs.declared.value.Value.{Value}
use Rattle.kat_value.specs.declared.types.Ty.{Ty}
use Rattle.kat_value.specs.declared.types.Ty.TheVariants as ty
use Rattle.kat_value.specs.declared.types.TypeDecl.{TypeDecl}
use Rattle.kat_image.specs.Lines.{value_in, whole_value}
use Rattle.kat_image.specs.ValueText.{value_front, layer_front, word_value, made_front, record_front}

-- a level above another reads its parts by it
pub level : (types : List TypeDecl) (levels below : ℕ) (type : Ty) (text : List ℕ) →
    levels ≡ below + 1 →
    value_front levels types type text ≡ layer_front (value_front below types) types type text
level types levels below type text is =
    let e : levels ≡ suc below = omega (arith, is) in
    ap (λ n. value_front n types type text) e

-- a value that is one word
pub word_level : (types : List TypeDecl) (levels below : ℕ) (type kind : Ty) (text : List ℕ) →
    levels ≡ below + 1 → type ≡ kind →
    layer_front (value_front below types) types kind text ≡ word_value types kind text →
    word_value types type text ≡ value_front levels types type text
word_level types levels below type kind text is kind_is same =
    ap (λ t. word_value types t text) kind_is ∙ sym same
    ∙ ap (λ t. layer_front (value_front below types) types t text) (sym kind_is)
    ∙ sym (level types levels below type text is)

pub made_level : (types : List TypeDecl) (levels below : ℕ) (type : Ty) (p : ℕ) (text : List ℕ) →
    levels ≡ below + 1 → type ≡ ty.Union p →
    made_front (value_front below types) types p text ≡ value_front levels types type text
made_level types levels below type p text is kind_is =
    ap (λ t. layer_front (value_front below types) types t text) (sym kind_is)
    ∙ sym (level types levels below type text is)

pub record_level : (types : List TypeDecl) (levels below : ℕ) (type : Ty) (p : ℕ)
    (text : List ℕ) → levels ≡ below + 1 → type ≡ ty.Rec p →
    record_front (value_front below types) types p text ≡ value_front levels types type text
record_level types levels below type p text is kind_is =
    ap (λ t. layer_front (value_front below types) types t text) (sym kind_is)
    ∙ sym (level types levels below type text is)

pub one_below : (levels below : ℕ) → (1 ≤ levels) × (below ≡ levels - 1) → levels ≡ below + 1
one_below levels below h = omega (arith, h.0, h.1)

-- the value that was read is that of the text
pub value_read : (types table : List TypeDecl) (type : Ty) (text start rest : List ℕ) (levels : ℕ)
    (read result : Option Value) (v : Value) → levels ≡ length types + 1 → start ≡ text →
    table ≡ types → option_map (λ a. (a, rest)) read ≡ value_front levels types type start →
    read ≡ Some v → result ≡ whole_value table type (v, rest) → result ≡ value_in types type text
value_read types table type text start rest levels read result v many from same front is whole =
    let front_is : ◌≡◌ {A = Option (Value × List ℕ)} (Some (v, rest))
    (value_front (length types + 1) types type text) =
    ap (option_map (λ a. (a, rest))) (sym is) ∙ front
    ∙ ap (λ n. value_front n types type start) many
    ∙ ap (value_front (length types + 1) types type) from in
    whole ∙ ap (λ t. whole_value t type (v, rest)) same
    ∙ ap (option_and_then (whole_value types type)) front_is
