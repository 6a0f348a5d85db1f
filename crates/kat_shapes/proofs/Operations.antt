-- The rows of operations are those of their table.
use Rattle.std.proofs.Common.{◌≡◌, ℕ, Bool, true, false, if◌then◌else◌, List, [], ◌∷◌, map, Option, Some, refl}
use Rattle.std.specs.Str.{bytes_eq}
use Rattle.std.specs.Option.{option_map}
use Rattle.kat_value.specs.declared.op.Op.{Op}
use Rattle.kat_value.specs.Words.{word_of_op, op_among, written_ops, op_of_word}
use Rattle.kat_shapes.specs.Forms.{Form, row_of, form_of_op, operations}

here : (op : Op) (w : List ℕ) (rows : Option Form) (ops : Option Op) (b : Bool) → rows ≡ option_map form_of_op ops →
    (if b then Some (form_of_op op) else rows) ≡ option_map form_of_op (if b then Some op else ops)
here op w rows ops true same = refl
here op w rows ops false same = same

among : (ops : List Op) (w : List ℕ) → row_of (map (λ op. (word_of_op op, form_of_op op)) ops) w ≡ option_map form_of_op (op_among ops w)
among [] w = refl
among (op ∷ ops) w = here op w (row_of (map (λ op. (word_of_op op, form_of_op op)) ops) w) (op_among ops w) (bytes_eq w (word_of_op op)) (among ops w)

pub operation_rows : (w : List ℕ) → row_of operations w ≡ option_map form_of_op (op_of_word w)
operation_rows w = among written_ops w
