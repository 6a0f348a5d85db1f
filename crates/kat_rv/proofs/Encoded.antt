-- The instruction of a word has that word.
use Rattle.std.proofs.Common.{◌≡◌, ◌∙◌, ◌==◌, ◌&&◌, ℕ, ◌<◌}
use Rattle.std.proofs.Common.{ap, refl, sym, arith}
use Rattle.std.proofs.Common.{Bool, true, false, if◌then◌else◌, Option, Some, None, IfSome}
use Rattle.std.proofs.lemmas.Bool.{eqb-true}
use Rattle.std.specs.Prelude.{pos}
use Rattle.kat_rv.specs.declared.instr.Instr.{Instr}
use Rattle.kat_rv.specs.declared.parts.Parts.{Parts}
use Rattle.kat_rv.specs.Numbers.{unsigned_of}
use Rattle.kat_rv.specs.Parts.{AreParts, joined, number_b, number_i, number_j, number_s}
use Rattle.kat_rv.specs.Parts.{number_u, parts_of}
use Rattle.kat_rv.specs.Decoding.{branch_of, immediate_i, immediate_of, immediate_s, instr_in}
use Rattle.kat_rv.specs.Decoding.{instr_of, offset_b, offset_j, register_of, shift_of, system_of}
use Rattle.kat_rv.specs.Decoding.{whole_of}
use Rattle.kat_rv.specs.Encoding.{branch_parts, immediate_parts, jump_parts}
use Rattle.kat_rv.specs.Encoding.{parts_of_instr, register_parts, shift_parts, store_parts}
use Rattle.kat_rv.specs.Encoding.{upper_parts, word_of, word_parts}
use Rattle.kat_rv.proofs.Bits.{branch_high, branch_low, jump_funct3, jump_high, jump_low}
use Rattle.kat_rv.proofs.Bits.{jump_rs1, unsigned-signed}
use Rattle.kat_rv.proofs.Splits.{joined_split, parts_held}

-- the instruction, if it is one, has these parts
abbrev Back : Parts → Option Instr → Type 0
Back p o = IfSome o (λ i. parts_of_instr i ≡ p)

-- a row of the table, and those below it
row : (p : Parts) (b : Bool) (instr : Instr) (below : Option Instr)
    → (b ≡ true → parts_of_instr instr ≡ p) → Back p below
    → Back p (if b then Some instr else below)
row p true instr below is rest = is refl
row p false instr below is rest = rest

-- a part of the table, and those below it
part : (p : Parts) (b : Bool) (here below : Option Instr) → (b ≡ true → Back p here)
    → Back p below → Back p (if b then here else below)
part p true here below is rest = is refl
part p false here below is rest = rest

both : (a b : Bool) → (a && b) ≡ true → (a ≡ true) × (b ≡ true)
both true true e = (refl, refl)
both true false e = cc
both false b e = cc

-- equal parts
same : (p q : Parts) → q.opcode ≡ p.opcode → q.rd ≡ p.rd → q.funct3 ≡ p.funct3 → q.rs1 ≡ p.rs1
    → q.rs2 ≡ p.rs2 → q.funct7 ≡ p.funct7 → q ≡ p
same p q o d f a b g = λ i. record {
  opcode = o i;
  rd = d i;
  funct3 = f i;
  rs1 = a i;
  rs2 = b i;
  funct7 = g i;
}

register_back : (p : Parts) (f g : ℕ) → p.opcode ≡ 0x33
    → (p.funct3 == f && p.funct7 == g) ≡ true
    → register_parts f g p.rd p.rs1 p.rs2 ≡ p
register_back p f g o e =
    let parts = both (p.funct3 == f) (p.funct7 == g) e in
    same p _ (sym o) refl (sym (eqb-true _ _ parts.0)) refl refl (sym (eqb-true _ _ parts.1))

shift_back : (p : Parts) (f g : ℕ) → p.opcode ≡ 0x13
    → (p.funct3 == f && p.funct7 == g) ≡ true
    → shift_parts f g p.rd p.rs1 (pos p.rs2) ≡ p
shift_back p f g o e =
    let parts = both (p.funct3 == f) (p.funct7 == g) e in
    same p _ (sym o) refl (sym (eqb-true _ _ parts.0)) refl refl (sym (eqb-true _ _ parts.1))

upper_back : (p : Parts) → AreParts p → (o f : ℕ) → p.opcode ≡ o → (p.funct3 == f) ≡ true
    → upper_parts o f p.rd p.rs1 (number_i p) ≡ p
upper_back p h o f e t =
    same p _ (sym e) refl (sym (eqb-true _ _ t)) refl (omega arith) (omega arith)

immediate_back : (p : Parts) → AreParts p → (o f : ℕ) → p.opcode ≡ o → (p.funct3 == f) ≡ true
    → immediate_parts o f p.rd p.rs1 (immediate_i p) ≡ p
immediate_back p h o f e t =
    ap (upper_parts o f p.rd p.rs1) (unsigned-signed 2048 (number_i p) (omega arith))
    ∙ upper_back p h o f e t

store_number : (p : Parts) → AreParts p → p.opcode ≡ 0x23 → (p.funct3 == 2) ≡ true
    → store_parts p.rs1 p.rs2 (number_s p) ≡ p
store_number p h e t =
    same p _ (sym e) (omega arith) (sym (eqb-true _ _ t)) refl refl (omega arith)

store_back : (p : Parts) → AreParts p → p.opcode ≡ 0x23 → (p.funct3 == 2) ≡ true
    → store_parts p.rs1 p.rs2 (unsigned_of 2048 (immediate_s p)) ≡ p
store_back p h e t =
    ap (store_parts p.rs1 p.rs2) (unsigned-signed 2048 (number_s p) (omega arith))
    ∙ store_number p h e t

branch_parts_back : (p : Parts) → AreParts p → (f : ℕ) → p.opcode ≡ 0x63
    → (p.funct3 == f) ≡ true → branch_parts f p.rs1 p.rs2 (number_b p) ≡ p
branch_parts_back p h f e t =
    same p _ (sym e) (branch_low p.funct7 p.rd h.rd h.funct7) (sym (eqb-true _ _ t)) refl refl
    (branch_high p.funct7 p.rd h.rd h.funct7)

branch_back : (p : Parts) → AreParts p → (f : ℕ) → p.opcode ≡ 0x63 → (p.funct3 == f) ≡ true
    → branch_parts f p.rs1 p.rs2 (unsigned_of 4096 (offset_b p)) ≡ p
branch_back p h f e t =
    ap (branch_parts f p.rs1 p.rs2) (unsigned-signed 4096 (number_b p) (omega arith))
    ∙ branch_parts_back p h f e t

word_back : (p : Parts) → AreParts p → (o : ℕ) → p.opcode ≡ o
    → word_parts o p.rd (number_u p) ≡ p
word_back p h o e =
    same p _ (sym e) refl (omega arith) (omega arith) (omega arith) (omega arith)

jump_parts_back : (p : Parts) → AreParts p → p.opcode ≡ 0x6F
    → jump_parts p.rd (number_j p) ≡ p
jump_parts_back p h e = same p _ (sym e) refl
    (jump_funct3 p.funct7 p.rs1 p.funct3 p.rs2 h.funct7 h.rs1 h.funct3 h.rs2)
    (jump_rs1 p.funct7 p.rs1 p.funct3 p.rs2 h.funct7 h.rs1 h.funct3 h.rs2)
    (jump_low p.funct7 p.rs1 p.funct3 p.rs2 h.funct7 h.rs1 h.funct3 h.rs2)
    (jump_high p.funct7 p.rs1 p.funct3 p.rs2 h.funct7 h.rs1 h.funct3 h.rs2)

jump_back : (p : Parts) → AreParts p → p.opcode ≡ 0x6F
    → jump_parts p.rd (unsigned_of 1048576 (offset_j p)) ≡ p
jump_back p h e =
    ap (jump_parts p.rd) (unsigned-signed 1048576 (number_j p) (omega arith))
    ∙ jump_parts_back p h e

branches_back : (p : Parts) → AreParts p → p.opcode ≡ 0x63 → Back p (branch_of p)
branches_back p h o =
    row p _ _ _ (λ t. branch_back p h 0 o t)
    (row p _ _ _ (λ t. branch_back p h 1 o t)
    (row p _ _ _ (λ t. branch_back p h 4 o t)
    (row p _ _ _ (λ t. branch_back p h 5 o t)
    (row p _ _ _ (λ t. branch_back p h 6 o t)
    (row p _ _ _ (λ t. branch_back p h 7 o t) tt)))))

shifts_back : (p : Parts) → AreParts p → p.opcode ≡ 0x13 → Back p (shift_of p)
shifts_back p h o =
    row p _ _ _ (λ t. shift_back p 1 0 o t)
    (row p _ _ _ (λ t. shift_back p 5 0 o t)
    (row p _ _ _ (λ t. shift_back p 5 0x20 o t) tt))

immediates_back : (p : Parts) → AreParts p → p.opcode ≡ 0x13 → Back p (immediate_of p)
immediates_back p h o =
    row p _ _ _ (λ t. immediate_back p h 0x13 0 o t)
    (row p _ _ _ (λ t. immediate_back p h 0x13 2 o t)
    (row p _ _ _ (λ t. immediate_back p h 0x13 3 o t)
    (row p _ _ _ (λ t. immediate_back p h 0x13 4 o t)
    (row p _ _ _ (λ t. immediate_back p h 0x13 6 o t)
    (row p _ _ _ (λ t. immediate_back p h 0x13 7 o t) (shifts_back p h o))))))

registers_back : (p : Parts) → p.opcode ≡ 0x33 → Back p (register_of p)
registers_back p o =
    row p _ _ _ (λ t. register_back p 0 0 o t)
    (row p _ _ _ (λ t. register_back p 0 0x20 o t)
    (row p _ _ _ (λ t. register_back p 1 0 o t)
    (row p _ _ _ (λ t. register_back p 2 0 o t)
    (row p _ _ _ (λ t. register_back p 3 0 o t)
    (row p _ _ _ (λ t. register_back p 4 0 o t)
    (row p _ _ _ (λ t. register_back p 5 0 o t)
    (row p _ _ _ (λ t. register_back p 5 0x20 o t)
    (row p _ _ _ (λ t. register_back p 6 0 o t)
    (row p _ _ _ (λ t. register_back p 7 0 o t) tt)))))))))

wholes_back : (p : Parts) (word : ℕ) → parts_of word ≡ p → Back p (whole_of word)
wholes_back p word is =
    row p _ _ _ (λ t. ap parts_of (sym (eqb-true word 0x00000073 t)) ∙ is)
    (row p _ _ _ (λ t. ap parts_of (sym (eqb-true word 0x30200073 t)) ∙ is) tt)

systems_back : (p : Parts) → AreParts p → (word : ℕ) → parts_of word ≡ p → p.opcode ≡ 0x73
    → Back p (system_of word p)
systems_back p h word is o =
    row p _ _ _ (λ t. upper_back p h 0x73 1 o t)
    (row p _ _ _ (λ t. upper_back p h 0x73 2 o t)
    (row p _ _ _ (λ t. upper_back p h 0x73 3 o t)
    (part p (p.funct3 == 0) (whole_of word) None (λ t. wholes_back p word is) tt)))

only_row : (p : Parts) (b : Bool) (instr : Instr) → (b ≡ true → parts_of_instr instr ≡ p)
    → Back p (if b then Some instr else None)
only_row p b instr is = row p b instr None is tt

all_back : (p : Parts) → AreParts p → (word : ℕ) → parts_of word ≡ p → Back p (instr_in word p)
all_back p h word is =
    row p _ _ _ (λ t. word_back p h 0x37 (eqb-true _ _ t))
    (row p _ _ _ (λ t. word_back p h 0x17 (eqb-true _ _ t))
    (row p _ _ _ (λ t. jump_back p h (eqb-true _ _ t))
    (part p _ _ _ (λ o. only_row p _ _ (λ t. immediate_back p h 0x67 0 (eqb-true _ _ o) t))
    (part p _ _ _ (λ o. branches_back p h (eqb-true _ _ o))
    (part p _ _ _ (λ o. only_row p _ _ (λ t. immediate_back p h 0x03 2 (eqb-true _ _ o) t))
    (part p _ _ _ (λ o. only_row p _ _ (λ t. store_back p h (eqb-true _ _ o) t))
    (part p _ _ _ (λ o. immediates_back p h (eqb-true _ _ o))
    (part p _ _ _ (λ o. registers_back p (eqb-true _ _ o))
    (part p (p.opcode == 0x73) (system_of word p) None
    (λ o. systems_back p h word is (eqb-true _ _ o)) tt)))))))))

joins : (word : ℕ) (o : Option Instr) → Back (parts_of word) o
    → IfSome o (λ i. word_of i ≡ word)
joins word None h = tt
joins word (Some i) h = ap joined h ∙ joined_split word

pub word_of-instr_of : (word : ℕ) → word < 4294967296
    → IfSome (instr_of word) (λ i. word_of i ≡ word)
word_of-instr_of word lt =
    joins word (instr_of word) (all_back (parts_of word) (parts_held word lt) word refl)
