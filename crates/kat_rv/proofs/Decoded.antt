-- The word of an instruction is read as that instruction.
use Rattle.std.proofs.Common.{◌≡◌, ◌∙◌, ℕ, ◌+◌, ◌*◌, ◌/◌, ◌%◌, ◌<◌, ap, refl, arith, lit<, Some}
use Rattle.std.specs.Prelude.{ℤ, pos, negsuc}
use Rattle.kat_rv.specs.declared.instr.Instr.{Instr}
use Rattle.kat_rv.specs.declared.instr.Instr.TheVariants.{Lui, Auipc, Jal, Jalr, Beq, Bne, Blt, Bge}
use Rattle.kat_rv.specs.declared.instr.Instr.TheVariants.{Bltu, Bgeu, Lw, Sw, Addi, Slti, Sltiu}
use Rattle.kat_rv.specs.declared.instr.Instr.TheVariants.{Xori, Ori, Andi, Slli, Srli, Srai, Add}
use Rattle.kat_rv.specs.declared.instr.Instr.TheVariants.{Sub, Sll, Slt, Sltu, Xor, Srl, Sra, Or}
use Rattle.kat_rv.specs.declared.instr.Instr.TheVariants.{And, Csrrw, Csrrs, Csrrc, Ecall, Mret}
use Rattle.kat_rv.specs.declared.parts.Parts.{Parts}
use Rattle.kat_rv.specs.Numbers.{IsAmount, IsBelow, IsBranchOffset, IsCsr, IsImmediate, IsJumpOffset}
use Rattle.kat_rv.specs.Numbers.{IsRegister, IsUpper, natural_of, signed_of, unsigned_of}
use Rattle.kat_rv.specs.Parts.{AreParts, joined, number_i, number_u}
use Rattle.kat_rv.specs.Decoding.{immediate_i, instr_in, instr_of, offset_b}
use Rattle.kat_rv.specs.Encoding.{HoldsNumbers, word_of}
use Rattle.kat_rv.specs.Encoding.{branch_parts, high_part, immediate_parts, jump_parts, low_part}
use Rattle.kat_rv.specs.Encoding.{register_parts, shift_parts, store_parts, upper_parts, word_parts}
use Rattle.kat_rv.proofs.Bits.{branch_high_below, branch_number, jump_high_below, jump_number}
use Rattle.kat_rv.proofs.Bits.{jump_number_of, low_below, signed-unsigned, unsigned_below}
use Rattle.kat_rv.proofs.Splits.{split_joined}

decoded : (p : Parts) → AreParts p → instr_of (joined p) ≡ instr_in (joined p) p
decoded p h = ap (instr_in (joined p)) (split_joined p h)

pub register_held : (f g d a b : ℕ) → f < 8 → g < 128 → IsRegister d → IsRegister a → IsRegister b
    → AreParts (register_parts f g d a b)
register_held f g d a b p q r s t =
    record { opcode = lit< tt; rd = r; funct3 = p; rs1 = s; rs2 = t; funct7 = q }

pub upper_held : (o f d a n : ℕ) → o < 128 → f < 8 → IsRegister d → IsRegister a → n < 4096
    → AreParts (upper_parts o f d a n)
upper_held o f d a n p q r s t = record {
  opcode = p;
  rd = r;
  funct3 = q;
  rs1 = s;
  rs2 = omega arith;
  funct7 = omega arith;
}

pub immediate_held : (o f d a : ℕ) (z : ℤ) → o < 128 → f < 8 → IsRegister d → IsRegister a
    → IsImmediate z → AreParts (immediate_parts o f d a z)
immediate_held o f d a z p q r s t =
    upper_held o f d a (unsigned_of 2048 z) p q r s (unsigned_below 2048 z t)

pub natural_below : (bound : ℕ) (z : ℤ) → IsBelow bound z → natural_of z < bound
natural_below bound (pos n) h = h
natural_below bound (negsuc n) h = absurd h

pub natural_is : (bound : ℕ) (z : ℤ) → IsBelow bound z → pos (natural_of z) ≡ z
natural_is bound (pos n) h = refl
natural_is bound (negsuc n) h = absurd h

pub shift_held : (f g d a : ℕ) (z : ℤ) → f < 8 → g < 128 → IsRegister d → IsRegister a → IsAmount z
    → AreParts (shift_parts f g d a z)
shift_held f g d a z p q r s t =
    record { opcode = lit< tt; rd = r; funct3 = p; rs1 = s; rs2 = natural_below 32 z t; funct7 = q }

pub store_held : (a b n : ℕ) → IsRegister a → IsRegister b → n < 4096 → AreParts (store_parts a b n)
store_held a b n r s t = record {
  opcode = lit< tt;
  rd = omega arith;
  funct3 = lit< tt;
  rs1 = r;
  rs2 = s;
  funct7 = omega arith;
}

pub branch_held : (f a b n : ℕ) → f < 8 → IsRegister a → IsRegister b → n < 8192
    → AreParts (branch_parts f a b n)
branch_held f a b n p r s t = record {
  opcode = lit< tt;
  rd = low_below n;
  funct3 = p;
  rs1 = r;
  rs2 = s;
  funct7 = branch_high_below n t;
}

pub word_held : (o d n : ℕ) → o < 128 → IsRegister d → n < 1048576 → AreParts (word_parts o d n)
word_held o d n p r t = record {
  opcode = p;
  rd = r;
  funct3 = omega arith;
  rs1 = omega arith;
  rs2 = omega arith;
  funct7 = omega arith;
}

pub jump_held : (d n : ℕ) → IsRegister d → n < 2097152 → AreParts (jump_parts d n)
jump_held d n r t = record {
  opcode = lit< tt;
  rd = r;
  funct3 = omega arith;
  rs1 = omega arith;
  rs2 = low_below n;
  funct7 = jump_high_below n t;
}

twelve : (n : ℕ) → n / 32 * 32 + n % 32 ≡ n
twelve n = omega arith

twenty : (n : ℕ) → n / 8192 * 8192 + n / 256 % 32 * 256 + n / 8 % 32 * 8 + n % 8 ≡ n
twenty n = omega arith

immediate_is : (z : ℤ) → IsImmediate z
    → signed_of 2048 (unsigned_of 2048 z / 32 * 32 + unsigned_of 2048 z % 32) ≡ z
immediate_is z h = ap (signed_of 2048) (twelve (unsigned_of 2048 z)) ∙ signed-unsigned 2048 z h

-- the offset of a branch, by the parts that hold it
abbrev branch_number_of : ℕ → ℕ → ℕ
branch_number_of f r = f / 64 * 4096 + r % 2 * 2048 + f % 64 * 32 + r / 2 * 2

branch_is : (z : ℤ) → IsBranchOffset z → signed_of 4096
    (branch_number_of (high_part 4096 (unsigned_of 4096 z)) (low_part (unsigned_of 4096 z))) ≡ z
branch_is z h =
    ap (signed_of 4096) (branch_number (unsigned_of 4096 z) (unsigned_below 4096 z h.0) h.1)
    ∙ signed-unsigned 4096 z h.0

abbrev jump_of : ℕ → ℕ
jump_of n = jump_number_of (high_part 1048576 n) (n / 32768 % 32) (n / 4096 % 8) (low_part n)

jump_is : (z : ℤ) → IsJumpOffset z → signed_of 1048576 (jump_of (unsigned_of 1048576 z)) ≡ z
jump_is z h =
    ap (signed_of 1048576)
    (jump_number (unsigned_of 1048576 z) (unsigned_below 1048576 z h.0) h.1)
    ∙ signed-unsigned 1048576 z h.0

-- a number that lies in two parts, as the reading has it
word_is : (z : ℤ) → IsUpper z → pos (natural_of z / 8192 * 8192
    + natural_of z / 256 % 32 * 256 + natural_of z / 8 % 32 * 8
    + natural_of z % 8) ≡ z
word_is z h = ap pos (twenty (natural_of z)) ∙ natural_is 1048576 z h

-- an instruction is read from its word: with two registers and a result,
with_registers : (instr : Instr) (f g d a b : ℕ) → f < 8 → g < 128
    → IsRegister d × IsRegister a × IsRegister b
    → (let p = register_parts f g d a b in instr_in (joined p) p ≡ Some instr)
    → instr_of (joined (register_parts f g d a b)) ≡ Some instr
with_registers instr f g d a b p q h is =
    decoded _ (register_held f g d a b p q h.0 h.1 h.2) ∙ is

-- with an immediate in 31:20,
with_immediate : (make : ℤ → Instr) (o f d a : ℕ) (z : ℤ) → o < 128 → f < 8
    → IsRegister d × IsRegister a × IsImmediate z
    → (let p = immediate_parts o f d a z in instr_in (joined p) p ≡ Some (make (immediate_i p)))
    → instr_of (joined (immediate_parts o f d a z)) ≡ Some (make z)
with_immediate make o f d a z p q h is =
    decoded _ (immediate_held o f d a z p q h.0 h.1 h.2) ∙ is
    ∙ ap (λ (y : ℤ). Some (make y)) (immediate_is z h.2)

-- with an amount,
with_amount : (make : ℤ → Instr) (f g d a : ℕ) (z : ℤ) → f < 8 → g < 128
    → IsRegister d × IsRegister a × IsAmount z
    → (let p = shift_parts f g d a z in instr_in (joined p) p ≡ Some (make (pos p.rs2)))
    → instr_of (joined (shift_parts f g d a z)) ≡ Some (make z)
with_amount make f g d a z p q h is =
    decoded _ (shift_held f g d a z p q h.0 h.1 h.2) ∙ is
    ∙ ap (λ (y : ℤ). Some (make y)) (natural_is 32 z h.2)

-- with the offset of a branch,
with_offset : (make : ℤ → Instr) (f a b : ℕ) (z : ℤ) → f < 8
    → IsRegister a × IsRegister b × IsBranchOffset z
    → (let p = branch_parts f a b (unsigned_of 4096 z) in
    instr_in (joined p) p ≡ Some (make (offset_b p)))
    → instr_of (joined (branch_parts f a b (unsigned_of 4096 z))) ≡ Some (make z)
with_offset make f a b z p h is =
    decoded _ (branch_held f a b (unsigned_of 4096 z) p h.0 h.1 (unsigned_below 4096 z h.2.0)) ∙ is
    ∙ ap (λ (y : ℤ). Some (make y)) (branch_is z h.2)

-- with the upper 20 bits,
with_upper : (make : ℤ → Instr) (o d : ℕ) (z : ℤ) → o < 128 → IsRegister d × IsUpper z
    → (let p = word_parts o d (natural_of z) in
    instr_in (joined p) p ≡ Some (make (pos (number_u p))))
    → instr_of (joined (word_parts o d (natural_of z))) ≡ Some (make z)
with_upper make o d z p h is =
    decoded _ (word_held o d (natural_of z) p h.0 (natural_below 1048576 z h.1)) ∙ is
    ∙ ap (λ (y : ℤ). Some (make y)) (word_is z h.1)

-- with a CSR
with_csr : (make : ℕ → Instr) (f d a c : ℕ) → f < 8 → IsRegister d × IsRegister a × IsCsr c
    → (let p = upper_parts 0x73 f d a c in instr_in (joined p) p ≡ Some (make (number_i p)))
    → instr_of (joined (upper_parts 0x73 f d a c)) ≡ Some (make c)
with_csr make f d a c p h is =
    decoded _ (upper_held 0x73 f d a c (lit< tt) p h.0 h.1 h.2) ∙ is
    ∙ ap (λ (y : ℕ). Some (make y)) (twelve c)

pub instr_of-word_of : (instr : Instr) → HoldsNumbers instr
    → instr_of (word_of instr) ≡ Some instr
instr_of-word_of (Lui d z) h = with_upper (Lui d) 0x37 d z (lit< tt) h refl
instr_of-word_of (Auipc d z) h = with_upper (Auipc d) 0x17 d z (lit< tt) h refl
instr_of-word_of (Jal d z) h =
    decoded _ (jump_held d (unsigned_of 1048576 z) h.0 (unsigned_below 1048576 z h.1.0))
    ∙ ap (λ (y : ℤ). Some (Jal d y)) (jump_is z h.1)
instr_of-word_of (Sw a b z) h =
    decoded _ (store_held a b (unsigned_of 2048 z) h.0 h.1 (unsigned_below 2048 z h.2))
    ∙ ap (λ (y : ℤ). Some (Sw a b y)) (immediate_is z h.2)
instr_of-word_of (Jalr d a z) h = with_immediate (Jalr d a) 0x67 0 d a z (lit< tt) (lit< tt) h refl
instr_of-word_of (Lw d a z) h = with_immediate (Lw d a) 0x03 2 d a z (lit< tt) (lit< tt) h refl
instr_of-word_of (Addi d a z) h = with_immediate (Addi d a) 0x13 0 d a z (lit< tt) (lit< tt) h refl
instr_of-word_of (Slti d a z) h = with_immediate (Slti d a) 0x13 2 d a z (lit< tt) (lit< tt) h refl
instr_of-word_of (Sltiu d a z) h = with_immediate (Sltiu d a) 0x13 3 d a z (lit< tt) (lit< tt) h refl
instr_of-word_of (Xori d a z) h = with_immediate (Xori d a) 0x13 4 d a z (lit< tt) (lit< tt) h refl
instr_of-word_of (Ori d a z) h = with_immediate (Ori d a) 0x13 6 d a z (lit< tt) (lit< tt) h refl
instr_of-word_of (Andi d a z) h = with_immediate (Andi d a) 0x13 7 d a z (lit< tt) (lit< tt) h refl
instr_of-word_of (Beq a b z) h = with_offset (Beq a b) 0 a b z (lit< tt) h refl
instr_of-word_of (Bne a b z) h = with_offset (Bne a b) 1 a b z (lit< tt) h refl
instr_of-word_of (Blt a b z) h = with_offset (Blt a b) 4 a b z (lit< tt) h refl
instr_of-word_of (Bge a b z) h = with_offset (Bge a b) 5 a b z (lit< tt) h refl
instr_of-word_of (Bltu a b z) h = with_offset (Bltu a b) 6 a b z (lit< tt) h refl
instr_of-word_of (Bgeu a b z) h = with_offset (Bgeu a b) 7 a b z (lit< tt) h refl
instr_of-word_of (Slli d a z) h = with_amount (Slli d a) 1 0 d a z (lit< tt) (lit< tt) h refl
instr_of-word_of (Srli d a z) h = with_amount (Srli d a) 5 0 d a z (lit< tt) (lit< tt) h refl
instr_of-word_of (Srai d a z) h = with_amount (Srai d a) 5 0x20 d a z (lit< tt) (lit< tt) h refl
instr_of-word_of (Add d a b) h = with_registers (Add d a b) 0 0 d a b (lit< tt) (lit< tt) h refl
instr_of-word_of (Sub d a b) h = with_registers (Sub d a b) 0 0x20 d a b (lit< tt) (lit< tt) h refl
instr_of-word_of (Sll d a b) h = with_registers (Sll d a b) 1 0 d a b (lit< tt) (lit< tt) h refl
instr_of-word_of (Slt d a b) h = with_registers (Slt d a b) 2 0 d a b (lit< tt) (lit< tt) h refl
instr_of-word_of (Sltu d a b) h = with_registers (Sltu d a b) 3 0 d a b (lit< tt) (lit< tt) h refl
instr_of-word_of (Xor d a b) h = with_registers (Xor d a b) 4 0 d a b (lit< tt) (lit< tt) h refl
instr_of-word_of (Srl d a b) h = with_registers (Srl d a b) 5 0 d a b (lit< tt) (lit< tt) h refl
instr_of-word_of (Sra d a b) h = with_registers (Sra d a b) 5 0x20 d a b (lit< tt) (lit< tt) h refl
instr_of-word_of (Or d a b) h = with_registers (Or d a b) 6 0 d a b (lit< tt) (lit< tt) h refl
instr_of-word_of (And d a b) h = with_registers (And d a b) 7 0 d a b (lit< tt) (lit< tt) h refl
instr_of-word_of (Csrrw d a c) h = with_csr (Csrrw d a) 1 d a c (lit< tt) h refl
instr_of-word_of (Csrrs d a c) h = with_csr (Csrrs d a) 2 d a c (lit< tt) h refl
instr_of-word_of (Csrrc d a c) h = with_csr (Csrrc d a) 3 d a c (lit< tt) h refl
instr_of-word_of Ecall h = refl
instr_of-word_of Mret h = refl
