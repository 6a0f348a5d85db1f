-- The words of instructions: where each field stands in the word.
use Rattle.std.specs.Prelude.{ℕ, ℤ, ◌+◌, ◌*◌, ◌/◌, ◌%◌}
use Rattle.kat_rv.specs.declared.instr.Instr.{Instr}
use Rattle.kat_rv.specs.declared.instr.Instr.TheVariants.{Lui, Auipc, Jal, Jalr, Beq, Bne, Blt, Bge}
use Rattle.kat_rv.specs.declared.instr.Instr.TheVariants.{Bltu, Bgeu, Lw, Sw, Addi, Slti, Sltiu}
use Rattle.kat_rv.specs.declared.instr.Instr.TheVariants.{Xori, Ori, Andi, Slli, Srli, Srai, Add}
use Rattle.kat_rv.specs.declared.instr.Instr.TheVariants.{Sub, Sll, Slt, Sltu, Xor, Srl, Sra, Or}
use Rattle.kat_rv.specs.declared.instr.Instr.TheVariants.{And, Csrrw, Csrrs, Csrrc, Ecall, Mret}
use Rattle.kat_rv.specs.declared.parts.Parts.{Parts}
use Rattle.kat_rv.specs.Numbers.{IsAmount, IsBranchOffset, IsCsr, IsImmediate, IsJumpOffset}
use Rattle.kat_rv.specs.Numbers.{IsRegister, IsUpper, natural_of, unsigned_of}
use Rattle.kat_rv.specs.Parts.{joined}

-- two registers and a result: opcode 33
abbrev pub register_parts : ℕ → ℕ → ℕ → ℕ → ℕ → Parts
register_parts f g d a b =
    record { opcode = 0x33; rd = d; funct3 = f; rs1 = a; rs2 = b; funct7 = g }

-- a number of 12 bits in 31:20
abbrev pub upper_parts : ℕ → ℕ → ℕ → ℕ → ℕ → Parts
upper_parts o f d a n =
    record { opcode = o; rd = d; funct3 = f; rs1 = a; rs2 = n % 32; funct7 = n / 32 }

-- an immediate in 31:20
abbrev pub immediate_parts : ℕ → ℕ → ℕ → ℕ → ℤ → Parts
immediate_parts o f d a z = upper_parts o f d a (unsigned_of 2048 z)

-- an amount in 24:20
abbrev pub shift_parts : ℕ → ℕ → ℕ → ℕ → ℤ → Parts
shift_parts f g d a z =
    record { opcode = 0x13; rd = d; funct3 = f; rs1 = a; rs2 = natural_of z; funct7 = g }

-- an immediate in 31:25 and 11:7: opcode 23
abbrev pub store_parts : ℕ → ℕ → ℕ → Parts
store_parts a b n =
    record { opcode = 0x23; rd = n % 32; funct3 = 2; rs1 = a; rs2 = b; funct7 = n / 32 }

-- bits 12, 10:5 of a number, as funct7 holds them
abbrev pub high_part : ℕ → ℕ → ℕ
high_part top n = n / top * 64 + n / 32 % 64

-- bits 4:1, 11 of a number, as rd or rs2 holds them
abbrev pub low_part : ℕ → ℕ
low_part n = n / 2 % 16 * 2 + n / 2048 % 2

-- an even offset of 13 bits: opcode 63
abbrev pub branch_parts : ℕ → ℕ → ℕ → ℕ → Parts
branch_parts f a b n = record {
  opcode = 0x63;
  rd = low_part n;
  funct3 = f;
  rs1 = a;
  rs2 = b;
  funct7 = high_part 4096 n;
}

-- the upper 20 bits of a word
abbrev pub word_parts : ℕ → ℕ → ℕ → Parts
word_parts o d n = record {
  opcode = o;
  rd = d;
  funct3 = n % 8;
  rs1 = n / 8 % 32;
  rs2 = n / 256 % 32;
  funct7 = n / 8192;
}

-- an even offset of 21 bits: opcode 6F
abbrev pub jump_parts : ℕ → ℕ → Parts
jump_parts d n = record {
  opcode = 0x6F;
  rd = d;
  funct3 = n / 4096 % 8;
  rs1 = n / 32768 % 32;
  rs2 = low_part n;
  funct7 = high_part 1048576 n;
}

-- a whole word
abbrev pub system_parts : ℕ → ℕ → Parts
system_parts b g =
    record { opcode = 0x73; rd = 0; funct3 = 0; rs1 = 0; rs2 = b; funct7 = g }

-- the parts of the word of an instruction
abbrev pub parts_of_instr : Instr → Parts
parts_of_instr (Lui d z) = word_parts 0x37 d (natural_of z)
parts_of_instr (Auipc d z) = word_parts 0x17 d (natural_of z)
parts_of_instr (Jal d z) = jump_parts d (unsigned_of 1048576 z)
parts_of_instr (Jalr d a z) = immediate_parts 0x67 0 d a z
parts_of_instr (Beq a b z) = branch_parts 0 a b (unsigned_of 4096 z)
parts_of_instr (Bne a b z) = branch_parts 1 a b (unsigned_of 4096 z)
parts_of_instr (Blt a b z) = branch_parts 4 a b (unsigned_of 4096 z)
parts_of_instr (Bge a b z) = branch_parts 5 a b (unsigned_of 4096 z)
parts_of_instr (Bltu a b z) = branch_parts 6 a b (unsigned_of 4096 z)
parts_of_instr (Bgeu a b z) = branch_parts 7 a b (unsigned_of 4096 z)
parts_of_instr (Lw d a z) = immediate_parts 0x03 2 d a z
parts_of_instr (Sw a b z) = store_parts a b (unsigned_of 2048 z)
parts_of_instr (Addi d a z) = immediate_parts 0x13 0 d a z
parts_of_instr (Slti d a z) = immediate_parts 0x13 2 d a z
parts_of_instr (Sltiu d a z) = immediate_parts 0x13 3 d a z
parts_of_instr (Xori d a z) = immediate_parts 0x13 4 d a z
parts_of_instr (Ori d a z) = immediate_parts 0x13 6 d a z
parts_of_instr (Andi d a z) = immediate_parts 0x13 7 d a z
parts_of_instr (Slli d a z) = shift_parts 1 0 d a z
parts_of_instr (Srli d a z) = shift_parts 5 0 d a z
parts_of_instr (Srai d a z) = shift_parts 5 0x20 d a z
parts_of_instr (Add d a b) = register_parts 0 0 d a b
parts_of_instr (Sub d a b) = register_parts 0 0x20 d a b
parts_of_instr (Sll d a b) = register_parts 1 0 d a b
parts_of_instr (Slt d a b) = register_parts 2 0 d a b
parts_of_instr (Sltu d a b) = register_parts 3 0 d a b
parts_of_instr (Xor d a b) = register_parts 4 0 d a b
parts_of_instr (Srl d a b) = register_parts 5 0 d a b
parts_of_instr (Sra d a b) = register_parts 5 0x20 d a b
parts_of_instr (Or d a b) = register_parts 6 0 d a b
parts_of_instr (And d a b) = register_parts 7 0 d a b
parts_of_instr (Csrrw d a c) = upper_parts 0x73 1 d a c
parts_of_instr (Csrrs d a c) = upper_parts 0x73 2 d a c
parts_of_instr (Csrrc d a c) = upper_parts 0x73 3 d a c
parts_of_instr Ecall = system_parts 0 0
parts_of_instr Mret = system_parts 2 24

-- the word of an instruction
abbrev pub word_of : Instr → ℕ
word_of instr = joined (parts_of_instr instr)

-- each field of an instruction is a number that its word holds
abbrev pub HoldsNumbers : Instr → Type 0
HoldsNumbers (Lui d z) = IsRegister d × IsUpper z
HoldsNumbers (Auipc d z) = IsRegister d × IsUpper z
HoldsNumbers (Jal d z) = IsRegister d × IsJumpOffset z
HoldsNumbers (Jalr d a z) = IsRegister d × IsRegister a × IsImmediate z
HoldsNumbers (Beq a b z) = IsRegister a × IsRegister b × IsBranchOffset z
HoldsNumbers (Bne a b z) = IsRegister a × IsRegister b × IsBranchOffset z
HoldsNumbers (Blt a b z) = IsRegister a × IsRegister b × IsBranchOffset z
HoldsNumbers (Bge a b z) = IsRegister a × IsRegister b × IsBranchOffset z
HoldsNumbers (Bltu a b z) = IsRegister a × IsRegister b × IsBranchOffset z
HoldsNumbers (Bgeu a b z) = IsRegister a × IsRegister b × IsBranchOffset z
HoldsNumbers (Lw d a z) = IsRegister d × IsRegister a × IsImmediate z
HoldsNumbers (Sw a b z) = IsRegister a × IsRegister b × IsImmediate z
HoldsNumbers (Addi d a z) = IsRegister d × IsRegister a × IsImmediate z
HoldsNumbers (Slti d a z) = IsRegister d × IsRegister a × IsImmediate z
HoldsNumbers (Sltiu d a z) = IsRegister d × IsRegister a × IsImmediate z
HoldsNumbers (Xori d a z) = IsRegister d × IsRegister a × IsImmediate z
HoldsNumbers (Ori d a z) = IsRegister d × IsRegister a × IsImmediate z
HoldsNumbers (Andi d a z) = IsRegister d × IsRegister a × IsImmediate z
HoldsNumbers (Slli d a z) = IsRegister d × IsRegister a × IsAmount z
HoldsNumbers (Srli d a z) = IsRegister d × IsRegister a × IsAmount z
HoldsNumbers (Srai d a z) = IsRegister d × IsRegister a × IsAmount z
HoldsNumbers (Add d a b) = IsRegister d × IsRegister a × IsRegister b
HoldsNumbers (Sub d a b) = IsRegister d × IsRegister a × IsRegister b
HoldsNumbers (Sll d a b) = IsRegister d × IsRegister a × IsRegister b
HoldsNumbers (Slt d a b) = IsRegister d × IsRegister a × IsRegister b
HoldsNumbers (Sltu d a b) = IsRegister d × IsRegister a × IsRegister b
HoldsNumbers (Xor d a b) = IsRegister d × IsRegister a × IsRegister b
HoldsNumbers (Srl d a b) = IsRegister d × IsRegister a × IsRegister b
HoldsNumbers (Sra d a b) = IsRegister d × IsRegister a × IsRegister b
HoldsNumbers (Or d a b) = IsRegister d × IsRegister a × IsRegister b
HoldsNumbers (And d a b) = IsRegister d × IsRegister a × IsRegister b
HoldsNumbers (Csrrw d a c) = IsRegister d × IsRegister a × IsCsr c
HoldsNumbers (Csrrs d a c) = IsRegister d × IsRegister a × IsCsr c
HoldsNumbers (Csrrc d a c) = IsRegister d × IsRegister a × IsCsr c
HoldsNumbers Ecall = Unit {0}
HoldsNumbers Mret = Unit {0}
