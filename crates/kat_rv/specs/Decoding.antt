-- The table of instructions, as a definition on words.
use Rattle.std.specs.Prelude.{ℕ, ℤ, pos, ◌==◌, ◌&&◌, Option, Some, None, if◌then◌else◌}
use Rattle.kat_rv.specs.declared.instr.Instr.{Instr}
use Rattle.kat_rv.specs.declared.instr.Instr.TheVariants.{Lui, Auipc, Jal, Jalr, Beq, Bne, Blt, Bge}
use Rattle.kat_rv.specs.declared.instr.Instr.TheVariants.{Bltu, Bgeu, Lw, Sw, Addi, Slti, Sltiu}
use Rattle.kat_rv.specs.declared.instr.Instr.TheVariants.{Xori, Ori, Andi, Slli, Srli, Srai, Add}
use Rattle.kat_rv.specs.declared.instr.Instr.TheVariants.{Sub, Sll, Slt, Sltu, Xor, Srl, Sra, Or}
use Rattle.kat_rv.specs.declared.instr.Instr.TheVariants.{And, Csrrw, Csrrs, Csrrc, Ecall, Mret}
use Rattle.kat_rv.specs.declared.parts.Parts.{Parts}
use Rattle.kat_rv.specs.Numbers.{signed_of}
use Rattle.kat_rv.specs.Parts.{number_b, number_i, number_j, number_s, number_u, parts_of}

-- the immediate of 12 bits in 31:20
abbrev pub immediate_i : Parts → ℤ
immediate_i p = signed_of 2048 (number_i p)

-- the immediate of 12 bits in 31:25 and 11:7
abbrev pub immediate_s : Parts → ℤ
immediate_s p = signed_of 2048 (number_s p)

-- the offset of a branch
abbrev pub offset_b : Parts → ℤ
offset_b p = signed_of 4096 (number_b p)

-- the offset of a jump
abbrev pub offset_j : Parts → ℤ
offset_j p = signed_of 1048576 (number_j p)

-- opcode 67
abbrev pub jump_of : Parts → Option Instr
jump_of p = if p.funct3 == 0 then Some (Jalr p.rd p.rs1 (immediate_i p)) else None

-- opcode 03
abbrev pub load_of : Parts → Option Instr
load_of p = if p.funct3 == 2 then Some (Lw p.rd p.rs1 (immediate_i p)) else None

-- opcode 23
abbrev pub store_of : Parts → Option Instr
store_of p = if p.funct3 == 2 then Some (Sw p.rs1 p.rs2 (immediate_s p)) else None

-- opcode 63
abbrev pub branch_of : Parts → Option Instr
branch_of p =
    if p.funct3 == 0 then Some (Beq p.rs1 p.rs2 (offset_b p))
    else (if p.funct3 == 1 then Some (Bne p.rs1 p.rs2 (offset_b p))
    else (if p.funct3 == 4 then Some (Blt p.rs1 p.rs2 (offset_b p))
    else (if p.funct3 == 5 then Some (Bge p.rs1 p.rs2 (offset_b p))
    else (if p.funct3 == 6 then Some (Bltu p.rs1 p.rs2 (offset_b p))
    else (if p.funct3 == 7 then Some (Bgeu p.rs1 p.rs2 (offset_b p))
    else None)))))

-- opcode 13, shifts by an amount in 24:20
abbrev pub shift_of : Parts → Option Instr
shift_of p =
    if p.funct3 == 1 && p.funct7 == 0 then Some (Slli p.rd p.rs1 (pos p.rs2))
    else (if p.funct3 == 5 && p.funct7 == 0 then Some (Srli p.rd p.rs1 (pos p.rs2))
    else (if p.funct3 == 5 && p.funct7 == 32 then Some (Srai p.rd p.rs1 (pos p.rs2))
    else None))

-- opcode 13
abbrev pub immediate_of : Parts → Option Instr
immediate_of p =
    if p.funct3 == 0 then Some (Addi p.rd p.rs1 (immediate_i p))
    else (if p.funct3 == 2 then Some (Slti p.rd p.rs1 (immediate_i p))
    else (if p.funct3 == 3 then Some (Sltiu p.rd p.rs1 (immediate_i p))
    else (if p.funct3 == 4 then Some (Xori p.rd p.rs1 (immediate_i p))
    else (if p.funct3 == 6 then Some (Ori p.rd p.rs1 (immediate_i p))
    else (if p.funct3 == 7 then Some (Andi p.rd p.rs1 (immediate_i p))
    else shift_of p)))))

-- opcode 33
abbrev pub register_of : Parts → Option Instr
register_of p =
    if p.funct3 == 0 && p.funct7 == 0 then Some (Add p.rd p.rs1 p.rs2)
    else (if p.funct3 == 0 && p.funct7 == 32 then Some (Sub p.rd p.rs1 p.rs2)
    else (if p.funct3 == 1 && p.funct7 == 0 then Some (Sll p.rd p.rs1 p.rs2)
    else (if p.funct3 == 2 && p.funct7 == 0 then Some (Slt p.rd p.rs1 p.rs2)
    else (if p.funct3 == 3 && p.funct7 == 0 then Some (Sltu p.rd p.rs1 p.rs2)
    else (if p.funct3 == 4 && p.funct7 == 0 then Some (Xor p.rd p.rs1 p.rs2)
    else (if p.funct3 == 5 && p.funct7 == 0 then Some (Srl p.rd p.rs1 p.rs2)
    else (if p.funct3 == 5 && p.funct7 == 32 then Some (Sra p.rd p.rs1 p.rs2)
    else (if p.funct3 == 6 && p.funct7 == 0 then Some (Or p.rd p.rs1 p.rs2)
    else (if p.funct3 == 7 && p.funct7 == 0 then Some (And p.rd p.rs1 p.rs2)
    else None)))))))))

-- opcode 73, whole words
abbrev pub whole_of : ℕ → Option Instr
whole_of word =
    if word == 0x00000073 then Some Ecall
    else (if word == 0x30200073 then Some Mret
    else None)

-- opcode 73
abbrev pub system_of : ℕ → Parts → Option Instr
system_of word p =
    if p.funct3 == 1 then Some (Csrrw p.rd p.rs1 (number_i p))
    else (if p.funct3 == 2 then Some (Csrrs p.rd p.rs1 (number_i p))
    else (if p.funct3 == 3 then Some (Csrrc p.rd p.rs1 (number_i p))
    else (if p.funct3 == 0 then whole_of word
    else None)))

-- the instruction of a word with these parts
abbrev pub instr_in : ℕ → Parts → Option Instr
instr_in word p =
    if p.opcode == 0x37 then Some (Lui p.rd (pos (number_u p)))
    else (if p.opcode == 0x17 then Some (Auipc p.rd (pos (number_u p)))
    else (if p.opcode == 0x6F then Some (Jal p.rd (offset_j p))
    else (if p.opcode == 0x67 then jump_of p
    else (if p.opcode == 0x63 then branch_of p
    else (if p.opcode == 0x03 then load_of p
    else (if p.opcode == 0x23 then store_of p
    else (if p.opcode == 0x13 then immediate_of p
    else (if p.opcode == 0x33 then register_of p
    else (if p.opcode == 0x73 then system_of word p
    else None)))))))))

-- the instruction of a word; none where the table has no row
abbrev pub instr_of : ℕ → Option Instr
instr_of word = instr_in word (parts_of word)
