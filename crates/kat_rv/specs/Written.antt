-- The text of a word: the name in lower case, and behind it the operands.
use Rattle.std.specs.Prelude.{ℕ, ℤ, pos, negsuc, ◌+◌, List, [], ◌++◌, Option, Some, None, codes}
use Rattle.std.specs.Fmt.{decimal}
use Rattle.kat_rv.specs.declared.instr.Instr.{Instr}
use Rattle.kat_rv.specs.declared.instr.Instr.TheVariants.{Lui, Auipc, Jal, Jalr, Beq, Bne, Blt, Bge}
use Rattle.kat_rv.specs.declared.instr.Instr.TheVariants.{Bltu, Bgeu, Lw, Sw, Addi, Slti, Sltiu}
use Rattle.kat_rv.specs.declared.instr.Instr.TheVariants.{Xori, Ori, Andi, Slli, Srli, Srai, Add}
use Rattle.kat_rv.specs.declared.instr.Instr.TheVariants.{Sub, Sll, Slt, Sltu, Xor, Srl, Sra, Or}
use Rattle.kat_rv.specs.declared.instr.Instr.TheVariants.{And, Csrrw, Csrrs, Csrrc, Ecall, Mret}
use Rattle.kat_rv.specs.declared.text.Operands.{Operands}

-- the name of an instruction
abbrev pub name_of : Instr → List ℕ
name_of (Lui d z) = codes "lui"
name_of (Auipc d z) = codes "auipc"
name_of (Jal d z) = codes "jal"
name_of (Jalr d a z) = codes "jalr"
name_of (Beq a b z) = codes "beq"
name_of (Bne a b z) = codes "bne"
name_of (Blt a b z) = codes "blt"
name_of (Bge a b z) = codes "bge"
name_of (Bltu a b z) = codes "bltu"
name_of (Bgeu a b z) = codes "bgeu"
name_of (Lw d a z) = codes "lw"
name_of (Sw a b z) = codes "sw"
name_of (Addi d a z) = codes "addi"
name_of (Slti d a z) = codes "slti"
name_of (Sltiu d a z) = codes "sltiu"
name_of (Xori d a z) = codes "xori"
name_of (Ori d a z) = codes "ori"
name_of (Andi d a z) = codes "andi"
name_of (Slli d a z) = codes "slli"
name_of (Srli d a z) = codes "srli"
name_of (Srai d a z) = codes "srai"
name_of (Add d a b) = codes "add"
name_of (Sub d a b) = codes "sub"
name_of (Sll d a b) = codes "sll"
name_of (Slt d a b) = codes "slt"
name_of (Sltu d a b) = codes "sltu"
name_of (Xor d a b) = codes "xor"
name_of (Srl d a b) = codes "srl"
name_of (Sra d a b) = codes "sra"
name_of (Or d a b) = codes "or"
name_of (And d a b) = codes "and"
name_of (Csrrw d a c) = codes "csrrw"
name_of (Csrrs d a c) = codes "csrrs"
name_of (Csrrc d a c) = codes "csrrc"
name_of Ecall = codes "ecall"
name_of Mret = codes "mret"

-- a result, two registers
abbrev pub registers : ℕ → ℕ → ℕ → Operands
registers d a b = record { rd = Some d; rs1 = Some a; rs2 = Some b; csr = None; imm = None }

-- a result, a register and an immediate
abbrev pub immediate : ℕ → ℕ → ℤ → Operands
immediate d a z = record { rd = Some d; rs1 = Some a; rs2 = None; csr = None; imm = Some z }

-- two registers and an immediate
abbrev pub compared : ℕ → ℕ → ℤ → Operands
compared a b z = record { rd = None; rs1 = Some a; rs2 = Some b; csr = None; imm = Some z }

-- a result and an immediate
abbrev pub upper : ℕ → ℤ → Operands
upper d z = record { rd = Some d; rs1 = None; rs2 = None; csr = None; imm = Some z }

-- a result, a register and a CSR
abbrev pub status : ℕ → ℕ → ℕ → Operands
status d a c = record { rd = Some d; rs1 = Some a; rs2 = None; csr = Some c; imm = None }

-- no operand
abbrev pub nothing : Operands
nothing = record { rd = None; rs1 = None; rs2 = None; csr = None; imm = None }

-- the operands of an instruction
abbrev pub operands_of : Instr → Operands
operands_of (Lui d z) = upper d z
operands_of (Auipc d z) = upper d z
operands_of (Jal d z) = upper d z
operands_of (Jalr d a z) = immediate d a z
operands_of (Beq a b z) = compared a b z
operands_of (Bne a b z) = compared a b z
operands_of (Blt a b z) = compared a b z
operands_of (Bge a b z) = compared a b z
operands_of (Bltu a b z) = compared a b z
operands_of (Bgeu a b z) = compared a b z
operands_of (Lw d a z) = immediate d a z
operands_of (Sw a b z) = compared a b z
operands_of (Addi d a z) = immediate d a z
operands_of (Slti d a z) = immediate d a z
operands_of (Sltiu d a z) = immediate d a z
operands_of (Xori d a z) = immediate d a z
operands_of (Ori d a z) = immediate d a z
operands_of (Andi d a z) = immediate d a z
operands_of (Slli d a z) = immediate d a z
operands_of (Srli d a z) = immediate d a z
operands_of (Srai d a z) = immediate d a z
operands_of (Add d a b) = registers d a b
operands_of (Sub d a b) = registers d a b
operands_of (Sll d a b) = registers d a b
operands_of (Slt d a b) = registers d a b
operands_of (Sltu d a b) = registers d a b
operands_of (Xor d a b) = registers d a b
operands_of (Srl d a b) = registers d a b
operands_of (Sra d a b) = registers d a b
operands_of (Or d a b) = registers d a b
operands_of (And d a b) = registers d a b
operands_of (Csrrw d a c) = status d a c
operands_of (Csrrs d a c) = status d a c
operands_of (Csrrc d a c) = status d a c
operands_of Ecall = nothing
operands_of Mret = nothing

-- a space and a register
abbrev pub register_text : Option ℕ → List ℕ
register_text None = []
register_text (Some n) = codes " x" ++ decimal n

-- a space and the number of a CSR
abbrev pub csr_text : Option ℕ → List ℕ
csr_text None = []
csr_text (Some n) = codes " " ++ decimal n

-- a space and an immediate
abbrev pub immediate_text : Option ℤ → List ℕ
immediate_text None = []
immediate_text (Some (pos n)) = codes " " ++ decimal n
immediate_text (Some (negsuc n)) = codes " -" ++ decimal (n + 1)

-- the operands in the order rd, rs1, rs2, CSR, immediate
abbrev pub operands_text : Operands → List ℕ
operands_text o =
    register_text o.rd ++ register_text o.rs1 ++ register_text o.rs2
    ++ csr_text o.csr ++ immediate_text o.imm

-- the text of an instruction
abbrev pub text_of : Option Instr → List ℕ
text_of None = codes "illegal"
text_of (Some instr) = name_of instr ++ operands_text (operands_of instr)
