-- The parts of a word, and the immediates that lie in them.
use Rattle.std.specs.Prelude.{◌<◌, ◌+◌, ◌*◌, ◌/◌, ◌%◌, ℕ}
use Rattle.kat_rv.specs.declared.parts.Parts.{Parts}

-- opcode 6:0, rd 11:7, funct3 14:12, rs1 19:15, rs2 24:20, funct7 31:25
abbrev pub parts_of : ℕ → Parts
parts_of word = record {
  opcode = word % 128;
  rd = word / 128 % 32;
  funct3 = word / 4096 % 8;
  rs1 = word / 32768 % 32;
  rs2 = word / 1048576 % 32;
  funct7 = word / 33554432;
}

-- the word with these parts
abbrev pub joined : Parts → ℕ
joined p =
    p.opcode + 128 * p.rd + 4096 * p.funct3 + 32768 * p.rs1 + 1048576 * p.rs2
    + 33554432 * p.funct7

-- each part is as wide as its place
pub record AreParts (p : Parts) : Type 0 where
  pub opcode : p.opcode < 128
  pub rd : p.rd < 32
  pub funct3 : p.funct3 < 8
  pub rs1 : p.rs1 < 32
  pub rs2 : p.rs2 < 32
  pub funct7 : p.funct7 < 128

-- immediate I: bits 31:20
abbrev pub number_i : Parts → ℕ
number_i p = p.funct7 * 32 + p.rs2

-- immediate S: bits 31:25 and 11:7
abbrev pub number_s : Parts → ℕ
number_s p = p.funct7 * 32 + p.rd

-- immediate B: bits 31, 7, 30:25, 11:8 and a zero
abbrev pub number_b : Parts → ℕ
number_b p =
    p.funct7 / 64 * 4096 + p.rd % 2 * 2048 + p.funct7 % 64 * 32 + p.rd / 2 * 2

-- immediate U: bits 31:12
abbrev pub number_u : Parts → ℕ
number_u p = p.funct7 * 8192 + p.rs2 * 256 + p.rs1 * 8 + p.funct3

-- immediate J: bits 31, 19:12, 20, 30:21 and a zero
abbrev pub number_j : Parts → ℕ
number_j p =
    p.funct7 / 64 * 1048576 + p.rs1 * 32768 + p.funct3 * 4096 + p.rs2 % 2 * 2048
    + p.funct7 % 64 * 32 + p.rs2 / 2 * 2
