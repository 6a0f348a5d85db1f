-- A word and its parts make each other.
use Rattle.std.proofs.Common.{◌≡◌, ℕ, ◌/◌, ◌%◌, ◌<◌, arith}
use Rattle.kat_rv.specs.declared.parts.Parts.{Parts}
use Rattle.kat_rv.specs.Parts.{AreParts, joined, parts_of}

pub split_joined : (p : Parts) → AreParts p → parts_of (joined p) ≡ p
split_joined p h =
    let opcode_is : joined p % 128 ≡ p.opcode = omega arith in
    let rd_is : joined p / 128 % 32 ≡ p.rd = omega arith in
    let funct3_is : joined p / 4096 % 8 ≡ p.funct3 = omega arith in
    let rs1_is : joined p / 32768 % 32 ≡ p.rs1 = omega arith in
    let rs2_is : joined p / 1048576 % 32 ≡ p.rs2 = omega arith in
    let funct7_is : joined p / 33554432 ≡ p.funct7 = omega arith in
    λ i. record {
      opcode = opcode_is i;
      rd = rd_is i;
      funct3 = funct3_is i;
      rs1 = rs1_is i;
      rs2 = rs2_is i;
      funct7 = funct7_is i;
    }

pub joined_split : (word : ℕ) → joined (parts_of word) ≡ word
joined_split word = omega arith

pub parts_held : (word : ℕ) → word < 4294967296 → AreParts (parts_of word)
parts_held word h = record {
  opcode = omega arith;
  rd = omega arith;
  funct3 = omega arith;
  rs1 = omega arith;
  rs2 = omega arith;
  funct7 = omega arith;
}
