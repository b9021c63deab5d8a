-- A word is the sum of its fields at their places.
use Rattle.std.proofs.Common.{◌≡◌, ℕ, ◌+◌, ◌*◌, ◌/◌, ◌%◌, ◌^◌, ◌<◌, arith}
use Rattle.sl_model.specs.Words.{bits, opcode, funct3, funct7, rd_of, rs1_of, rs2_of, i_immediate, s_immediate, b_immediate, u_immediate, j_immediate}
use Rattle.rv_asm.specs.Encoding.{r_format, i_format, s_format, b_format, u_format, j_format}

pub r_word : (w o f3 f7 rd rs1 rs2 : ℕ) → w < 2 ^ 32 → opcode w ≡ o → funct3 w ≡ f3 → funct7 w ≡ f7 → rd_of w ≡ rd → rs1_of w ≡ rs1 → rs2_of w ≡ rs2
    → w ≡ r_format o f3 f7 rd rs1 rs2
unfolding r_format
r_word w o f3 f7 rd rs1 rs2 fits a b c d e f = omega arith

pub i_word : (w o f3 rd rs1 imm : ℕ) → w < 2 ^ 32 → opcode w ≡ o → funct3 w ≡ f3 → rd_of w ≡ rd → rs1_of w ≡ rs1 → i_immediate w ≡ imm
    → w ≡ i_format o f3 rd rs1 imm
unfolding i_format
i_word w o f3 rd rs1 imm fits a b c d e = omega arith

pub s_word : (w o f3 rs1 rs2 imm : ℕ) → w < 2 ^ 32 → opcode w ≡ o → funct3 w ≡ f3 → rs1_of w ≡ rs1 → rs2_of w ≡ rs2 → s_immediate w ≡ imm
    → w ≡ s_format o f3 rs1 rs2 imm
unfolding s_format
s_word w o f3 rs1 rs2 imm fits a b c d e = omega arith

pub b_word : (w o f3 rs1 rs2 half : ℕ) → w < 2 ^ 32 → opcode w ≡ o → funct3 w ≡ f3 → rs1_of w ≡ rs1 → rs2_of w ≡ rs2 → b_immediate w ≡ half
    → w ≡ b_format o f3 rs1 rs2 half
unfolding b_format
b_word w o f3 rs1 rs2 half fits a b c d e = omega arith

pub u_word : (w o rd imm : ℕ) → w < 2 ^ 32 → opcode w ≡ o → rd_of w ≡ rd → u_immediate w ≡ imm → w ≡ u_format o rd imm
unfolding u_format
u_word w o rd imm fits a b c = omega arith

pub j_word : (w o rd half : ℕ) → w < 2 ^ 32 → opcode w ≡ o → rd_of w ≡ rd → j_immediate w ≡ half → w ≡ j_format o rd half
unfolding j_format
j_word w o rd half fits a b c = omega arith

pub fence_word : (w o high rd : ℕ) → w < 2 ^ 32 → opcode w ≡ o → funct3 w ≡ 0 → bits 31 15 w ≡ high → rd_of w ≡ rd
    → w ≡ o + 2 ^ 7 * rd + 2 ^ 15 * high
fence_word w o high rd fits a b c d = omega arith
