-- The word of an instruction, as the sum of its fields at their places in the word.
use Rattle.std.specs.Prelude.{ℕ, ◌+◌, ◌*◌, ◌/◌, ◌%◌, ◌^◌}
use Rattle.sl_model.specs.declared.opcodes.TheConstants as opcodes
use Rattle.sl_model.specs.declared.instr.Instr.{Instr}
use Rattle.sl_model.specs.declared.instr.Instr.TheVariants.{Lui, Auipc, Jal, Jalr, Branch, Load, Store, OpImm, Shift, Op, MulDiv, Fence, Ecall, Ebreak}
use Rattle.sl_model.specs.Words.{branch_funct3, load_funct3, store_funct3, immediate_funct3, shift_funct3, shift_funct7, register_funct3, register_funct7, mul_div_funct3}

-- ---- the formats

unfoldable pub r_format : ℕ → ℕ → ℕ → ℕ → ℕ → ℕ → ℕ
r_format opcode funct3 funct7 rd rs1 rs2 =
    opcode + 2 ^ 7 * rd + 2 ^ 12 * funct3 + 2 ^ 15 * rs1 + 2 ^ 20 * rs2 + 2 ^ 25 * funct7

unfoldable pub i_format : ℕ → ℕ → ℕ → ℕ → ℕ → ℕ
i_format opcode funct3 rd rs1 imm =
    opcode + 2 ^ 7 * rd + 2 ^ 12 * funct3 + 2 ^ 15 * rs1 + 2 ^ 20 * imm

-- imm[4:0], and imm[11:5]
unfoldable pub s_format : ℕ → ℕ → ℕ → ℕ → ℕ → ℕ
s_format opcode funct3 rs1 rs2 imm =
    opcode + 2 ^ 7 * (imm % 2 ^ 5) + 2 ^ 12 * funct3 + 2 ^ 15 * rs1 + 2 ^ 20 * rs2
    + 2 ^ 25 * (imm / 2 ^ 5)

-- imm[11], imm[4:1], imm[10:5] and imm[12], of half the offset
unfoldable pub b_format : ℕ → ℕ → ℕ → ℕ → ℕ → ℕ
b_format opcode funct3 rs1 rs2 half =
    opcode + 2 ^ 7 * (half / 2 ^ 10 % 2) + 2 ^ 8 * (half % 2 ^ 4) + 2 ^ 12 * funct3
    + 2 ^ 15 * rs1 + 2 ^ 20 * rs2 + 2 ^ 25 * (half / 2 ^ 4 % 2 ^ 6) + 2 ^ 31 * (half / 2 ^ 11)

unfoldable pub u_format : ℕ → ℕ → ℕ → ℕ
u_format opcode rd imm = opcode + 2 ^ 7 * rd + 2 ^ 12 * imm

-- imm[19:12], imm[11], imm[10:1] and imm[20], of half the offset
unfoldable pub j_format : ℕ → ℕ → ℕ → ℕ
j_format opcode rd half =
    opcode + 2 ^ 7 * rd + 2 ^ 12 * (half / 2 ^ 11 % 2 ^ 8) + 2 ^ 20 * (half / 2 ^ 10 % 2)
    + 2 ^ 21 * (half % 2 ^ 10) + 2 ^ 31 * (half / 2 ^ 19)

-- ---- the instructions

unfoldable pub word_for : Instr → ℕ
word_for (Lui rd imm) = u_format opcodes.LUI rd imm
word_for (Auipc rd imm) = u_format opcodes.AUIPC rd imm
word_for (Jal rd half_offset) = j_format opcodes.JAL rd half_offset
word_for (Jalr rd rs1 offset) = i_format opcodes.JALR 0b000 rd rs1 offset
word_for (Branch op rs1 rs2 half_offset) =
    b_format opcodes.BRANCH (branch_funct3 op) rs1 rs2 half_offset
word_for (Load op rd rs1 offset) = i_format opcodes.LOAD (load_funct3 op) rd rs1 offset
word_for (Store op rs1 rs2 offset) = s_format opcodes.STORE (store_funct3 op) rs1 rs2 offset
word_for (OpImm op rd rs1 imm) = i_format opcodes.OP_IMM (immediate_funct3 op) rd rs1 imm
word_for (Shift op rd rs1 amount) =
    r_format opcodes.OP_IMM (shift_funct3 op) (shift_funct7 op) rd rs1 amount
word_for (Op op rd rs1 rs2) =
    r_format opcodes.OP (register_funct3 op) (register_funct7 op) rd rs1 rs2
word_for (MulDiv op rd rs1 rs2) = r_format opcodes.OP (mul_div_funct3 op) opcodes.MULDIV rd rs1 rs2
word_for (Fence high rd) = opcodes.MISC_MEM + 2 ^ 7 * rd + 2 ^ 15 * high
word_for Ecall = opcodes.ECALL
word_for Ebreak = opcodes.EBREAK
