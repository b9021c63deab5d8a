-- The instruction words of RV32IM, by the instruction table of the RISC-V Unprivileged ISA. A word
-- is a number below 2 ^ 32.
use Rattle.std.specs.Prelude.{◌≡◌, ℕ, ◌+◌, ◌-◌, ◌*◌, ◌/◌, ◌%◌, ◌^◌, ◌<◌, ◌==◌, ◌&&◌, if◌then◌else◌, Option, Some, None}
use Rattle.std.specs.Option.{option_map}
use Rattle.sl_model.specs.declared.opcodes.TheConstants as opcodes
use Rattle.sl_model.specs.declared.instr.BranchOp.{BranchOp}
use Rattle.sl_model.specs.declared.instr.BranchOp.TheVariants.{Beq, Bne, Blt, Bge, Bltu, Bgeu}
use Rattle.sl_model.specs.declared.instr.LoadOp.{LoadOp}
use Rattle.sl_model.specs.declared.instr.LoadOp.TheVariants.{Lb, Lh, Lw, Lbu, Lhu}
use Rattle.sl_model.specs.declared.instr.StoreOp.{StoreOp}
use Rattle.sl_model.specs.declared.instr.StoreOp.TheVariants.{Sb, Sh, Sw}
use Rattle.sl_model.specs.declared.instr.ImmediateOp.{ImmediateOp}
use Rattle.sl_model.specs.declared.instr.ImmediateOp.TheVariants.{Addi, Slti, Sltiu, Xori, Ori, Andi}
use Rattle.sl_model.specs.declared.instr.ShiftOp.{ShiftOp}
use Rattle.sl_model.specs.declared.instr.ShiftOp.TheVariants.{Slli, Srli, Srai}
use Rattle.sl_model.specs.declared.instr.RegisterOp.{RegisterOp}
use Rattle.sl_model.specs.declared.instr.RegisterOp.TheVariants.{Add, Sub, Sll, Slt, Sltu, Xor, Srl, Sra, Or, And}
use Rattle.sl_model.specs.declared.instr.MulDivOp.{MulDivOp}
use Rattle.sl_model.specs.declared.instr.MulDivOp.TheVariants.{Mul, Mulh, Mulhsu, Mulhu, Div, Divu, Rem, Remu}
use Rattle.sl_model.specs.declared.instr.Instr.{Instr}
use Rattle.sl_model.specs.declared.instr.Instr.TheVariants.{Lui, Auipc, Jal, Jalr, Branch, Load, Store, OpImm, Shift, Op, MulDiv, Fence, Ecall, Ebreak}

abbrev pub IsWord : ℕ → Type 0
IsWord n = n < 2 ^ 32

-- the number in the bits from high down to low
abbrev pub bits : ℕ → ℕ → ℕ → ℕ
bits high low word = word / 2 ^ low % 2 ^ (high - low + 1)

-- ---- the fields of the formats

abbrev pub opcode : ℕ → ℕ
opcode word = bits 6 0 word

abbrev pub rd_of : ℕ → ℕ
rd_of word = bits 11 7 word

abbrev pub funct3 : ℕ → ℕ
funct3 word = bits 14 12 word

abbrev pub rs1_of : ℕ → ℕ
rs1_of word = bits 19 15 word

abbrev pub rs2_of : ℕ → ℕ
rs2_of word = bits 24 20 word

abbrev pub funct7 : ℕ → ℕ
funct7 word = bits 31 25 word

-- imm[11:0] of the I format
abbrev pub i_immediate : ℕ → ℕ
i_immediate word = bits 31 20 word

-- imm[11:0] of the S format
abbrev pub s_immediate : ℕ → ℕ
s_immediate word = 2 ^ 5 * bits 31 25 word + bits 11 7 word

-- imm[12:1] of the B format
--
--     31       30        25  24  20  19  15  14   12  11       8  7        6      0
--     imm[12]  imm[10:5]     rs2     rs1     funct3   imm[4:1]    imm[11]  opcode
abbrev pub b_immediate : ℕ → ℕ
b_immediate word =
    2 ^ 11 * bits 31 31 word + 2 ^ 10 * bits 7 7 word + 2 ^ 4 * bits 30 25 word + bits 11 8 word

-- imm[31:12] of the U format
abbrev pub u_immediate : ℕ → ℕ
u_immediate word = bits 31 12 word

-- imm[20:1] of the J format
--
--     31       30        21  20       19         12  11   7  6      0
--     imm[20]  imm[10:1]     imm[11]  imm[19:12]     rd      opcode
abbrev pub j_immediate : ℕ → ℕ
j_immediate word =
    2 ^ 19 * bits 31 31 word + 2 ^ 11 * bits 19 12 word + 2 ^ 10 * bits 20 20 word + bits 30 21 word

-- ---- funct3 and funct7 of operations

abbrev pub branch_funct3 : BranchOp → ℕ
branch_funct3 Beq = 0b000
branch_funct3 Bne = 0b001
branch_funct3 Blt = 0b100
branch_funct3 Bge = 0b101
branch_funct3 Bltu = 0b110
branch_funct3 Bgeu = 0b111

abbrev pub load_funct3 : LoadOp → ℕ
load_funct3 Lb = 0b000
load_funct3 Lh = 0b001
load_funct3 Lw = 0b010
load_funct3 Lbu = 0b100
load_funct3 Lhu = 0b101

abbrev pub store_funct3 : StoreOp → ℕ
store_funct3 Sb = 0b000
store_funct3 Sh = 0b001
store_funct3 Sw = 0b010

abbrev pub immediate_funct3 : ImmediateOp → ℕ
immediate_funct3 Addi = 0b000
immediate_funct3 Slti = 0b010
immediate_funct3 Sltiu = 0b011
immediate_funct3 Xori = 0b100
immediate_funct3 Ori = 0b110
immediate_funct3 Andi = 0b111

abbrev pub shift_funct3 : ShiftOp → ℕ
shift_funct3 Slli = 0b001
shift_funct3 Srli = 0b101
shift_funct3 Srai = 0b101

abbrev pub shift_funct7 : ShiftOp → ℕ
shift_funct7 Slli = 0b0000000
shift_funct7 Srli = 0b0000000
shift_funct7 Srai = 0b0100000

abbrev pub register_funct3 : RegisterOp → ℕ
register_funct3 Add = 0b000
register_funct3 Sub = 0b000
register_funct3 Sll = 0b001
register_funct3 Slt = 0b010
register_funct3 Sltu = 0b011
register_funct3 Xor = 0b100
register_funct3 Srl = 0b101
register_funct3 Sra = 0b101
register_funct3 Or = 0b110
register_funct3 And = 0b111

abbrev pub register_funct7 : RegisterOp → ℕ
register_funct7 Add = 0b0000000
register_funct7 Sub = 0b0100000
register_funct7 Sll = 0b0000000
register_funct7 Slt = 0b0000000
register_funct7 Sltu = 0b0000000
register_funct7 Xor = 0b0000000
register_funct7 Srl = 0b0000000
register_funct7 Sra = 0b0100000
register_funct7 Or = 0b0000000
register_funct7 And = 0b0000000

abbrev pub mul_div_funct3 : MulDivOp → ℕ
mul_div_funct3 Mul = 0b000
mul_div_funct3 Mulh = 0b001
mul_div_funct3 Mulhsu = 0b010
mul_div_funct3 Mulhu = 0b011
mul_div_funct3 Div = 0b100
mul_div_funct3 Divu = 0b101
mul_div_funct3 Rem = 0b110
mul_div_funct3 Remu = 0b111

-- ---- what a word means, one line for each row of the table

-- the word's bits are those of the instruction
abbrev pub HasBits : ℕ → Instr → Type 0
HasBits word (Lui rd imm) =
    (opcode word ≡ opcodes.LUI) × (rd_of word ≡ rd) × (u_immediate word ≡ imm)
HasBits word (Auipc rd imm) =
    (opcode word ≡ opcodes.AUIPC) × (rd_of word ≡ rd) × (u_immediate word ≡ imm)
HasBits word (Jal rd half_offset) =
    (opcode word ≡ opcodes.JAL) × (rd_of word ≡ rd) × (j_immediate word ≡ half_offset)
HasBits word (Jalr rd rs1 offset) =
    (opcode word ≡ opcodes.JALR) × (funct3 word ≡ 0b000)
    × (rd_of word ≡ rd) × (rs1_of word ≡ rs1) × (i_immediate word ≡ offset)
HasBits word (Branch op rs1 rs2 half_offset) =
    (opcode word ≡ opcodes.BRANCH) × (funct3 word ≡ branch_funct3 op)
    × (rs1_of word ≡ rs1) × (rs2_of word ≡ rs2) × (b_immediate word ≡ half_offset)
HasBits word (Load op rd rs1 offset) =
    (opcode word ≡ opcodes.LOAD) × (funct3 word ≡ load_funct3 op)
    × (rd_of word ≡ rd) × (rs1_of word ≡ rs1) × (i_immediate word ≡ offset)
HasBits word (Store op rs1 rs2 offset) =
    (opcode word ≡ opcodes.STORE) × (funct3 word ≡ store_funct3 op)
    × (rs1_of word ≡ rs1) × (rs2_of word ≡ rs2) × (s_immediate word ≡ offset)
HasBits word (OpImm op rd rs1 imm) =
    (opcode word ≡ opcodes.OP_IMM) × (funct3 word ≡ immediate_funct3 op)
    × (rd_of word ≡ rd) × (rs1_of word ≡ rs1) × (i_immediate word ≡ imm)
HasBits word (Shift op rd rs1 amount) =
    (opcode word ≡ opcodes.OP_IMM)
    × (funct3 word ≡ shift_funct3 op) × (funct7 word ≡ shift_funct7 op)
    × (rd_of word ≡ rd) × (rs1_of word ≡ rs1) × (rs2_of word ≡ amount)
HasBits word (Op op rd rs1 rs2) =
    (opcode word ≡ opcodes.OP)
    × (funct3 word ≡ register_funct3 op) × (funct7 word ≡ register_funct7 op)
    × (rd_of word ≡ rd) × (rs1_of word ≡ rs1) × (rs2_of word ≡ rs2)
HasBits word (MulDiv op rd rs1 rs2) =
    (opcode word ≡ opcodes.OP) × (funct3 word ≡ mul_div_funct3 op) × (funct7 word ≡ opcodes.MULDIV)
    × (rd_of word ≡ rd) × (rs1_of word ≡ rs1) × (rs2_of word ≡ rs2)
HasBits word (Fence high rd) =
    (opcode word ≡ opcodes.MISC_MEM) × (funct3 word ≡ 0b000)
    × (bits 31 15 word ≡ high) × (rd_of word ≡ rd)
HasBits word Ecall = word ≡ opcodes.ECALL
HasBits word Ebreak = word ≡ opcodes.EBREAK

-- a word means an instruction
pub record Means (word : ℕ) (instr : Instr) : Type 0 where
  pub in_range : IsWord word
  pub has_bits : HasBits word instr

-- ---- the same as a function, for the step to compute with: what a word means, or None

unfoldable pub branch_op : ℕ → Option BranchOp
branch_op f =
    if f == branch_funct3 Beq then Some Beq
    else if f == branch_funct3 Bne then Some Bne
    else if f == branch_funct3 Blt then Some Blt
    else if f == branch_funct3 Bge then Some Bge
    else if f == branch_funct3 Bltu then Some Bltu
    else if f == branch_funct3 Bgeu then Some Bgeu
    else None

unfoldable pub load_op : ℕ → Option LoadOp
load_op f =
    if f == load_funct3 Lb then Some Lb
    else if f == load_funct3 Lh then Some Lh
    else if f == load_funct3 Lw then Some Lw
    else if f == load_funct3 Lbu then Some Lbu
    else if f == load_funct3 Lhu then Some Lhu
    else None

unfoldable pub store_op : ℕ → Option StoreOp
store_op f =
    if f == store_funct3 Sb then Some Sb
    else if f == store_funct3 Sh then Some Sh
    else if f == store_funct3 Sw then Some Sw
    else None

unfoldable pub immediate_op : ℕ → Option ImmediateOp
immediate_op f =
    if f == immediate_funct3 Addi then Some Addi
    else if f == immediate_funct3 Slti then Some Slti
    else if f == immediate_funct3 Sltiu then Some Sltiu
    else if f == immediate_funct3 Xori then Some Xori
    else if f == immediate_funct3 Ori then Some Ori
    else if f == immediate_funct3 Andi then Some Andi
    else None

unfoldable pub shift_op : ℕ → ℕ → Option ShiftOp
shift_op f7 f3 =
    if f3 == shift_funct3 Slli && f7 == shift_funct7 Slli then Some Slli
    else if f3 == shift_funct3 Srli && f7 == shift_funct7 Srli then Some Srli
    else if f3 == shift_funct3 Srai && f7 == shift_funct7 Srai then Some Srai
    else None

-- the operations whose funct7 is that of ADD
unfoldable pub plain_register_op : ℕ → Option RegisterOp
plain_register_op f =
    if f == register_funct3 Add then Some Add
    else if f == register_funct3 Sll then Some Sll
    else if f == register_funct3 Slt then Some Slt
    else if f == register_funct3 Sltu then Some Sltu
    else if f == register_funct3 Xor then Some Xor
    else if f == register_funct3 Srl then Some Srl
    else if f == register_funct3 Or then Some Or
    else if f == register_funct3 And then Some And
    else None

unfoldable pub register_op : ℕ → ℕ → Option RegisterOp
register_op f7 f3 =
    if f7 == register_funct7 Add then plain_register_op f3
    else if f7 == register_funct7 Sub && f3 == register_funct3 Sub then Some Sub
    else if f7 == register_funct7 Sra && f3 == register_funct3 Sra then Some Sra
    else None

unfoldable pub mul_div_op : ℕ → Option MulDivOp
mul_div_op f =
    if f == mul_div_funct3 Mul then Some Mul
    else if f == mul_div_funct3 Mulh then Some Mulh
    else if f == mul_div_funct3 Mulhsu then Some Mulhsu
    else if f == mul_div_funct3 Mulhu then Some Mulhu
    else if f == mul_div_funct3 Div then Some Div
    else if f == mul_div_funct3 Divu then Some Divu
    else if f == mul_div_funct3 Rem then Some Rem
    else if f == mul_div_funct3 Remu then Some Remu
    else None

unfoldable pub jalr_meaning : ℕ → Option Instr
jalr_meaning word =
    if funct3 word == 0b000 then Some (Jalr (rd_of word) (rs1_of word) (i_immediate word)) else None

unfoldable pub branch_meaning : ℕ → Option Instr
branch_meaning word =
    option_map (λ op. Branch op (rs1_of word) (rs2_of word) (b_immediate word))
    (branch_op (funct3 word))

unfoldable pub load_meaning : ℕ → Option Instr
load_meaning word =
    option_map (λ op. Load op (rd_of word) (rs1_of word) (i_immediate word)) (load_op (funct3 word))

unfoldable pub store_meaning : ℕ → Option Instr
store_meaning word =
    option_map (λ op. Store op (rs1_of word) (rs2_of word) (s_immediate word))
    (store_op (funct3 word))

-- shifts have the funct3 of SLLI or of SRLI
unfoldable pub immediate_meaning : ℕ → Option Instr
immediate_meaning word =
    let shift = λ (op : ShiftOp). Shift op (rd_of word) (rs1_of word) (rs2_of word) in
    let op_imm = λ (op : ImmediateOp). OpImm op (rd_of word) (rs1_of word) (i_immediate word) in
    let shifts : Option Instr = option_map shift (shift_op (funct7 word) (funct3 word)) in
    if funct3 word == shift_funct3 Slli then shifts
    else if funct3 word == shift_funct3 Srli then shifts
    else option_map op_imm (immediate_op (funct3 word))

unfoldable pub register_meaning : ℕ → Option Instr
register_meaning word =
    let mul_div = λ (op : MulDivOp). MulDiv op (rd_of word) (rs1_of word) (rs2_of word) in
    let plain = λ (op : RegisterOp). Op op (rd_of word) (rs1_of word) (rs2_of word) in
    if funct7 word == opcodes.MULDIV then option_map mul_div (mul_div_op (funct3 word))
    else option_map plain (register_op (funct7 word) (funct3 word))

unfoldable pub fence_meaning : ℕ → Option Instr
fence_meaning word =
    if funct3 word == 0b000 then Some (Fence (bits 31 15 word) (rd_of word)) else None

unfoldable pub system_meaning : ℕ → Option Instr
system_meaning word =
    if word == opcodes.ECALL then Some Ecall
    else if word == opcodes.EBREAK then Some Ebreak
    else None

unfoldable pub meaning : ℕ → Option Instr
meaning word =
    if opcode word == opcodes.LUI then Some (Lui (rd_of word) (u_immediate word))
    else if opcode word == opcodes.AUIPC then Some (Auipc (rd_of word) (u_immediate word))
    else if opcode word == opcodes.JAL then Some (Jal (rd_of word) (j_immediate word))
    else if opcode word == opcodes.JALR then jalr_meaning word
    else if opcode word == opcodes.BRANCH then branch_meaning word
    else if opcode word == opcodes.LOAD then load_meaning word
    else if opcode word == opcodes.STORE then store_meaning word
    else if opcode word == opcodes.OP_IMM then immediate_meaning word
    else if opcode word == opcodes.OP then register_meaning word
    else if opcode word == opcodes.MISC_MEM then fence_meaning word
    else if opcode word == opcodes.SYSTEM then system_meaning word
    else None
