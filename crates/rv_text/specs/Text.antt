-- The text of an instruction, as the RISC-V Unprivileged ISA and its calling convention name its
-- parts.
use Rattle.std.specs.Prelude.{ℕ, List, [], ◌∷◌, ◌++◌, codes, decimal}
use Rattle.std.specs.List.{slice_index_or}
use Rattle.std.specs.Fmt.{signed_decimal}
use Rattle.sl_model.specs.declared.instr.BranchOp.{BranchOp}
use Rattle.sl_model.specs.declared.instr.BranchOp.TheVariants.{Beq, Bne, Blt, Bge, Bltu, Bgeu}
use Rattle.sl_model.specs.declared.instr.LoadOp.{LoadOp}
use Rattle.sl_model.specs.declared.instr.LoadOp.TheVariants.{Lb, Lh, Lw, Lbu, Lhu}
use Rattle.sl_model.specs.declared.instr.StoreOp.{StoreOp}
use Rattle.sl_model.specs.declared.instr.StoreOp.TheVariants.{Sb, Sh, Sw}
use Rattle.sl_model.specs.declared.instr.ImmediateOp.{ImmediateOp}
use Rattle.sl_model.specs.declared.instr.ImmediateOp.TheVariants.{Addi, Slti, Sltiu, Xori, Ori, Andi}
use Rattle.sl_model.specs.declared.instr.ShiftOp.{ShiftOp}
use Rattle.sl_model.specs.declared.instr.ShiftOp.TheVariants.{Slli, Srli, Srai}
use Rattle.sl_model.specs.declared.instr.RegisterOp.{RegisterOp}
use Rattle.sl_model.specs.declared.instr.RegisterOp.TheVariants.{Add, Sub, Sll, Slt, Sltu, Xor, Srl, Sra, Or, And}
use Rattle.sl_model.specs.declared.instr.MulDivOp.{MulDivOp}
use Rattle.sl_model.specs.declared.instr.MulDivOp.TheVariants.{Mul, Mulh, Mulhsu, Mulhu, Div, Divu, Rem, Remu}
use Rattle.sl_model.specs.declared.instr.Instr.{Instr}
use Rattle.sl_model.specs.declared.instr.Instr.TheVariants.{Lui, Auipc, Jal, Jalr, Branch, Load, Store, OpImm, Shift, Op, MulDiv, Fence, Ecall, Ebreak}
use Rattle.sl_model.specs.Arithmetic.{signed, immediate_word, branch_word, jump_word}

-- x0 to x31, as the calling convention names them
abbrev pub register_names : List (List ℕ)
register_names =
    codes "zero" ∷ codes "ra" ∷ codes "sp" ∷ codes "gp" ∷ codes "tp"
    ∷ codes "t0" ∷ codes "t1" ∷ codes "t2" ∷ codes "s0" ∷ codes "s1"
    ∷ codes "a0" ∷ codes "a1" ∷ codes "a2" ∷ codes "a3"
    ∷ codes "a4" ∷ codes "a5" ∷ codes "a6" ∷ codes "a7"
    ∷ codes "s2" ∷ codes "s3" ∷ codes "s4" ∷ codes "s5" ∷ codes "s6"
    ∷ codes "s7" ∷ codes "s8" ∷ codes "s9" ∷ codes "s10" ∷ codes "s11"
    ∷ codes "t3" ∷ codes "t4" ∷ codes "t5" ∷ codes "t6" ∷ []

unfoldable pub register_name : ℕ → List ℕ
register_name n = slice_index_or register_names n []

-- ---- mnemonics

abbrev pub branch_name : BranchOp → List ℕ
branch_name Beq = codes "beq"
branch_name Bne = codes "bne"
branch_name Blt = codes "blt"
branch_name Bge = codes "bge"
branch_name Bltu = codes "bltu"
branch_name Bgeu = codes "bgeu"

abbrev pub load_name : LoadOp → List ℕ
load_name Lb = codes "lb"
load_name Lh = codes "lh"
load_name Lw = codes "lw"
load_name Lbu = codes "lbu"
load_name Lhu = codes "lhu"

abbrev pub store_name : StoreOp → List ℕ
store_name Sb = codes "sb"
store_name Sh = codes "sh"
store_name Sw = codes "sw"

abbrev pub immediate_name : ImmediateOp → List ℕ
immediate_name Addi = codes "addi"
immediate_name Slti = codes "slti"
immediate_name Sltiu = codes "sltiu"
immediate_name Xori = codes "xori"
immediate_name Ori = codes "ori"
immediate_name Andi = codes "andi"

abbrev pub shift_name : ShiftOp → List ℕ
shift_name Slli = codes "slli"
shift_name Srli = codes "srli"
shift_name Srai = codes "srai"

abbrev pub operation_name : RegisterOp → List ℕ
operation_name Add = codes "add"
operation_name Sub = codes "sub"
operation_name Sll = codes "sll"
operation_name Slt = codes "slt"
operation_name Sltu = codes "sltu"
operation_name Xor = codes "xor"
operation_name Srl = codes "srl"
operation_name Sra = codes "sra"
operation_name Or = codes "or"
operation_name And = codes "and"

abbrev pub mul_div_name : MulDivOp → List ℕ
mul_div_name Mul = codes "mul"
mul_div_name Mulh = codes "mulh"
mul_div_name Mulhsu = codes "mulhsu"
mul_div_name Mulhu = codes "mulhu"
mul_div_name Div = codes "div"
mul_div_name Divu = codes "divu"
mul_div_name Rem = codes "rem"
mul_div_name Remu = codes "remu"

-- ---- operands

-- the number that a word stands for, with a sign
abbrev pub number : ℕ → List ℕ
number word = signed_decimal (signed word)

abbrev pub two_operands : List ℕ → List ℕ → List ℕ → List ℕ
two_operands name a b = name ++ codes " " ++ a ++ codes ", " ++ b

abbrev pub three_operands : List ℕ → List ℕ → List ℕ → List ℕ → List ℕ
three_operands name a b c = two_operands name a b ++ codes ", " ++ c

abbrev pub in_parentheses : List ℕ → List ℕ
in_parentheses text = codes "(" ++ text ++ codes ")"

-- an address is an offset and the register that it is added to
abbrev pub address : ℕ → ℕ → List ℕ
address offset base = number offset ++ in_parentheses (register_name base)

-- one line a form
abbrev pub instr_text : Instr → List ℕ
instr_text (Lui rd imm) = two_operands (codes "lui") (register_name rd) (decimal imm)
instr_text (Auipc rd imm) = two_operands (codes "auipc") (register_name rd) (decimal imm)
instr_text (Jal rd half_offset) =
    two_operands (codes "jal") (register_name rd) (number (jump_word half_offset))
instr_text (Jalr rd rs1 offset) =
    two_operands (codes "jalr") (register_name rd) (address (immediate_word offset) rs1)
instr_text (Branch op rs1 rs2 half_offset) =
    three_operands (branch_name op) (register_name rs1) (register_name rs2)
    (number (branch_word half_offset))
instr_text (Load op rd rs1 offset) =
    two_operands (load_name op) (register_name rd) (address (immediate_word offset) rs1)
instr_text (Store op rs1 rs2 offset) =
    two_operands (store_name op) (register_name rs2) (address (immediate_word offset) rs1)
instr_text (OpImm op rd rs1 imm) =
    three_operands (immediate_name op) (register_name rd) (register_name rs1)
    (number (immediate_word imm))
instr_text (Shift op rd rs1 amount) =
    three_operands (shift_name op) (register_name rd) (register_name rs1) (decimal amount)
instr_text (Op op rd rs1 rs2) =
    three_operands (operation_name op) (register_name rd) (register_name rs1) (register_name rs2)
instr_text (MulDiv op rd rs1 rs2) =
    three_operands (mul_div_name op) (register_name rd) (register_name rs1) (register_name rs2)
instr_text (Fence high rd) = codes "fence"
instr_text Ecall = codes "ecall"
instr_text Ebreak = codes "ebreak"
