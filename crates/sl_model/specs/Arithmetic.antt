-- What the operations of RV32IM give, on words from 0 to 2 ^ 32 - 1 ("RV32I Base Integer
-- Instruction Set" and the "M" extension).
use Rattle.std.specs.Prelude.{ℕ, ◌+◌, ◌-◌, ◌*◌, ◌/◌, ◌%◌, ◌^◌, ◌==◌, if◌then◌else◌, nat_lt, not, Bool, int_lt, int_div, int_rem, bit_and, bit_or, bit_xor, ℤ, pos, negsuc, ◌*ℤ◌}
use Rattle.std.specs.Int.{w32, w64, cast_signed, cast_unsigned, int_shr}
use Rattle.sl_model.specs.declared.instr.BranchOp.{BranchOp}
use Rattle.sl_model.specs.declared.instr.BranchOp.TheVariants.{Beq, Bne, Blt, Bge, Bltu, Bgeu}
use Rattle.sl_model.specs.declared.instr.LoadOp.{LoadOp}
use Rattle.sl_model.specs.declared.instr.LoadOp.TheVariants.{Lb, Lh, Lw, Lbu, Lhu}
use Rattle.sl_model.specs.declared.instr.StoreOp.{StoreOp}
use Rattle.sl_model.specs.declared.instr.StoreOp.TheVariants.{Sb, Sh, Sw}
use Rattle.sl_model.specs.declared.instr.ImmediateOp.{ImmediateOp}
use Rattle.sl_model.specs.declared.instr.ImmediateOp.TheVariants.{Addi, Slti, Sltiu, Xori, Ori, Andi}
use Rattle.sl_model.specs.declared.instr.ShiftOp.{ShiftOp}
use Rattle.sl_model.specs.declared.instr.ShiftOp.TheVariants.{Slli, Srli, Srai}
use Rattle.sl_model.specs.declared.instr.RegisterOp.{RegisterOp}
use Rattle.sl_model.specs.declared.instr.RegisterOp.TheVariants.{Add, Sub, Sll, Slt, Sltu, Xor, Srl, Sra, Or, And}
use Rattle.sl_model.specs.declared.instr.MulDivOp.{MulDivOp}
use Rattle.sl_model.specs.declared.instr.MulDivOp.TheVariants.{Mul, Mulh, Mulhsu, Mulhu, Div, Divu, Rem, Remu}

-- a word as a number with a sign, in two's complement
abbrev pub signed : ℕ → ℤ
signed word = cast_signed w32 word

-- the word of a whole number, modulo 2 ^ 32
abbrev pub word_of : ℤ → ℕ
word_of (pos n) = n % 2 ^ 32
word_of (negsuc n) = 2 ^ 32 - 1 - n % 2 ^ 32

-- the sum of two words, modulo 2 ^ 32
abbrev pub word_add : ℕ → ℕ → ℕ
word_add a b = (a + b) % 2 ^ 32

-- the difference of two words, modulo 2 ^ 32
abbrev pub word_sub : ℕ → ℕ → ℕ
word_sub a b = (a + (2 ^ 32 - b)) % 2 ^ 32

-- a number of some bits, of which the highest is its sign, as a word
abbrev pub sign_extend : ℕ → ℕ → ℕ
sign_extend width n = if nat_lt n (2 ^ (width - 1)) then n else n + (2 ^ 32 - 2 ^ width)

-- the word that an imm[11:0] stands for
abbrev pub immediate_word : ℕ → ℕ
immediate_word imm = sign_extend 12 imm

-- the word that an imm[31:12] stands for
abbrev pub upper_word : ℕ → ℕ
upper_word imm = imm * 2 ^ 12

-- the word that an imm[12:1] stands for, which is half an offset
abbrev pub branch_word : ℕ → ℕ
branch_word half_offset = sign_extend 13 (2 * half_offset)

-- the word that an imm[20:1] stands for, which is half an offset
abbrev pub jump_word : ℕ → ℕ
jump_word half_offset = sign_extend 21 (2 * half_offset)

-- 1 where a condition holds, else 0
abbrev pub truth : Bool → ℕ
truth b = if b then 1 else 0

abbrev pub shift_left : ℕ → ℕ → ℕ
shift_left a amount = (a * 2 ^ amount) % 2 ^ 32

abbrev pub shift_right : ℕ → ℕ → ℕ
shift_right a amount = a / 2 ^ amount

-- rounded down, so that the sign is kept
abbrev pub shift_right_arithmetic : ℕ → ℕ → ℕ
shift_right_arithmetic a amount = word_of (int_shr (signed a) amount)

abbrev pub is_less_signed : ℕ → ℕ → Bool
is_less_signed a b = int_lt (signed a) (signed b)

abbrev pub is_taken : BranchOp → ℕ → ℕ → Bool
is_taken Beq a b = a == b
is_taken Bne a b = not (a == b)
is_taken Blt a b = is_less_signed a b
is_taken Bge a b = not (is_less_signed a b)
is_taken Bltu a b = nat_lt a b
is_taken Bgeu a b = not (nat_lt a b)

-- the second argument is the immediate as a word
abbrev pub immediate_value : ImmediateOp → ℕ → ℕ → ℕ
immediate_value Addi a imm = word_add a imm
immediate_value Slti a imm = truth (is_less_signed a imm)
immediate_value Sltiu a imm = truth (nat_lt a imm)
immediate_value Xori a imm = bit_xor a imm
immediate_value Ori a imm = bit_or a imm
immediate_value Andi a imm = bit_and a imm

abbrev pub shift_value : ShiftOp → ℕ → ℕ → ℕ
shift_value Slli a amount = shift_left a amount
shift_value Srli a amount = shift_right a amount
shift_value Srai a amount = shift_right_arithmetic a amount

-- shifts use the low five bits of their second argument
abbrev pub register_value : RegisterOp → ℕ → ℕ → ℕ
register_value Add a b = word_add a b
register_value Sub a b = word_sub a b
register_value Sll a b = shift_left a (b % 32)
register_value Slt a b = truth (is_less_signed a b)
register_value Sltu a b = truth (nat_lt a b)
register_value Xor a b = bit_xor a b
register_value Srl a b = shift_right a (b % 32)
register_value Sra a b = shift_right_arithmetic a (b % 32)
register_value Or a b = bit_or a b
register_value And a b = bit_and a b

-- the upper 32 bits of a product of 64 bits
abbrev pub upper_half : ℤ → ℕ
upper_half product = cast_unsigned w64 product / 2 ^ 32

-- Division rounds towards zero, and a remainder has the sign of the dividend. By zero the quotient
-- is all ones and the remainder the dividend. The least number by -1 gives itself, with the
-- remainder 0.
abbrev pub mul_div_value : MulDivOp → ℕ → ℕ → ℕ
mul_div_value Mul a b = (a * b) % 2 ^ 32
mul_div_value Mulh a b = upper_half (signed a *ℤ signed b)
mul_div_value Mulhsu a b = upper_half (signed a *ℤ pos b)
mul_div_value Mulhu a b = a * b / 2 ^ 32
mul_div_value Div a b = if b == 0 then 2 ^ 32 - 1 else word_of (int_div (signed a) (signed b))
mul_div_value Divu a b = if b == 0 then 2 ^ 32 - 1 else a / b
mul_div_value Rem a b = if b == 0 then a else word_of (int_rem (signed a) (signed b))
mul_div_value Remu a b = if b == 0 then a else a % b

-- how many bytes an access takes
abbrev pub load_width : LoadOp → ℕ
load_width Lb = 1
load_width Lh = 2
load_width Lw = 4
load_width Lbu = 1
load_width Lhu = 2

abbrev pub store_width : StoreOp → ℕ
store_width Sb = 1
store_width Sh = 2
store_width Sw = 4

-- what a load puts into its register, of the number in memory
abbrev pub load_value : LoadOp → ℕ → ℕ
load_value Lb n = sign_extend 8 n
load_value Lh n = sign_extend 16 n
load_value Lw n = n
load_value Lbu n = n
load_value Lhu n = n
