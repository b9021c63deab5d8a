-- What the operations give are words.
use Rattle.std.specs.Prelude.{◌*◌, ◌==◌, if◌then◌else◌, Bool, true, false, ℤ, pos, negsuc, ◌*ℤ◌, int_div, int_rem, unsigned_abs}
use Rattle.std.specs.Int.{w64, cast_unsigned, int_shr}
use Rattle.std.proofs.Common.{ℕ, ◌-◌, ◌/◌, ◌%◌, ◌^◌, ◌<◌, ◌≤◌, arith}
use Rattle.std.proofs.lemmas.Bool.Decides.{nat_tests}
use Rattle.std.proofs.lemmas.Int.{ints, unsigned_abs-mul}
use Rattle.std.proofs.lemmas.Nat.{or_lt, xor_lt, mul-lt}
use Rattle.std.specs.Int.Bits.{and_lt}
use Rattle.sl_model.specs.declared.instr.LoadOp.{LoadOp}
use Rattle.sl_model.specs.declared.instr.LoadOp.TheVariants.{Lb, Lh, Lw, Lbu, Lhu}
use Rattle.sl_model.specs.declared.instr.ImmediateOp.{ImmediateOp}
use Rattle.sl_model.specs.declared.instr.ImmediateOp.TheVariants.{Addi, Slti, Sltiu, Xori, Ori, Andi}
use Rattle.sl_model.specs.declared.instr.ShiftOp.{ShiftOp}
use Rattle.sl_model.specs.declared.instr.ShiftOp.TheVariants.{Slli, Srli, Srai}
use Rattle.sl_model.specs.declared.instr.RegisterOp.{RegisterOp}
use Rattle.sl_model.specs.declared.instr.RegisterOp.TheVariants.{Add, Sub, Sll, Slt, Sltu, Xor, Srl, Sra, Or, And}
use Rattle.sl_model.specs.declared.instr.MulDivOp.{MulDivOp}
use Rattle.sl_model.specs.declared.instr.MulDivOp.TheVariants.{Mul, Mulh, Mulhsu, Mulhu, Div, Divu, Rem, Remu}
use Rattle.sl_model.specs.Words.{IsWord}
use Rattle.sl_model.specs.Arithmetic.{signed, word_of, word_add, immediate_word, truth, upper_half, immediate_value, shift_value, register_value, mul_div_value, load_width, load_value}

pub IsWord-word_of : (z : ℤ) → IsWord (word_of z)
IsWord-word_of (pos n) = omega arith
IsWord-word_of (negsuc n) = omega arith

abs-signed : (a : ℕ) → IsWord a → unsigned_abs (signed a) ≤ 2 ^ 31
abs-signed a word = grind (arith, ints)

pub IsWord-word_add : (a b : ℕ) → IsWord (word_add a b)
IsWord-word_add a b = omega arith

pub IsWord-immediate : (imm : ℕ) → imm < 2 ^ 12 → IsWord (immediate_word imm)
IsWord-immediate imm small = grind (arith, nat_tests)

IsWord-truth : (b : Bool) → IsWord (truth b)
IsWord-truth true = omega arith
IsWord-truth false = omega arith

pub IsWord-immediate_value : (op : ImmediateOp) (a imm : ℕ) → IsWord a → IsWord imm → IsWord (immediate_value op a imm)
IsWord-immediate_value Addi a imm first second = omega arith
IsWord-immediate_value Slti a imm first second = IsWord-truth _
IsWord-immediate_value Sltiu a imm first second = IsWord-truth _
IsWord-immediate_value Xori a imm first second = xor_lt 32 a imm first second
IsWord-immediate_value Ori a imm first second = or_lt 32 a imm first second
IsWord-immediate_value Andi a imm first second = and_lt 32 a imm first second

quotient_below : (a b : ℕ) → IsWord a → IsWord (a / b)
quotient_below a b small = omega arith

pub IsWord-shift_value : (op : ShiftOp) (a amount : ℕ) → IsWord a → IsWord (shift_value op a amount)
IsWord-shift_value Slli a amount small = omega arith
IsWord-shift_value Srli a amount small = quotient_below a (2 ^ amount) small
IsWord-shift_value Srai a amount small = IsWord-word_of (int_shr (signed a) amount)

pub IsWord-register_value : (op : RegisterOp) (a b : ℕ) → IsWord a → IsWord b → IsWord (register_value op a b)
IsWord-register_value Add a b first second = omega arith
IsWord-register_value Sub a b first second = omega arith
IsWord-register_value Sll a b first second = omega arith
IsWord-register_value Slt a b first second = IsWord-truth _
IsWord-register_value Sltu a b first second = IsWord-truth _
IsWord-register_value Xor a b first second = xor_lt 32 a b first second
IsWord-register_value Srl a b first second = quotient_below a (2 ^ (b % 32)) first
IsWord-register_value Sra a b first second = IsWord-word_of (int_shr (signed a) (b % 32))
IsWord-register_value Or a b first second = or_lt 32 a b first second
IsWord-register_value And a b first second = and_lt 32 a b first second

chosen : (b : Bool) (x y : ℕ) → IsWord x → IsWord y → IsWord (if b then x else y)
chosen true x y first second = first
chosen false x y first second = second

remainder_below : (a b : ℕ) → IsWord a → IsWord (a % b)
remainder_below a b small = omega arith

product_below : (a b : ℕ) → IsWord a → IsWord b → a * b < 2 ^ 64
product_below a b first second = mul-lt a b (2 ^ 32) (2 ^ 32) first second

below_64 : (z : ℤ) → unsigned_abs z < 2 ^ 64 → cast_unsigned w64 z < 2 ^ 64
below_64 (pos n) small = small
below_64 (negsuc n) small = omega arith

IsWord-upper_half : (x y : ℤ) → unsigned_abs x ≤ 2 ^ 31 → unsigned_abs y < 2 ^ 32 → IsWord (upper_half (x *ℤ y))
IsWord-upper_half x y first second =
    let product : unsigned_abs (x *ℤ y) < 2 ^ 64 = omega (arith, unsigned_abs-mul x y, mul-lt (unsigned_abs x) (unsigned_abs y) (2 ^ 32) (2 ^ 32) (omega arith) second) in
    let below : cast_unsigned w64 (x *ℤ y) < 2 ^ 64 = below_64 (x *ℤ y) product in
    omega arith

pub IsWord-mul_div_value : (op : MulDivOp) (a b : ℕ) → IsWord a → IsWord b → IsWord (mul_div_value op a b)
IsWord-mul_div_value Mul a b first second = omega arith
IsWord-mul_div_value Mulh a b first second = IsWord-upper_half (signed a) (signed b) (abs-signed a first) (omega (arith, abs-signed b second))
IsWord-mul_div_value Mulhsu a b first second = IsWord-upper_half (signed a) (pos b) (abs-signed a first) second
IsWord-mul_div_value Mulhu a b first second = omega (arith, product_below a b first second)
IsWord-mul_div_value Div a b first second = chosen (b == 0) (2 ^ 32 - 1) (word_of (int_div (signed a) (signed b))) (omega arith) (IsWord-word_of (int_div (signed a) (signed b)))
IsWord-mul_div_value Divu a b first second = chosen (b == 0) (2 ^ 32 - 1) (a / b) (omega arith) (quotient_below a b first)
IsWord-mul_div_value Rem a b first second = chosen (b == 0) a (word_of (int_rem (signed a) (signed b))) first (IsWord-word_of (int_rem (signed a) (signed b)))
IsWord-mul_div_value Remu a b first second = chosen (b == 0) a (a % b) first (remainder_below a b first)

pub IsWord-load_value : (op : LoadOp) (n : ℕ) → n < 256 ^ load_width op → IsWord (load_value op n)
IsWord-load_value Lb n small = grind (arith, nat_tests)
IsWord-load_value Lh n small = grind (arith, nat_tests)
IsWord-load_value Lw n small = omega arith
IsWord-load_value Lbu n small = omega arith
IsWord-load_value Lhu n small = omega arith
