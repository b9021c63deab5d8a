-- The function of words finds what has the bits of the word.
use Rattle.std.proofs.Common.{◌≡◌, ℕ, Some, arith, rules}
use Rattle.std.specs.Prelude.{IfSome}
use Rattle.std.proofs.lemmas.Bool.Decides.{nat_tests}
use Rattle.sl_model.specs.declared.instr.Instr.{Instr}
use Rattle.sl_model.specs.Words.{opcode, HasBits, Means, meaning, branch_op, load_op, store_op, immediate_op, shift_op, plain_register_op, register_op, mul_div_op, jalr_meaning, branch_meaning, load_meaning, store_meaning, immediate_meaning, register_meaning, fence_meaning, system_meaning}

immediate_has : (word : ℕ) → opcode word ≡ 0b0010011 → IfSome (immediate_meaning word) (HasBits word)
unfolding immediate_meaning shift_op immediate_op
immediate_has word code = grind (arith, nat_tests)

register_has : (word : ℕ) → opcode word ≡ 0b0110011 → IfSome (register_meaning word) (HasBits word)
unfolding register_meaning mul_div_op register_op plain_register_op
register_has word code = grind (arith, nat_tests)

pub meaning_has : (word : ℕ) → IfSome (meaning word) (HasBits word)
unfolding meaning jalr_meaning branch_meaning branch_op load_meaning load_op store_meaning store_op fence_meaning system_meaning
meaning_has word = grind (arith, nat_tests, immediate_has, register_has)

-- and finds every instruction that a word means
pub meaning-Means : (word : ℕ) (instr : Instr) → Means word instr → meaning word ≡ Some instr
unfolding meaning branch_op load_op store_op immediate_op shift_op plain_register_op register_op mul_div_op jalr_meaning branch_meaning load_meaning store_meaning immediate_meaning register_meaning fence_meaning system_meaning
meaning-Means = search rules
