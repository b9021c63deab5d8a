use Rattle.std.proofs.Common.{◌≡◌, ℕ}
use Rattle.sl_model.specs.declared.instr.Instr.{Instr}
use Rattle.sl_model.specs.declared.instr.Instr.TheVariants.{Lui, Auipc, Jal, Jalr, Branch, Load, Store, OpImm, Shift, Op, MulDiv, Fence, Ecall, Ebreak}
use Rattle.sl_model.specs.Words.{Means, HasBits, IsWord}
use Rattle.rv_asm.specs.Encoding.{word_for}
use Rattle.rv_asm.proofs.EncodingLaws.{r_word, i_word, s_word, b_word, u_word, j_word, fence_word}
use Rattle.rv_asm.proofs.encoding.word_for.Goals as goal

by_bits : (w : ℕ) (instr : Instr) → IsWord w → HasBits w instr → w ≡ word_for instr
unfolding word_for
by_bits w (Lui rd imm) fits b = u_word w _ rd imm fits b.0 b.1 b.2
by_bits w (Auipc rd imm) fits b = u_word w _ rd imm fits b.0 b.1 b.2
by_bits w (Jal rd half) fits b = j_word w _ rd half fits b.0 b.1 b.2
by_bits w (Jalr rd rs1 offset) fits b = i_word w _ _ rd rs1 offset fits b.0 b.1 b.2 b.3 b.4
by_bits w (Branch op rs1 rs2 half) fits b = b_word w _ _ rs1 rs2 half fits b.0 b.1 b.2 b.3 b.4
by_bits w (Load op rd rs1 offset) fits b = i_word w _ _ rd rs1 offset fits b.0 b.1 b.2 b.3 b.4
by_bits w (Store op rs1 rs2 offset) fits b = s_word w _ _ rs1 rs2 offset fits b.0 b.1 b.2 b.3 b.4
by_bits w (OpImm op rd rs1 imm) fits b = i_word w _ _ rd rs1 imm fits b.0 b.1 b.2 b.3 b.4
by_bits w (Shift op rd rs1 amount) fits b = r_word w _ _ _ rd rs1 amount fits b.0 b.1 b.2 b.3 b.4 b.5
by_bits w (Op op rd rs1 rs2) fits b = r_word w _ _ _ rd rs1 rs2 fits b.0 b.1 b.2 b.3 b.4 b.5
by_bits w (MulDiv op rd rs1 rs2) fits b = r_word w _ _ _ rd rs1 rs2 fits b.0 b.1 b.2 b.3 b.4 b.5
by_bits w (Fence high rd) fits b = fence_word w _ high rd fits b.0 b.1 b.2 b.3
by_bits w Ecall fits b = b
by_bits w Ebreak fits b = b

pub returns : goal.returns
returns c = by_bits c.encode.result c.args.instr.now c.encode.ensures.word.in_range c.encode.ensures.word.has_bits
