use Rattle.std.proofs.Common.{◌∙◌}
use Rattle.asm_text.proofs.Pieces.{last_left}
use Rattle.asm_text.proofs.operand.last_piece.Goals as goal

pub loop-last-preserved : goal.loop-last-preserved
loop-last-preserved c = last_left _ _ _ (rw c.in_default-Some.is-1 at c.first_piece.ensures.pieces) ∙ c.loop-last.invariant
