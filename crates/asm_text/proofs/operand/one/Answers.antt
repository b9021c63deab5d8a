use Rattle.asm_text.proofs.Pieces.{two_or_more}
use Rattle.asm_text.proofs.operand.one.Goals as goal

pub returns-in_default-Some : goal.returns-in_default-Some
returns-in_default-Some c = two_or_more _ _ _ (rw c.in_default-Some.is-1 at c.first_piece.ensures.pieces)
