use Rattle.asm_text.proofs.Pieces.{three_or_more}
use Rattle.asm_text.proofs.operand.two.Goals as goal

pub returns-in_default-Some : goal.returns-in_default-Some
returns-in_default-Some c = three_or_more _ _ _ _ _ (rw c.in-Some.is at c.first_piece.ensures.pieces)
    (rw c.in_default-Some.is-1 at c.first_piece-2.ensures.pieces)
