use Rattle.std.proofs.Common.{◌≡◌, length}
use Rattle.asm_text.specs.Operands.{pieces, last_of}
use Rattle.asm_text.proofs.operand.last_piece.Given as goal

abbrev pub invariant-loop-last : goal.invariant-loop-last
invariant-loop-last l = last_of (pieces l.rest) ≡ last_of (pieces l.text)

abbrev pub decreases-loop-last : goal.decreases-loop-last
decreases-loop-last l = length l.rest
