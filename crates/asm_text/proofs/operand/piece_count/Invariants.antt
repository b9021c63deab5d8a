use Rattle.std.proofs.Common.{◌≡◌, ◌+◌, ◌≤◌, length}
use Rattle.asm_text.specs.Operands.{pieces}
use Rattle.asm_text.proofs.operand.piece_count.Given as goal

abbrev pub invariant-loop-after : goal.invariant-loop-after
invariant-loop-after l = record {
  within : l.count + length l.rest ≤ length l.text;
  counted : l.count + length (pieces l.rest) ≡ length (pieces l.text);
}

abbrev pub decreases-loop-after : goal.decreases-loop-after
decreases-loop-after l = length l.rest
