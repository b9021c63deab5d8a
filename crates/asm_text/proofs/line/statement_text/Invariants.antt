use Rattle.std.proofs.Common.{◌≡◌, ◌≤◌, length}
use Rattle.asm_text.specs.Lines.{statement_within, statement_text}
use Rattle.asm_text.proofs.line.statement_text.Given as goal

abbrev pub invariant-loop-after : goal.invariant-loop-after
invariant-loop-after l = record {
  within : length l.code ≤ length l.line;
  left : statement_within (length l.code) l.code ≡ statement_text l.line;
}

abbrev pub decreases-loop-after : goal.decreases-loop-after
decreases-loop-after l = length l.code
