use Rattle.std.proofs.Common.{◌≡◌, length, ◌||◌}
use Rattle.std.specs.List.{list_any}
use Rattle.asm_text.specs.Operands.{pieces}
use Rattle.asm_text.specs.Statements.{is_malformed, is_out_of_range}
use Rattle.asm_text.proofs.values.values_statement.Given as goal

abbrev pub invariant-loop-after : goal.invariant-loop-after
invariant-loop-after l = record {
  formed : list_any (is_malformed l.width) (pieces l.rest) ≡ list_any (is_malformed l.width) (pieces l.text);
  ranged : (l.is_out_of_range || list_any (is_out_of_range l.width) (pieces l.rest)) ≡ list_any (is_out_of_range l.width) (pieces l.text);
}

abbrev pub decreases-loop-after : goal.decreases-loop-after
decreases-loop-after l = length l.rest
