use Rattle.std.proofs.Common.{◌≡◌, length}
use Rattle.std.specs.List.{list_any}
use Rattle.asm_text.specs.Operands.{pieces}
use Rattle.rv_asm.specs.Lines.{is_unknown}
use Rattle.rv_asm.proofs.causes.has_unknown.Given as goal

abbrev pub invariant-loop-after : goal.invariant-loop-after
invariant-loop-after l = list_any (is_unknown l.table) (pieces l.rest) ≡ list_any (is_unknown l.table) (pieces l.text)

abbrev pub decreases-loop-after : goal.decreases-loop-after
decreases-loop-after l = length l.rest
