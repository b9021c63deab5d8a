use Rattle.std.proofs.Common.{◌≡◌, ◌++◌, length}
use Rattle.std.specs.List.{flat_map}
use Rattle.asm_text.specs.Operands.{pieces}
use Rattle.rv_asm.specs.Output.{value_bytes}
use Rattle.rv_asm.proofs.output.push_values.Given as goal

abbrev pub invariant-loop-after : goal.invariant-loop-after
invariant-loop-after l = l.out.items ++ flat_map (value_bytes l.table l.width) (pieces l.rest)
    ≡ l.initial.out.items ++ flat_map (value_bytes l.table l.width) (pieces l.text)

abbrev pub decreases-loop-after : goal.decreases-loop-after
decreases-loop-after l = length l.rest
