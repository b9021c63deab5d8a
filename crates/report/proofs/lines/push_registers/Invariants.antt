use Rattle.std.proofs.Common.{◌≡◌, ◌++◌, take}
use Rattle.std.specs.List.{join_with_byte}
use Rattle.report.specs.Report.{register_texts}
use Rattle.report.proofs.Joining.{is_nil}
use Rattle.report.proofs.lines.push_registers.Given as goal

abbrev pub invariant-loop-number : goal.invariant-loop-number
invariant-loop-number l = record {
  told : l.out.items ≡ l.fn.out.items ++ join_with_byte 32 (register_texts 0 (take l.number l.registers));
  first : l.is_first ≡ is_nil (register_texts 0 (take l.number l.registers));
}
