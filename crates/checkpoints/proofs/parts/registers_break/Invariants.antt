use Rattle.std.proofs.Common.{◌≡◌, ◌+◌, drop}
use Rattle.rec_format.specs.Compared.{parts_diff}
use Rattle.checkpoints.proofs.parts.registers_break.Given as goal

-- the registers so far are the recorded ones
abbrev pub invariant-loop-i : goal.invariant-loop-i
invariant-loop-i l = parts_diff 1 l.recorded (drop 1 l.registers) ≡ parts_diff (l.i + 1) (drop l.i l.recorded) (drop (l.i + 1) l.registers)
