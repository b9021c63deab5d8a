use Rattle.std.proofs.Common.{◌≡◌, ◌+◌, drop}
use Rattle.rec_format.specs.Compared.{bytes_diff}
use Rattle.checkpoints.proofs.parts.bytes_break.Given as goal

-- the bytes so far are the recorded ones
abbrev pub invariant-loop-i : goal.invariant-loop-i
invariant-loop-i l = bytes_diff l.address l.recorded l.replayed ≡ bytes_diff (l.address + l.i) (drop l.i l.recorded) (drop l.i l.replayed)
