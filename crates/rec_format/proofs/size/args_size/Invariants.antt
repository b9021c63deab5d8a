use Rattle.std.proofs.Common.{◌≡◌, ◌+◌, ◌*◌, ◌≤◌, length, take}
use Rattle.std.specs.List.{flat_map}
use Rattle.rec_format.specs.Spelling.{sized}
use Rattle.rec_format.proofs.size.args_size.Given as goal

abbrev pub invariant-loop-arg : goal.invariant-loop-arg
invariant-loop-arg l = (l.size ≡ 4 + length (flat_map sized (take l.arg-index l.args))) × (l.size ≤ 4 + 134217728 * l.arg-index)
