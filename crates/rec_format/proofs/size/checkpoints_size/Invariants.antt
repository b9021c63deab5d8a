use Rattle.std.proofs.Common.{◌≡◌, ◌+◌, ◌*◌, ◌≤◌, length, take}
use Rattle.std.specs.List.{flat_map}
use Rattle.rec_format.specs.Spelling.{checkpoint}
use Rattle.rec_format.proofs.size.checkpoints_size.Given as goal

abbrev pub invariant-loop-saved : goal.invariant-loop-saved
invariant-loop-saved l = (l.size ≡ 4 + length (flat_map checkpoint (take l.saved-index l.checkpoints))) × (l.size ≤ 4 + 134217728 * l.saved-index)
