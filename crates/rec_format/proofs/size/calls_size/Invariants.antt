use Rattle.std.proofs.Common.{◌≡◌, ◌+◌, ◌*◌, ◌≤◌, length, take}
use Rattle.std.specs.List.{flat_map}
use Rattle.rec_format.specs.Spelling.{call}
use Rattle.rec_format.proofs.size.calls_size.Given as goal

abbrev pub invariant-loop-entry : goal.invariant-loop-entry
invariant-loop-entry l = (l.size ≡ 4 + length (flat_map call (take l.entry-index l.calls))) × (l.size ≤ 4 + 131072 * l.entry-index)
