use Rattle.std.proofs.Common.{◌≡◌, ◌++◌, length, take}
use Rattle.std.specs.List.{flat_map}
use Rattle.rec_format.specs.Spelling.{word, checkpoint}
use Rattle.rec_format.proofs.writing.put_checkpoints.Given as goal

abbrev pub invariant-loop-saved : goal.invariant-loop-saved
invariant-loop-saved l = l.out.items ≡ l.fn.out.items ++ word (length l.checkpoints) ++ flat_map checkpoint (take l.saved-index l.checkpoints)
