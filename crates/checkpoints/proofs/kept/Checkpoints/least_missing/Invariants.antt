use Rattle.std.proofs.Common.{◌≡◌, None, take}
use Rattle.rec_format.specs.Recorded.{end_place, listed_to}
use Rattle.checkpoints.specs.Memory.{missing_from}
use Rattle.checkpoints.proofs.kept.Checkpoints.least_missing.Given as goal

abbrev pub invariant-loop-index : goal.invariant-loop-index
invariant-loop-index l = l.least ≡ missing_from l.f.pages None (take l.index (listed_to l.self.rec (end_place l.self.rec)))
