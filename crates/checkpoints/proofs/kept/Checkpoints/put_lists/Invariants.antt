use Rattle.std.proofs.Common.{◌≤◌, length, drop}
use Rattle.rec_format.specs.Recorded.{listed_to}
use Rattle.checkpoints.specs.Putting.{ArePut}
use Rattle.checkpoints.proofs.kept.Checkpoints.put_lists.Given as goal

-- the listings from one on were put
abbrev pub invariant-loop-left : goal.invariant-loop-left
invariant-loop-left l = record {
  within : l.left ≤ length (listed_to l.self.rec l.k);
  put : ArePut l.fn.frames.pages (drop l.left (listed_to l.self.rec l.k)) l.frames;
}

abbrev pub decreases-loop-left : goal.decreases-loop-left
decreases-loop-left l = l.left
