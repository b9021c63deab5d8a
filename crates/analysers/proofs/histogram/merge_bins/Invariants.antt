use Rattle.std.proofs.Common.{◌≡◌, ◌≤◌, ◌+◌, ◌-◌, ◌++◌, length, drop}
use Rattle.analysers.specs.Bins.{IsRising, join_bins}
use Rattle.analysers.proofs.histogram.merge_bins.Given as goal

-- the bins so far and the join of those that are left are the join of all
abbrev pub invariant-loop-i : goal.invariant-loop-i
invariant-loop-i l = record {
  left_within : l.i ≤ length l.left;
  right_within : l.j ≤ length l.right;
  left_rises : IsRising (drop l.i l.left);
  right_rises : IsRising (drop l.j l.right);
  joined : l.bins.items ++ join_bins (drop l.i l.left) (drop l.j l.right)
      ≡ join_bins l.left l.right;
}

abbrev pub decreases-loop-i : goal.decreases-loop-i
decreases-loop-i l = length l.left - l.i + (length l.right - l.j)
