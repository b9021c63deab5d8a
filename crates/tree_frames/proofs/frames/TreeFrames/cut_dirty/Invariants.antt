use Rattle.std.proofs.Common.{◌≡◌, ◌≤◌, length, take}
use Rattle.tree_frames.proofs.frames.TreeFrames.cut_dirty.Given as goal

abbrev pub invariant-loop-self : goal.invariant-loop-self
invariant-loop-self l = record {
  pages : l.self.pages ≡ l.fn.self.pages;
  cut : take l.len l.self.dirty ≡ take l.len l.fn.self.dirty;
  enough : l.len ≤ length l.self.dirty;
}

abbrev pub decreases-loop-self : goal.decreases-loop-self
decreases-loop-self l = length l.self.dirty
