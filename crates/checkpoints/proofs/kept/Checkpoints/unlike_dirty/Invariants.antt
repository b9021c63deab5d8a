use Rattle.std.specs.Prelude.{ℕ, IfSome, Contains, ◌⊎◌, length}
use Rattle.page_frames.specs.DirtyWalk.{left_to_walk}
use Rattle.checkpoints.specs.Memory.{IsUnlike, IsCompared}
use Rattle.checkpoints.proofs.kept.Checkpoints.unlike_dirty.Given as goal

-- each dirty page was compared or is left to walk
abbrev pub invariant-loop-page : goal.invariant-loop-page
invariant-loop-page l = record {
  stands : IfSome l.at (Contains l.f.dirty);
  told : IsUnlike l.self.opening.pages l.self.rec l.k l.f.pages l.least;
  dirty : (q : ℕ) → Contains l.f.dirty q → IsCompared l.self.opening.pages l.self.rec l.k l.f.pages l.least q
      ⊎ Contains (left_to_walk l.f.dirty l.at) q;
}

abbrev pub decreases-loop-page : goal.decreases-loop-page
decreases-loop-page l = length (left_to_walk l.f.dirty l.at)
