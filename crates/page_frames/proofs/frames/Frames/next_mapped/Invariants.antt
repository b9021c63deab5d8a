use Rattle.std.specs.Prelude.{◌≡◌, ℕ, ◌<◌, ◌≤◌, None}
use Rattle.std.specs.FinMap.{get}
use Rattle.page_frames.proofs.frames.Frames.next_mapped.Given as goal

abbrev pub invariant-loop-page : goal.invariant-loop-page
invariant-loop-page l = (q : ℕ) → l.from ≤ q → q < l.page → get l.self.pages q ≡ None
