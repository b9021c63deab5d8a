use Rattle.std.specs.Prelude.{drop}
use Rattle.replay.specs.Opening.{mapped, fill_segments}
use Rattle.replay.proofs.LoadedSteps.{IsFilling}
use Rattle.replay.proofs.loading.fill_segments.Given as goal

abbrev pub invariant-loop-segment : goal.invariant-loop-segment
invariant-loop-segment l = IsFilling l.frames.pages (drop l.segment-index l.segment-items) (fill_segments (mapped l.image) l.image.segments)
