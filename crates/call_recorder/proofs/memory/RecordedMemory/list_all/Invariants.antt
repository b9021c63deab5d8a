use Rattle.std.proofs.Common.{◌≡◌, ℕ, take}
use Rattle.rec_format.specs.Recorded.{last_listing}
use Rattle.call_recorder.specs.Kept.{recorded_in}
use Rattle.call_recorder.proofs.memory.RecordedMemory.list_all.Given as goal

abbrev pub invariant-loop-page : goal.invariant-loop-page
invariant-loop-page l =
    (q : ℕ) → recorded_in l.self q ≡ last_listing (recorded_in l.fn.self q) (take l.page-index l.pages) q
