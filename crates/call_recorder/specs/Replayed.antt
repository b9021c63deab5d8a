-- A recorded run that is replayed while its checkpoints are kept.
use Rattle.std.specs.Prelude.{ℕ, ◌+◌, ◌*◌, ◌≤◌, []}
use Rattle.sl_model.specs.State.{State}
use Rattle.rec_format.specs.declared.recording.Recording.{Recording}
use Rattle.page_frames.specs.MarkedPages.{MarkedPages}
use Rattle.call_recorder.specs.declared.kept.Kept.{Kept}
use Rattle.call_recorder.specs.Recut.{first_states}
use Rattle.call_recorder.specs.Kept.{AreKept}

-- to the end of the run, so many states were offered
pub record KeptAlong (rec : Recording) (opened : State) (every offers : ℕ)
    (old : Kept) (f : MarkedPages) (new : Kept) (g : MarkedPages) : Type 0 where
  pub are : AreKept opened.pages [] old f
      → AreKept opened.pages (first_states rec opened every offers) new g
  pub from : offers * every ≤ rec.last.count
  pub upto : rec.last.count ≤ (offers + 1) * every
