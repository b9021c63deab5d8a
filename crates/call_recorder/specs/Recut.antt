-- A recorded run with checkpoints at the multiples of a distance.
use Rattle.std.specs.Prelude.{◌≡◌, ℕ, ◌-◌, ◌*◌, ◌/◌, List, length, map, unwrap_or}
use Rattle.std.specs.List.{range_with_len}
use Rattle.sl_model.specs.State.{State}
use Rattle.rec_format.specs.declared.recording.Recording.{Recording}
use Rattle.rec_format.specs.declared.recording.CheckpointData.{CheckpointData}
use Rattle.replay.specs.Run.{run_from}
use Rattle.call_recorder.specs.Listing.{page_in, checkpoint_of, checkpoints_of, kept_of}

-- the state after so many instructions of a run that comes so far
abbrev pub state_at : Recording → State → ℕ → State
state_at rec opened count = unwrap_or (run_from rec opened count) opened

-- the states at the first n multiples of a distance
abbrev pub first_states : Recording → State → ℕ → ℕ → List State
first_states rec opened every n =
    map (λ j. state_at rec opened (j * every)) (range_with_len 1 n)

-- how many multiples of a distance lie below a count
abbrev pub multiples_below : ℕ → ℕ → ℕ
multiples_below every count = (count - 1) / every

-- the checkpoints at the multiples of a distance below the end, as far as they are kept
unfoldable pub checkpoints_by : Recording → State → ℕ → List CheckpointData
checkpoints_by rec opened every =
    let n = multiples_below every rec.last.count in
    kept_of (checkpoints_of (page_in opened.pages) (first_states rec opened every n))

-- the checkpoint of the end, after so many others
unfoldable pub end_checkpoint : Recording → State → ℕ → ℕ → CheckpointData
end_checkpoint rec opened every number =
    checkpoint_of (page_in (state_at rec opened (number * every)).pages)
    (state_at rec opened rec.last.count)

-- the same run with these checkpoints
unfoldable pub recut_of : Recording → State → ℕ → Recording
recut_of rec opened every =
    let checkpoints = checkpoints_by rec opened every in
    record rec {
      checkpoints = checkpoints;
      last = end_checkpoint rec opened every (length checkpoints);
    }

-- a recording has the checkpoints at the multiples of a distance, as far as they are kept, and the
-- one of the end after them
pub record HasCheckpointsBy (rec : Recording) (opened : State) (every : ℕ) : Type 0 where
  pub checkpoints : rec.checkpoints ≡ checkpoints_by rec opened every
  pub last : rec.last ≡ end_checkpoint rec opened every (length rec.checkpoints)
