-- What the command comes to that gives a recording other checkpoints.
use Rattle.std.specs.Prelude.{ℕ, List, Result}
use Rattle.outside.specs.Files.{Files}
use Rattle.sl_model.specs.State.{State}
use Rattle.rec_format.specs.declared.recording.Recording.{Recording}
use Rattle.replay.specs.Opening.{opening}
use Rattle.replay.specs.Breaks.{first_break}
use Rattle.report.specs.declared.status.Refusal.{Refusal}
use Rattle.call_recorder.specs.Recut.{recut_of}
use Rattle.sledge_top.specs.Done.{Done}
use Rattle.sledge_top.specs.Recordings.{recorded_in, put_recording}
use Rattle.sledge_top.specs.Replays.{unless_broken}
use Rattle.sledge_top.specs.Files.{◌>>=◌}

-- the same run with checkpoints at another distance
abbrev pub recut_by : ℕ → Recording → State → Result Recording Refusal
recut_by every rec opened = unless_broken (recut_of rec opened every) (first_break rec opened)

-- and the file of it under a name
unfoldable pub recut_from : List ℕ → ℕ → Recording → State → Result Done Refusal
recut_from output every rec opened = do
  new ← recut_by every rec opened
  put_recording output new

-- `recut RECORDING OUTPUT`
abbrev pub recut : Files → List ℕ → List ℕ → ℕ → Result Done Refusal
recut files name output every = do
  both ← recorded_in files name
  recut_from output every both.0 (opening both.1 both.0.args)
