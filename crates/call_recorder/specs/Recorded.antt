-- What a recorder promises.
use Rattle.std.specs.Prelude.{◌≡◌, ◌≢◌, ℕ, ◌-◌, ◌^◌, ◌<◌, ◌≤◌, ◌⊎◌, List, length, None}
use Rattle.std.specs.List.{AllByRecursion}
use Rattle.outside.specs.World.{Heard}
use Rattle.sl_model.specs.State.{State}
use Rattle.sl_model.specs.Step.{Called, step}
use Rattle.call_log.specs.declared.entry.End.{End}
use Rattle.call_log.specs.declared.entry.End.TheVariants as ends
use Rattle.elf_image.specs.declared.image.Image.{Image}
use Rattle.rec_format.specs.declared.limits.TheConstants.{HIGHEST_KIND, MOST_IMAGE_BYTES}
use Rattle.rec_format.specs.declared.recording.Recording.{Recording}
use Rattle.rec_format.specs.Rules.{IsRecordingValue, highest_load_addr}
use Rattle.replay.specs.Calls.{ask_of}
use Rattle.replay.specs.Opening.{opening}
use Rattle.replay.specs.Breaks.{first_break}
use Rattle.call_recorder.specs.declared.source.ImageSource.{ImageSource}
use Rattle.call_recorder.specs.Recut.{state_at, HasCheckpointsBy, recut_of}
use Rattle.call_recorder.specs.Answered.{heard_in}

-- the bytes that an image comes from, as a recording may hold them
pub record IsSource (source : ImageSource) : Type 0 where
  pub kind : source.kind ≤ HIGHEST_KIND
  pub load_addr : source.load_addr ≤ highest_load_addr source.kind
  pub bytes : length source.bytes ≤ MOST_IMAGE_BYTES

-- the most calls that a recording may have
abbrev pub MOST_CALLS : ℕ
MOST_CALLS = 2 ^ 32 - 1

-- a program stands before a call that would be recorded, and no more may be
pub record IsFull (rec : Recording) (s : State) : Type 0 where
  pub calls : length rec.calls ≡ MOST_CALLS
  pub stands : step s ≡ Called
  pub asks : ask_of s ≢ None

-- A recorder goes on until the program exits, and else as far as its limit of instructions. Before
-- that a trap ends the run, or the call for which there is no room.
abbrev pub EndsWithin : ℕ → Recording → State → End → Type 0
EndsWithin limit rec last (ends.Exited code) = last.count ≤ limit
EndsWithin limit rec last (ends.Trapped number) = last.count < limit
EndsWithin limit rec last ends.Stopped =
    (last.count ≡ limit) ⊎ ((last.count < limit) × IsFull rec last)

-- The recording of a program that was run over a world which heard these calls.
pub record IsRecorded (program : Image) (source : ImageSource) (given : List (List ℕ)) (limit every : ℕ)
    (heard : List Heard → Type 0) (rec : Recording) : Type 0 where
  -- it has the given image and arguments
  pub kind : rec.kind ≡ source.kind
  pub load_addr : rec.load_addr ≡ source.load_addr
  pub image : rec.image ≡ source.bytes
  pub args : rec.args ≡ given
  -- it meets the rules of the format but for its length, and replays without a break
  pub value : IsRecordingValue rec
  pub unbroken : first_break rec (opening program given) ≡ None
  -- its checkpoints are those by the distance
  pub checkpoints : HasCheckpointsBy rec (opening program given) every
  -- it goes as far as it should
  pub end : EndsWithin limit rec (state_at rec (opening program given) rec.last.count) rec.end
  -- the world was asked for the calls of the outside, in order, and for no others
  pub world : heard (heard_in rec (opening program given) rec.last.count)

-- The same recorded run with checkpoints by a distance.
pub record IsRecut (program : Image) (rec : Recording) (every : ℕ) (new : Recording) : Type 0 where
  pub is : new ≡ recut_of rec (opening program rec.args) every
  -- it meets the rules of the format but for its length, and replays without a break
  pub value : IsRecordingValue new
  pub unbroken : first_break new (opening program rec.args) ≡ None
