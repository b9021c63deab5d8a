-- What the command that records puts, as the other commands read it.
use Rattle.std.specs.Prelude.{◌≡◌, ℕ, List, None, Ok, IsOk}
use Rattle.outside.specs.Files.{Files}
use Rattle.outside.specs.World.{Heard, HearsAll}
use Rattle.elf_image.specs.declared.image.Image.{Image}
use Rattle.rec_format.specs.declared.recording.Recording.{Recording}
use Rattle.replay.specs.Opening.{opening}
use Rattle.replay.specs.Breaks.{first_break}
use Rattle.cli_words.specs.Orders.{RecordOptions}
use Rattle.sledge_top.specs.Done.{Done, with_put}
use Rattle.sledge_top.specs.Recordings.{recorded_in}
use Rattle.sledge_top.specs.Traces.{check, replay}
use Rattle.sledge_top.specs.Recutting.{recut}
use Rattle.sledge_top.specs.Recording.{RecordsTo}

-- The file of a name is a recording that replays without a break; and to cut it anew by a distance,
-- under its own name, does just this.
pub record IsAccepted (files : Files) (name : List ℕ) (every : ℕ) (done : Done) : Type 0 where
  pub reads : (both : Recording × Image)
      × (recorded_in files name ≡ Ok both)
      × (first_break both.0 (opening both.1 both.0.args) ≡ None)
  pub checked : IsOk (check files name)
  pub replayed : IsOk (replay files name)
  pub cut_anew : recut files name name every ≡ Ok done

-- so it is with what is put where a program is recorded
abbrev pub RecordingsAreAccepted : {X : Type 0} → (X → Heard → X → Type 0) → Type 0
RecordingsAreAccepted {X} hears =
    (files : Files) (image name : List ℕ) (options : RecordOptions) (was now : X) (done : Done)
    → RecordsTo files image name options (HearsAll hears was now) (Ok done)
    → IsAccepted (with_put files done.put) name options.every done
