-- The recording that is generated.
use Rattle.std.specs.Prelude.{◌≡◌, ℕ, [], Ok}
use Rattle.outside.specs.World.{GetsReply, HearsAll}
use Rattle.elf_image.specs.declared.image.Image.{Image}
use Rattle.elf_image.specs.Elf.{IsImage}
use Rattle.elf_image.specs.Written.{written}
use Rattle.rec_format.specs.declared.recording.Recording.{Recording}
use Rattle.rv_asm.specs.Assembly.{assembly}
use Rattle.call_recorder.specs.declared.source.ImageSource.{ImageSource}
use Rattle.call_recorder.specs.Recorded.{IsRecorded}
use Rattle.workload.specs.Source.{source_text}

-- the most instructions of a generated run
abbrev pub LIMIT : ℕ
LIMIT = 1000000000

-- the ELF file of an image, as what a recording keeps
abbrev pub file_of : Image → ImageSource
file_of image = record { kind = 1; load_addr = 0; bytes = written image }

-- The recording of an image's file without arguments, with a checkpoint every so many instructions,
-- over a world that has no replies.
abbrev pub IsRecordedRun : Image → ℕ → Recording → Type 0
IsRecordedRun image size rec =
    IsRecorded image (file_of image) [] LIMIT size (HearsAll GetsReply [] []) rec

-- the recording of the program that a seed and a number of turns give
pub record IsGenerated (seed size : ℕ) (rec : Recording) : Type 0 where
  pub image : Image
  pub assembled : assembly (source_text seed size) ≡ Ok image
  pub recorded : IsRecordedRun image size rec
  -- the recorded file is read as the image
  pub reads : IsImage rec.image image
