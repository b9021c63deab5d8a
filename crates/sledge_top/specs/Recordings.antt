-- Recordings in files: how they are read, and how they are put.
use Rattle.std.specs.Prelude.{ℕ, List, length, Some, Result, Ok, Err, nat_lt, if◌then◌else◌}
use Rattle.outside.specs.Files.{Files}
use Rattle.elf_image.specs.declared.image.Image.{Image}
use Rattle.rec_format.specs.declared.recording.Recording.{Recording}
use Rattle.rec_format.specs.Reading.{reading}
use Rattle.rec_format.specs.Spelling.{spelling}
use Rattle.epoch_run.specs.Images.{image_in}
use Rattle.report.specs.declared.status.Refusal.{Refusal}
use Rattle.report.specs.declared.status.Refusal.TheVariants as refusal
use Rattle.report.specs.Report.{recorded_line}
use Rattle.sledge_top.specs.Done.{Done}
use Rattle.sledge_top.specs.Files.{◌>>=◌, refused_by, file_of}

-- the most bytes of a recording
abbrev pub RECORDING_LIMIT : ℕ
RECORDING_LIMIT = 268435456

-- the recording that bytes spell
abbrev pub recording_of : List ℕ → Result Recording Refusal
recording_of bytes = refused_by refusal.RecordingBroken (reading bytes)

-- its image
abbrev pub image_of : Recording → Result Image Refusal
image_of rec = refused_by refusal.ImageBroken (image_in rec)

-- a recording and its image, from the bytes of a file
abbrev pub recorded : List ℕ → Result (Recording × Image) Refusal
recorded bytes = do
  rec ← recording_of bytes
  image ← image_of rec
  Ok (rec, image)

abbrev pub recorded_in : Files → List ℕ → Result (Recording × Image) Refusal
recorded_in files name = do
  bytes ← file_of files name RECORDING_LIMIT
  recorded bytes

-- the bytes of a recording, where a recording may have so many
abbrev pub spelled : Recording → Result (List ℕ) Refusal
spelled rec =
    if nat_lt RECORDING_LIMIT (length (spelling rec))
    then Err (refusal.TooLarge (length (spelling rec)))
    else Ok (spelling rec)

-- the file of a recording under a name, and the line that tells how the run ended
abbrev pub recorded_as : List ℕ → Recording → List ℕ → Done
recorded_as name rec file = record {
  text = recorded_line rec;
  put = Some (record { name = name; bytes = file });
}

abbrev pub put_recording : List ℕ → Recording → Result Done Refusal
put_recording name rec = do
  file ← spelled rec
  Ok (recorded_as name rec file)
