-- What the command that records a run may come to, over what the world answers.
use Rattle.std.specs.Prelude.{◌≡◌, ℕ, List, [], Option, Some, None, Result, Ok, Err}
use Rattle.outside.specs.Files.{Files}
use Rattle.outside.specs.World.{Heard}
use Rattle.elf_image.specs.declared.image.Image.{Image}
use Rattle.rec_format.specs.declared.recording.Recording.{Recording}
use Rattle.report.specs.declared.status.Refusal.{Refusal}
use Rattle.call_recorder.specs.declared.source.ImageSource.{ImageSource}
use Rattle.call_recorder.specs.Recorded.{IsRecorded}
use Rattle.cli_words.specs.Orders.{RecordOptions}
use Rattle.sledge_top.specs.Done.{Done}
use Rattle.sledge_top.specs.Files.{file_of, IMAGE_LIMIT, image_or_refusal}
use Rattle.sledge_top.specs.Recordings.{put_recording}

-- the bytes of an image file, as a recording keeps them: of kind 0 with the address of a flat image,
-- and of kind 1 for an ELF file
abbrev pub source_of : Option ℕ → List ℕ → ImageSource
source_of None bytes = record { kind = 1; load_addr = 0; bytes = bytes }
source_of (Some address) bytes = record { kind = 0; load_addr = address; bytes = bytes }

-- What running a program over a world comes to: a recording of the run is put. `heard` says which
-- calls the world may have been asked for.
unfoldable pub RecordsProgram :
    Image → ImageSource → List ℕ → RecordOptions → (List Heard → Type 0) → Result Done Refusal
    → Type 0
RecordsProgram image source output options heard defined =
    (rec : Recording)
    × IsRecorded image source options.arguments options.limit options.every heard rec
    × (defined ≡ put_recording output rec)

-- the same of an image that bytes are; where they are none the world is not asked
unfoldable pub RecordsImage :
    Result Image Refusal → List ℕ → List ℕ → RecordOptions → (List Heard → Type 0)
    → Result Done Refusal → Type 0
RecordsImage (Err why) bytes output options heard defined = (defined ≡ Err why) × heard []
RecordsImage (Ok image) bytes output options heard defined =
    RecordsProgram image (source_of options.flat bytes) output options heard defined

-- and from a file; where there is none the world is not asked
abbrev pub RecordsFile :
    Result (List ℕ) Refusal → List ℕ → RecordOptions → (List Heard → Type 0)
    → Result Done Refusal → Type 0
RecordsFile (Err why) output options heard defined = (defined ≡ Err why) × heard []
RecordsFile (Ok bytes) output options heard defined =
    RecordsImage (image_or_refusal options.flat bytes) bytes output options heard defined

-- `record IMAGE OUTPUT`
abbrev pub RecordsTo :
    Files → List ℕ → List ℕ → RecordOptions → (List Heard → Type 0) → Result Done Refusal → Type 0
RecordsTo files name output options heard defined =
    RecordsFile (file_of files name IMAGE_LIMIT) output options heard defined
