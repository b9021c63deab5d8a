-- What the commands come to that trace, replay or check a recording.
use Rattle.std.specs.Prelude.{ℕ, List, Result, Ok}
use Rattle.outside.specs.Files.{Files}
use Rattle.elf_image.specs.declared.image.Image.{Image}
use Rattle.rec_format.specs.declared.recording.Recording.{Recording}
use Rattle.tracer_lang.specs.Tree.{ScriptTree}
use Rattle.tracer_read.specs.Scripts.{script_of_text}
use Rattle.replay.specs.Opening.{opening}
use Rattle.epoch_run.specs.AtScript.{at_tree}
use Rattle.report.specs.declared.status.Refusal.{Refusal}
use Rattle.report.specs.declared.status.Refusal.TheVariants as refusal
use Rattle.report.specs.Report.{checked_line}
use Rattle.sledge_top.specs.Kinds.{kinds_of}
use Rattle.sledge_top.specs.Done.{Done, only_text}
use Rattle.sledge_top.specs.Files.{◌>>=◌, refused_by, file_of}
use Rattle.sledge_top.specs.Recordings.{recorded_in}
use Rattle.sledge_top.specs.Replays.{traced, replayed_alone}

-- the most bytes of a script
abbrev pub SCRIPT_LIMIT : ℕ
SCRIPT_LIMIT = 65536

-- the script that a text is, with the symbols of an image
abbrev pub script_of : Image → List ℕ → Result ScriptTree Refusal
script_of image text = refused_by refusal.ScriptRefused (script_of_text text image.symbols)

-- the same of a file
abbrev pub script_in : Files → Image → List ℕ → Result ScriptTree Refusal
script_in files image name = do
  text ← file_of files name SCRIPT_LIMIT
  script_of image text

-- the report of a recording with the tracers of a script, and the analyses that words name
abbrev pub traced_with : Recording → Image → ScriptTree → List (List ℕ) → Result Done Refusal
traced_with rec image script words = do
  kinds ← kinds_of words
  text ← traced rec script kinds (opening image rec.args)
  Ok (only_text text)

-- `trace RECORDING SCRIPT`: the recording is read before the script, and both before the words of
-- analyses
abbrev pub trace_by : Files → List ℕ → List ℕ → List (List ℕ) → Result Done Refusal
trace_by files name script_name words = do
  both ← recorded_in files name
  script ← script_in files both.1 script_name
  traced_with both.0 both.1 script words

-- `trace RECORDING at HEX`
abbrev pub trace_at : Files → List ℕ → ℕ → List (List ℕ) → Result Done Refusal
trace_at files name address words = do
  both ← recorded_in files name
  traced_with both.0 both.1 (at_tree address) words

-- `replay RECORDING`
abbrev pub replay : Files → List ℕ → Result Done Refusal
replay files name = do
  both ← recorded_in files name
  text ← replayed_alone both.0 (opening both.1 both.0.args)
  Ok (only_text text)

-- `check RECORDING`
abbrev pub check : Files → List ℕ → Result Done Refusal
check files name = do
  both ← recorded_in files name
  Ok (only_text (checked_line both.0))
