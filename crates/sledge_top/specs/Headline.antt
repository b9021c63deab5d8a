-- The headline: a trace writes exactly the report of one run.
use Rattle.std.specs.Prelude.{◌≡◌, ◌⊎◌, Bool, true, false, ℕ, List, Option, Some, None, Ok, ⊤}
use Rattle.outside.specs.Files.{Files}
use Rattle.outside.specs.Faults.{Rose}
use Rattle.outside.specs.Written.{Adds, AddsPrefix}
use Rattle.outside.specs.World.{Heard, HearsAll}
use Rattle.sl_model.specs.State.{State}
use Rattle.elf_image.specs.declared.image.Image.{Image}
use Rattle.call_log.specs.declared.breaks.Break.{Break}
use Rattle.rec_format.specs.declared.recording.Recording.{Recording}
use Rattle.tracer_lang.specs.declared.record.Record.{Record}
use Rattle.tracer_lang.specs.Tree.{ScriptTree}
use Rattle.tracer_lang.specs.Firing.{records_at}
use Rattle.replay.specs.Opening.{opening}
use Rattle.replay.specs.Breaks.{first_break}
use Rattle.analysers.specs.declared.kind.Kind.{Kind}
use Rattle.epoch_run.specs.Records.{records}
use Rattle.epoch_run.specs.AtScript.{at_tree}
use Rattle.report.specs.declared.status.Refusal.{Refusal}
use Rattle.report.specs.declared.status.Refusal.TheVariants as refusal
use Rattle.report.specs.declared.status.Status.{Status}
use Rattle.report.specs.declared.status.Status.TheVariants as ending
use Rattle.cli_words.specs.Orders.{Order, Trace, TraceAt, order_of}
use Rattle.sledge_top.specs.Kinds.{kinds_of}
use Rattle.sledge_top.specs.Endings.{Answers, IsCutOff}
use Rattle.sledge_top.specs.Recordings.{recorded_in}
use Rattle.sledge_top.specs.Replays.{report_of, broken_by}
use Rattle.sledge_top.specs.Traces.{script_in}
use Rattle.sledge_top.specs.Answer.{ComesTo}

-- what is traced: a recording and its image, the tracers of a script, and analyses of what they
-- leave
pub record Traced : Type 0 where
  pub rec : Recording
  pub image : Image
  pub script : ScriptTree
  pub kinds : List Kind

-- Words and files name what is traced: there is a recording with its image, the script is one of the
-- image, and each word of an analysis names one.
abbrev pub IsTraced : Files → Option Order → Traced → Type 0
IsTraced files (Some (Trace recording script options)) traced =
    (recorded_in files recording ≡ Ok (traced.rec, traced.image))
    × (script_in files traced.image script ≡ Ok traced.script)
    × (kinds_of options.analyses ≡ Ok traced.kinds)
IsTraced files (Some (TraceAt recording address options)) traced =
    (recorded_in files recording ≡ Ok (traced.rec, traced.image))
    × (traced.script ≡ at_tree address)
    × (kinds_of options.analyses ≡ Ok traced.kinds)
IsTraced files other traced = ⊥

-- the words of a trace
abbrev pub is_trace : Option Order → Bool
is_trace (Some (Trace recording script options)) = true
is_trace (Some (TraceAt recording address options)) = true
is_trace other = false

-- ---- the one run

-- it starts where the recorded program starts
abbrev pub opened_in : Traced → State
opened_in traced = opening traced.image traced.rec.args

-- where it first differs from the recording
abbrev pub break_in : Traced → Option Break
break_in traced = first_break traced.rec (opened_in traced)

-- what its tracers leave, from the first instruction on, each on a copy of the state at which it
-- fires
abbrev pub records_in : Traced → List Record
records_in traced = records traced.rec (records_at traced.script) (opened_in traced)

-- its report: the lines of each analysis over all these records in order, and its end
abbrev pub report_in : Traced → List ℕ
report_in traced =
    report_of traced.rec traced.script traced.kinds (opened_in traced)

-- ---- what a trace says of it

-- a refusal for the first break of a replay
abbrev pub IsBreakOf : Break → Refusal → Type 0
IsBreakOf first why = (why ≡ refusal.ReplayBroken first) ⊎ (why ≡ refusal.CheckpointDiffers first)

-- A trace with this status is of the one run.
pub record IsOneRun (files : Files) (named : Option Order) (status : Status)
    (said says : Option (List ℕ)) : Type 0 where
  -- done: the run does not break, and what was written is exactly its report
  pub done :
      status ≡ ending.Ok
      → (traced : Traced) × IsTraced files named traced × (break_in traced ≡ None)
      × Adds said says (report_in traced)
  -- a fault of the first output: what was written is a beginning of it
  pub cut_short :
      status ≡ ending.SinkFault
      → (traced : Traced) × IsTraced files named traced × (break_in traced ≡ None)
      × AddsPrefix said says (report_in traced)
  -- a refusal for a break: it is the first one of the run, and by its kind at a checkpoint or not
  pub broken :
      (first : Break) (why : Refusal) → status ≡ ending.Refused why → IsBreakOf first why
      → (traced : Traced) × IsTraced files named traced × (break_in traced ≡ Some first)
      × (why ≡ broken_by first first.kind)
  -- and so it is refused always where the run breaks, unless it is cut off
  pub breaks :
      (traced : Traced) (first : Break) → IsTraced files named traced
      → break_in traced ≡ Some first
      → (status ≡ ending.Refused (broken_by first first.kind)) ⊎ IsCutOff status

-- The headline, of a store that tells its files.
abbrev pub TracesAreOneRun : {X : Type 0} → (X → Heard → X → Type 0) → Type 0
TracesAreOneRun {X} hears =
    (words : List (List ℕ)) (files : Files) (was now : X) (status : Status)
    (new : Option Files) (said says : Option (List ℕ))
    → is_trace (order_of words) ≡ true
    → Answers (ComesTo files (order_of words) (HearsAll hears was now)) status files new said says
    → IsOneRun files (order_of words) status said says

-- ---- completeness

-- A command that is not refused was done, or memory was wanting, or the store or the first output
-- failed, and its count of faults rose.
abbrev pub IsComplete : Status → ℕ → ℕ → ℕ → ℕ → Type 0
IsComplete ending.Ok store stored out written = ⊤
IsComplete (ending.Refused why) store stored out written = ⊥
IsComplete ending.StoreFault store stored out written = Rose store stored
IsComplete ending.SinkFault store stored out written = Rose out written
IsComplete ending.Memory store stored out written = ⊤

-- So ends a trace where its words and files name what is traced and the run does not break.
abbrev pub TracesComplete : {X : Type 0} → (X → Heard → X → Type 0) → Type 0
TracesComplete {X} hears =
    (words : List (List ℕ)) (files : Files) (traced : Traced) (was now : X) (status : Status)
    (new : Option Files) (said says : Option (List ℕ)) (store stored out written : ℕ)
    → IsTraced files (order_of words) traced → break_in traced ≡ None
    → Answers (ComesTo files (order_of words) (HearsAll hears was now)) status files new said says
    → (status ≡ ending.StoreFault → Rose store stored)
    → (status ≡ ending.SinkFault → Rose out written)
    → IsComplete status store stored out written
