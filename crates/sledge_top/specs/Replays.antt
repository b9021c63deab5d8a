-- What the replay of a recording comes to: its report, or how a command is refused.
use Rattle.std.specs.Prelude.{ℕ, List, [], Option, Some, None, Result, Ok, Err}
use Rattle.std.specs.Option.{unwrap_or}
use Rattle.sl_model.specs.State.{State}
use Rattle.call_log.specs.declared.breaks.Break.{Break}
use Rattle.call_log.specs.declared.breaks.BreakKind.{BreakKind}
use Rattle.call_log.specs.declared.breaks.BreakKind.TheVariants as kind
use Rattle.rec_format.specs.declared.recording.Recording.{Recording}
use Rattle.tracer_lang.specs.declared.record.Record.{Record as LeftRecord}
use Rattle.tracer_lang.specs.Tree.{ScriptTree}
use Rattle.tracer_lang.specs.Firing.{records_at}
use Rattle.replay.specs.Run.{run_from}
use Rattle.replay.specs.Breaks.{first_break}
use Rattle.analysers.specs.declared.kind.Kind.{Kind}
use Rattle.analysers.specs.Pieces.{rows_of}
use Rattle.epoch_run.specs.Records.{records}
use Rattle.report.specs.declared.run_end.RunEnd.{RunEnd}
use Rattle.report.specs.declared.status.Refusal.{Refusal}
use Rattle.report.specs.declared.status.Refusal.TheVariants as refusal
use Rattle.report.specs.Report.{analyses_lines, report}
use Rattle.sledge_top.specs.Recordings.{recorded}

-- the state at the recorded end: a replay that does not break comes to it
abbrev pub last_state : Recording → State → State
last_state rec opened = unwrap_or (run_from rec opened rec.last.count) opened

abbrev pub run_end : Recording → State → RunEnd
run_end rec last = record { end = rec.end; count = last.count; pc = last.pc; x = last.x }

-- how a command is refused where the replay first differs from its recording
abbrev pub broken_by : Break → BreakKind → Refusal
broken_by first (kind.CheckpointDiffers index part address recorded replayed) =
    refusal.CheckpointDiffers first
broken_by first other = refusal.ReplayBroken first

-- the report of a recording that is replayed from its opening state, where it does not break: these
-- lines of analyses, and the end of the run
abbrev pub replayed : Recording → State → List ℕ → Option Break → Result (List ℕ) Refusal
replayed rec opened lines (Some first) = Err (broken_by first first.kind)
replayed rec opened lines None = Ok (report lines (run_end rec (last_state rec opened)))

-- the report of a recording that replays without a break, with analyses of what the tracers of a
-- script leave
abbrev pub report_of : Recording → ScriptTree → List Kind → State → List ℕ
report_of rec script kinds opened =
    let left : List LeftRecord = records rec (records_at script) opened in
    report (analyses_lines 1 kinds (rows_of kinds left)) (run_end rec (last_state rec opened))

-- the same, or how the command is refused
unfoldable pub traced : Recording → ScriptTree → List Kind → State → Result (List ℕ) Refusal
traced rec script kinds opened =
    let left : List LeftRecord = records rec (records_at script) opened in
    replayed rec opened (analyses_lines 1 kinds (rows_of kinds left)) (first_break rec opened)

-- without an analysis
unfoldable pub replayed_alone : Recording → State → Result (List ℕ) Refusal
replayed_alone rec opened = replayed rec opened [] (first_break rec opened)

-- what a recording is used for, where it replays without a break
abbrev pub unless_broken : {A : Type 0} → A → Option Break → Result A Refusal
unless_broken x None = Ok x
unless_broken x (Some first) = Err (broken_by first first.kind)
