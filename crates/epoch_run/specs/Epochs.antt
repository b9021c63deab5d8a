-- What an epoch of a recording gives: the stretch from one checkpoint to a later one, replayed by
-- itself from the state that the first of them records. Checkpoint 0 is the opening state, and the
-- last is that of the end.
use Rattle.std.specs.Prelude.{ℕ, zero, suc, ◌+◌, ◌-◌, ◌==◌, List, [], ◌++◌, take, drop, Option, Some, None, Result, Ok, Err, if◌then◌else◌}
use Rattle.std.specs.Option.{option_or}
use Rattle.sl_model.specs.declared.run_state.RunState.{RunState}
use Rattle.sl_model.specs.declared.run_state.RunState.TheVariants.{Running, Exited}
use Rattle.sl_model.specs.Pages.{Pages}
use Rattle.sl_model.specs.State.{State}
use Rattle.call_log.specs.declared.breaks.Break.{Break}
use Rattle.call_log.specs.declared.breaks.BreakKind.{BreakKind}
use Rattle.call_log.specs.declared.breaks.BreakKind.TheVariants.{EarlyEnd}
use Rattle.rec_format.specs.declared.recording.Recording.{Recording}
use Rattle.rec_format.specs.declared.recording.CheckpointData.{CheckpointData}
use Rattle.tracer_lang.specs.declared.record.Record.{Record}
use Rattle.replay.specs.Run.{onward}
use Rattle.replay.specs.Breaks.{listed_break, end_break, at_count, listed_or, break_after}
use Rattle.rec_format.specs.Recorded.{end_place, checkpoint_at, recorded_state, recorded_count}
use Rattle.rec_format.specs.Compared.{checkpoint_break}
use Rattle.epoch_run.specs.Records.{Tracers, at_end, records_after}

-- ---- where an epoch stands

-- the checkpoints strictly between two, the first of them being a + 1
abbrev pub between : Recording → ℕ → ℕ → List CheckpointData
between rec a b = take (b - 1 - a) (drop a rec.checkpoints)

-- how many instructions an epoch has
abbrev pub epoch_size : Recording → ℕ → ℕ → ℕ
epoch_size rec a b = recorded_count rec b - recorded_count rec a

-- ---- its first break

-- a program that has exited before the recorded end
abbrev pub early_exit : Recording → RunState → Option BreakKind
early_exit rec Running = None
early_exit rec (Exited code) = Some (EarlyEnd rec.last.count)

-- What is tried at checkpoint b once it was compared: at the end's the end and the calls, at any
-- other an exit. A trap there and all that comes later belong to the next epoch.
abbrev pub closing_break : Recording → ℕ → State → Option BreakKind
closing_break rec b s =
    if b == end_place rec then end_break rec s else early_exit rec s.status

-- The first break of the epoch from checkpoint a to checkpoint b, from a state on with so many
-- instructions left before b's count. Checkpoint a is not compared.
unfoldable pub epoch_break_from : Pages → Recording → ℕ → ℕ → State → ℕ → Option Break
epoch_break_from opened rec a b s zero =
    at_count s
    (option_or (checkpoint_break opened rec b (checkpoint_at rec b) s) (closing_break rec b s))
epoch_break_from opened rec a b s (suc n) =
    listed_or s (listed_break opened rec (a + 1) (between rec a b) s)
    (break_after s (λ t. epoch_break_from opened rec a b t n) (onward rec s))

-- the same from the recorded state of a, whatever it is
abbrev pub epoch_break : Recording → State → ℕ → ℕ → Option Break
epoch_break rec opened a b =
    epoch_break_from opened.pages rec a b (recorded_state rec opened a) (epoch_size rec a b)

-- ---- its records

-- at checkpoint b tracepoints fire where it is the end's and the end is a trap
abbrev pub closing_records : Recording → Tracers → ℕ → State → List Record
closing_records rec tracers b s =
    if b == end_place rec then at_end tracers rec.end s else []

-- the records up to checkpoint b, from a state on with so many instructions left before its count
unfoldable pub epoch_records_from : Recording → Tracers → ℕ → State → ℕ → List Record
epoch_records_from rec tracers b s zero = closing_records rec tracers b s
epoch_records_from rec tracers b s (suc n) =
    tracers s ++ records_after (λ t. epoch_records_from rec tracers b t n) (onward rec s)

abbrev pub epoch_records : Recording → State → Tracers → ℕ → ℕ → List Record
epoch_records rec opened tracers a b =
    epoch_records_from rec tracers b (recorded_state rec opened a) (epoch_size rec a b)

-- ---- its value

-- the records that are left, where there is no break
abbrev pub value_of : List Record → Option Break → Result (List Record) Break
value_of records None = Ok records
value_of records (Some broken) = Err broken

-- what the epoch from checkpoint a to checkpoint b comes to: its records or its first break
abbrev pub epoch_value : Recording → State → Tracers → ℕ → ℕ → Result (List Record) Break
epoch_value rec opened tracers a b =
    value_of (epoch_records rec opened tracers a b) (epoch_break rec opened a b)
