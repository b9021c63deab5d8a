-- An interval, from one checkpoint to the next one, in the middle of its replay.
use Rattle.std.specs.Prelude.{◌≡◌, ℕ, ◌+◌, ⊤, List, ◌++◌, Option, Some, None, Result, Ok, Err}
use Rattle.sl_base.specs.declared.refused.Refused.{Refused}
use Rattle.sl_base.specs.declared.refused.Refused.TheVariants as refused
use Rattle.sl_model.specs.Pages.{Pages}
use Rattle.sl_model.specs.State.{State}
use Rattle.call_log.specs.declared.breaks.Break.{Break}
use Rattle.call_log.specs.declared.breaks.BreakKind.{BreakKind}
use Rattle.rec_format.specs.declared.recording.Recording.{Recording}
use Rattle.tracer_lang.specs.declared.record.Record.{Record}
use Rattle.replay.specs.Run.{run_from}
use Rattle.epoch_run.specs.Records.{Tracers}
use Rattle.epoch_run.specs.Epochs.{epoch_break_from, epoch_records_from}

-- An interval that is left with these instructions at a state is left with what it began with, less
-- what it recorded.
pub record IsUnderWay (rec : Recording) (tracers : Tracers) (first : State) (total : ℕ)
    (s : State) (left : ℕ) (old new : List Record) : Type 0 where
  pub breaks : (opened : Pages) (a b : ℕ) → a + 1 ≡ b
      → epoch_break_from opened rec a b first total ≡ epoch_break_from opened rec a b s left
  pub records : (b : ℕ)
      → old ++ epoch_records_from rec tracers b first total
      ≡ new ++ epoch_records_from rec tracers b s left
  pub run : run_from rec first total ≡ run_from rec s left

-- a part of a replay: nothing that is told, a break, or want of memory
abbrev pub Part : Type 0
Part = Result (Unit {0}) (Refused Break)

-- why an instruction was not done, with the count at which it stands
abbrev pub stopped_at : ℕ → Refused BreakKind → Refused Break
stopped_at count refused.Memory = refused.Memory
stopped_at count (refused.Fault kind) = refused.Fault (record { count = count; kind = kind })

-- an interval has this break before its end, or memory was wanting
abbrev pub BrokeOff : Recording → State → ℕ → Refused Break → Type 0
BrokeOff rec first total refused.Memory = ⊤
BrokeOff rec first total (refused.Fault broken) =
    (opened : Pages) (a b : ℕ) → a + 1 ≡ b
    → epoch_break_from opened rec a b first total ≡ Some broken

-- an interval came to the count of its second checkpoint, or it has this break before it
abbrev pub CameTo : Recording → Tracers → State → ℕ → State → List Record → List Record
    → Part → Type 0
CameTo rec tracers first total s old new (Ok done) = IsUnderWay rec tracers first total s 0 old new
CameTo rec tracers first total s old new (Err stop) = BrokeOff rec first total stop

-- a refusal is for this break, or memory was wanting
abbrev pub StopsAt : Refused Break → Option Break → Type 0
StopsAt refused.Memory broken = ⊤
StopsAt (refused.Fault first) broken = broken ≡ Some first

-- what a part of a replay tells is this break, unless memory was wanting
abbrev pub TellsBreak : Part → Option Break → Type 0
TellsBreak (Ok done) broken = broken ≡ None
TellsBreak (Err stop) broken = StopsAt stop broken
