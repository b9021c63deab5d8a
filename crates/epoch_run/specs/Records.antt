-- What the tracers of a script leave on the run of a recording.
use Rattle.std.specs.Prelude.{ℕ, zero, suc, List, [], ◌++◌}
use Rattle.sl_model.specs.State.{State}
use Rattle.call_log.specs.declared.entry.End.{End}
use Rattle.call_log.specs.declared.entry.End.TheVariants as end
use Rattle.rec_format.specs.declared.recording.Recording.{Recording}
use Rattle.tracer_lang.specs.declared.record.Record.{Record}
use Rattle.replay.specs.Run.{Onward, Goes, Breaks, onward}

-- what the tracepoints of a script leave at a state, in the order of the script: nothing where none
-- fires
abbrev pub Tracers : Type 0
Tracers = State → List Record

-- at the recorded end tracepoints fire where the end is a trap
abbrev pub at_end : Tracers → End → State → List Record
at_end tracers (end.Trapped number) s = tracers s
at_end tracers (end.Exited code) s = []
at_end tracers end.Stopped s = []

-- what follows the next instruction, where it does not break
abbrev pub records_after : (State → List Record) → Onward → List Record
records_after follow (Goes t) = follow t
records_after follow (Breaks kind) = []

-- the records from a state on, with so many instructions left before the recorded end: each
-- tracepoint fires before the instruction at its place
unfoldable pub records_from : Recording → Tracers → State → ℕ → List Record
records_from rec tracers s zero = at_end tracers rec.end s
records_from rec tracers s (suc n) =
    tracers s ++ records_after (λ t. records_from rec tracers t n) (onward rec s)

-- the records of a recording that is replayed from this state
abbrev pub records : Recording → Tracers → State → List Record
records rec tracers opened = records_from rec tracers opened rec.last.count
