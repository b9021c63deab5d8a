-- What the replay of a plan comes to.
use Rattle.std.specs.Prelude.{List, Option, Some, None, Result, Ok, Err}
use Rattle.sl_model.specs.State.{State}
use Rattle.call_log.specs.declared.breaks.Break.{Break}
use Rattle.rec_format.specs.declared.recording.Recording.{Recording}
use Rattle.analysers.specs.declared.kind.Kind.{Kind}
use Rattle.analysers.specs.declared.merged.Merged.{Merged}
use Rattle.analysers.specs.Pieces.{merged_of}
use Rattle.replay.specs.Breaks.{first_break}
use Rattle.checkpoints.specs.RecordedRun.{opened_of}
use Rattle.epoch_run.specs.declared.plan.Plan.{Plan}
use Rattle.epoch_run.specs.Records.{Tracers, records}
use Rattle.epoch_run.specs.Plans.{tracers_of}

-- what one run comes to: what the analyses give of the records of its tracers, or its first break
abbrev pub run_value : Option Break → Merged → Result Merged Break
run_value None whole = Ok whole
run_value (Some first) whole = Err first

abbrev pub run_of : Recording → Tracers → List Kind → State → Result Merged Break
run_of rec tracers kinds opened =
    run_value (first_break rec opened) (merged_of kinds (records rec tracers opened))

abbrev pub run_in : Plan → Result Merged Break
run_in plan =
    run_of plan.checkpoints.rec (tracers_of plan) plan.kinds (opened_of plan.checkpoints)
