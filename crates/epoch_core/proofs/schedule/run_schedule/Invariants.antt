use Rattle.std.proofs.Common.{◌≡◌, drop}
use Rattle.epoch_core.specs.Schedule.{start, run_events}
use Rattle.epoch_core.proofs.Sound.{Sound}
use Rattle.epoch_core.proofs.schedule.run_schedule.Given as goal

-- the events that are left lead from here to where all lead from the start
abbrev pub invariant-loop-event : goal.invariant-loop-event
invariant-loop-event g l =
    let values = g.R.Runs.values in
    record {
      same : values l.runs ≡ values l.fn.runs;
      sound : Sound (values l.fn.runs) l.machine;
      rest : run_events (values l.fn.runs) l.machine (drop l.event-index l.events) ≡ run_events (values l.fn.runs) (start l.workers) l.events;
    }
