use Rattle.std.proofs.Common.{◌≡◌, ◌++◌, map, take}
use Rattle.tracer_lang.specs.Script.{tree_of}
use Rattle.tracer_lang.specs.Meaning.{record_of}
use Rattle.epoch_run.specs.Plans.{state_in, CanTrace}
use Rattle.epoch_run.specs.LastLogs.{FiredAt}
use Rattle.epoch_run.proofs.firing.run_fired.Given as goal

abbrev pub invariant-loop-point : goal.invariant-loop-point
invariant-loop-point l =
    let s = state_in l.fn.worker in
    record {
      records : l.records.items ≡ l.fn.records.items ++ map (λ i. record_of (tree_of l.plan.tracers.script) i s) (take l.point-index l.point-items);
      machine : l.worker.m ≡ l.fn.worker.m;
      memory : l.worker.f ≡ l.fn.worker.f;
      bank : CanTrace l.plan l.worker;
      last : FiredAt (tree_of l.plan.tracers.script) s l.fn.records.items l.records.items l.fn.worker.bank.last_log_len l.worker.bank.last_log_len;
    }

abbrev pub ghosts-run_tracer : goal.ghosts-run_tracer
ghosts-run_tracer a = record { name = a.blank.name; parts = a.blank.parts }
