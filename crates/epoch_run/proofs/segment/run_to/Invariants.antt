use Rattle.std.proofs.Common.{◌≡◌, ◌+◌, ◌-◌, ◌≤◌, true}
use Rattle.sl_model.specs.State.{State, Fits}
use Rattle.sl_model.specs.Marks.{MarksGoOn}
use Rattle.tracer_lang.specs.Script.{tree_of}
use Rattle.epoch_run.specs.LastLogs.{IsLogged}
use Rattle.epoch_run.specs.Segments.{IsUnderWay}
use Rattle.epoch_run.specs.Plans.{tracers_of, state_in, CanTrace}
use Rattle.epoch_run.proofs.segment.run_to.Given as goal

abbrev pub invariant-loop-done : goal.invariant-loop-done
invariant-loop-done g l = record {
  under_way : IsUnderWay l.plan.checkpoints.rec (tracers_of l.plan) (state_in l.fn.worker) (l.upto - l.fn.worker.m.count) (state_in l.worker) (l.upto - l.done) l.fn.records.items l.records.items;
  count : l.worker.m.count ≡ l.done;
  fits : Fits (state_in l.worker);
  from : l.fn.worker.m.count ≤ l.done;
  marks : MarksGoOn true l.fn.worker.f.pages l.fn.worker.f.dirty l.worker.f.pages l.worker.f.dirty;
  bank : CanTrace l.plan l.worker;
  last : (first : State) → IsLogged l.plan.checkpoints.rec (tree_of l.plan.tracers.script) first (state_in l.fn.worker) l.fn.records.items l.fn.worker.bank.last_log_len → IsLogged l.plan.checkpoints.rec (tree_of l.plan.tracers.script) first (state_in l.worker) l.records.items l.worker.bank.last_log_len;
  steps : l.steps + l.fn.worker.m.count ≤ l.fn.steps + l.done;
}
