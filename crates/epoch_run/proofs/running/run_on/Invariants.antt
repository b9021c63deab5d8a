use Rattle.std.proofs.Common.{◌≡◌, ◌+◌, ◌<◌, ◌≤◌}
use Rattle.rec_format.specs.Recorded.{end_place, recorded_state, recorded_count}
use Rattle.checkpoints.specs.RecordedRun.{opened_of}
use Rattle.epoch_run.specs.Plans.{tracers_of, state_in, CanTrace}
use Rattle.tracer_lang.specs.Script.{tree_of}
use Rattle.epoch_run.specs.LastLogs.{IsLogged}
use Rattle.epoch_run.proofs.SoFar.{IsSoFar}
use Rattle.epoch_run.proofs.running.run_on.Given as goal

abbrev pub invariant-loop-j : goal.invariant-loop-j
invariant-loop-j g l =
    let rec = l.plan.checkpoints.rec in
    let opened = opened_of l.plan.checkpoints in
    record {
      so_far : IsSoFar rec opened (tracers_of l.plan) l.a l.j l.records.items;
      state : l.j < end_place rec → state_in l.worker ≡ recorded_state rec opened l.j;
      from : l.a ≤ l.j;
      bank : CanTrace l.plan l.worker;
      logged : IsLogged rec (tree_of l.plan.tracers.script) (state_in l.fn.worker) (state_in l.worker) l.records.items l.worker.bank.last_log_len;
      steps : l.steps + recorded_count rec l.a ≤ l.fn.steps + recorded_count rec l.j;
    }
