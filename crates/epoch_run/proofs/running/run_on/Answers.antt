use Rattle.std.proofs.Common.{◌+◌, List, sym, subst, arith}
use Rattle.std.proofs.lemmas.Result.{err_from_is_err_and}
use Rattle.checkpoints.specs.RecordedRun.{opened_of}
use Rattle.epoch_run.specs.Plans.{tracers_of, state_in}
use Rattle.tracer_lang.specs.Script.{tree_of}
use Rattle.tracer_lang.specs.declared.record.Record.{Record}
use Rattle.epoch_run.specs.LastLogs.{TellsLast, IsLogged}
use Rattle.epoch_run.proofs.LastLogs.{logged-first}
use Rattle.epoch_run.proofs.SoFar.{IsSoFar, starts, goes_further, stops_there, more_steps, within_size}
use Rattle.epoch_run.proofs.running.run_on.Goals as goal

pub returns-in_err-run_segment-clause-steps : goal.returns-in_err-run_segment-clause-steps
returns-in_err-run_segment-clause-steps g c =
    let within = c.requires.within in
    let rec = c.args.plan.now.checkpoints.rec in
    let is = c.args.plan.now.checkpoints.is_value in
    within_size rec c.args.a (c.loop-j.j + 1) c.args.b _ _ is (omega arith) within
    (more_steps rec c.args.a c.loop-j.j _ _ _ is (omega arith) c.loop-j.invariant.steps c.run_segment.ensures.steps)

pub returns-in_err-run_segment-clause-value : goal.returns-in_err-run_segment-clause-value
returns-in_err-run_segment-clause-value g c =
    let p = err_from_is_err_and c.from_residual.result c.from_residual.ensures.1 in
    let plan = c.args.plan.now in
    let kept = c.loop-j.invariant in
    rw (p.1, p.2)
    (stops_there plan.checkpoints.rec (opened_of plan.checkpoints) (tracers_of plan) c.args.a c.loop-j.j c.loop-j.records.items plan.checkpoints.is_value plan.checkpoints.opens kept.from kept.so_far c.args.b c.in_err-run_segment.field-0.0 (omega arith) c.requires.within c.in_err-run_segment.ensures.first)

pub loop-j-preserved : goal.loop-j-preserved
loop-j-preserved g c =
    let kept = c.loop-j.invariant in
    let within = c.requires.within in
    let plan = c.args.plan.now in
    record {
      so_far = goes_further plan.checkpoints.rec (opened_of plan.checkpoints) (tracers_of plan) c.args.a c.loop-j.j c.loop-j.records.items plan.checkpoints.is_value plan.checkpoints.opens kept.from kept.so_far _ (omega arith) c.in_ok-run_segment.ensures.first c.in_ok-run_segment.ensures.records;
      state = c.in_ok-run_segment.ensures.state;
      from = omega (arith, kept.from);
      bank = c.run_segment.ensures.bank;
      logged = c.in_ok-run_segment.ensures.last (state_in c.args.worker.now) kept.logged;
      steps = more_steps plan.checkpoints.rec c.args.a c.loop-j.j _ _ _ plan.checkpoints.is_value (omega arith) kept.steps c.run_segment.ensures.steps;
    }

pub loop-j-init : goal.loop-j-init
loop-j-init g c =
    let plan = c.args.plan.now in
    let rec = plan.checkpoints.rec in
    let opened = opened_of plan.checkpoints in
    let script = tree_of plan.tracers.script in
    let first = state_in c.args.worker.now in
    let entries = c.args.worker.now.bank.last_log_len in
    record {
      so_far = subst (IsSoFar rec opened (tracers_of plan) c.args.a c.args.a) (sym c.new-records.ensures.items) (starts rec opened (tracers_of plan) c.args.a);
      state = λ below. c.requires.at;
      from = omega arith;
      bank = c.requires.bank;
      logged = subst (λ (left : List Record). IsLogged rec script first first left entries) (sym c.new-records.ensures.items) (logged-first rec script first entries);
      steps = omega arith;
    }

pub returns-clause-last : goal.returns-clause-last
returns-clause-last g c =
    let plan = c.args.plan.now in
    let left = c.loop-j.records.items in
    subst (λ (records : List Record). TellsLast plan.checkpoints.rec (tree_of plan.tracers.script) (state_in c.args.worker.now) records c.loop-j.worker.bank.last_log_len)
    (sym c.from_vec.ensures) c.loop-j.invariant.logged.last
