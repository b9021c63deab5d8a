use Rattle.std.proofs.Common.{◌≡◌, ◌-◌, ap, sym, subst, ◌∙◌, arith, true}
use Rattle.sl_model.specs.Marks.{MarksGoOn}
use Rattle.sl_model.specs.State.{State}
use Rattle.sl_model.proofs.MarksLaws.{MarksGoOn-then}
use Rattle.page_frames.specs.MarkedPages.{MarkedPages}
use Rattle.rv_machine.specs.declared.machine.Machine.{Machine}
use Rattle.rv_machine.specs.Machine.{state_of}
use Rattle.replay.specs.Run.{Goes, onward}
use Rattle.replay.proofs.Calls.{HasCalls-value}
use Rattle.epoch_run.specs.Plans.{tracers_of, state_in}
use Rattle.epoch_run.specs.Segments.{IsUnderWay}
use Rattle.tracer_lang.specs.Script.{tree_of}
use Rattle.epoch_run.proofs.LastLogs.{logged-fired, logged-next}
use Rattle.epoch_run.proofs.Stretch.{goes_on_at, breaks_off, goes-running, same_state}
use Rattle.epoch_run.proofs.segment.run_to.Goals as goal

pub returns-in-Err-clause-came : goal.returns-in-Err-clause-came
returns-in-Err-clause-came g c =
    let kept = c.loop-done.invariant in
    let plan = c.args.plan.now in
    let first = c.args.worker.now in
    let worker = c.fire.new.worker in
    let same = same_state worker c.loop-done.worker c.fire.ensures.only.machine c.fire.ensures.only.memory in
    let way =
    subst (λ (s : State). IsUnderWay plan.checkpoints.rec (tracers_of plan) (state_in first) (c.args.upto - first.m.count) s (c.args.upto - c.loop-done.done) c.args.records.now.items c.loop-done.records.items)
    (sym same) kept.under_way in
    rw c.stopped_at.ensures
    (breaks_off plan.checkpoints.rec (tracers_of plan) _ _ worker.m _ worker.f _ c.loop-done.done c.args.upto _ _ c.in-Err.stop (omega arith) (ap (λ (m : Machine). m.count) c.fire.ensures.only.machine ∙ kept.count) c.in-Err.ensures.onward way)

pub loop-done-preserved : goal.loop-done-preserved
loop-done-preserved g c =
    let kept = c.loop-done.invariant in
    let rec = c.args.plan.now.checkpoints.rec in
    let script = tree_of c.args.plan.now.tracers.script in
    let old = c.loop-done.worker in
    let worker = c.fire.new.worker in
    let same = same_state worker old c.fire.ensures.only.machine c.fire.ensures.only.memory in
    let goes = subst (λ (s : State). onward rec s ≡ Goes (state_of c.advance_one.new.m c.advance_one.new.f.pages)) same c.in_default.ensures.onward in
    let running = goes-running rec (state_in old) (state_of c.advance_one.new.m c.advance_one.new.f.pages) goes in
    record {
      under_way = goes_on_at rec (tracers_of c.args.plan.now) _ _ _ _ c.loop-done.done c.args.upto _ c.loop-done.records.items _ (omega arith) goes (c.in_ok-fire.ensures.records running) kept.under_way;
      count = omega (arith, c.in_default.ensures.count, ap (λ (m : Machine). m.count) c.fire.ensures.only.machine, kept.count);
      fits = c.in_default.ensures.fits;
      from = omega (arith, kept.from);
      marks = MarksGoOn-then true _ _ _ _ _ _ kept.marks (subst (λ (f : MarkedPages). MarksGoOn true f.pages f.dirty c.advance_one.new.f.pages c.advance_one.new.f.dirty) c.fire.ensures.only.memory c.in_default.ensures.marks);
      bank = c.fire.ensures.only.bank;
      last = λ first logged.
          logged-next rec script first (state_in old) (state_of c.advance_one.new.m c.advance_one.new.f.pages) _ _ goes
          (logged-fired rec script first (state_in old) _ _ _ _ c.in_ok-fire.ensures.last (kept.last first logged));
      steps = omega (arith, kept.steps, c.in_default.ensures.counted);
    }

pub advance_one-requires-clause-calls : goal.advance_one-requires-clause-calls
advance_one-requires-clause-calls g c = HasCalls-value c.args.plan.now.checkpoints.rec c.args.plan.now.checkpoints.is_value
