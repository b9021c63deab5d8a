use Rattle.std.proofs.Common.{◌≡◌, ◌<◌, length, sym, subst, ◌∙◌}
use Rattle.std.specs.Prelude.{All}
use Rattle.tracer_lang.specs.Firing.{firing}
use Rattle.epoch_run.specs.Plans.{state_in}
use Rattle.epoch_run.proofs.Fired.{firing-within}
use Rattle.epoch_run.proofs.firing.run_fired.Goals as goal

pub run_tracer-requires-clause-point : goal.run_tracer-requires-clause-point
run_tracer-requires-clause-point c =
    let plan = c.args.plan.now in
    let script = plan.tracers.script in
    let s = state_in c.args.worker.now in
    let are : c.as_slice-point-items.result.now ≡ firing plan.points s =
    c.as_slice-point-items.ensures.numbers ∙ c.requires.fired in
    let within : All (λ i. i < length script.tracepoints) c.as_slice-point-items.result.now =
    subst (All (λ i. i < length script.tracepoints)) (sym are)
    (firing-within script plan.points s plan.watched) in
    within c.loop-point.point-index 0 c.loop-point-test.true
