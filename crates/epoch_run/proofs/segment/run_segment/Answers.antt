use Rattle.std.proofs.Common.{◌≡◌, ◌+◌, ◌-◌, sym, ap, subst, arith, ◌∙◌}
use Rattle.page_frames.specs.MarkedPages.{MarkedPages}
use Rattle.checkpoints.specs.Marked.{HoldsRecorded}
use Rattle.checkpoints.proofs.Marked.{recorded-holds, holds-goes_on}
use Rattle.std.proofs.lemmas.Result.{err_from_is_err_and}
use Rattle.checkpoints.specs.RecordedRun.{opened_of}
use Rattle.epoch_run.specs.Plans.{tracers_of, state_in}
use Rattle.epoch_run.proofs.OneSegment.{of_plan, starts_below, starts_fitting, segment_steps, segment_stops, segment_closes, segment_records, segment_state}
use Rattle.tracer_lang.specs.Script.{tree_of}
use Rattle.epoch_run.proofs.LastLogs.{logged-fired, logged-at}
use Rattle.epoch_run.proofs.Stretch.{same_state}
use Rattle.epoch_run.proofs.Closing.{closes-running}
use Rattle.epoch_run.proofs.segment.run_segment.Goals as goal

pub run_to-requires-clause-from : goal.run_to-requires-clause-from
run_to-requires-clause-from g c =
    let plan = c.args.plan.now in
    let is = of_plan plan c.args.j c.args.worker.now c.recorded_count-upto.result c.requires.within c.requires.at c.recorded_count-upto.ensures.count in
    starts_below plan.checkpoints.rec (opened_of plan.checkpoints) c.args.j (state_in c.args.worker.now) c.recorded_count-upto.result is

pub run_to-requires-clause-fits : goal.run_to-requires-clause-fits
run_to-requires-clause-fits g c =
    let plan = c.args.plan.now in
    let is = of_plan plan c.args.j c.args.worker.now c.recorded_count-upto.result c.requires.within c.requires.at c.recorded_count-upto.ensures.count in
    starts_fitting plan.checkpoints.rec (opened_of plan.checkpoints) c.args.j (state_in c.args.worker.now) c.recorded_count-upto.result is

pub returns-in_err-run_to-clause-first : goal.returns-in_err-run_to-clause-first
returns-in_err-run_to-clause-first g c =
    let plan = c.args.plan.now in
    let is = of_plan plan c.args.j c.args.worker.now c.recorded_count-upto.result c.requires.within c.requires.at c.recorded_count-upto.ensures.count in
    let p = err_from_is_err_and c.from_residual.result c.from_residual.ensures.1 in
    rw (p.1, p.2) (segment_stops plan.checkpoints.rec (opened_of plan.checkpoints) c.args.j (state_in c.args.worker.now) c.recorded_count-upto.result is c.in_err-run_to.field-0.0 c.in_err-run_to.ensures.came)

pub returns-in_err-run_to-clause-steps : goal.returns-in_err-run_to-clause-steps
returns-in_err-run_to-clause-steps g c =
    let plan = c.args.plan.now in
    let is = of_plan plan c.args.j c.args.worker.now c.recorded_count-upto.result c.requires.within c.requires.at c.recorded_count-upto.ensures.count in
    segment_steps plan.checkpoints.rec (opened_of plan.checkpoints) c.args.j (state_in c.args.worker.now) c.recorded_count-upto.result is c.args.steps.now c.run_to.new.steps c.run_to.ensures.steps

pub returns-in-Some-clause-steps : goal.returns-in-Some-clause-steps
returns-in-Some-clause-steps g c =
    let plan = c.args.plan.now in
    let is = of_plan plan c.args.j c.args.worker.now c.recorded_count-upto.result c.requires.within c.requires.at c.recorded_count-upto.ensures.count in
    segment_steps plan.checkpoints.rec (opened_of plan.checkpoints) c.args.j (state_in c.args.worker.now) c.recorded_count-upto.result is c.args.steps.now c.run_to.new.steps c.run_to.ensures.steps

pub returns-in_err-fire_at_checkpoint-clause-steps : goal.returns-in_err-fire_at_checkpoint-clause-steps
returns-in_err-fire_at_checkpoint-clause-steps g c =
    let plan = c.args.plan.now in
    let is = of_plan plan c.args.j c.args.worker.now c.recorded_count-upto.result c.requires.within c.requires.at c.recorded_count-upto.ensures.count in
    segment_steps plan.checkpoints.rec (opened_of plan.checkpoints) c.args.j (state_in c.args.worker.now) c.recorded_count-upto.result is c.args.steps.now c.run_to.new.steps c.run_to.ensures.steps

pub returns-clause-steps : goal.returns-clause-steps
returns-clause-steps g c =
    let plan = c.args.plan.now in
    let is = of_plan plan c.args.j c.args.worker.now c.recorded_count-upto.result c.requires.within c.requires.at c.recorded_count-upto.ensures.count in
    segment_steps plan.checkpoints.rec (opened_of plan.checkpoints) c.args.j (state_in c.args.worker.now) c.recorded_count-upto.result is c.args.steps.now c.run_to.new.steps c.run_to.ensures.steps

pub returns-in-Some-clause-first : goal.returns-in-Some-clause-first
returns-in-Some-clause-first g c =
    let plan = c.args.plan.now in
    let is = of_plan plan c.args.j c.args.worker.now c.recorded_count-upto.result c.requires.within c.requires.at c.recorded_count-upto.ensures.count in
    sym (c.in-Some.ensures ∙ segment_closes plan.checkpoints.rec (opened_of plan.checkpoints) c.args.j (state_in c.args.worker.now) c.recorded_count-upto.result is (tracers_of plan) (state_in c.run_to.new.worker) c.args.records.now.items c.run_to.new.records.items c.in_ok-run_to.ensures.came)

pub returns-clause-first : goal.returns-clause-first
returns-clause-first g c =
    let plan = c.args.plan.now in
    let is = of_plan plan c.args.j c.args.worker.now c.recorded_count-upto.result c.requires.within c.requires.at c.recorded_count-upto.ensures.count in
    sym (c.in_default.ensures ∙ segment_closes plan.checkpoints.rec (opened_of plan.checkpoints) c.args.j (state_in c.args.worker.now) c.recorded_count-upto.result is (tracers_of plan) (state_in c.run_to.new.worker) c.args.records.now.items c.run_to.new.records.items c.in_ok-run_to.ensures.came)

pub returns-clause-records : goal.returns-clause-records
returns-clause-records g c =
    let plan = c.args.plan.now in
    let is = of_plan plan c.args.j c.args.worker.now c.recorded_count-upto.result c.requires.within c.requires.at c.recorded_count-upto.ensures.count in
    segment_records plan.checkpoints.rec (opened_of plan.checkpoints) c.args.j (state_in c.args.worker.now) c.recorded_count-upto.result is (tracers_of plan) (state_in c.run_to.new.worker) c.args.records.now.items c.run_to.new.records.items c.in_ok-run_to.ensures.came c.fire_at_checkpoint.new.records.items c.in_ok-fire_at_checkpoint.ensures.records

pub returns-clause-state : goal.returns-clause-state
returns-clause-state g c =
    let plan = c.args.plan.now in
    let is = of_plan plan c.args.j c.args.worker.now c.recorded_count-upto.result c.requires.within c.requires.at c.recorded_count-upto.ensures.count in
    let worker = c.fire_at_checkpoint.new.worker in
    let cleared : state_in (record worker { f = c.clear_dirty.new.self }) ≡ state_in worker =
    ap (λ (f : MarkedPages). state_in (record worker { f = f })) c.clear_dirty.ensures in
    let same = cleared ∙ same_state worker c.run_to.new.worker c.fire_at_checkpoint.ensures.only.machine c.fire_at_checkpoint.ensures.only.memory in
    λ inner. same ∙ segment_state plan.checkpoints.rec (opened_of plan.checkpoints) c.args.j (state_in c.args.worker.now) c.recorded_count-upto.result is (tracers_of plan) (state_in c.run_to.new.worker) c.args.records.now.items c.run_to.new.records.items c.in_ok-run_to.ensures.came inner (sym (c.in_default.ensures ∙ segment_closes plan.checkpoints.rec (opened_of plan.checkpoints) c.args.j (state_in c.args.worker.now) c.recorded_count-upto.result is (tracers_of plan) (state_in c.run_to.new.worker) c.args.records.now.items c.run_to.new.records.items c.in_ok-run_to.ensures.came))

pub break_at_checkpoint-requires-clause-holds : goal.break_at_checkpoint-requires-clause-holds
break_at_checkpoint-requires-clause-holds g c =
    let checkpoints = c.args.plan.now.checkpoints in
    let opened = opened_of checkpoints in
    let before : c.args.j + 1 - 1 ≡ c.args.j = omega arith in
    let start = recorded-holds checkpoints.rec opened c.args.j c.args.worker.now.f checkpoints.opens (ap (λ s. s.pages) c.requires.at) in
    subst (λ k. HoldsRecorded opened.pages checkpoints.rec k c.run_to.new.worker.f) (sym before)
    (holds-goes_on opened.pages checkpoints.rec c.args.j c.args.worker.now.f c.run_to.new.worker.f start
    c.in_ok-run_to.ensures.marks c.dirty_len-kept.ensures.kept.below)

pub fire_at_checkpoint-requires-clause-running : goal.fire_at_checkpoint-requires-clause-running
fire_at_checkpoint-requires-clause-running g c =
    let plan = c.args.plan.now in
    closes-running plan.checkpoints.rec (c.args.j + 1) (state_in c.run_to.new.worker) _ (sym c.in_default.ensures)

pub returns-clause-last : goal.returns-clause-last
returns-clause-last g c = λ first logged.
    let plan = c.args.plan.now in
    let rec = plan.checkpoints.rec in
    let script = tree_of plan.tracers.script in
    let came = state_in c.run_to.new.worker in
    let worker = c.fire_at_checkpoint.new.worker in
    let cleared : state_in (record worker { f = c.clear_dirty.new.self }) ≡ state_in worker =
    ap (λ (f : MarkedPages). state_in (record worker { f = f })) c.clear_dirty.ensures in
    let same = cleared ∙ same_state worker c.run_to.new.worker c.fire_at_checkpoint.ensures.only.machine c.fire_at_checkpoint.ensures.only.memory in
    logged-at rec script first came (state_in (record worker { f = c.clear_dirty.new.self })) _ _ same
    (logged-fired rec script first came _ _ _ _ c.in_ok-fire_at_checkpoint.ensures.last (c.in_ok-run_to.ensures.last first logged))
