use Rattle.std.specs.Prelude.{slice_index, IfOk}
use Rattle.std.proofs.Common.{◌+◌, ap, subst, ◌∙◌, List, ℕ}
use Rattle.sl_base.specs.Refusals.{Tells}
use Rattle.analysers.specs.declared.kind.Kind.{Kind}
use Rattle.tracer_lang.specs.Script.{tree_of}
use Rattle.rec_format.specs.Recorded.{recorded_state}
use Rattle.checkpoints.specs.RecordedRun.{opened_of}
use Rattle.epoch_run.specs.LastLogs.{TellsLast}
use Rattle.epoch_run.proofs.LastLogs.{log-posted}
use Rattle.epoch_run.specs.Epochs.{epoch_value}
use Rattle.epoch_run.specs.Plans.{tracers_of, value_in, posted}
use Rattle.epoch_run.proofs.Planned.{ends}
use Rattle.epoch_run.proofs.epoch.run_epoch.Goals as goal

pub run_between-requires-clause-within : goal.run_between-requires-clause-within
run_between-requires-clause-within g c =
    let plan = c.args.plan.now in
    rw c.places-places.ensures.value (ends plan.checkpoints.rec plan.cutting c.args.k plan.cuts c.requires.within).within

pub returns-clause-value : goal.returns-clause-value
unfolding value_in
returns-clause-value g c =
    let plan = c.args.plan.now in
    let k = c.args.k in
    c.in_ok-value.ensures (value_in plan k)
    (subst (λ (places : List ℕ). Tells c.run_between.result (epoch_value plan.checkpoints.rec (opened_of plan.checkpoints) (tracers_of plan) (slice_index places k) (slice_index places (k + 1)))) c.places-places.ensures.value c.run_between.ensures.value)
    ∙ ap (λ (kinds : List Kind). posted kinds (value_in plan k)) c.as_slice-kinds.ensures

pub returns-clause-last : goal.returns-clause-last
returns-clause-last g c =
    let plan = c.args.plan.now in
    let k = c.args.k in
    let rec = plan.checkpoints.rec in
    let entries = c.run_between.new.worker.bank.last_log_len in
    log-posted plan k entries c.run_between.result _
    (λ due tells. c.in_ok-value.ensures due tells ∙ ap (λ (kinds : List Kind). posted kinds due) c.as_slice-kinds.ensures)
    (subst (λ (places : List ℕ). IfOk c.run_between.result (λ left. TellsLast rec (tree_of plan.tracers.script) (recorded_state rec (opened_of plan.checkpoints) (slice_index places k)) left entries)) c.places-places.ensures.value c.run_between.ensures.last)
