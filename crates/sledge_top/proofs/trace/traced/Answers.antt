use Rattle.std.proofs.Common.{List, Ok, ap, sym, subst, length, ◌∙◌}
use Rattle.std.proofs.lemmas.Result.{err_from_is_err_and}
use Rattle.analysers.specs.declared.kind.Kind.{Kind}
use Rattle.analysers.specs.declared.merged.Merged.{Merged}
use Rattle.checkpoints.specs.RecordedRun.{opened_of}
use Rattle.tracer_lang.specs.Script.{tree_of}
use Rattle.epoch_run.specs.Plans.{tracers_of}
use Rattle.sl_base.specs.Refusals.{Fails}
use Rattle.report.specs.declared.run_end.RunEnd.{RunEnd}
use Rattle.report.specs.RunEnd.{recorded_end}
use Rattle.report.specs.Report.{analyses_lines, report}
use Rattle.sledge_top.specs.Files.{◌>>=◌}
use Rattle.sledge_top.proofs.Reports.{merged_or_refusal, lines_of, traced_is, as_many_rows, fails_on}
use Rattle.sledge_top.proofs.trace.traced.Goals as goal

pub report_text-requires : goal.report_text-requires
report_text-requires g c =
    let plan = c.args.plan.now in
    as_many_rows plan.checkpoints.rec (tracers_of plan) plan.kinds (opened_of plan.checkpoints) c.in_ok-merged.merged c.in_ok-merged.ensures.merged
    ∙ ap length (sym c.as_slice.ensures)

pub returns-in_err-merged-clause-text : goal.returns-in_err-merged-clause-text
returns-in_err-merged-clause-text g c =
    let plan = c.args.plan.now in
    let rec = plan.checkpoints.rec in
    let opened = opened_of plan.checkpoints in
    let is = traced_is rec (tree_of plan.tracers.script) plan.kinds opened (c.runs_end_as_recorded.ensures rec opened plan.checkpoints.is_value plan.checkpoints.opens) in
    let why = c.in_err-merged.field-0.0 in
    let fails = fails_on why (merged_or_refusal rec (tracers_of plan) plan.kinds opened) (λ merged. Ok (report (lines_of plan.kinds merged) (recorded_end rec))) c.in_err-merged.ensures.merged in
    let p = err_from_is_err_and c.from_residual.result c.from_residual.ensures.1 in
    rw (p.1, p.2) (subst (Fails why) (sym is) fails)

pub returns-clause-text : goal.returns-clause-text
returns-clause-text g c =
    let plan = c.args.plan.now in
    let rec = plan.checkpoints.rec in
    let opened = opened_of plan.checkpoints in
    let all = c.in_ok-merged.merged in
    traced_is rec (tree_of plan.tracers.script) plan.kinds opened (c.runs_end_as_recorded.ensures rec opened plan.checkpoints.is_value plan.checkpoints.opens)
    ∙ ap (λ part. part >>= λ (merged : Merged). Ok (report (lines_of plan.kinds merged) (recorded_end rec))) c.in_ok-merged.ensures.merged
    ∙ ap Ok
    (sym
    (c.in_ok-report_text.ensures ∙ ap (λ (kinds : List Kind). report (analyses_lines 1 kinds all.rows) c.recorded_end-last.result) c.as_slice.ensures
    ∙ ap (λ (last : RunEnd). report (lines_of plan.kinds all) last) c.recorded_end-last.ensures))
