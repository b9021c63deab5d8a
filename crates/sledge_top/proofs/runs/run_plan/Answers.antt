use Rattle.std.proofs.Common.{List, subst}
use Rattle.analysers.specs.declared.kind.Kind.{Kind}
use Rattle.checkpoints.specs.RecordedRun.{opened_of}
use Rattle.epoch_run.specs.Plans.{tracers_of, values_of, values_have_parts}
use Rattle.sl_base.specs.Refusals.{Tells}
use Rattle.ordered_merge.specs.Merged.{merged}
use Rattle.sledge_top.proofs.WholeRun.{merged_is_run}
use Rattle.sledge_top.proofs.runs.run_plan.Goals as goal

pub merge-requires : goal.merge-requires
merge-requires g c =
    let plan = c.args.plan.now in
    let same = c.as_slice.ensures in
    (values_of plan, c.count_of-count.ensures, c.in_ok-posts.ensures, rw same (values_have_parts plan))

pub returns : goal.returns
returns g c =
    let plan = c.args.plan.now in
    let rec = plan.checkpoints.rec in
    let opened = opened_of plan.checkpoints in
    let tracers = tracers_of plan in
    let values = values_of plan in
    let told : Tells c.merge.result (merged plan.kinds values) = subst (λ (kinds : List Kind). Tells c.merge.result (merged kinds values)) c.as_slice.ensures (c.merge.ensures values c.count_of-count.ensures c.in_ok-posts.ensures) in
    let is_value = plan.checkpoints.is_value in
    let opens = plan.checkpoints.opens in
    subst (Tells c.merge.result)
    (merged_is_run plan (c.merged_means.ensures.broke plan.kinds) (c.merged_means.ensures.ran plan.kinds)
    (c.values_are_the_run.ensures.broke rec opened tracers plan.cutting is_value opens plan.cuts) (c.values_are_the_run.ensures.ran rec opened tracers plan.cutting is_value opens plan.cuts))
    told
