use Rattle.checkpoints.specs.RecordedRun.{opened_of}
use Rattle.epoch_run.specs.Plans.{tracers_of}
use Rattle.sledge_top.proofs.Merges.{posts_merge}
use Rattle.sledge_top.proofs.WholeRun.{merged_is_run}
use Rattle.sledge_top.proofs.laws.posts_merge.Goals as goal

pub returns : goal.returns
returns c plan posts =
    let rec = plan.checkpoints.rec in
    let opened = opened_of plan.checkpoints in
    let tracers = tracers_of plan in
    let is_value = plan.checkpoints.is_value in
    let opens = plan.checkpoints.opens in
    posts_merge plan posts
    (merged_is_run plan (c.merged_means.ensures.broke plan.kinds) (c.merged_means.ensures.ran plan.kinds)
    (c.values_are_the_run.ensures.broke rec opened tracers plan.cutting is_value opens plan.cuts) (c.values_are_the_run.ensures.ran rec opened tracers plan.cutting is_value opens plan.cuts))
