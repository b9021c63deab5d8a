use Rattle.std.proofs.Common.{◌<◌, subst}
use Rattle.epoch_run.proofs.Planned.{length-values, post_is_value}
use Rattle.sledge_top.proofs.runs.run_counted.Goals as goal

pub run_epoch-requires-clause-within : goal.run_epoch-requires-clause-within
run_epoch-requires-clause-within g c = subst (λ n. c.args.epoch < n) (length-values c.args.plan.now) c.requires.within

pub returns-clause-value : goal.returns-clause-value
returns-clause-value g c =
    let plan = c.args.plan.now in
    post_is_value plan c.args.epoch c.run_epoch.result (subst (λ n. c.args.epoch < n) (length-values plan) c.requires.within) c.run_epoch.ensures.value
