use Rattle.std.proofs.Common.{◌<◌, subst}
use Rattle.epoch_run.proofs.Planned.{length-values, post_is_value}
use Rattle.epoch_run.proofs.epoch.PlanRunsRuns.run.Goals as goal

pub run_epoch-requires-clause-within : goal.run_epoch-requires-clause-within
run_epoch-requires-clause-within g c = subst (λ n. c.args.epoch < n) (length-values c.args.self.now.plan.now) c.requires

pub returns-clause-value : goal.returns-clause-value
returns-clause-value g c =
    let plan = c.args.self.now.plan.now in
    post_is_value plan c.args.epoch c.run_epoch.result (subst (λ n. c.args.epoch < n) (length-values plan) c.requires) c.run_epoch.ensures.value
