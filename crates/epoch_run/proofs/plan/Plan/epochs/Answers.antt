use Rattle.std.proofs.Common.{length, ap, arith}
use Rattle.epoch_run.proofs.Planned.{few_epochs}
use Rattle.epoch_run.proofs.plan.Plan.epochs.Goals as goal

pub overflow_cast-result : goal.overflow_cast-result
overflow_cast-result c =
    let few = few_epochs c.args.self.now.checkpoints.rec c.args.self.now.cutting c.args.self.now.checkpoints.is_value c.args.self.now.cuts in
    omega (arith, few, ap length c.places.ensures.value)
