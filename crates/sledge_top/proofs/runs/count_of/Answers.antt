use Rattle.std.proofs.Common.{sym, ◌∙◌}
use Rattle.epoch_run.proofs.Planned.{length-values}
use Rattle.sledge_top.proofs.runs.count_of.Goals as goal

pub returns : goal.returns
returns c = length-values c.args.plan.now ∙ sym c.epochs.ensures
