use Rattle.epoch_run.proofs.OneRun.{are, starts_on_run}
use Rattle.epoch_run.proofs.laws.epochs_start_on_the_run.Goals as goal

pub returns : goal.returns
returns c rec opened places is opens cut = starts_on_run rec opened places is opens (are rec places cut)
