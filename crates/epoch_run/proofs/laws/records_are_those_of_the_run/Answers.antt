use Rattle.epoch_run.proofs.OneRun.{are, records_of_run}
use Rattle.epoch_run.proofs.laws.records_are_those_of_the_run.Goals as goal

pub returns : goal.returns
returns c rec opened tracers places is opens cut = records_of_run rec opened places is opens (are rec places cut) tracers
