use Rattle.epoch_run.proofs.OneRun.{are}
use Rattle.epoch_run.proofs.Values.{first_broke, all_ran}
use Rattle.epoch_run.proofs.laws.values_are_the_run.Goals as goal

pub returns-clause-broke : goal.returns-clause-broke
returns-clause-broke c rec opened tracers places is opens cut = first_broke rec opened tracers places is opens (are rec places cut)

pub returns-clause-ran : goal.returns-clause-ran
returns-clause-ran c rec opened tracers places is opens cut = all_ran rec opened tracers places is opens (are rec places cut)
