use Rattle.epoch_run.proofs.OneRun.{run_is_epoch, records_are_epoch}
use Rattle.epoch_run.proofs.laws.one_epoch_is_the_run.Goals as goal

pub returns-clause-breaks : goal.returns-clause-breaks
returns-clause-breaks c rec opened = run_is_epoch rec opened

pub returns-clause-records : goal.returns-clause-records
returns-clause-records c rec opened tracers = records_are_epoch rec opened tracers
