use Rattle.epoch_run.proofs.OneRun.{are, least_break, breaks_with_run}
use Rattle.epoch_run.proofs.laws.least_break_is_first.Goals as goal

pub returns-clause-first : goal.returns-clause-first
returns-clause-first c rec opened places is opens cut = least_break rec opened places is opens (are rec places cut)

pub returns-clause-none : goal.returns-clause-none
returns-clause-none c rec opened places is opens cut = breaks_with_run rec opened places is opens (are rec places cut)
