use Rattle.analysers.proofs.Risen.{rising_means, changes_means}
use Rattle.analysers.proofs.Paired.{open_means, open_at_once}
use Rattle.analysers.proofs.laws.streams_mean.Goals as goal

pub returns-clause-rising : goal.returns-clause-rising
returns-clause-rising c = rising_means

pub returns-clause-changes : goal.returns-clause-changes
returns-clause-changes c = changes_means

pub returns-clause-open : goal.returns-clause-open
returns-clause-open c = open_means

pub returns-clause-at_once : goal.returns-clause-at_once
returns-clause-at_once c = open_at_once
