use Rattle.ordered_merge.proofs.Theorem.{merged_broke_iff, merged_ran_iff}
use Rattle.ordered_merge.proofs.laws.merged_means.Goals as goal

pub returns-clause-broke : goal.returns-clause-broke
returns-clause-broke c = merged_broke_iff

pub returns-clause-ran : goal.returns-clause-ran
returns-clause-ran c = merged_ran_iff
