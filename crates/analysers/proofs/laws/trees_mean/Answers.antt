use Rattle.analysers.proofs.Meant.{count_means, sum_means, least_means, greatest_means, hist_means, first_means, last_means}
use Rattle.analysers.proofs.laws.trees_mean.Goals as goal

pub returns-clause-count : goal.returns-clause-count
returns-clause-count c = count_means

pub returns-clause-sum : goal.returns-clause-sum
returns-clause-sum c = sum_means

pub returns-clause-least : goal.returns-clause-least
returns-clause-least c = least_means

pub returns-clause-greatest : goal.returns-clause-greatest
returns-clause-greatest c = greatest_means

pub returns-clause-hist : goal.returns-clause-hist
returns-clause-hist c = hist_means

pub returns-clause-first : goal.returns-clause-first
returns-clause-first c = first_means

pub returns-clause-last : goal.returns-clause-last
returns-clause-last c = last_means
