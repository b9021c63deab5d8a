use Rattle.std.proofs.Common.{vec_len}
use Rattle.analysers.proofs.folding.+join_values.Given as goal

abbrev pub decreases-join_values : goal.decreases-join_values
decreases-join_values g l = vec_len l.values
