use Rattle.std.proofs.Common.{vec_len}
use Rattle.analysers.proofs.joining.+join_pieces.Given as goal

abbrev pub decreases-join_pieces : goal.decreases-join_pieces
decreases-join_pieces l = vec_len l.lists
