use Rattle.std.proofs.Common.{length}
use Rattle.analysers.proofs.folding.+fold_records.Given as goal

abbrev pub decreases-fold_records : goal.decreases-fold_records
decreases-fold_records g l = length l.records.now
