use Rattle.checkpoints.proofs.Marked.{compares-changes}
use Rattle.checkpoints.proofs.laws.comparisons_see_changes.Goals as goal

pub returns : goal.returns
returns c = compares-changes
