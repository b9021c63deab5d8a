use Rattle.page_frames.proofs.Newest.{past}
use Rattle.checkpoints.proofs.Chains.{Stands}
use Rattle.checkpoints.proofs.versions.Versions.find.Given as goal

abbrev pub invariant-loop-at : goal.invariant-loop-at
invariant-loop-at l = Stands l.self.items.items l.count l.page l.at

abbrev pub decreases-loop-at : goal.decreases-loop-at
decreases-loop-at l = past l.at
