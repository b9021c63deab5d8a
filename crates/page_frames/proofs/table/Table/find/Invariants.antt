use Rattle.page_frames.proofs.Newest.{past}
use Rattle.page_frames.proofs.Tables.{Stands}
use Rattle.page_frames.proofs.table.Table.find.Given as goal

abbrev pub invariant-loop-at : goal.invariant-loop-at
invariant-loop-at l = Stands l.self.frames.items l.self.used l.page l.at

abbrev pub decreases-loop-at : goal.decreases-loop-at
decreases-loop-at l = past l.at
