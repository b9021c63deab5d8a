use Rattle.std.proofs.Common.{◌≡◌, ℕ, length}
use Rattle.tracepoints.specs.Chains.{earlier}
use Rattle.tracepoints.proofs.Firing.{firing_below}
use Rattle.tracepoints.proofs.Walks.{Stands, left}
use Rattle.tracepoints.proofs.points.Points.walk.Given as goal

-- the points below a number are looked at, and both chains have come there
abbrev pub invariant-loop-index : goal.invariant-loop-index
invariant-loop-index l =
    (n : ℕ) × Stands l.self l.pc l.store n l.at l.watched
    × (l.out ≡ firing_below l.self l.pc l.store n)

abbrev pub decreases-loop-index : goal.decreases-loop-index
decreases-loop-index l = left (length l.self) (earlier l.at l.watched)
