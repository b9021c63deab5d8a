use Rattle.tracepoints.specs.Chains.{AreChains}
use Rattle.tracepoints.proofs.points.Points.chained.Given as goal

abbrev pub invariant-loop-index : goal.invariant-loop-index
invariant-loop-index l = AreChains l.points l.index l.heads l.next
