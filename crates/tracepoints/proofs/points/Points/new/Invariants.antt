use Rattle.std.proofs.Common.{◌≡◌, map, take}
use Rattle.tracer_lang.specs.declared.tree.Tracepoint.{Tracepoint}
use Rattle.tracepoints.proofs.points.Points.new.Given as goal

abbrev pub invariant-loop-tracepoint : goal.invariant-loop-tracepoint
invariant-loop-tracepoint l =
    l.points ≡ map (λ (t : Tracepoint). t.point) (take l.tracepoint-index l.tracepoint-items)
