use Rattle.std.proofs.Common.{◌≤◌, [], take}
use Rattle.outside.specs.Written.{Adds}
use Rattle.sledge.specs.Gathering.{with_pending}
use Rattle.sledge.proofs.line_sink.LineSink.send.Given as goal

-- what was written stays, however much of it was handed on
abbrev pub invariant-loop-self : goal.invariant-loop-self
invariant-loop-self g l =
    let old = l.fn.self in
    record {
      written : Adds (with_pending (g.O.Sink.written old.out) (take old.used old.room)) (with_pending (g.O.Sink.written l.self.out) (take l.self.used l.self.room)) [];
      later : g.O.Sink.faults old.out ≤ g.O.Sink.faults l.self.out;
    }

abbrev pub decreases-loop-self : goal.decreases-loop-self
decreases-loop-self g l = l.self.used
