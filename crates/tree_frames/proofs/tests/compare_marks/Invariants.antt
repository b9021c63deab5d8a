use Rattle.std.specs.Prelude.{IfSome, Contains}
use Rattle.tree_frames.proofs.tests.compare_marks.Given as goal

abbrev pub invariant-loop : goal.invariant-loop
invariant-loop g l = IfSome l.at (Contains l.pair.linked.dirty) × IfSome l.other (Contains l.pair.tree.dirty)
