use Rattle.std.specs.Prelude.{IfSome, Contains}
use Rattle.tracer_table.proofs.tests.in_place.dirty_pages.Given as goal

abbrev pub invariant-loop : goal.invariant-loop
invariant-loop l = IfSome l.at (Contains l.f.dirty)
