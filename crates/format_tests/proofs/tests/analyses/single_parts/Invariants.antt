use Rattle.std.specs.List.{All}
use Rattle.analysers.specs.Parts.{Fits}
use Rattle.format_tests.proofs.tests.analyses.single_parts.Given as goal

abbrev pub invariant-loop-r : goal.invariant-loop-r
invariant-loop-r l = All (Fits l.tree) l.parts.items
