use Rattle.std.specs.Prelude.{◌≤◌}
use Rattle.std.specs.FinMap.{len}
use Rattle.tree_frames.proofs.tests.mapped.Given as goal

abbrev pub invariant-loop-page : goal.invariant-loop-page
invariant-loop-page g l = (len l.linked.pages ≤ l.page-index) × (len l.tree.pages ≤ l.page-index)
