use Rattle.std.proofs.Common.{◌≡◌, ◌==◌}
use Rattle.tracer_text.specs.declared.node.Nodes.{size-Nodes}
use Rattle.tracer_text.specs.Nodes.{trees_of}
use Rattle.tracer_read.specs.Parts.{part_count}
use Rattle.tracer_read.proofs.parts.have_as_many.Given as goal

abbrev pub invariant-loop-left : goal.invariant-loop-left
invariant-loop-left l =
    (part_count (trees_of l.left) == part_count (trees_of l.right))
    ≡ (part_count (trees_of l.first) == part_count (trees_of l.second))

abbrev pub decreases-loop-left : goal.decreases-loop-left
decreases-loop-left l = size-Nodes l.left
