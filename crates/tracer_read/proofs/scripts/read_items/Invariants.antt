use Rattle.std.proofs.Common.{◌≡◌}
use Rattle.tracer_text.specs.Nodes.{trees_of}
use Rattle.tracer_read.specs.Scripts.{items, nothing}
use Rattle.tracer_read.specs.Views.{around}
use Rattle.tracer_read.specs.Drafts.{draft_of}
use Rattle.tracer_read.proofs.scripts.read_items.Given as goal

abbrev pub invariant-loop-left : goal.invariant-loop-left
invariant-loop-left l =
    items (around l.context) (trees_of l.left) (draft_of l.draft) ≡ items (around l.context)
    (trees_of l.nodes) nothing
