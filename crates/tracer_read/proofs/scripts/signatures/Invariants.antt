use Rattle.std.proofs.Common.{◌≡◌, ◌≤◌, ◌+◌, ◌++◌, map, length}
use Rattle.tracer_text.specs.Nodes.{trees_of}
use Rattle.tracer_read.specs.Parts.{part_count}
use Rattle.tracer_read.specs.Scripts.{callees}
use Rattle.tracer_read.specs.Views.{callee_of}
use Rattle.tracer_read.proofs.scripts.signatures.Given as goal

abbrev pub invariant-loop-left : goal.invariant-loop-left
invariant-loop-left l = record {
  found : map callee_of l.found.items ++ callees l.text (trees_of l.left) ≡ callees l.text
      (trees_of l.nodes);
  few : length l.found.items + part_count (trees_of l.left) ≤ part_count (trees_of l.nodes);
}
