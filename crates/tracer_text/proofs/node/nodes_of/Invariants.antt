use Rattle.std.proofs.Common.{◌≡◌, ◌≤◌, length, drop, map, reverse}
use Rattle.tracer_text.specs.Nodes.{trees_of, nodes_from}
use Rattle.tracer_text.proofs.node.nodes_of.Given as goal

abbrev pub invariant-loop-at : goal.invariant-loop-at
invariant-loop-at l = record {
  within : l.at ≤ length l.tokens;
  inside : trees_of l.inside ≡ (nodes_from l.text (drop l.at l.tokens)).inside;
  outside : map trees_of (reverse l.outside.items) ≡ (nodes_from l.text (drop l.at l.tokens)).outside;
}

abbrev pub decreases-loop-at : goal.decreases-loop-at
decreases-loop-at l = l.at
