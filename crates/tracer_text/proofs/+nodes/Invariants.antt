use Rattle.std.proofs.Common.{◌≤◌}
use Rattle.tracer_text.specs.declared.node.Nodes.{size-Nodes}
use Rattle.tracer_text.proofs.+nodes.Given as goal

-- what is left is a part of what there was
abbrev pub invariant-node::Nodes::drop-loop-self : goal.invariant-node::Nodes::drop-loop-self
invariant-node::Nodes::drop-loop-self l = size-Nodes l.self ≤ size-Nodes l.initial.self
