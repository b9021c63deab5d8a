use Rattle.std.proofs.Common.{◌≡◌, ◌≤◌, length}
use Rattle.tracer_text.specs.declared.node.Nodes.{size-Nodes}
use Rattle.tracer_text.specs.Nodes.{trees_of}
use Rattle.tracer_read.specs.Statements.{in_order, steps_of}
use Rattle.tracer_read.specs.Views.{around}
use Rattle.tracer_read.proofs.Refusals.{with_statements}
use Rattle.tracer_read.proofs.statements.+read_stmt.Given as goal

-- what is left is a part of what there was, and goes on with what is read
abbrev pub invariant-read_block-loop-left : goal.invariant-read_block-loop-left
invariant-read_block-loop-left l = record {
  within : size-Nodes l.left ≤ size-Nodes l.nodes;
  few : length l.locals.items ≤ 16;
  whole : with_statements l.read.items (in_order
      (steps_of (around l.context) (trees_of l.left)) l.locals.items)
      ≡ in_order (steps_of (around l.context) (trees_of l.nodes)) l.initial.locals.items;
}
