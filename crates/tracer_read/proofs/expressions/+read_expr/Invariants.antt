use Rattle.std.proofs.Common.{◌≡◌, ◌≤◌}
use Rattle.tracer_text.specs.declared.node.Nodes.{size-Nodes}
use Rattle.tracer_text.specs.Nodes.{trees_of}
use Rattle.tracer_read.specs.Expressions.{all, expressions}
use Rattle.tracer_read.specs.Views.{around}
use Rattle.tracer_read.proofs.Refusals.{with_front}
use Rattle.tracer_read.proofs.expressions.+read_expr.Given as goal

-- what is left is a part of what there was, and goes on with what is read
abbrev pub invariant-read_all-loop-left : goal.invariant-read_all-loop-left
invariant-read_all-loop-left l = record {
  within : size-Nodes l.left ≤ size-Nodes l.parts;
  whole : with_front l.read.items (all (expressions (around l.context) l.locals (trees_of l.left)))
      ≡ all (expressions (around l.context) l.locals (trees_of l.parts));
}
