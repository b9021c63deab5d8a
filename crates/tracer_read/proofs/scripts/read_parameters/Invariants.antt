use Rattle.std.proofs.Common.{◌≡◌, ◌≤◌, [], length}
use Rattle.tracer_text.specs.Nodes.{trees_of}
use Rattle.tracer_read.specs.Scripts.{parameters_of}
use Rattle.tracer_read.proofs.scripts.read_parameters.Given as goal

abbrev pub invariant-loop-left : goal.invariant-loop-left
invariant-loop-left l = record {
  few : length l.names.items ≤ 16;
  left : parameters_of l.text l.names.items (trees_of l.left) ≡ parameters_of l.text []
      (trees_of l.parameters);
}
