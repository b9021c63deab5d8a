use Rattle.std.proofs.Common.{◌≡◌}
use Rattle.std.specs.List.{filter_map}
use Rattle.ordered_merge.specs.Ordered.{ran_records, ran_parts}
use Rattle.ordered_merge.proofs.ordering.left_by.Given as goal

abbrev pub invariant-loop-value : goal.invariant-loop-value
invariant-loop-value l = record {
  records : l.left.records.items ≡ filter_map ran_records l.yielded;
  parts : l.left.parts.items ≡ filter_map ran_parts l.yielded;
}
