use Rattle.std.proofs.Common.{◌≡◌}
use Rattle.ordered_merge.specs.Ordered.{in_order}
use Rattle.ordered_merge.proofs.ordering.by_epoch.Given as goal

abbrev pub invariant-loop-post : goal.invariant-loop-post
invariant-loop-post l = l.values.items ≡ in_order l.epochs l.yielded
