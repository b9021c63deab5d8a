use Rattle.std.proofs.Common.{◌≡◌, replicate}
use Rattle.epoch_core.specs.declared.post.PostValue.TheVariants.{Skipped}
use Rattle.ordered_merge.proofs.ordering.no_values.Given as goal

abbrev pub invariant-loop : goal.invariant-loop
invariant-loop l = l.values.items ≡ replicate l.counter (Skipped 0)
