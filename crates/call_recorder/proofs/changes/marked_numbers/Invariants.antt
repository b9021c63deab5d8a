use Rattle.std.specs.Prelude.{IfSome, Contains, slice_get, MatchOption}
use Rattle.std.proofs.Common.{◌≡◌, ◌-◌, ◌<◌, ◌≤◌, length, take, Some}
use Rattle.call_recorder.proofs.changes.marked_numbers.Given as goal

abbrev pub invariant-loop-page : goal.invariant-loop-page
invariant-loop-page l = record {
  taken : l.numbers.items ≡ take (length l.numbers.items) l.f.dirty;
  within : length l.numbers.items ≤ length l.f.dirty;
  marked : IfSome l.at (Contains l.f.dirty);
  last : MatchOption l.at (length l.numbers.items ≡ 0) (λ page. (0 < length l.numbers.items) × (slice_get l.f.dirty (length l.numbers.items - 1) ≡ Some page));
}

abbrev pub decreases-loop-page : goal.decreases-loop-page
decreases-loop-page l = length l.f.dirty - length l.numbers.items
