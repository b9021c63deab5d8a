use Rattle.std.proofs.Common.{◌≡◌, ◌-◌, Some}
use Rattle.rec_format.specs.Rules.{last_or, count_of, listings}
use Rattle.rec_format.specs.Reading.{checkpoint_at, checkpoints_at, items_at}
use Rattle.rec_format.proofs.checkpoints.checkpoints.Given as goal

abbrev pub invariant-loop : goal.invariant-loop
invariant-loop l =
    (Some l.before ≡ last_or (Some 0) count_of l.checkpoints) × (l.listings ≡ listings l.checkpoints)
    × (items_at (λ before. checkpoint_at (last_or (Some 0) count_of before) (listings before)) (l.number - l.counter) l.checkpoints l.cursor ≡ checkpoints_at l.fn.cursor)
