use Rattle.std.proofs.Common.{◌≡◌, ◌-◌, ◌++◌, None}
use Rattle.rec_format.specs.Rules.{last_or, number_of}
use Rattle.rec_format.specs.Reading.{page_at, pages_at, items_at}
use Rattle.rec_format.proofs.checkpoints.pages.Given as goal

abbrev pub invariant-loop : goal.invariant-loop
invariant-loop l =
    (l.before ≡ last_or None number_of l.pages) × (l.listings ≡ l.fn.listings ++ l.pages)
    × (items_at (λ before. page_at (last_or None number_of before) (l.fn.listings ++ before)) (l.number - l.counter) l.pages l.cursor ≡ pages_at l.fn.listings l.fn.cursor)
