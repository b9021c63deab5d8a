use Rattle.std.proofs.Common.{◌≡◌, ◌+◌, length, map, Some}
use Rattle.std.specs.List.{AllByRecursion}
use Rattle.rec_format.specs.Rules.{IsListedPage, Rise, last_or, number_of}
use Rattle.format_tests.proofs.tests.recordings.large.pages_behind.Given as goal

abbrev pub invariant-loop-i : goal.invariant-loop-i
invariant-loop-i l =
    (length l.pages ≡ l.i) × AllByRecursion IsListedPage l.pages × Rise (Some l.before) (map number_of l.pages)
    × (last_or (Some l.before) number_of l.pages ≡ Some (l.before + l.i))
