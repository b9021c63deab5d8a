use Rattle.std.proofs.Common.{◌≡◌, ℕ, List, arith, ap, ◌∙◌}
use Rattle.std.specs.Ordering.{nat_cmp}
use Rattle.std.specs.FinMap.{len, len-empty}
use Rattle.machine_tests.proofs.tests.memory.three_pages.Goals as goal

pub map_page-requires-clause-few : goal.map_page-requires-clause-few
map_page-requires-clause-few c = rw c.in_ok-frames.ensures.pages (omega (arith, len-empty nat_cmp (List ℕ)))

pub map_page-requires-2-clause-few : goal.map_page-requires-2-clause-few
map_page-requires-2-clause-few c =
    let none : len c.in_ok-frames.frames.pages ≡ 0 = ap len c.in_ok-frames.ensures.pages ∙ len-empty nat_cmp (List ℕ) in
    omega (arith, c.map_page.ensures.one_more)

pub map_page-requires-3-clause-few : goal.map_page-requires-3-clause-few
map_page-requires-3-clause-few c =
    let none : len c.in_ok-frames.frames.pages ≡ 0 = ap len c.in_ok-frames.ensures.pages ∙ len-empty nat_cmp (List ℕ) in
    omega (arith, c.map_page.ensures.one_more, c.map_page-2.ensures.one_more)
