use Rattle.std.proofs.Common.{List, ℕ, arith}
use Rattle.std.specs.Ordering.{nat_cmp}
use Rattle.std.specs.FinMap.{len-empty}
use Rattle.tracer_mean.proofs.tests.frames.Goals as goal

pub map_page-requires-clause-few : goal.map_page-requires-clause-few
map_page-requires-clause-few c =
    rw c.in_ok-frames.ensures.pages (omega (arith, len-empty nat_cmp (List ℕ)))
