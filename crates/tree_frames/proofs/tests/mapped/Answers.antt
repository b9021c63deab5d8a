use Rattle.std.proofs.Common.{ℕ, List, arith}
use Rattle.std.specs.Ordering.{nat_cmp}
use Rattle.std.specs.FinMap.{len-empty}
use Rattle.tree_frames.proofs.tests.mapped.Goals as goal

pub loop-page-init : goal.loop-page-init
loop-page-init g c = (
  rw c.in_ok-linked.ensures.pages (omega (arith, len-empty nat_cmp (List ℕ))),
  rw c.in_ok-tree.ensures.pages (omega (arith, len-empty nat_cmp (List ℕ))),
)
