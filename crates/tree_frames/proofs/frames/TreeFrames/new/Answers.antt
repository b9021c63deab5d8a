use Rattle.std.proofs.Common.{ℕ, List, arith}
use Rattle.std.specs.Ordering.{nat_cmp}
use Rattle.std.specs.FinMap.{len-empty}
use Rattle.tree_frames.proofs.frames.TreeFrames.new.Goals as goal

pub invariant_of-result : goal.invariant_of-result
invariant_of-result c = rw c.new.ensures.empty (record {
  whole = λ page. tt;
  below = λ page h. cc;
  few = omega (arith, len-empty nat_cmp (List ℕ));
  places = record { placed = λ i h. absurd (omega (arith, c.new-2.ensures.len)); found = λ page i h. cc };
  room = omega arith;
})
