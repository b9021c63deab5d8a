use Rattle.std.proofs.Common.{◌≡◌, ◌+◌}
use Rattle.std.specs.Prelude.{is_some}
use Rattle.sl_model.specs.Pages.{bytes_at}
use Rattle.tree_frames.proofs.frames.TreeFrames.is_mapped.Given as goal

abbrev pub invariant-loop-left : goal.invariant-loop-left
invariant-loop-left l = record {
  same : is_some (bytes_at l.self.pages l.addr l.left) ≡ is_some (bytes_at l.fn.self.pages l.fn.addr l.fn.len);
  sum : l.addr + l.left ≡ l.fn.addr + l.fn.len;
}

abbrev pub decreases-loop-left : goal.decreases-loop-left
decreases-loop-left l = l.left
