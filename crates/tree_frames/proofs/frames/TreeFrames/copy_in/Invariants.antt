use Rattle.std.proofs.Common.{◌≡◌, ◌<◌, ◌^◌, length}
use Rattle.page_frames.specs.MarkedPages.{with_bytes}
use Rattle.page_frames.proofs.Copied.{AreMapped}
use Rattle.tree_frames.proofs.frames.TreeFrames.copy_in.Given as goal

abbrev pub invariant-loop-rest : goal.invariant-loop-rest
invariant-loop-rest l = record {
  same : with_bytes l.self l.addr l.rest ≡ with_bytes l.fn.self l.fn.addr l.fn.bytes;
  mapped : AreMapped l.self.pages l.addr (length l.rest);
  address : l.addr < 2 ^ 33;
}

abbrev pub decreases-loop-rest : goal.decreases-loop-rest
decreases-loop-rest l = length l.rest
