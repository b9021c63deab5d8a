use Rattle.page_frames.proofs.Copies.{IsCopied}
use Rattle.page_frames.proofs.table.Table.copy_from.Given as goal

abbrev pub invariant-loop-index : goal.invariant-loop-index
invariant-loop-index l = IsCopied l.source l.index l.self
