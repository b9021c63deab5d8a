use Rattle.std.proofs.Common.{arith}
use Rattle.tree_frames.proofs.Kept.{few_dirty, kept}
use Rattle.tree_frames.proofs.frames.TreeFrames.dirty_len.Goals as goal

pub overflow_cast-result : goal.overflow_cast-result
overflow_cast-result c = let few = few_dirty c.self.inside c.self.invariant in grind arith

pub returns-clause-kept : goal.returns-clause-kept
returns-clause-kept c = kept c.self.inside c.self.invariant c.args.self.now c.self.view_is
