use Rattle.tree_frames.proofs.Kept.{kept}
use Rattle.tree_frames.proofs.frames.TreeFrames.dirty_behind.Goals as goal

pub returns-clause-kept : goal.returns-clause-kept
returns-clause-kept c = kept c.self.inside c.self.invariant c.args.self.now c.self.view_is
